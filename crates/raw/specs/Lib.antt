-- What the contracts of `raw` cite: what a call does to what was set.
pub mod Outcome
