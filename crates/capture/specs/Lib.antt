-- What the contracts of `capture` cite.
pub mod Capture
