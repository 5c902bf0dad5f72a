-- What the contracts of `words` cite.
pub mod Packed
