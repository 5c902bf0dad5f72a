-- What the four power-up tests count and how they judge. Read in this order.
pub mod Bits
pub mod Counts
pub mod Limits
pub mod Verdicts
pub mod Reply
pub mod Steps
pub mod Examples
