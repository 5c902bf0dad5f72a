-- The promise of document 02, §6, that each alarm is the standard's, is `Promise`. It rests on:
-- `Following`: a seat's record holds what the standard's procedures count over that seat's samples, and its alarms are the standard's;
-- `Windows`: the standard's counts as the list of samples grows by one;
-- `Procedures`: the counts over a list are those of the standard's loops.
pub mod Promise
mod Following
mod Windows
pub mod Procedures
-- The laws of the tray, as `Sampled` in the contract of `take_sample` needs them: a sample changes one record, a refusal none.
pub mod Trays
-- The contract of `take_sample` is `Sampled`.
pub mod Contracts
-- Used by the proofs of `checked` and `repetition_alarm`. Also what a counted sample has passed (`passed`).
mod Checks
-- A law of the tags by which a `match` tells variants apart.
pub mod Tags
-- Tests by computation, on records that no samples leave.
pub mod Examples

-- A folder with a function's name has the proof of that function.
