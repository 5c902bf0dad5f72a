-- The proofs of the statements in specs/, grouped by what they serve.
-- Tools: the words of entries, tests, and row numbers.
pub mod Words
pub mod Whether
pub mod Numbers
-- What a table shows, and what sound means: laws of the tree that is shown, the rows met, the test of `audit`, a sound table for every set.
pub mod Unfolding
pub mod Meeting
pub mod Tested
pub mod SoundIs
pub mod Written
-- Demand 1: the damage that a call tests for, the rows that it writes, its refusals, and the zeros past the count.
pub mod SecondWay
pub mod Damage
pub mod ShownRows
pub mod Owned
pub mod Refusals
pub mod Zeros
-- Demand 2 for the calls that write no row, and for `new`.
pub mod Answered
-- Demand 2 for the calls that write rows: how rows spell a tree, which link names a row, and what writes along a way do.
pub mod Spelled
pub mod Links
pub mod Rewritten
-- `add`: a new word, and a word that is already there.
pub mod Added
pub mod StoredSerial
-- `del`.
pub mod Erasures
pub mod Removed
-- Demand 2 for all calls, and for sequences of calls.
pub mod Demand2
-- Demand 3: the rows of each call and their bounds, then over histories.
pub mod RowsRead
pub mod History
-- Demand 3: the bounds are reached and cannot be lowered.
pub mod Making
pub mod Reached
pub mod LeastBounds
-- The demands together, for every program that keeps the contracts; programs that break them.
pub mod Contracts
pub mod Demands
pub mod ShutOut
-- The line program.
pub mod Lines
