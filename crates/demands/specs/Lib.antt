-- The three demands, as statements about the definitions of the crates below. Their proofs are in proofs/.
-- docs/PROMISES.md lists the statements, and docs/FORMAT.md explains the terms.
-- 1. For every call and every header, table, word and buffer: each number 1 to 6 is given exactly when document 01 says, in its order. A
--    refusal changes nothing. Words past the last row are never changed, and rows past the count stay zeros.
-- 2. On a sound table of the set S: number, key and serial are those of the dictionary on S, and the call leaves a sound table of the
--    dictionary's next set. A table is sound if and only if it is the PreTree of some set, and a set has one tree.
-- 3. For every sequence of calls from an empty set in one table: the rows reported are those of the ways over the PreTree of the present
--    words, with the bounds W+1, W+2 and 2W+4.
pub mod Program
pub mod Numbers
pub mod SoundIs
pub mod Damage
pub mod Refusals
pub mod Zeros
pub mod RowsRead
pub mod Expected
pub mod Demand2
pub mod History
pub mod Reached
pub mod ShutOut
pub mod Contracts
pub mod Demands
pub mod Lines
