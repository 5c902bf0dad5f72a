-- The proof files by what they serve. The proof of a function is in the folder of its source file, as leg/down/Answers.antt, and that of a method of
-- `Header` in Header, as Header/add/Answers.antt.
-- the table: reading a row and the writes (table.rt, write.rt); the laws of rows under the writes, for the writing calls and for crate demands
pub mod Writing
pub mod Rows
-- the checks that every call makes first
pub mod Checks
-- the walk, by which the proofs follow a leg: what a row shows; a walk stays on its way; what it tells when it has ended; how it continues
pub mod Unfolding
pub mod Walking
pub mod Ended
pub mod Resuming
-- the seek: its turn, its numbers, its step (`sought`); where it stopped (`seek_ends` and `place_stands`); what a call on a word gets
pub mod SeekTurn
pub mod Between
pub mod SeekWalk
pub mod Sought
pub mod WordWay
-- the other legs: a place judges a row (`judges_alike`, `below_stands`); `down` and `pushed` (`down_ends`, `push_ends`)
pub mod Damaged
pub mod Places
pub mod DownTurn
pub mod Legs
-- `has`, `first`, `last`
pub mod Found
-- `next` and `prev` by a walk; then `next`, with the way that passes rows equal to k; then `prev`
pub mod Neighbours
pub mod PassingEqual
pub mod NextWord
pub mod NextReply
pub mod Previous
-- `gap`
pub mod Nearest
-- `add`: the push and its loop; the outcome; a displaced key
pub mod Pushing
pub mod Adding
mod Hooks
pub mod Displacing
-- `del`: the loop that moves the keys up; a key that is no word; the stretch, the second way and the outcome
pub mod Raising
pub mod EndKeys
pub mod Erasing
-- `audit` and `list`: `rows_from` and `row_listed`; the whole table
pub mod Parts
pub mod WholeTable
-- the starred examples of document 01: a test for `Sound`; all examples hold
pub mod SoundTest
pub mod Starred
-- small laws for proofs of functions: the test of a side; what a result tells of damage; the cases of `End`
pub mod Tests
pub mod EndTags
