-- What each call answers and leaves on every table, damaged ones too. Read in this order.
-- docs/FORMAT.md says the same in plain words.
pub mod Table
pub mod Unfold
pub mod Sound
pub mod Answer
pub mod Reply
pub mod Find
pub mod Add
pub mod Del
pub mod Whole
pub mod Call
-- How the proofs follow a leg: the steps of a walk, and the walk that goes with a leg or a seek.
pub mod Walk
pub mod Resume
pub mod Leg
pub mod Seek
-- The steps of the code, for the contracts of its inner functions: whole.rt, add.rt, find.rt, next.rt, gap.rt, prev.rt, erase.rt.
pub mod Part
pub mod Push
pub mod Found
pub mod Next
pub mod Gap
pub mod Prev
pub mod Erased
-- Examples.
pub mod Starred
