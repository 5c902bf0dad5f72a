-- The proofs, by what they serve. A lower-case name is a function's folder, a capital is a file of laws.
--
-- What a reply shows                           Report/of
-- The verdicts                                 judge/all_within; Lists
-- The loop: from the bits to a tally           count/read_all; Counting, Shapes, Lists
-- From the tally to the counts                 count/counts_in, poker_counts, weighed; Weighing, Lists
-- The laws of docs/PROMISES.md                 Laws
--
-- A function without a folder is proved by the checker's own search; its `#[tactic]` names the lemmas and definitions that this needs.
mod Lists
mod Shapes
mod Counting
mod Weighing
pub mod Laws
