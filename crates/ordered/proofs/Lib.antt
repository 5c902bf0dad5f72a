-- The laws of the definitions in specs/, grouped by what they serve. The demands are those of crate `demands`.
-- Tests by computation: the trees and the calls of document 01's sets A, B and C.
pub mod Examples
-- Tools: lists, searches in lists, and bits.
pub mod Lists
pub mod Parts
pub mod Bits
-- The dictionary does what source 004 says; the distance that `gap` answers.
pub mod Dictionary
pub mod Nearest
-- A set has one tree.
pub mod OneTree
-- Demand 2, the reading calls: laws of every way, the way of a word, and the answers.
pub mod Ways
pub mod Sought
pub mod Answers
-- Demand 2, `add` and `del`: a push and an erase of a part, then the whole tree.
pub mod PushPop
pub mod Grown
-- Demand 3: the bounds on the rows read, and that their number depends only on the words.
pub mod Rows
pub mod Unnumbered
-- Demand 1, damage: an intact tree has none on any way, and a pruned tree has it exactly where a bad row is read.
pub mod Unbroken
pub mod Pruned
