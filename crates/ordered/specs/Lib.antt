-- Mathematics only, for every width: words and their bits, sets and the ordered dictionary of source 004, the tree of a set,
-- and the ways of document 01 over a tree. The files are listed in the order in which to read them.
-- docs/FORMAT.md explains the terms, and says what documents 01 and 02 and source 004 are.
pub mod Such
pub mod Word
pub mod Dictionary
pub mod Source004
pub mod Tree
pub mod Proper
pub mod Way
pub mod Reading
pub mod Change
pub mod Grown
pub mod Example
