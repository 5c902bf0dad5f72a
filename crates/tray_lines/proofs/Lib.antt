-- The proof files by what they serve. No function needs a proof file of its own.

-- the promise `replies_are_the_standard's` of docs/PROMISES.md
pub mod Promise
-- what a line means (`read_line`)
mod Lines
-- the answer numbers (`From<Verdict> for ReplyFields`)
mod Numbers
