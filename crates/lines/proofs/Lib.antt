-- The proof files by what they serve. The proof of a function is in the folder of its source file, as parse/parse/Answers.antt.

-- promises of docs/PROMISES.md: `any_pieces` and `written_by_end`; `answers_nine`; `reads_back`; `example_agrees`
pub mod Pieces
pub mod NotRead
pub mod ReadBack
pub mod Examples
-- reading a line: `parse`, `by_head` and the functions that it calls; `add`, and `answers_nine`
pub mod Heads
pub mod TwoNumbers
-- answering a line: `answer`; laws on calls that only read, and on answers without a key or a serial
pub mod ReadOnly
pub mod Keys
pub mod Running
-- writing a reply: `number`, `put_reply`, and `reads_back`; `put_keys`; a text put into a buffer at a place
pub mod Puts
pub mod Digits
pub mod KeyLines
-- taking in a piece: `step` and `feed`
pub mod Gathering
pub mod Feeding
-- the loops over standard input: `serve`, `take_in`, `put_piece`
pub mod Serving
-- the place of a byte: for `add` and `step`
pub mod Finding
-- for `parse` and `answers_nine`
pub mod Tests
