-- The proof files by what they serve.

-- the crates that read numbers, and the promise `read_spells`, `spells_read` of docs/PROMISES.md: when a text is a number
pub mod Laws
-- the loop of `read_number`
mod Loop
