-- How lines are gathered from pieces of input: where a line ends, and which bytes are held of a line that has not ended.
-- Document 01: "A line ends with byte 10"; "a line above 64 bytes (its byte 10 not counted)". 65 bytes of such a line are held,
-- enough to see that it is too long.
use Rattle.std.specs.Prelude.{ℕ, ◌≡◌, List, take}
use Rattle.lines.specs.Text.{until_byte}

-- how many bytes come before the byte 10 that ends the first line
abbrev pub until_end : List ℕ → ℕ
until_end input = until_byte 10 input

-- what is held of `line`
abbrev pub HoldsLine : List ℕ → List ℕ → Type 0
HoldsLine held line = held ≡ take 65 line
