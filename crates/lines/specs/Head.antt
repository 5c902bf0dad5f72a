-- How the code finds a line's word: by the first four bytes of the line as one number, its head. Every word of the language is at least four
-- bytes long, with its tab where it has one. proofs/Heads.antt shows that this gives `parse`.
use Rattle.std.specs.Prelude.{ℕ, ◌+◌, ◌*◌, List, eqb, get_or, drop, if◌then◌else◌, Option, None}
use Rattle.pretree.specs.declared.Call.{Call}
use Rattle.lines.specs.Line.{after_word, operations, first_read}

abbrev pub packed : ℕ → ℕ → ℕ → ℕ → ℕ
packed a b c d = ((a * 256 + b) * 256 + c) * 256 + d

abbrev pub head_of : List ℕ → ℕ
head_of bytes = packed (get_or bytes 0 0) (get_or bytes 1 0) (get_or bytes 2 0) (get_or bytes 3 0)

-- what comes after a word in the line with this head and this rest
abbrev pub after_head : ℕ → List ℕ → List ℕ → Option (List ℕ)
after_head head rest word = if eqb head (head_of word) then after_word (drop 4 word) rest else None

unfoldable pub by_head : ℕ → List ℕ → Option Call
by_head head rest = first_read (after_head head rest) operations
