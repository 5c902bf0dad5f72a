-- What one line means, from its bytes without the byte 10 that ends it: a seat, one tab and a word.
-- Seat and word are numbers as document 01 has them: `read_number` of crate `numbers`.
use Rattle.std.specs.Prelude.{ℕ, cond, List, ltb, eqb, length, Bool, Option, Some, None}
use Rattle.std.specs.List.{before_first, after_first}
use Rattle.numbers.specs.Decimal.{read_number}
use Rattle.tray_lines.specs.declared.parse.Line.{Line}

abbrev pub is_tab : ℕ → Bool
is_tab b = eqb b 9

abbrev pub joined : Option ℕ → Option ℕ → Option Line
joined (Some seat) (Some word) = Some (record { seat = seat; word = word })
joined (Some seat) None = None
joined None word = None

-- Two numbers, before the first tab and after it. "a line above 64 bytes (its byte 10 not counted) or an empty line included, is answer 9"
unfoldable pub line_of : List ℕ → Option Line
line_of line = cond (ltb 64 (length line)) None (joined (read_number (before_first is_tab line)) (read_number (after_first is_tab line)))
