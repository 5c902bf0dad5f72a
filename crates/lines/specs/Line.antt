-- What one line means, from its bytes without the byte 10 that ends it.
-- Document 01: "One of `new`, `add`, `del`, `has`, `next`, `prev`, `gap`, then one tab and a number; or `first`, `last`, `list`, `audit` with
-- nothing after. [..] Anything else, a line above 64 bytes (its byte 10 not counted) or an empty line included, is answer 9." Crate `numbers` says
-- what a number is.
-- Document 02 §1: "In the program `add` takes a second number after a second tab".
use Rattle.std.specs.Prelude.{ℕ, List, [], ◌∷◌, ◌++◌, ltb, eqb, length, take, drop, if◌then◌else◌, Option, None, Some, option_map, option_and_then}
use Rattle.std.specs.Option.{option_or}
use Prim.Native.String.{String}
use Rattle.pretree.specs.declared.Call.{Call}
use Rattle.pretree.specs.declared.Call.TheVariants.{New, Add, Del, Has, Next, Prev, Gap, First, Last, Audit}
use Rattle.numbers.specs.Decimal.{read_number}
use Rattle.lines.specs.Text.{bytes, until_byte}

-- what comes after a word at the beginning of a line
unfoldable pub after_word : List ℕ → List ℕ → Option (List ℕ)
after_word [] line = Some line
after_word (b ∷ word) [] = None
after_word (b ∷ word) (c ∷ line) = if eqb b c then after_word word line else None

-- the forms of a line: a word, then one tab and a number; a word, then two numbers with one tab before each; or a word with nothing after
pub data Form : Type 0 where
  with_number : String → (ℕ → Call) → Form
  with_two_numbers : String → (ℕ → ℕ → Call) → Form
  alone : String → Call → Form

abbrev pub operations : List Form
operations =
    with_number "new" New
    ∷ with_two_numbers "add" Add
    ∷ with_number "del" Del
    ∷ with_number "has" Has
    ∷ with_number "next" Next
    ∷ with_number "prev" Prev
    ∷ with_number "gap" Gap
    ∷ alone "first" First
    ∷ alone "last" Last
    ∷ alone "list" Call.List
    ∷ alone "audit" Audit
    ∷ []

abbrev pub two_called : (ℕ → ℕ → Call) → Option ℕ → Option ℕ → Option Call
two_called call first second = option_and_then (λ k. option_map (call k) second) first

-- the call from two numbers with one tab between them: what comes before the first tab is the first number, and what comes after it the second
unfoldable pub read_two : (ℕ → ℕ → Call) → List ℕ → Option Call
read_two call rest =
    let tab : ℕ = until_byte 9 rest in
    option_and_then (λ second. two_called call (read_number (take tab rest)) (read_number second)) (after_word (bytes "\t") (drop tab rest))

abbrev pub if_nothing : Call → List ℕ → Option Call
if_nothing call [] = Some call
if_nothing call (b ∷ rest) = None

-- the call of a form, from what comes after a word
abbrev pub read_as : (List ℕ → Option (List ℕ)) → Form → Option Call
read_as behind (with_number word call) = option_and_then (λ rest. option_map call (read_number rest)) (behind (bytes word ++ bytes "\t"))
read_as behind (with_two_numbers word call) = option_and_then (read_two call) (behind (bytes word ++ bytes "\t"))
read_as behind (alone word call) = option_and_then (if_nothing call) (behind (bytes word))

-- the call of the first form that fits
abbrev pub first_read : (List ℕ → Option (List ℕ)) → List Form → Option Call
first_read behind [] = None
first_read behind (f ∷ fs) = option_or (read_as behind f) (first_read behind fs)

-- what a line is read as
unfoldable pub parse : List ℕ → Option Call
parse line = if ltb 64 (length line) then None else first_read (λ word. after_word word line) operations
