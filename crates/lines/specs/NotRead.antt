-- Answer 9. Document 01: "One of `new`, `add`, `del`, `has`, `next`, `prev`, `gap`, then one tab and a number; or `first`, `last`, `list`,
-- `audit` with nothing after. [..] Anything else, a line above 64 bytes (its byte 10 not counted) or an empty line included, is answer 9."
-- Document 02 §1: "In the program `add` takes a second number after a second tab".
-- Line.antt reads a line. This file says what it means to spell a call, and that a line is read exactly when it spells one.
use Rattle.std.specs.Prelude.{ℕ, suc, ◌≤◌, ◌≡◌, List, [], ◌++◌, ◌↔◌, length, None, Some}
use Prim.Native.String.{String}
use Rattle.ordered.specs.Source004.{◌∈◌}
use Rattle.pretree.specs.declared.Call.{Call}
use Rattle.numbers.specs.Decimal.{SpellsNumber}
use Rattle.lines.specs.Text.{bytes}
use Rattle.lines.specs.Line.{with_number, with_two_numbers, alone, operations, parse}
use Rattle.lines.specs.Output.{State, Step, answer}

-- a line of at most 64 bytes that is one of the forms
pub data Spells (call : Call) (line : List ℕ) : Type 0 where
  -- "then one tab and a number"
  numbered :
      {word : String} {of : ℕ → Call} {n : ℕ} {ds : List ℕ} → with_number word of ∈ operations → line ≡ bytes word ++ bytes "\t" ++ ds → SpellsNumber n ds
      → call ≡ of n → length line ≤ 64 → Spells call line
  -- "a second number after a second tab"
  twice_numbered :
      {word : String} {of : ℕ → ℕ → Call} {k s : ℕ} {ks ss : List ℕ} → with_two_numbers word of ∈ operations
      → line ≡ bytes word ++ bytes "\t" ++ ks ++ bytes "\t" ++ ss → SpellsNumber k ks → SpellsNumber s ss → call ≡ of k s → length line ≤ 64
      → Spells call line
  -- "with nothing after"
  bare : {word : String} {of : Call} → alone word of ∈ operations → line ≡ bytes word → call ≡ of → length line ≤ 64 → Spells call line

-- "1 to 6 and 9 are refusals: counts 0, header, table and buffer untouched." The line is counted.
pub record Refused (s : State) (a : Step) : Type 0 where
  pub key : a.fields.key ≡ None
  pub rows : a.fields.rows ≡ 0
  pub moved : a.fields.moved ≡ 0
  pub serial : a.fields.serial ≡ None
  pub listed : a.listed ≡ []
  pub header : a.state.header ≡ s.header
  pub table : a.state.table ≡ s.table
  pub buffer : a.state.buffer ≡ s.buffer
  pub lines : a.state.lines ≡ suc s.lines

-- in every state, for every line
pub record AnswersNine (s : State) (line : List ℕ) : Type 0 where
  -- a line is read as the call that it spells, and "Anything else [..] is answer 9."
  pub read : (call : Call) → (parse line ≡ Some call) ↔ Spells call line
  pub unread : (parse line ≡ None) ↔ ((call : Call) → Spells call line → ⊥)
  -- the answer is 9 exactly when the line is not read
  pub nine : ((answer s (parse line)).fields.answer ≡ 9) ↔ (parse line ≡ None)
  pub refused : parse line ≡ None → Refused s (answer s (parse line))
