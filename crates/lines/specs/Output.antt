-- The whole output for a whole input, as one function from the bytes read to the bytes written; and the output for an input that comes in
-- pieces. Document 01, "The line program".
use Rattle.std.specs.Prelude.{ℕ, suc, ◌*◌, List, [], ◌∷◌, ◌++◌, eqb, take, replicate, if◌then◌else◌, Option, None, Some}
use Rattle.pretree.specs.Table.{row_words}
use Rattle.pretree.specs.declared.Header.{Header}
use Rattle.pretree.specs.declared.Reply.{Reply}
use Rattle.pretree.specs.Answer.{number_of}
use Rattle.pretree.specs.Reply.{fresh}
use Rattle.pretree.specs.Call.{After, after}
use Rattle.pretree.specs.declared.Call.{Call}
use Rattle.pretree.specs.declared.Call.TheVariants.{New, Add, Del, Has, Next, Prev, Gap, First, Last, Audit}
use Rattle.lines.specs.declared.ReplyFields.{ReplyFields}
use Rattle.lines.specs.Line.{parse}
use Rattle.lines.specs.Render.{fields_of, not_read, reply_line, key_lines}

pub record State : Type 0 where
  pub header : Header
  pub table : List ℕ
  pub buffer : List ℕ
  -- how many lines were answered
  pub lines : ℕ

-- "Table of 4,096 rows, all zeros, and a `list` buffer of 4,096 words. Header at the start: W 0, count 0."
abbrev pub start : State
start = record { header = fresh 0; table = replicate (row_words * 4096) 0; buffer = replicate 4096 0; lines = 0 }

-- how many words of the buffer are listed after a reply: "After a `list` with answer 0"
abbrev pub listed_in : Reply → ℕ
listed_in r = if eqb (number_of r.answer) 0 then r.header.count else 0

unfoldable pub listed_by : Call → Reply → ℕ
listed_by (New w) r = 0
listed_by (Add k s) r = 0
listed_by (Del k) r = 0
listed_by (Has k) r = 0
listed_by (Next k) r = 0
listed_by (Prev k) r = 0
listed_by (Gap k) r = 0
listed_by First r = 0
listed_by Last r = 0
listed_by Call.List r = listed_in r
listed_by Audit r = 0

-- the state after a line, the fields of its reply line, and the words listed after it
pub record Step : Type 0 where
  pub state : State
  pub fields : ReplyFields
  pub listed : List ℕ

unfoldable pub answer : State → Option Call → Step
answer s None =
    record {
      state = record { header = s.header; table = s.table; buffer = s.buffer; lines = suc s.lines };
      fields = not_read;
      listed = [];
    }
answer s (Some call) =
    let a : After = after call s.header s.table s.buffer in
    record {
      state = record { header = a.reply.header; table = a.table; buffer = a.buffer; lines = suc s.lines };
      fields = fields_of a.reply;
      listed = take (listed_by call a.reply) a.buffer;
    }

-- "Each line gives one reply line: line number from 1 [..]"
unfoldable pub written : Step → List ℕ
written a = reply_line a.state.lines a.fields ++ key_lines a.listed

-- what is written for a list of lines, and the state after them
unfoldable pub written_for : State → List (List ℕ) → List ℕ
written_for s [] = []
written_for s (line ∷ rest) = let a : Step = answer s (parse line) in written a ++ written_for a.state rest

unfoldable pub state_after : State → List (List ℕ) → State
state_after s [] = s
state_after s (line ∷ rest) = state_after (answer s (parse line)).state rest

-- "A line ends with byte 10": the lines that end in an input, and the bytes that are left. `line` has the bytes that came before.
unfoldable pub ended : List ℕ → List ℕ → List (List ℕ)
ended line [] = []
ended line (b ∷ input) =
    let here : List (List ℕ) = line ∷ ended [] input in
    let later : List (List ℕ) = ended (line ++ b ∷ []) input in
    if eqb b 10 then here
    else later

unfoldable pub unended : List ℕ → List ℕ → List ℕ
unended line [] = line
unended line (b ∷ input) =
    let here : List ℕ = unended [] input in
    let later : List ℕ = unended (line ++ b ∷ []) input in
    if eqb b 10 then here
    else later

-- "or at the end of input if bytes are left"
abbrev pub last : List ℕ → List (List ℕ)
last [] = []
last (b ∷ line) = (b ∷ line) ∷ []

unfoldable pub lines_of : List ℕ → List (List ℕ)
lines_of input = ended [] input ++ last (unended [] input)

unfoldable pub output : List ℕ → List ℕ
output input = written_for start (lines_of input)

-- An input that comes in pieces. Between two pieces a session keeps the state after the lines that have ended, and the bytes of the line that
-- has not.
pub record Session : Type 0 where
  pub state : State
  pub line : List ℕ

abbrev pub start_session : Session
start_session = record { state = start; line = [] }

unfoldable pub session_after : Session → List ℕ → Session
session_after s piece = record { state = state_after s.state (ended s.line piece); line = unended s.line piece }

-- what is written for the lines that end in a piece, and at the end of input
unfoldable pub written_for_piece : Session → List ℕ → List ℕ
written_for_piece s piece = written_for s.state (ended s.line piece)

unfoldable pub written_at_end : Session → List ℕ
written_at_end s = written_for s.state (last s.line)

-- all that is written for the pieces and at their end
unfoldable pub output_in_pieces : Session → List (List ℕ) → List ℕ
output_in_pieces s [] = written_at_end s
output_in_pieces s (piece ∷ pieces) = written_for_piece s piece ++ output_in_pieces (session_after s piece) pieces

unfoldable pub joined : List (List ℕ) → List ℕ
joined [] = []
joined (piece ∷ pieces) = piece ++ joined pieces
