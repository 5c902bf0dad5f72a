-- The line program writes, line by line, what the dictionary answers. So demands 2 and 3 hold for the program from its start.
-- Document 01: "Table of 4,096 rows, all zeros, and a `list` buffer of 4,096 words. Header at the start: W 0, count 0."
use Rattle.std.specs.Prelude.{ℕ, suc, ◌≡◌, Bool, false, List, [], ◌∷◌, ◌++◌, eqb, length, replicate, if◌then◌else◌, Option, None, Some}
use Rattle.ordered.specs.Dictionary.{Entry, words}
use Rattle.pretree.specs.declared.Call.{Call}
use Rattle.pretree.specs.declared.Call.TheVariants.{New, Add, Del, Has, Next, Prev, Gap, First, Last, Audit}
use Rattle.lines.specs.declared.ReplyFields.{ReplyFields}
use Rattle.lines.specs.Line.{parse}
use Rattle.lines.specs.Render.{not_read, reply_line, key_lines}
use Rattle.lines.specs.Output.{State, start, answer, lines_of, output}
use Rattle.demands.specs.Expected.{Kept, expected, kept_after}
use Rattle.demands.specs.RowsRead.{rows_over, moved_over, refused_over}

-- what the dictionary keeps at the start: the buffer, and a width of 0, which means that there is no set yet
abbrev pub no_set_yet : Kept
no_set_yet = record { width = 0; set = []; buffer = replicate 4096 0 }

-- a call that makes a set, one that lists it, or any other
pub data Kind : Type 0 where
  makes lists works : Kind

abbrev pub kind_of : Call → Kind
kind_of (New w) = makes
kind_of (Add k serial) = works
kind_of (Del k) = works
kind_of (Has k) = works
kind_of (Next k) = works
kind_of (Prev k) = works
kind_of (Gap k) = works
kind_of First = works
kind_of Last = works
kind_of Audit = works
kind_of Call.List = lists

-- every call but `new` needs a set
abbrev pub finds_no_set : Kind → ℕ → Bool
finds_no_set makes width = false
finds_no_set lists width = eqb width 0
finds_no_set works width = eqb width 0

-- "header W 0": a reply with the number 2
abbrev pub no_set : ReplyFields
no_set = record { answer = 2; key = None; rows = 0; moved = 0; serial = None }

-- the reply line for a call on a set: the dictionary's number, key and serial; the rows of the ways over the PreTree of the set; and the
-- moving count, which depends on the table
abbrev pub fields_on_set : Call → State → Kept → ReplyFields
fields_on_set c s k =
    let refused : Bool = refused_over c k.width k.set 4096 (length k.buffer) in
    record {
      answer = (expected c 4096 k).number;
      key = (expected c 4096 k).key;
      rows = if refused then 0 else rows_over c k.width k.set;
      moved = if refused then 0 else moved_over c s.header s.table k.set;
      serial = (expected c 4096 k).serial;
    }

-- "After a `list` with answer 0 come lines `key`, tab, word."
abbrev pub listed_on_set : Kind → ℕ → List Entry → List ℕ
listed_on_set makes number set = []
listed_on_set works number set = []
listed_on_set lists number set = if eqb number 0 then words set else []

unfoldable pub fields_to : Option Call → State → Kept → ReplyFields
fields_to None s k = not_read
fields_to (Some c) s k = if finds_no_set (kind_of c) k.width then no_set else fields_on_set c s k

unfoldable pub listed_to : Option Call → Kept → List ℕ
listed_to None k = []
listed_to (Some c) k = if finds_no_set (kind_of c) k.width then [] else listed_on_set (kind_of c) (expected c 4096 k).number k.set

unfoldable pub kept_after_line : Option Call → Kept → Kept
kept_after_line None k = k
kept_after_line (Some c) k = if finds_no_set (kind_of c) k.width then k else kept_after c 4096 k

-- The output that the dictionary's answers give for a list of lines. It uses only the line number of the program's state, and the header and
-- table for the moving count of a `del`.
unfoldable pub dictated : State → Kept → List (List ℕ) → List ℕ
dictated s k [] = []
dictated s k (line ∷ rest) =
    (reply_line (suc s.lines) (fields_to (parse line) s k) ++ key_lines (listed_to (parse line) k))
    ++ dictated (answer s (parse line)).state (kept_after_line (parse line) k) rest

-- for every input
abbrev pub OutputDictated : Type 0
OutputDictated = (input : List ℕ) → output input ≡ dictated start no_set_yet (lines_of input)
