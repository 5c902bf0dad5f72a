-- The example of document 01, "The line program", with serials as document 02 §1 has them: its input and its whole output; and lines at the edges
-- of the language. The two lines after `list` show serials. That of 4 is the one of its second `add`.
-- proofs/Examples.antt shows that the definitions give these.
use Rattle.std.specs.Prelude.{ℕ, List, [], ◌∷◌, ◌++◌, Option, None, Some}
use Prim.Native.String.{String}
use Rattle.ordered.specs.Example.{Example, ◌is◌}
use Rattle.pretree.specs.declared.Call.{Call}
use Rattle.pretree.specs.declared.Call.TheVariants.{New, Add, Del, Has, Next, Prev, Gap, First, Last, Audit}
use Rattle.lines.specs.Text.{bytes}
use Rattle.lines.specs.Line.{parse}

abbrev pub lines_as : List String → List ℕ
lines_as [] = []
lines_as (text ∷ texts) = bytes text ++ bytes "\n" ++ lines_as texts

abbrev pub given : List ℕ
given =
    lines_as (
    "new\t4" ∷
    "add\t8\t1" ∷
    "add\t4\t2" ∷
    "add\t11\t3" ∷
    "add\t15\t4" ∷
    "prev\t15" ∷
    "next\t11" ∷
    "add\t4\t5" ∷
    "del\t8" ∷
    "has\t8" ∷
    "has\t16" ∷
    "list" ∷
    "has\t4" ∷
    "has\t11" ∷ [])

abbrev pub wanted : List ℕ
wanted =
    lines_as (
    "1\t0\t-\t0\t0\t-" ∷
    "2\t0\t-\t0\t0\t-" ∷
    "3\t0\t-\t1\t0\t-" ∷
    "4\t0\t-\t2\t0\t-" ∷
    "5\t0\t-\t2\t0\t-" ∷
    "6\t0\t11\t4\t0\t-" ∷
    "7\t0\t15\t4\t0\t-" ∷
    "8\t7\t-\t1\t0\t-" ∷
    "9\t0\t-\t3\t3\t-" ∷
    "10\t8\t-\t2\t0\t-" ∷
    "11\t3\t-\t0\t0\t-" ∷
    "12\t0\t-\t3\t0\t-" ∷
    "key\t4" ∷
    "key\t11" ∷
    "key\t15" ∷
    "13\t0\t-\t1\t0\t5" ∷
    "14\t0\t-\t2\t0\t3" ∷ [])

-- each operation, and lines that are not read
abbrev pub readings : List (Example (Option Call))
readings =
    parse (bytes "new\t4") is Some (New 4)
    ∷ parse (bytes "add\t0\t0") is Some (Add 0 0)
    ∷ parse (bytes "add\t8\t4294967295") is Some (Add 8 4294967295)
    ∷ parse (bytes "add\t4294967295\t4294967295") is Some (Add 4294967295 4294967295)
    ∷ parse (bytes "del\t8") is Some (Del 8)
    ∷ parse (bytes "has\t4294967295") is Some (Has 4294967295)
    ∷ parse (bytes "next\t11") is Some (Next 11)
    ∷ parse (bytes "prev\t15") is Some (Prev 15)
    ∷ parse (bytes "gap\t9") is Some (Gap 9)
    ∷ parse (bytes "first") is Some First
    ∷ parse (bytes "last") is Some Last
    ∷ parse (bytes "list") is Some Call.List
    ∷ parse (bytes "audit") is Some Audit
    ∷ parse (bytes "") is None
    ∷ parse (bytes "n") is None
    ∷ parse (bytes "new") is None
    ∷ parse (bytes "new\t") is None
    ∷ parse (bytes "new 4") is None
    ∷ parse (bytes "new\t\t4") is None
    ∷ parse (bytes "new\t04") is None
    ∷ parse (bytes "new\t00") is None
    ∷ parse (bytes "new\t-4") is None
    ∷ parse (bytes "new\t4 ") is None
    ∷ parse (bytes "new\t4\r") is None
    ∷ parse (bytes "has\t4294967296") is None
    ∷ parse (bytes "has\t00000000001") is None
    ∷ parse (bytes "has\t10000000000") is None
    ∷ parse (bytes "add\t8") is None
    ∷ parse (bytes "add\t8\t") is None
    ∷ parse (bytes "add\t8\t1\t") is None
    ∷ parse (bytes "add\t8\t1\t2") is None
    ∷ parse (bytes "add\t\t8") is None
    ∷ parse (bytes "add\t8\t\t1") is None
    ∷ parse (bytes "add\t8 1") is None
    ∷ parse (bytes "add\t08\t1") is None
    ∷ parse (bytes "add\t8\t01") is None
    ∷ parse (bytes "add\t8\t4294967296") is None
    ∷ parse (bytes "has\t8\t1") is None
    ∷ parse (bytes "first\t") is None
    ∷ parse (bytes "first\t1") is None
    ∷ parse (bytes "firs") is None
    ∷ parse (bytes "firstly") is None
    ∷ parse (bytes "nexta") is None
    ∷ parse (bytes "next4") is None
    ∷ parse (bytes " list") is None
    ∷ parse (bytes "List") is None
    ∷ parse (bytes "lists") is None
    ∷ parse (bytes "clear") is None
    ∷ []
