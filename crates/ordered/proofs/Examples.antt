-- Tests by computation: the trees of document 01's sets A, B and C, and the calls over them. They catch the must-fail edits of a tree, a way
-- or a change. The general laws are in the other files. (The starred examples are about replies on tables; they are in crate `pretree`.)
use Prim.Native.Nat.{ℕ, ◌+◌}
use mathlib.Core.Path.{refl}
use mathlib.Core.List.{List, [], ◌∷◌}
use Rattle.ordered.specs.Example.{Example, ◌is◌, AllAgree}
use Rattle.ordered.specs.Such.{Perhaps, no_such, such, last_such}
use Rattle.ordered.specs.Word.{Side, left, right, side}
use Rattle.ordered.specs.Dictionary.{Entry}
use Rattle.ordered.specs.Tree.{Tree, none, row, tree_of, going}
use Rattle.ordered.specs.Way.{Step, way, rows, joined, following, passing_equal, pushing, down, staying}
use Rattle.ordered.specs.Reading.{Found, Reading, rows_of, has, next, prev, first, last, gap}
use Rattle.ordered.specs.Grown.{tree_after_add, tree_after_del, pushed_tree, popped_tree, chained, shifted, lifted}
use Rattle.ordered.specs.Change.{Take, Adding, Erasing, adding, erasing, pushed, left_over, raised}

-- each word has a different serial
abbrev entry : ℕ → Entry
entry k = record { key = k; serial = k + 100 }

-- the same word with a new serial
abbrev again : ℕ → Entry
again k = record { key = k; serial = k + 200 }

abbrev set : List ℕ → List Entry
set [] = []
set (k ∷ ks) = entry k ∷ set ks

abbrev word : ℕ → ℕ → Tree → Tree → Tree
word i k l r = row i (entry k) l r

abbrev leaf : ℕ → ℕ → Tree
leaf i k = word i k none none

-- "root 4, right 8; below 8 left 11, right 15"
abbrev A : Tree
A = word 0 4 none (word 0 8 (leaf 0 11) (leaf 0 15))

abbrev B : Tree
B = word 0 0 (word 0 1 none (word 0 2 none (leaf 0 3))) (leaf 0 4)

abbrev trees : List (Example Tree)
trees =
    tree_of 4 (set (4 ∷ 8 ∷ 11 ∷ 15 ∷ [])) is A
    ∷ tree_of 3 (set (0 ∷ 1 ∷ 2 ∷ 3 ∷ 4 ∷ [])) is B
    ∷ tree_of 1 (set (0 ∷ 1 ∷ [])) is word 0 0 none (leaf 0 1)
    ∷ []

trees_agree : AllAgree trees
unfolding tree_of going side
trees_agree = refl

-- a reading in short: how many rows it reads, and its answer
abbrev short : {A : Type 0} → Reading A → ℕ × Perhaps A
short r = (rows_of r.ways, r.answer)

abbrev at : ℕ → ℕ → Perhaps Found
at k bits = such (record { entry = entry k; bits = bits })

abbrev readings : List (Example (ℕ × Perhaps Found))
readings =
    short (has 4 11 A) is (3, at 11 2)
    ∷ short (has 4 9 A) is (3, no_such)
    ∷ short (prev 4 4 A) is (1, no_such)
    ∷ short (prev 4 9 A) is (3, at 8 3)
    ∷ short (next 4 9 A) is (3, at 11 2)
    ∷ short (next 4 15 A) is (3, no_such)
    ∷ short (prev 3 4 B) is (5, at 3 0)
    ∷ short (next 3 3 B) is (5, at 4 2)
    ∷ short (first 3 B) is (1, at 0 3)
    ∷ short (last 3 B) is (2, at 4 2)
    ∷ []

abbrev gaps : List (Example (ℕ × Perhaps ℕ))
gaps = short (gap 4 9 A) is (6, such 1) ∷ short (gap 4 0 A) is (2, such 4) ∷ []

gaps_agree : AllAgree gaps
unfolding rows_of has next prev gap way rows following passing_equal down staying last_such side
gaps_agree = refl

readings_agree : AllAgree readings
unfolding rows_of has next prev first last way rows following passing_equal down staying last_such side
readings_agree = refl

-- the tree of A, with the row numbers of the line program's example
abbrev a_numbered : Tree
a_numbered = word 0 4 none (word 1 8 (leaf 2 11) (leaf 3 15))

-- the rows that take an entry, each with its entry
abbrev taken : List Take → List (ℕ × Entry)
taken [] = []
taken (t ∷ ts) = (t.at, t.entry) ∷ taken ts

abbrev hooked : Perhaps Step → Perhaps (ℕ × Side)
hooked no_such = no_such
hooked (such s) = such (s.at, s.turn)

-- an erase in short: how many rows it reads, the rows that take an entry, the hole, and where the hole is linked
abbrev erasing_short : Erasing → ℕ × List (ℕ × Entry) × ℕ × Perhaps (ℕ × Side)
erasing_short e = (rows e.rows_read, taken e.takes, e.hole, hooked e.hook)

abbrev erases : List (Example (ℕ × List (ℕ × Entry) × ℕ × Perhaps (ℕ × Side)))
erases =
    erasing_short (erasing 4 8 a_numbered) is (3, (1, entry 11) ∷ [], 2, such (1, left))
    ∷ erasing_short (erasing 4 4 a_numbered) is (3, (0, entry 8) ∷ (1, entry 11) ∷ [], 2, such (1, left))
    ∷ erasing_short (erasing 4 15 a_numbered) is (3, [], 3, such (1, right))
    ∷ erasing_short (erasing 4 4 (leaf 0 4)) is (1, [], 0, no_such)
    ∷ []

erases_agree : AllAgree erases
unfolding erasing raised way rows joined following down last_such side
erases_agree = refl

-- an addition in short: how many rows it reads, the rows that take an entry, the entry of the new row, and where that row is linked
abbrev adding_short : Adding → ℕ × List (ℕ × Entry) × Entry × Perhaps (ℕ × Side)
adding_short a = (rows a.rows_read, taken a.takes, a.new_entry, hooked a.hook)

abbrev adds : List (Example (ℕ × List (ℕ × Entry) × Entry × Perhaps (ℕ × Side)))
adds =
    adding_short (adding 4 (entry 4) (leaf 0 8)) is (1, (0, entry 4) ∷ [], entry 8, such (0, right))
    ∷ adding_short (adding 4 (entry 12) a_numbered) is (3, (3, entry 12) ∷ [], entry 15, such (3, right))
    ∷ adding_short (adding 4 (entry 0) a_numbered) is (1, (0, entry 0) ∷ [], entry 4, such (0, left))
    ∷ adding_short (adding 4 (entry 9) a_numbered) is (3, (2, entry 9) ∷ [], entry 11, such (2, right))
    ∷ adding_short (adding 4 (entry 7) none) is (0, [], entry 7, no_such)
    ∷ adding_short (adding 4 (again 11) a_numbered) is (3, (2, again 11) ∷ [], again 11, no_such)
    ∷ []

adds_agree : AllAgree adds
unfolding adding pushed left_over way rows joined following pushing last_such side
adds_agree = refl

-- the trees after `add` and `del`, with row numbers; the new row is row 4
abbrev left_trees : List (Example Tree)
left_trees =
    tree_after_add 4 4 (entry 12) a_numbered is word 0 4 none (word 1 8 (leaf 2 11) (word 3 12 none (leaf 4 15)))
    ∷ tree_after_add 4 4 (entry 0) a_numbered is word 0 0 (leaf 4 4) (word 1 8 (leaf 2 11) (leaf 3 15))
    ∷ tree_after_add 4 4 (entry 9) a_numbered is word 0 4 none (word 1 8 (word 2 9 none (leaf 4 11)) (leaf 3 15))
    ∷ tree_after_add 4 4 (again 11) a_numbered is word 0 4 none (word 1 8 (row 2 (again 11) none none) (leaf 3 15))
    ∷ tree_after_del 4 8 a_numbered is word 0 4 none (word 1 11 none (leaf 3 15))
    ∷ tree_after_del 4 4 a_numbered is word 0 8 none (word 1 11 none (leaf 3 15))
    ∷ tree_after_del 4 9 a_numbered is a_numbered
    ∷ []

left_trees_agree : AllAgree left_trees
unfolding tree_after_add tree_after_del pushed_tree popped_tree chained shifted lifted left_over way following pushing down side
left_trees_agree = refl
