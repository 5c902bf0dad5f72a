-- The reading calls over a tree with m bits left: the ways that each call goes, and what it finds.
use Rattle.std.specs.Prelude.{ℕ, suc, ◌+◌, ◌-◌, min, Bool, false, ◌&&◌, ◌||◌, List, [], ◌∷◌, ◌++◌, ltb, eqb, if◌then◌else◌}
use Rattle.ordered.specs.Such.{Perhaps, no_such, such, its, only_if, last_such}
use Rattle.ordered.specs.Word.{left, right, is_side}
use Rattle.ordered.specs.Dictionary.{Entry}
use Rattle.ordered.specs.Tree.{Tree, none, row, damaged, exists}
use Rattle.ordered.specs.Way.{Way, Step, way, rows, read_on, broken, ending, following, passing_equal, down, staying}

-- a row that a call finds: its entry, and the number of bits left at the row
pub record Found : Type 0 where
  pub entry : Entry
  pub bits : ℕ

abbrev pub word_in : Found → ℕ
word_in f = f.entry.key

abbrev pub entry_in : Perhaps Found → Perhaps Entry
entry_in = its (λ f. f.entry)

-- the ways that a call went, and its answer, if there is one: the row found, or a distance
pub record Reading (A : Type 0) : Type 0 where
  pub ways : List Way
  pub answer : Perhaps A

-- how many rows the ways read
unfoldable pub rows_of : List Way → ℕ
rows_of [] = 0
rows_of (w ∷ ws) = rows w + rows_of ws

-- the numbers of these rows
unfoldable pub read_of : List Way → List ℕ
read_of [] = []
read_of (w ∷ ws) = read_on w ++ read_of ws

-- whether one of the ways meets damage
unfoldable pub broken_in : List Way → Bool
broken_in [] = false
broken_in (w ∷ ws) = broken w || broken_in ws

abbrev pub root_row : ℕ → Tree → Perhaps Found
root_row m none = no_such
root_row m (row i e l r) = such (record { entry = e; bits = m })
root_row m damaged = no_such

-- the row at which a way ends, if it ends at one
abbrev pub end_row : Way → Perhaps Found
end_row w = root_row w.bits w.end

abbrev pub end_if : (ℕ → Bool) → Way → Perhaps Found
end_if test w = only_if (λ f. test (word_in f)) (end_row w)

abbrev pub passed_row : Step → Found
passed_row s = record { entry = s.entry; bits = suc s.below }

-- the answer is the row at which the way w ends
abbrev pub to_its_end : List Way → Way → Reading Found
to_its_end before w = record { ways = before ++ (w ∷ []); answer = end_row w }

-- "found if the way of k ends at k"
unfoldable pub has : ℕ → ℕ → Tree → Reading Found
has m k t =
    let w : Way = way (following k) m t in
    record { ways = w ∷ []; answer = end_if (eqb k) w }

-- the way went left, and there is a right child
abbrev pub skipped_right : Step → Bool
skipped_right s = is_side left s.turn && exists s.right_part

-- "its right child is read"
abbrev pub right_child : Perhaps Step → Way
right_child no_such = ending 0 none
right_child (such s) = way staying s.below s.right_part

-- "If it meets a key greater than k, that is the answer. Otherwise take the deepest row where the way went left and a right link
-- exists; its right child is read and is the answer."
abbrev pub next_by : Way → Perhaps Found → Perhaps Step → Reading Found
next_by w (such x) p = record { ways = w ∷ []; answer = such x }
next_by w no_such p = to_its_end (w ∷ []) (right_child p)

-- "least word greater than k; k need not be present"
unfoldable pub next : ℕ → ℕ → Tree → Reading Found
next m k t =
    let w : Way = way (passing_equal k) m t in
    next_by w (end_if (ltb k) w) (last_such skipped_right w.passed)

-- the way went right, and there is a left child
abbrev pub skipped_left : Step → Bool
skipped_left s = is_side right s.turn && exists s.left_part

-- The last row of the way with a key below k may be the end of the way, where there is no turn. Otherwise it is p, if there is one.
-- "No such row: none. If the way turned right at p and p has a left child, go down from that child, right link first, else left link,
-- until both are none; that row is the answer. Otherwise p."
abbrev pub prev_by : Way → Perhaps Found → Perhaps Step → Reading Found
prev_by w (such x) p = record { ways = w ∷ []; answer = such x }
prev_by w no_such no_such = record { ways = w ∷ []; answer = no_such }
prev_by w no_such (such p) =
    let d : Way = way (down right) p.below p.left_part in
    if skipped_left p then to_its_end (w ∷ []) d
    else record { ways = w ∷ []; answer = such (passed_row p) }

-- "greatest word less than k": "the way of k. Let p be its last row with key below k."
unfoldable pub prev : ℕ → ℕ → Tree → Reading Found
prev m k t =
    let w : Way = way (following k) m t in
    prev_by w (end_if (λ x. ltb x k) w) (last_such (λ s. ltb s.entry.key k) w.passed)

-- "`first` reads the root."
unfoldable pub first : ℕ → Tree → Reading Found
first m t = to_its_end [] (way staying m t)

-- "`last` goes down from the root by right link, else left link, until both are none."
unfoldable pub last : ℕ → Tree → Reading Found
last m t = to_its_end [] (way (down right) m t)

-- "the smaller of the distances to `prev` and `next`, or the only one there is"
abbrev pub nearest : ℕ → Perhaps ℕ → Perhaps ℕ → Perhaps ℕ
nearest k no_such no_such = no_such
nearest k (such p) no_such = such (k - p)
nearest k no_such (such n) = such (n - k)
nearest k (such p) (such n) = such (min (k - p) (n - k))

-- "distance 0 if k is present (count: the way of k). Else [..] its count is the two counts added"
abbrev pub gap_by : ℕ → Reading Found → Reading Found → Perhaps Found → List Way → Reading ℕ
gap_by k p n (such x) ws = record { ways = ws; answer = such 0 }
gap_by k p n no_such ws = record { ways = p.ways ++ n.ways; answer = nearest k (its word_in p.answer) (its word_in n.answer) }

unfoldable pub gap : ℕ → ℕ → Tree → Reading ℕ
gap m k t =
    let h : Reading Found = has m k t in
    gap_by k (prev m k t) (next m k t) h.answer h.ways
