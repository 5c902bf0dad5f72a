-- The bounds on the rows that a call reads, on every tree, also on a damaged one. They follow from one law of every way, used once or twice.
use Prim.Native.Nat.{ℕ, zero, suc, ◌+◌, ◌*◌, ◌≤◌}
use mathlib.Core.Path.{◌≡◌, refl, sym}
use mathlib.Core.Bool.{Bool, true, false}
use mathlib.Core.List.{List, [], ◌∷◌, ◌++◌}
use native.Mathlib.Nat.{zero-add}
use native.Mathlib.Omega.{arith}
use lib.Dec.{ltb}
use lib.ListN.{length, length-append}
use Rattle.std.specs.Prelude.{if◌then◌else◌}
use Rattle.ordered.specs.Such.{Perhaps, no_such, such, first_of, last_such, anything}
use Rattle.ordered.specs.Word.{Side, left, right}
use Rattle.ordered.specs.Dictionary.{Entry}
use Rattle.ordered.specs.Tree.{Tree, none, row, damaged, part}
use Rattle.ordered.specs.Way.{Step, Way, Rule, way, rows, end_rows, joined, following, passing_equal, pushing, down, staying}
use Rattle.ordered.specs.Reading.{Found, passed_row, rows_of, end_if, to_its_end, has, skipped_right, next_by, next, skipped_left, prev_by, prev, first, last, gap_by, gap}
use Rattle.ordered.specs.Change.{adding_by, adding, erasing_by, erasing, way_ends_at}
use Rattle.ordered.proofs.Parts.{same_last}
use Rattle.ordered.proofs.Ways.{step, along, passed_pass, following_seeks}

-- each row that a way passes uses up one bit
passed_bits : (f : Rule) (m : ℕ) (t : Tree) → length (way f m t).passed + (way f m t).bits ≡ m
passed_bits f =
    along f (λ m t w. length w.passed + w.bits ≡ m) (λ m t ends. zero-add m)
    (λ m i e l r s says rest. omega (arith, rest))

one_end : (t : Tree) → end_rows t ≤ 1
one_end none = omega arith
one_end (row i e l r) = omega arith
one_end damaged = omega arith

-- a way with m bits left reads at most m + 1 rows
pub way_rows : (f : Rule) (m : ℕ) (t : Tree) → rows (way f m t) ≤ m + 1
unfolding rows
way_rows f m t = omega (arith, passed_bits f m t, one_end (way f m t).end)

-- so does a way that is continued from its end by another rule
joined_rows : (f g : Rule) (m : ℕ) (t : Tree) → let w : Way = way f m t in rows (joined w (way g w.bits w.end)) ≤ m + 1
unfolding rows joined
joined_rows f g m t =
    let w : Way = way f m t in
    let v : Way = way g w.bits w.end in
    simp length-append (omega (arith, passed_bits f m t, passed_bits g w.bits w.end, one_end v.end))

staying_rows : (m : ℕ) (t : Tree) → rows (way staying m t) ≤ 1
unfolding rows way staying
staying_rows zero t = omega (arith, one_end t)
staying_rows (suc m) none = omega arith
staying_rows (suc m) (row i e l r) = omega arith
staying_rows (suc m) damaged = omega arith

pub has_rows : (m k : ℕ) (t : Tree) → rows_of (has m k t).ways ≤ m + 1
unfolding has rows_of
has_rows m k t = omega (arith, way_rows (following k) m t)

pub first_rows : (m : ℕ) (t : Tree) → rows_of (first m t).ways ≤ 1
unfolding first rows_of
first_rows m t = omega (arith, staying_rows m t)

pub last_rows : (m : ℕ) (t : Tree) → rows_of (last m t).ways ≤ m + 1
unfolding last rows_of
last_rows m t = omega (arith, way_rows (down right) m t)

next_by_rows : (w : Way) (q : Perhaps Found) (p : Perhaps Step) → rows_of (next_by w q p).ways ≤ rows w + 1
unfolding rows_of rows
next_by_rows w (such x) p = omega arith
next_by_rows w no_such no_such = omega arith
next_by_rows w no_such (such s) = omega (arith, staying_rows s.below s.right_part)

pub next_rows : (m k : ℕ) (t : Tree) → rows_of (next m k t).ways ≤ m + 2
unfolding next
next_rows m k t =
    let w : Way = way (passing_equal k) m t in
    let further : rows_of (next m k t).ways ≤ rows w + 1 =
    next_by_rows w (end_if (ltb k) w) (last_such skipped_right w.passed) in
    omega (arith, way_rows (passing_equal k) m t)

-- the bits left below the last row that a way passes are the bits left where it ends
abbrev LastBelow : ℕ → ℕ → Perhaps Step → Type 0
LastBelow m bits no_such = bits ≡ m
LastBelow m bits (such p) = p.below ≡ bits

last_below : (f : Rule) (m : ℕ) (t : Tree) → LastBelow m (way f m t).bits (last_such anything (way f m t).passed)
unfolding last_such
last_below f =
    along f (λ m t w. LastBelow m w.bits (last_such anything w.passed)) (λ m t ends. refl)
    (λ m i e l r s says rest. above m i e l r s (way f m (part s l r)).bits (last_such anything (way f m (part s l r)).passed) rest)
  where
    above : (m i : ℕ) (e : Entry) (l r : Tree) (s : Side) (bits : ℕ) (p : Perhaps Step) → LastBelow m bits p
        → LastBelow (suc m) bits (first_of p (such (step m i e l r s)))
    above m i e l r s bits no_such rest = sym rest
    above m i e l r s bits (such p) rest = rest

prev_by_rows : (m : ℕ) (w : Way) (q : Perhaps Found) (p : Perhaps Step) → length w.passed + w.bits ≡ m → LastBelow m w.bits p
    → rows_of (prev_by w q p).ways ≤ m + 2
unfolding rows_of rows
prev_by_rows m w (such x) p sum below = omega (arith, one_end w.end)
prev_by_rows m w no_such no_such sum below = omega (arith, one_end w.end)
prev_by_rows m w no_such (such p) sum below = either (skipped_left p)
  where
    d : Way
    d = way (down right) p.below p.left_part

    either : (b : Bool)
        → rows_of (if b then to_its_end (w ∷ []) d else record { ways = w ∷ []; answer = such (passed_row p) }).ways ≤ m + 2
    either true = omega (arith, one_end w.end, way_rows (down right) p.below p.left_part)
    either false = omega (arith, one_end w.end)

pub prev_rows : (m k : ℕ) (t : Tree) → rows_of (prev m k t).ways ≤ m + 2
unfolding prev
prev_rows m k t =
    let w : Way = way (following k) m t in
    rw (same_last w.passed (passed_pass (following k) (λ x. ltb x k) k (following_seeks k) m t))
    (prev_by_rows m w (end_if (λ x. ltb x k) w) (last_such anything w.passed) (passed_bits (following k) m t)
    (last_below (following k) m t))

pub rows_append : (vs ws : List Way) → rows_of (vs ++ ws) ≡ rows_of vs + rows_of ws
unfolding rows_of
rows_append [] ws = sym (zero-add (rows_of ws))
rows_append (v ∷ vs) ws = omega (arith, rows_append vs ws)

pub gap_rows : (m k : ℕ) (t : Tree) → rows_of (gap m k t).ways ≤ 2 * m + 4
unfolding gap
gap_rows m k t = either (has m k t).answer
  where
    either : (q : Perhaps Found) → rows_of (gap_by k (prev m k t) (next m k t) q (has m k t).ways).ways ≤ 2 * m + 4
    either (such x) = omega (arith, has_rows m k t)
    either no_such = omega (arith, rows_append (prev m k t).ways (next m k t).ways, prev_rows m k t, next_rows m k t)

pub adding_rows : (m : ℕ) (e : Entry) (t : Tree) → rows (adding m e t).rows_read ≤ m + 1
unfolding adding
adding_rows m e t = either (way_ends_at e.key (way (following e.key) m t))
  where
    either : (b : Bool)
        → let w : Way = way (following e.key) m t in let push : Way = way pushing w.bits w.end in
        rows (adding_by e w push (joined w push) b).rows_read ≤ m + 1
    either true = way_rows (following e.key) m t
    either false = joined_rows (following e.key) pushing m t

pub erasing_rows : (m k : ℕ) (t : Tree) → rows (erasing m k t).rows_read ≤ m + 1
unfolding erasing
erasing_rows m k t = either (way_ends_at k (way (following k) m t))
  where
    either : (b : Bool)
        → let w : Way = way (following k) m t in let stretch : Way = way (down left) w.bits w.end in
        rows (erasing_by w stretch (joined w stretch) b).rows_read ≤ m + 1
    either true = joined_rows (following k) (down left) m t
    either false = way_rows (following k) m t
