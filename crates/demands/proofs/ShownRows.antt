-- What holds of every row in use holds of every row that a table shows, damaged or not, and of every row where a way passes or ends.
use Prim.Native.Nat.{ℕ, zero, suc, ◌+◌, ◌*◌, ◌<◌}
use mathlib.Core.Path.{◌≡◌, refl}
use mathlib.Core.Bool.{Bool, true, false}
use mathlib.Core.List.{List}
use lib.Dec.{ltb, eqb}
use borrow.Author.Tests.{ltb-true}
use Rattle.std.specs.Prelude.{if◌then◌else◌}
use Rattle.ordered.specs.Word.{Side, left, right, bit_of}
use Rattle.ordered.specs.Dictionary.{Entry}
use Rattle.ordered.specs.Tree.{Tree, none, row, damaged, part}
use Rattle.ordered.specs.Way.{Rule, way}
use Rattle.ordered.proofs.Parts.{All, none_all, one_all}
use Rattle.ordered.proofs.Ways.{along}
use Rattle.pretree.specs.declared.Header.{Header}
use Rattle.pretree.specs.declared.Row.{Row}
use Rattle.pretree.specs.Table.{row_at, entry_of, link}
use Rattle.pretree.specs.Unfold.{judged, linked, unfolded, shown}
use Rattle.demands.proofs.Unfolding.{both}

-- P holds of the number and the entry of every row of the tree
unfoldable pub EachRow : (ℕ → Entry → Type 0) → Tree → Type 0
EachRow P none = Unit {0}
EachRow P (row i e l r) = P i e × EachRow P l × EachRow P r
EachRow P damaged = Unit {0}

module _ (P : ℕ → Entry → Type 0) where
  module _ (rows : ℕ → Row) (n : ℕ) (used : (i : ℕ) → i < n → P i (entry_of (rows i))) where
    row_each : (m path low i : ℕ) (l r : Tree) → EachRow P l → EachRow P r
        → EachRow P (if judged n m path low i (rows i) then row i (entry_of (rows i)) l r else damaged)
    unfolding EachRow
    row_each m path low i l r u v = by_cases (judged n m path low i (rows i)) refl
      where
        by_cases : (b : Bool) → judged n m path low i (rows i) ≡ b → EachRow P (if b then row i (entry_of (rows i)) l r else damaged)
        by_cases true passes = (used i (ltb-true i n (both (ltb i n) _ passes).0), u, v)
        by_cases false fails = tt

    linked_each : (f : ℕ → Tree) → ((k : ℕ) → EachRow P (f k)) → (j : ℕ) → EachRow P (linked f j)
    unfolding EachRow
    linked_each f u zero = tt
    linked_each f u (suc j) = u (suc j)

    unfolded_each : (m path low i : ℕ) → EachRow P (unfolded rows n m path low i)
    unfolding EachRow unfolded
    unfolded_each zero path low i = row_each zero path low i none none tt tt
    unfolded_each (suc m) path low i =
        let low' : ℕ = suc (rows i).entry.key in
        let below : Side → Tree = λ s. linked (unfolded rows n m (path * 2 + bit_of s) low') (link (rows i) s) in
        let held : (s : Side) → EachRow P (below s) =
        λ s. linked_each (unfolded rows n m (path * 2 + bit_of s) low') (unfolded_each m (path * 2 + bit_of s) low') (link (rows i) s) in
        row_each (suc m) path low i (below left) (below right) (held left) (held right)

  pub shown_each : (h : Header) (table : List ℕ) → ((i : ℕ) → i < h.count → P i (entry_of (row_at table i))) → EachRow P (shown h table)
  unfolding shown EachRow
  shown_each h table used = by_cases (eqb h.count 0)
    where
      by_cases : (b : Bool) → EachRow P (if b then none else unfolded (row_at table) h.count h.width 0 0 0)
      by_cases true = tt
      by_cases false = unfolded_each (row_at table) h.count used h.width 0 0 0

  part_each : (s : Side) (i : ℕ) (e : Entry) (l r : Tree) → EachRow P (row i e l r) → EachRow P (part s l r)
  unfolding EachRow
  part_each left i e l r u = u.1
  part_each right i e l r u = u.2

  pub way_each : (f : Rule) (m : ℕ) (t : Tree) → EachRow P t
      → All (λ s. P s.at s.entry) (way f m t).passed × EachRow P (way f m t).end
  unfolding EachRow
  way_each f =
      along f (λ m t w. EachRow P t → All (λ s. P s.at s.entry) w.passed × EachRow P w.end) (λ m t ends u. (none_all, u))
      (λ m i e l r s says rest u.
      let below = rest (part_each s i e l r u) in
      (one_all u.0 below.0, below.1))
