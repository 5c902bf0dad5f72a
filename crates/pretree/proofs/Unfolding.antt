-- What one row of a table shows: damage if `judged` is false, else a row with its two parts.
use Prim.Native.Nat.{ℕ, zero, suc, ◌/◌, ◌^◌}
use mathlib.Core.Path.{◌≡◌, refl}
use mathlib.Core.Bool.{Bool, true, false, not}
use native.Mathlib.Nat.{suc-ne-zero}
use lib.Dec.{ltb, leb, eqb}
use borrow.Author.Tests.{ne_eqb, eqb-true}
use Rattle.ordered.proofs.Ways.{and_true}
use Rattle.ordered.specs.Word.{left, right}
use Rattle.ordered.specs.Tree.{row, damaged, exists}
use Rattle.pretree.specs.declared.Row.{Row}
use Rattle.pretree.specs.Table.{entry_of}
use Rattle.pretree.specs.Unfold.{judged, linked, unfolded}
use Rattle.pretree.specs.Walk.{below}

pub path_in_key : (n m path low i : ℕ) (r : Row) → judged n m path low i r ≡ true → r.entry.key / 2 ^ m ≡ path
path_in_key n m path low i r h =
    let used = and_true (ltb i n) _ h in
    let above = and_true (leb low r.entry.key) _ used.1 in
    eqb-true (r.entry.key / 2 ^ m) path (and_true (eqb (r.entry.key / 2 ^ m) path) _ above.1).0

module _ (rows : ℕ → Row) (n : ℕ) where
  module _ (m path low i : ℕ) where
    pub damaged_is : judged n m path low i (rows i) ≡ false → unfolded rows n m path low i ≡ damaged
    unfolding unfolded
    damaged_is h = go m h
      where
        go : (m : ℕ) → judged n m path low i (rows i) ≡ false → unfolded rows n m path low i ≡ damaged
        go zero h = rw h
        go (suc m) h = rw h

    -- an undamaged row has its path in its key, and shows its parts
    pub is_row : judged n m path low i (rows i) ≡ true
        → unfolded rows n m path low i ≡ row i (entry_of (rows i)) (below rows n m i left) (below rows n m i right)
    unfolding unfolded
    is_row h = go m h
      where
        go : (m : ℕ) → judged n m path low i (rows i) ≡ true
            → unfolded rows n m path low i ≡ row i (entry_of (rows i)) (below rows n m i left) (below rows n m i right)
        go zero h = rw h
        go (suc m) h = rw (h, path_in_key n (suc m) path low i (rows i) h)

    -- a link that is followed leads to a row or to damage
    there_is : exists (unfolded rows n m path low i) ≡ true
    there_is = go (judged n m path low i (rows i)) refl
      where
        go : (b : Bool) → judged n m path low i (rows i) ≡ b → exists (unfolded rows n m path low i) ≡ true
        go true h = rw (is_row h)
        go false h = rw (damaged_is h)

  -- a link shows a part if it is not 0
  pub there : (m path low i : ℕ) → exists (linked (unfolded rows n m path low) i) ≡ not (eqb i 0)
  there m path low zero = refl
  there m path low (suc i) = rw (ne_eqb (suc i) 0 (suc-ne-zero i)) (there_is m path low (suc i))
