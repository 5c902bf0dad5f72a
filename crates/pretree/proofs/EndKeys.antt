-- The key at which a way over a table ends is less than 2^W: a row with another key is damage. So no way ends at a number of 2^W or more.
use Prim.Native.Nat.{ℕ, zero, suc, ◌*◌, ◌+◌, ◌/◌, ◌^◌, ◌≤◌}
use mathlib.Core.Path.{◌≡◌, refl}
use mathlib.Core.Bool.{Bool, true, false}
use mathlib.Core.List.{List}
use native.Mathlib.Omega.{arith}
use lib.Dec.{eqb}
use borrow.Author.Tests.{ne_eqb, leb-true}
use Rattle.std.specs.Prelude.{if◌then◌else◌}
use Rattle.ordered.specs.Such.{Perhaps, no_such, such, is_there, only_if}
use Rattle.ordered.specs.Word.{Side, left, right, bit_of}
use Rattle.ordered.specs.Tree.{none}
use Rattle.ordered.specs.Way.{Rule, Turn, way, turning, stop, to}
use Rattle.ordered.specs.Reading.{Found, word_in, end_row, root_row}
use Rattle.ordered.specs.Change.{way_ends_at}
use Rattle.ordered.proofs.Parts.{IfSuch}
use Rattle.ordered.proofs.Bits.{from_part, on_root_path}
use Rattle.pretree.specs.declared.Header.{Header}
use Rattle.pretree.specs.declared.Row.{Row}
use Rattle.pretree.specs.Table.{entry_of, row_at}
use Rattle.pretree.specs.Unfold.{judged, linked, unfolded, shown}
use Rattle.pretree.specs.Reply.{too_wide}
use Rattle.pretree.specs.Walk.{below}
use Rattle.pretree.proofs.Unfolding.{path_in_key, damaged_is, is_row}
use Rattle.pretree.proofs.Walking.{at_none}

-- the word of a row is on the path with m bits left
abbrev OnPath : ℕ → ℕ → Found → Type 0
OnPath m path f = word_in f / 2 ^ m ≡ path

-- a word on the path of a part is on that of the row
from_below : (m path : ℕ) (s : Side) (q : Perhaps Found) → IfSuch (OnPath m (path * 2 + bit_of s)) q → IfSuch (OnPath (suc m) path) q
from_below m path s no_such h = tt
from_below m path s (such f) h = from_part m (word_in f) path s h

module _ (rows : ℕ → Row) (f : Rule) (n : ℕ) where
  end_on_path : (m path low i : ℕ) → IfSuch (OnPath m path) (end_row (way f m (unfolded rows n m path low i)))
  unfolding way
  end_on_path zero path low i = by_row (judged n zero path low i (rows i)) refl
    where
      by_row : (b : Bool) → judged n zero path low i (rows i) ≡ b → IfSuch (OnPath zero path) (root_row zero (unfolded rows n zero path low i))
      by_row false h = rw (damaged_is rows n zero path low i h) tt
      by_row true h = rw (is_row rows n zero path low i h) (path_in_key n zero path low i (rows i) h)
  end_on_path (suc m) path low i = by_row (λ path low j. end_on_path m path low j) (judged n (suc m) path low i (rows i)) refl
    where
      Below : Type 0
      Below = (path low j : ℕ) → IfSuch (OnPath m path) (end_row (way f m (unfolded rows n m path low j)))

      by_link : Below → (path low j : ℕ) → IfSuch (OnPath m path) (end_row (way f m (linked (unfolded rows n m path low) j)))
      by_link rest path low zero = rw (at_none f m) tt
      by_link rest path low (suc j) = rest path low (suc j)

      by_turn : Below → (t : Turn)
          → IfSuch (OnPath (suc m) ((rows i).entry.key / 2 ^ suc m))
          (end_row (turning (way f m) m i (entry_of (rows i)) (below rows n (suc m) i left) (below rows n (suc m) i right) t))
      by_turn rest stop = refl
      by_turn rest (to left) =
          from_below m ((rows i).entry.key / 2 ^ suc m) left (end_row (way f m (below rows n (suc m) i left)))
          (by_link rest ((rows i).entry.key / 2 ^ suc m * 2 + bit_of left) (suc (rows i).entry.key) (rows i).left)
      by_turn rest (to right) =
          from_below m ((rows i).entry.key / 2 ^ suc m) right (end_row (way f m (below rows n (suc m) i right)))
          (by_link rest ((rows i).entry.key / 2 ^ suc m * 2 + bit_of right) (suc (rows i).entry.key) (rows i).right)

      by_row : Below → (b : Bool) → judged n (suc m) path low i (rows i) ≡ b
          → IfSuch (OnPath (suc m) path) (end_row (way f (suc m) (unfolded rows n (suc m) path low i)))
      by_row rest false h = rw (damaged_is rows n (suc m) path low i h) tt
      by_row rest true h =
          rw (is_row rows n (suc m) path low i h, ← path_in_key n (suc m) path low i (rows i) h)
          (by_turn rest (f m (entry_of (rows i)) (below rows n (suc m) i left) (below rows n (suc m) i right)))

module _ (f : Rule) (h : Header) (table : List ℕ) where
  shown_on_path : IfSuch (OnPath h.width 0) (end_row (way f h.width (shown h table)))
  unfolding shown
  shown_on_path = by_count (eqb h.count 0)
    where
      by_count : (b : Bool)
          → IfSuch (OnPath h.width 0) (end_row (way f h.width (if b then none else unfolded (row_at table) h.count h.width 0 0 0)))
      by_count true = rw (at_none f h.width) tt
      by_count false = end_on_path (row_at table) f h.count h.width 0 0 0

  -- no way ends at a number that is no word
  pub no_such_end : (k : ℕ) → too_wide h k ≡ true → way_ends_at k (way f h.width (shown h table)) ≡ false
  unfolding too_wide
  no_such_end k wide = go (end_row (way f h.width (shown h table))) shown_on_path
    where
      go : (q : Perhaps Found) → IfSuch (OnPath h.width 0) q → is_there (only_if (λ f. eqb k (word_in f)) q) ≡ false
      go no_such on = refl
      go (such f) on =
          let small = (on_root_path h.width (word_in f)).1 on in
          let large : 2 ^ h.width ≤ k = leb-true (2 ^ h.width) k wide in
          rw (ne_eqb k (word_in f) (λ same. omega arith))
