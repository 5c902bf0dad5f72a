-- On a table that holds a set the second way of a `del` ends at the last row.
-- Document 01: damage is "the second way of `del` doesn't end at row count−1 with its key".
use Prim.Native.Nat.{ℕ, zero, suc, pred, ◌+◌, ◌*◌, ◌<◌}
use mathlib.Core.Path.{◌≡◌, refl, ◌∙◌}
use mathlib.Core.Logic.{◌⊎◌, inl, inr}
use mathlib.Core.Bool.{Bool, true, false}
use mathlib.Core.List.{List, [], ◌∷◌}
use mathlib.Core.List.Memᴰ
use native.Mathlib.Omega.{arith}
use lib.Dec.{ltb, eqb}
use borrow.Author.Tests.{eqb-true, lt-ltb, le-ltb, eq-eqb, ne_eqb}
use Rattle.std.specs.Prelude.{if◌then◌else◌}
use Rattle.ordered.specs.Word.{Side, left, right, bit_of, side}
use Rattle.ordered.specs.Source004.{◌∈◌}
use Rattle.ordered.specs.Dictionary.{Entry}
use Rattle.ordered.specs.Tree.{Tree, intact}
use Rattle.ordered.specs.Proper.{Fitting}
use Rattle.ordered.specs.Way.{way, following}
use Rattle.ordered.specs.Change.{way_ends_at, number_at}
use Rattle.ordered.proofs.Bits.{from_part, side_of_part}
use Rattle.pretree.specs.declared.Header.{Header}
use Rattle.pretree.specs.declared.Row.{Row}
use Rattle.pretree.specs.Table.{row_at, link}
use Rattle.pretree.specs.Unfold.{unfolded, shown}
use Rattle.pretree.specs.Del.{second_way, astray}
use Rattle.demands.specs.Numbers.{numbers, often}
use Rattle.demands.specs.SoundIs.{HoldsSet}
use Rattle.demands.proofs.Unfolding.{part_of, along_link, key, row_with, part_shown, opened}
use Rattle.demands.proofs.SoundIs.{tree_intact}

-- the key of row j fits into t, and the way of that key ends at row j
record Reaches (rows : ℕ → Row) (j m path low : ℕ) (t : Tree) : Type 0 where
  fits : Fitting m path low (key rows j)
  ends_key : way_ends_at (key rows j) (way (following (key rows j)) m t) ≡ true
  ends_row : number_at (way (following (key rows j)) m t).end ≡ j

module _ (rows : ℕ → Row) (j : ℕ) where
  at_root : (m path low i : ℕ) (parts : Side → Tree) → Fitting m path low (key rows i) → j ≡ i → Reaches rows j m path low (row_with rows i parts)
  unfolding way following
  at_root zero path low i parts fits same = rw same (record { fits = fits; ends_key = rw (eq-eqb (key rows i) (key rows i) refl); ends_row = refl })
  at_root (suc m) path low i parts fits same =
      rw same
      (record {
        fits = fits;
        ends_key = rw (le-ltb (key rows i) (key rows i) (omega arith), eq-eqb (key rows i) (key rows i) refl);
        ends_row = rw (le-ltb (key rows i) (key rows i) (omega arith));
      })

  below_root :
      (m path low i : ℕ) (parts : Side → Tree) (s : Side) → Fitting (suc m) path low (key rows i)
      → Reaches rows j m (path * 2 + bit_of s) (suc (key rows i)) (parts s) → Reaches rows j (suc m) path low (row_with rows i parts)
  unfolding way following
  below_root m path low i parts s fits r =
      let less : ltb (key rows i) (key rows j) ≡ true = lt-ltb (key rows i) (key rows j) (omega arith) in
      let turn : side m (key rows j) ≡ s = side_of_part m (key rows j) path s r.fits.on_path in
      record {
        fits = record { not_below = omega arith; on_path = from_part m (key rows j) path s r.fits.on_path };
        ends_key = rw (less, turn, part_of parts s) r.ends_key;
        ends_row = rw (less, turn, part_of parts s) r.ends_row;
      }

  by_place :
      (m path low i : ℕ) (parts : Side → Tree) → Fitting (suc m) path low (key rows i)
      → ((s : Side) → j ∈ numbers (parts s) → Reaches rows j m (path * 2 + bit_of s) (suc (key rows i)) (parts s))
      → j ∈ numbers (row_with rows i parts) → Reaches rows j (suc m) path low (row_with rows i parts)
  unfolding numbers
  by_place m path low i parts fits in_part (Memᴰ.head e) = at_root (suc m) path low i parts fits e
  by_place m path low i parts fits in_part (Memᴰ.tail below) = beside (Memᴰ.append_cases (numbers (parts left)) below)
    where
      beside : (j ∈ numbers (parts left)) ⊎ (j ∈ numbers (parts right)) → Reaches rows j (suc m) path low (row_with rows i parts)
      beside (inl there) = below_root m path low i parts left fits (in_part left there)
      beside (inr there) = below_root m path low i parts right fits (in_part right there)

  -- if a row is in a tree without damage, the way of its key ends at that row
  reaches :
      (n m path low i : ℕ) → intact (unfolded rows n m path low i) ≡ true → j ∈ numbers (unfolded rows n m path low i)
      → Reaches rows j m path low (unfolded rows n m path low i)
  unfolding numbers
  reaches n zero path low i h there =
      let o = opened rows n zero path low i h in
      rw o.shows
      (at_root zero path low i (part_shown rows n zero path i) o.no_damage.key_fits (Memᴰ.eq_of_singleton (rw o.shows at there)))
  reaches n (suc m) path low i h there =
      let o = opened rows n (suc m) path low i h in
      let low' : ℕ = suc (key rows i) in
      rw o.shows
      (by_place m path low i (part_shown rows n (suc m) path i) o.no_damage.key_fits
      (λ s.
      along_link (λ x t. j ∈ numbers t → Reaches rows j m (path * 2 + bit_of s) low' t) (unfolded rows n m (path * 2 + bit_of s) low')
      (λ nowhere. absurd (Memᴰ.not-nil nowhere))
      (λ x. reaches n m (path * 2 + bit_of s) low' (suc x)) (link (rows i) s) (o.parts s))
      (rw o.shows at there))

stands_there : (i : ℕ) (xs : List ℕ) → often i xs ≡ 1 → i ∈ xs
unfolding often
stands_there i [] once = absurd (omega arith)
stands_there i (x ∷ xs) once = by_cases (eqb i x) refl once (stands_there i xs)
  where
    by_cases : (b : Bool) → eqb i x ≡ b → (if b then 1 else 0) + often i xs ≡ 1 → (often i xs ≡ 1 → i ∈ xs) → i ∈ (x ∷ xs)
    by_cases true e once rest = Memᴰ.head (eqb-true i x e)
    by_cases false e once rest = Memᴰ.tail (rest (omega arith))

module _ (h : Header) (table : List ℕ) (S : List Entry) (s : HoldsSet h table S) (some : 0 < h.count) where
  from_root : shown h table ≡ unfolded (row_at table) h.count h.width 0 0 0
  unfolding shown
  from_root = rw (ne_eqb h.count 0 (λ e. omega arith))

  last_there : pred h.count ∈ numbers (shown h table)
  last_there =
      stands_there (pred h.count) (numbers (shown h table))
      (s.each_row_once (pred h.count) ∙ rw (lt-ltb (pred h.count) h.count (omega arith)))

  pub second_way_ends : astray h table (second_way h table) ≡ false
  unfolding astray second_way
  second_way_ends =
      let last : ℕ = pred h.count in
      let r =
      reaches (row_at table) last h.count h.width 0 0 0 (rw from_root at (tree_intact h table S s.increasing s.below s.tree))
      (rw from_root at last_there) in
      rw (from_root, r.ends_key, r.ends_row, eq-eqb last last refl)
