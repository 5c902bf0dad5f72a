-- The way of a word in a proper tree, if the word is on the tree's path: all words to the left of the way are less than the word, all words to
-- the right are greater.
use Prim.Native.Nat.{ℕ, zero, suc, ◌+◌, ◌*◌, ◌/◌, ◌^◌, ◌<◌}
use mathlib.Core.Path.{◌≡◌}
use mathlib.Core.Bool.{Bool, true, false}
use mathlib.Core.List.{◌++◌}
use native.Mathlib.Omega.{arith}
use lib.Dec.{ltb, leb}
use borrow.Author.Tests.{lt-ltb, le-leb}
use Rattle.ordered.specs.Word.{Side, left, right, bit_of, side}
use Rattle.ordered.specs.Dictionary.{Entry, words, Above}
use Rattle.ordered.specs.Tree.{Tree, none, row, damaged, part, entries}
use Rattle.ordered.specs.Proper.{Proper}
use Rattle.ordered.specs.Way.{Way, Rule, way, following, passing_equal}
use Rattle.ordered.proofs.Bits.{to_part, left_below_right, whole_path}
use Rattle.ordered.proofs.Parts.{AllWords, none_all, one_all, all_map, all_append, all_above}
use Rattle.ordered.proofs.OneTree.{keys_fit, parts_above}
use Rattle.ordered.proofs.Ways.{Stops, at_bottom, at_none, at_damage, at_stop, Onward, along, left_aside, right_aside, lower, upper, Seeks, turns_so, stops_so, following_seeks, passing_equal_seeks}

-- Where a way ends in a proper tree, if it follows the bits of k past the keys that pass a test: at an empty link; at k, with no bit left; or
-- at a row whose key does not pass.
pub data Ends (test : ℕ → Bool) (k : ℕ) : Tree → Type 0 where
  at_no_row : Ends test k none
  at_last_bit : {i : ℕ} {e : Entry} → e.key ≡ k → Ends test k (row i e none none)
  at_key : {i : ℕ} {e : Entry} {l r : Tree} → test e.key ≡ false → Above e.key (words (entries l ++ entries r)) → Ends test k (row i e l r)

pub record Sought (test : ℕ → Bool) (k : ℕ) (w : Way) : Type 0 where
  pub left_passes : AllWords (λ x. test x ≡ true) (lower w.passed)
  pub right_above : AllWords (λ x. k < x) (upper w.passed)
  pub ends : Ends test k w.end

-- One law for both ways of a word: if every word less than k passes the test, all words to the left of the way pass it, and all words to the
-- right are greater than k.
module _ (f : Rule) (test : ℕ → Bool) (k : ℕ) (seeks : Seeks f test k) (below : (x : ℕ) → x < k → test x ≡ true) where
  ends_so : (m : ℕ) (t : Tree) → Stops f m t → (path low : ℕ) → k / 2 ^ m ≡ path → Proper m path low t → Ends test k t
  unfolding Proper
  ends_so zero none at_bottom path low on h = at_no_row
  ends_so zero (row i e l r) at_bottom path low on h =
      rw (h.parts left, h.parts right) (at_last_bit {e = e} (omega (arith, h.key_fits.on_path, whole_path e.key, whole_path k)))
  ends_so zero damaged at_bottom path low on h = absurd h
  ends_so (suc m) none at_none path low on h = at_no_row
  ends_so (suc m) damaged at_damage path low on h = absurd h
  ends_so (suc m) (row i e l r) (at_stop says) path low on h =
      at_key (stops_so f test k seeks m e l r says) (all_above (parts_above m path (suc e.key) l r h.parts))

  lefts_pass : (m path low : ℕ) (s : Side) (l : Tree) → k / 2 ^ m ≡ path * 2 + bit_of s
      → Proper m (path * 2 + bit_of left) low l → AllWords (λ x. test x ≡ true) (left_aside s l)
  lefts_pass m path low left l on h = none_all
  lefts_pass m path low right l on h =
      all_map (λ x f. below x.key (left_below_right m path x.key k f.on_path on)) (keys_fit m (path * 2 + bit_of left) low l h)

  rights_above : (m path low : ℕ) (s : Side) (r : Tree) → k / 2 ^ m ≡ path * 2 + bit_of s
      → Proper m (path * 2 + bit_of right) low r → AllWords (λ x. k < x) (right_aside s r)
  rights_above m path low left r on h =
      all_map (λ x f. left_below_right m path k x.key on f.on_path) (keys_fit m (path * 2 + bit_of right) low r h)
  rights_above m path low right r on h = none_all

  sought : (m : ℕ) (t : Tree) (path low : ℕ) → k / 2 ^ m ≡ path → Proper m path low t → Sought test k (way f m t)
  unfolding Proper lower upper
  sought =
      along f (λ m t w. (path low : ℕ) → k / 2 ^ m ≡ path → Proper m path low t → Sought test k w)
      (λ m t ends path low on h. record { left_passes = none_all; right_above = none_all; ends = ends_so m t ends path low on h }) goes
    where
      goes : Onward f (λ m t w. (path low : ℕ) → k / 2 ^ m ≡ path → Proper m path low t → Sought test k w)
      goes m i e l r s says rest path low on h =
          let turn : (test e.key ≡ true) × (side m k ≡ s) = turns_so f test k seeks m e l r s says in
          let on_side : k / 2 ^ m ≡ path * 2 + bit_of s = to_part m k path s on turn.1 in
          let onward : Sought test k (way f m (part s l r)) = rest (path * 2 + bit_of s) (suc e.key) on_side (h.parts s) in
          record {
            left_passes =
                one_all turn.0 (all_append (lefts_pass m path (suc e.key) s l on_side (h.parts left)) onward.left_passes);
            right_above = all_append onward.right_above (rights_above m path (suc e.key) s r on_side (h.parts right));
            ends = onward.ends;
          }

-- the law for the way of k, and for the way on which "rows equal to k are passed through"
module _ (m k path low : ℕ) (t : Tree) (on : k / 2 ^ m ≡ path) (h : Proper m path low t) where
  pub way_of : Sought (λ x. ltb x k) k (way (following k) m t)
  way_of = sought (following k) (λ x. ltb x k) k (following_seeks k) (λ x less. lt-ltb x k less) m t path low on h

  pub way_past : Sought (λ x. leb x k) k (way (passing_equal k) m t)
  way_past = sought (passing_equal k) (λ x. leb x k) k (passing_equal_seeks k) (λ x less. le-leb x k (omega arith)) m t path low on h
