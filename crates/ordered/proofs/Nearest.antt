-- The distance that `gap` answers is the distance to the nearest word of the set.
use Prim.Native.Nat.{ℕ, ◌-◌, ◌≤◌, ◌<◌, min}
use mathlib.Core.Path.{◌≡◌, refl, sym, ◌∙◌, subst}
use mathlib.Core.Bool.{Bool, true, false, true≢false}
use mathlib.Core.List.{List}
use native.Mathlib.Omega.{arith}
use lib.Dec.{ltb, leb}
use borrow.Author.Tests.{lt-ltb, ltb-true, ltb-false, leb-true, leb-false}
use Rattle.std.specs.Prelude.{if◌then◌else◌}
use Rattle.ordered.specs.Such.{Perhaps, such, is_there}
use Rattle.ordered.specs.Dictionary.{Entry, words, word_of, Increasing, lookup, successor, predecessor}
use Rattle.ordered.specs.Source004.{◌∈◌, it_is, none_is, Least, Greatest, apart, Nearest, nearest_is, no_nearest}
use Rattle.ordered.specs.Reading.{nearest}
use Rattle.ordered.proofs.Dictionary.{lookup_whether, successor_least, predecessor_greatest}

module _ (k : ℕ) (s : List ℕ) where
  -- if k is not in the set, each word is less or greater than k
  by_side : (k ∈ s → ⊥) → {P : Type 0} (z : ℕ) → z ∈ s → (z < k → P) → (k < z → P) → P
  by_side absent {P} z in_s below above = go (ltb z k) (ltb k z) refl refl
    where
      go : (a b : Bool) → ltb z k ≡ a → ltb k z ≡ b → P
      go true b less more = below (ltb-true z k less)
      go false true less more = above (ltb-true k z more)
      go false false less more =
          let same : z ≡ k = omega (arith, ltb-false z k less, ltb-false k z more) in
          absurd (absent (subst (λ (x : ℕ). x ∈ s) same in_s))

  from_both : (k ∈ s → ⊥) → {p n : Perhaps ℕ} → Greatest (λ y. ltb y k) s p → Least (ltb k) s n → Nearest k s (nearest k p n)
  from_both absent (it_is {y = p} p_in p_less p_most) (it_is {y = n} n_in n_more n_least) = go (leb (k - p) (n - k)) refl
    where
      least : (z : ℕ) → z ∈ s → min (k - p) (n - k) ≤ apart k z
      least z in_s =
          by_side absent z in_s (λ less. omega (arith, p_most z in_s (lt-ltb z k less))) (λ more. omega (arith, n_least z in_s (lt-ltb k z more)))

      go : (b : Bool) → leb (k - p) (n - k) ≡ b → Nearest k s (such (min (k - p) (n - k)))
      go true e = nearest_is {d = min (k - p) (n - k)} p_in (omega (arith, leb-true (k - p) (n - k) e, ltb-true p k p_less)) least
      go false e = nearest_is {d = min (k - p) (n - k)} n_in (omega (arith, leb-false (k - p) (n - k) e, ltb-true k n n_more)) least
  from_both absent (it_is {y = p} p_in p_less p_most) (none_is none_above) =
      nearest_is {d = k - p} p_in (omega (arith, ltb-true p k p_less))
      (λ z in_s. by_side absent z in_s (λ less. omega (arith, p_most z in_s (lt-ltb z k less))) (λ more. absurd (none_above z in_s (lt-ltb k z more))))
  from_both absent (none_is none_below) (it_is {y = n} n_in n_more n_least) =
      nearest_is {d = n - k} n_in (omega (arith, ltb-true k n n_more))
      (λ z in_s. by_side absent z in_s (λ less. absurd (none_below z in_s (lt-ltb z k less))) (λ more. omega (arith, n_least z in_s (lt-ltb k z more))))
  from_both absent (none_is none_below) (none_is none_above) =
      no_nearest (λ z in_s. by_side absent z in_s (λ less. none_below z in_s (lt-ltb z k less)) (λ more. none_above z in_s (lt-ltb k z more)))

pub gap_nearest : (k : ℕ) (s : List Entry) → Increasing (words s)
    → Nearest k (words s) (if is_there (lookup k s) then such 0 else nearest k (word_of (predecessor k s)) (word_of (successor k s)))
gap_nearest k s rising = go (is_there (lookup k s)) refl
  where
    go : (b : Bool) → is_there (lookup k s) ≡ b
        → Nearest k (words s) (if b then such 0 else nearest k (word_of (predecessor k s)) (word_of (successor k s)))
    go true e = nearest_is {y = k} {d = 0} ((lookup_whether k s).0 e) (omega arith) (λ z in_s. omega arith)
    go false e =
        from_both k (words s) (λ there. true≢false (sym ((lookup_whether k s).1 there) ∙ e)) (predecessor_greatest k s rising)
        (successor_least k s rising)
