-- Laws of the comparison of two captures: only one part can be returned, and which captures are stale.
-- Assumes nothing.
use mathlib.Core.Path.{◌≡◌, refl, sym, ap, ◌∙◌}
use mathlib.Core.Bool.{Bool, true, false, ◌&&◌}
use mathlib.Core.List.{List, [], ◌∷◌}
use mathlib.Core.Logic.{◌↔◌, ◌≢◌}
use Prim.Native.Nat.{ℕ, zero, suc, ◌≤◌, ◌<◌}
use native.Mathlib.Omega.{arith}
use borrow.Author.Tests.{ltb-true, lt-ltb, eqb-true, eq-eqb}
use lib.Dec.{ltb, eqb}
use lib.ListN.{length, take, length-take}
use lib.Seq.{take-length, length-take-le}
use Rattle.capture.specs.Capture.{agreeing, leading, LeadingPart, is_stale}
use Rattle.capture.proofs.Agreeing.{within_both, agreeing_are_equal, agreeing_longest}

-- `leading` computes a part that may be returned, for any two captures.
pub has_part : (new earlier : List ℕ) → LeadingPart new earlier (leading new earlier)
unfolding leading
has_part new earlier =
    let l : length (take (agreeing new earlier) new) ≡ agreeing new earlier = length-take-le (agreeing new earlier) new (omega (arith, within_both new earlier)) in
    record {
      leads = rw l;
      agrees = rw l (agreeing_are_equal new earlier);
      longest = λ n h q. omega (arith, l, agreeing_longest new earlier n h q);
    }

module _ {new earlier : List ℕ} where
  at_most_as_long : {p q : List ℕ} → LeadingPart new earlier p → LeadingPart new earlier q → length p ≤ length q
  at_most_as_long {p} {q} x y =
      let within : length p ≤ length new = omega (arith, ap length x.leads, length-take (length p) new) in
      omega (arith, y.longest (length p) within (sym x.leads ∙ x.agrees))

  -- Any two parts that may be returned have the same length.
  pub one_length : {p q : List ℕ} → LeadingPart new earlier p → LeadingPart new earlier q → length p ≡ length q
  one_length x y = omega (arith, at_most_as_long x y, at_most_as_long y x)

  -- Any two parts that may be returned are equal.
  pub one_part : {p q : List ℕ} → LeadingPart new earlier p → LeadingPart new earlier q → p ≡ q
  one_part x y = cc (x.leads, y.leads, one_length x y)

  -- Any part that may be returned is the one that `leading` computes.
  pub no_other : {p : List ℕ} → LeadingPart new earlier p → p ≡ leading new earlier
  no_other x = one_part x (has_part new earlier)

both : (a b : Bool) → a && b ≡ true → (a ≡ true) × (b ≡ true)
both true b h = (refl, h)
both false b h = (h, cc)

refuted : (t : Bool) → (t ≡ true → ⊥) → t ≡ false
refuted true h = absurd (h refl)
refuted false h = refl

not_empty : (l : List ℕ) → l ≢ [] → 0 < length l
not_empty [] h = absurd (h refl)
not_empty (b ∷ l) h = omega arith

module _ (new earlier : List ℕ) where
  -- A capture is stale exactly if it is not empty and the whole of it is returned.
  pub stale_exactly : (is_stale new earlier ≡ true) ↔ ((new ≢ []) × (leading new earlier ≡ new))
  unfolding is_stale
  stale_exactly = (
    λ s.
        let t = both (ltb 0 (length new)) (eqb (length (leading new earlier)) (length new)) s in
        let e : length (leading new earlier) ≡ length new = eqb-true (length (leading new earlier)) (length new) t.1 in
        (λ q. omega (arith, ap length q, ltb-true 0 (length new) t.0), cc ((has_part new earlier).leads, take-length new)),
    λ h. rw (lt-ltb 0 (length new) (not_empty new h.0), eq-eqb (length (leading new earlier)) (length new) (ap length h.1)),
  )

  -- A capture is stale exactly if it is not empty and the earlier one begins with it.
  pub stale_begins : (is_stale new earlier ≡ true) ↔ ((new ≢ []) × (new ≡ take (length new) earlier))
  stale_begins = (
    λ s. let w = stale_exactly.0 s in (w.0, cc ((has_part new earlier).agrees, w.1)),
    λ h. stale_exactly.1 (h.0, sym (no_other (record { leads = sym (take-length new); agrees = h.1; longest = λ n l q. l }))),
  )

  -- A capture longer than the earlier one is never stale.
  pub longer_fresh : length earlier < length new → is_stale new earlier ≡ false
  longer_fresh h =
      refuted (is_stale new earlier) (λ s. omega (arith, ap length (stale_begins.0 s).1, length-take (length new) earlier))

take_by_length : (n : ℕ) (l : List ℕ) → take n l ≡ take (length (take n l)) l
take_by_length zero l = refl
take_by_length (suc n) [] = refl
take_by_length (suc n) (b ∷ l) = cc (take_by_length n l)

-- A leading part of the earlier capture is stale, unless it is empty.
pub part_stale : (n : ℕ) (earlier : List ℕ) → take n earlier ≢ [] → is_stale (take n earlier) earlier ≡ true
part_stale n earlier h = (stale_begins (take n earlier) earlier).1 (h, take_by_length n earlier)

-- A capture compared with itself is stale, unless it is empty.
pub itself_stale : (new : List ℕ) → new ≢ [] → is_stale new new ≡ true
itself_stale new h = (stale_begins new new).1 (h, sym (take-length new))

-- The empty capture is never stale.
pub empty_fresh : (earlier : List ℕ) → is_stale [] earlier ≡ false
unfolding is_stale
empty_fresh earlier = refl
