-- Laws of `agreeing`, the number of agreeing bytes: it is the length of a `LeadingPart`.
-- Assumes nothing.
use mathlib.Core.Path.{◌≡◌, refl}
use mathlib.Core.Bool.{Bool, true, false}
use mathlib.Core.List.{List, [], ◌∷◌}
use mathlib.Core.Logic.{◌⊎◌, inl, inr, ⊎_elim}
use Prim.Native.Nat.{ℕ, zero, suc, ◌≤◌, min}
use native.Mathlib.Omega.{arith}
use borrow.Author.Tests.{eqb-true, eq-eqb}
use lib.Dec.{eqb}
use lib.ListN.{length, take}
use Rattle.capture.specs.Capture.{agreeing}

true_or_false : (t : Bool) → (t ≡ true) ⊎ (t ≡ false)
true_or_false true = inl refl
true_or_false false = inr refl

-- At most as many bytes agree as the shorter capture has.
pub within_both : (new earlier : List ℕ) → agreeing new earlier ≤ min (length new) (length earlier)
unfolding agreeing
within_both [] earlier = omega arith
within_both (b ∷ new) [] = omega arith
within_both (b ∷ new) (e ∷ earlier) =
    ⊎_elim (λ t. rw t (omega (arith, within_both new earlier))) (λ f. rw f (omega arith)) (true_or_false (eqb b e))

-- The captures have the agreeing bytes in common.
pub agreeing_are_equal : (new earlier : List ℕ) → take (agreeing new earlier) new ≡ take (agreeing new earlier) earlier
unfolding agreeing
agreeing_are_equal [] earlier = refl
agreeing_are_equal (b ∷ new) [] = refl
agreeing_are_equal (b ∷ new) (e ∷ earlier) =
    ⊎_elim (λ t. let q : b ≡ e = eqb-true b e t in rw t (cc (agreeing_are_equal new earlier))) (λ f. rw f) (true_or_false (eqb b e))

-- No longer leading part is common to both captures.
pub agreeing_longest : (new earlier : List ℕ) (n : ℕ) → n ≤ length new → take n new ≡ take n earlier → n ≤ agreeing new earlier
unfolding agreeing
agreeing_longest new earlier zero h q = omega arith
agreeing_longest [] earlier (suc n) h q = omega arith
agreeing_longest (b ∷ new) [] (suc n) h q = let z : ◌≡◌ {A = ℕ} 0 1 = cc in omega arith
agreeing_longest (b ∷ new) (e ∷ earlier) (suc n) h q =
    let first : b ≡ e = cc in
    let rest : take n new ≡ take n earlier = cc in
    rw (eq-eqb b e first) (omega (arith, agreeing_longest new earlier n (omega arith) rest))
