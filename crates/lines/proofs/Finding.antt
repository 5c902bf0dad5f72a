-- The place of a byte in a text.
use Prim.Native.Nat.{ℕ, suc, ◌+◌, ◌<◌}
use mathlib.Core.Path.{◌≡◌, refl, ap}
use mathlib.Core.Bool.{true, false, not, cond}
use mathlib.Core.List.{List, [], ◌∷◌}
use mathlib.Core.Logic.{⊎_elim}
use native.Mathlib.Omega.{arith}
use borrow.Author.Tests.{eqb-true}
use lib.Dec.{eqb}
use lib.ListN.{length, drop}
use Rattle.std.specs.Prelude.{Option, None, Some, MatchOption, position}
use Rattle.std.specs.List.{position_or_len}
use Rattle.std.proofs.lemmas.List.Sums.{prefix_len-le-length}
use Rattle.std.proofs.lemmas.List.Recursion.{is_position_or_len}
use Rattle.std.proofs.lemmas.Bool.Decides.{nat_tests}
use Rattle.lines.specs.Text.{until_byte}
use Rattle.std.proofs.lemmas.Bool.{cases_Bool}

module _ (b : ℕ) where
  module _ (c : ℕ) (text : List ℕ) where
    pub until_first : eqb c b ≡ true → until_byte b (c ∷ text) ≡ 0
    unfolding until_byte
    until_first t = simp t

    pub until_later : eqb c b ≡ false → until_byte b (c ∷ text) ≡ suc (until_byte b text)
    unfolding until_byte
    until_later f = simp f

  -- a byte that is found stands at its place
  pub until_stands : (text : List ℕ) → until_byte b text < length text → drop (until_byte b text) text ≡ b ∷ drop (suc (until_byte b text)) text
  until_stands [] h = absurd (omega arith)
  until_stands (c ∷ text) h =
      ⊎_elim
      (λ (t : eqb c b ≡ true). rw (until_first c text t) (ap (λ (d : ℕ). d ∷ text) (eqb-true c b t)))
      (λ (f : eqb c b ≡ false). rw (until_later c text f) (until_stands text (omega (arith, until_later c text f))))
      (cases_Bool (eqb c b))

  until_step : (c : ℕ) (text : List ℕ) → until_byte b (c ∷ text) ≡ cond (eqb c b) 0 (1 + until_byte b text)
  until_step c text =
      ⊎_elim
      (λ (t : eqb c b ≡ true). rw t (until_first c text t))
      (λ (f : eqb c b ≡ false). rw f (omega (arith, until_later c text f)))
      (cases_Bool (eqb c b))

  until_is_position : (text : List ℕ) → until_byte b text ≡ position_or_len (λ c. eqb c b) text
  unfolding until_byte
  until_is_position text = is_position_or_len (until_byte b) (λ c. eqb c b) refl until_step text

  -- the first such byte, as `place_of` says it
  pub is_first :
      (text : List ℕ) {r : Option ℕ} → r ≡ position (λ c. eqb c b) text
      → MatchOption r (until_byte b text ≡ length text) (λ i. (i ≡ until_byte b text) × (i < length text))
  is_first text {r = None} e =
      let same = until_is_position text in
      let within = prefix_len-le-length (λ c. not (eqb c b)) text in
      grind (arith, nat_tests)
  is_first text {r = Some i} e =
      let same = until_is_position text in
      grind (arith, nat_tests)
