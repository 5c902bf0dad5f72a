-- Tests and what they test: `||`, `&&` and `not` of tests are tests for "or", "and" and "not".
use Prim.Native.Nat.{ℕ, ◌≤◌, ◌<◌}
use mathlib.Core.Path.{◌≡◌, refl}
use mathlib.Core.Logic.{◌⊎◌, inl, inr}
use mathlib.Core.Bool.{Bool, true, false, not, ◌&&◌, ◌||◌, false≢true}
use lib.Dec.{ltb, leb, eqb}
use borrow.Author.Tests.{ltb-true, leb-true, eqb-true, lt-ltb, le-leb, eq-eqb}
use Rattle.ordered.specs.Source004.{Whether}

module _ {A : Type 0} where
  pub fails : Whether A false → ¬ A
  fails w a = false≢true (w.1 a)

  pub holds : A → Whether A true
  holds a = (λ e. a, λ a. refl)

  pub never : ¬ A → Whether A false
  never no_a = (λ e. absurd (false≢true e), λ a. absurd (no_a a))

-- a test for A is a test for every equivalent B
pub same_test : {A B : Type 0} {b : Bool} → (A → B) → (B → A) → Whether A b → Whether B b
same_test there back w = (λ e. there (w.0 e), λ x. w.1 (back x))

pub both_tested : {A B : Type 0} (a b : Bool) → Whether A a → Whether B b → Whether (A × B) (a && b)
both_tested true true v w = holds (v.0 refl, w.0 refl)
both_tested true false v w = never (λ x. fails w x.1)
both_tested false b v w = never (λ x. fails v x.0)

pub either_tested : {A B : Type 0} (a b : Bool) → Whether A a → Whether B b → Whether (A ⊎ B) (a || b)
either_tested true b v w = holds (inl (v.0 refl))
either_tested false true v w = holds (inr (w.0 refl))
either_tested false false v w = never (elim [ inl x ↦ fails v x | inr y ↦ fails w y ])

-- "or", if the second test is needed only when the first fails
pub else_tested : {A B : Type 0} (a b : Bool) → Whether A a → (a ≡ false → Whether B b) → Whether (A ⊎ B) (a || b)
else_tested true b v w = holds (inl (v.0 refl))
else_tested false b v w = either_tested false b v (w refl)

pub not_tested : {A : Type 0} (a : Bool) → Whether A a → Whether (¬ A) (not a)
not_tested true w = never (λ no_a. no_a (w.0 refl))
not_tested false w = holds (fails w)

pub less_tested : (a b : ℕ) → Whether (a < b) (ltb a b)
less_tested a b = (ltb-true a b, lt-ltb a b)

pub at_most_tested : (a b : ℕ) → Whether (a ≤ b) (leb a b)
at_most_tested a b = (leb-true a b, le-leb a b)

pub equal_tested : (a b : ℕ) → Whether (a ≡ b) (eqb a b)
equal_tested a b = (eqb-true a b, eq-eqb a b)
