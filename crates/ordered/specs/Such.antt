-- A choice by a test, and a search in a list: the first or the last element that passes a test, if there is one.
use Rattle.std.specs.Prelude.{Bool, true, false, if◌then◌else◌, List, [], ◌∷◌}
-- std's `Option`, by the words of the rules
pub use Rattle.std.specs.Prelude.{Option as Perhaps, None as no_such, Some as such}

module _ {A : Type 0} where
  -- the first if it is there, else the second
  abbrev pub first_of : Perhaps A → Perhaps A → Perhaps A
  first_of (such a) q = such a
  first_of no_such q = q

  -- the same, if it passes the test
  abbrev pub only_if : (A → Bool) → Perhaps A → Perhaps A
  only_if p no_such = no_such
  only_if p (such a) = if p a then such a else no_such

  unfoldable pub first_such : (A → Bool) → List A → Perhaps A
  first_such p [] = no_such
  first_such p (x ∷ xs) = first_of (only_if p (such x)) (first_such p xs)

  unfoldable pub last_such : (A → Bool) → List A → Perhaps A
  last_such p [] = no_such
  last_such p (x ∷ xs) = first_of (last_such p xs) (only_if p (such x))

  abbrev pub anything : A → Bool
  anything x = true

  abbrev pub is_there : Perhaps A → Bool
  is_there no_such = false
  is_there (such x) = true

-- f applied to it, if it is there
abbrev pub its : {A B : Type 0} → (A → B) → Perhaps A → Perhaps B
its f no_such = no_such
its f (such x) = such (f x)
