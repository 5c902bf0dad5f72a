-- Worked examples as one claim: what the definitions give is, line by line, what the document says.
use Rattle.std.specs.Prelude.{◌≡◌, List, [], ◌∷◌}

infix 70 ◌is◌
pub data Example (A : Type 0) : Type 0 where
  ◌is◌ : A → A → Example A

module _ {A : Type 0} where
  abbrev pub given : List (Example A) → List A
  given [] = []
  given ((a is b) ∷ es) = a ∷ given es

  abbrev pub wanted : List (Example A) → List A
  wanted [] = []
  wanted ((a is b) ∷ es) = b ∷ wanted es

  abbrev pub AllAgree : List (Example A) → Type 0
  AllAgree es = given es ≡ wanted es
