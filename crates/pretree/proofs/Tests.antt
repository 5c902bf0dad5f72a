-- A small law about the code's test of a side.
use Prim.Native.Nat.{ℕ, zero, suc}
use mathlib.Core.Path.{◌≡◌, refl}
use Rattle.ordered.specs.Word.{side_of, right}

-- a bit other than 0 goes right
pub goes_right : (b : ℕ) → (b ≡ 0 → ⊥) → side_of b ≡ right
goes_right zero h = absurd (h refl)
goes_right (suc b) h = refl
