-- A law of tags, the numbers that a `match` tells variants apart by: a tag from 1 to 5 is greater than 0, the tag of a first variant. No other
-- proof cites it.
use Prim.Native.Nat.{ℕ, ◌<◌}
use mathlib.Core.List.{[], ◌∷◌}
use mathlib.Core.Logic.{inl, inr}
use native.Mathlib.Omega.{arith}
use types.Run.{OneOf}

pub later : (tag : ℕ) → OneOf (1 ∷ 2 ∷ 3 ∷ 4 ∷ 5 ∷ []) tag → 0 < tag
later tag (inl e) = omega arith
later tag (inr (inl e)) = omega arith
later tag (inr (inr (inl e))) = omega arith
later tag (inr (inr (inr (inl e)))) = omega arith
later tag (inr (inr (inr (inr e)))) = omega arith
