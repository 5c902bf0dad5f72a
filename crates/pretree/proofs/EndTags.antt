-- A leg ends at an empty link, at a row or at damage, and only at one of these.
use mathlib.Core.Path.{◌≡◌}
use mathlib.Core.Logic.{◌⊎◌, inl, inr}
use Rattle.std.specs.Prelude.{Ok, Some, None}
use Rattle.pretree.specs.declared.Row.{Row}
use Rattle.pretree.specs.Leg.{End, damage}

-- an empty link or a row is no damage
pub not_damage : (e : End) → (e ≡ Ok None) ⊎ ((r : Row) × (e ≡ Ok (Some r))) → e ≡ damage → ⊥
not_damage e (inl none) d = cc
not_damage e (inr (r, row)) d = cc

-- an empty link or damage is no row
pub not_row : (e : End) → (e ≡ Ok None) ⊎ (e ≡ damage) → (r : Row) → e ≡ Ok (Some r) → ⊥
not_row e (inl none) r row = cc
not_row e (inr d) r row = cc
