-- A walk that ended at a row can continue from there by another rule.
use Rattle.std.specs.Prelude.{ℕ, Bool, true, false, eqb}
use Rattle.pretree.specs.Walk.{Walk, Stage, On, AtNone, AtRow, AtDamage, ended}

-- the walk ended at damage
abbrev pub is_damage : Stage → Bool
is_damage On = false
is_damage AtNone = false
is_damage AtRow = false
is_damage AtDamage = true

-- the walk ended at a row with the key k; `key` is the last key that it read
abbrev pub ends_at : ℕ → ℕ → Stage → Bool
ends_at k key On = false
ends_at k key AtNone = false
ends_at k key AtRow = eqb k key
ends_at k key AtDamage = false

abbrev pub again : Stage → Stage
again On = On
again AtNone = AtNone
again AtRow = On
again AtDamage = AtDamage

-- if the walk ended at a row, that row is its next row again
abbrev pub resumed : Walk → Walk
resumed w = ended w (again w.stage) w.entry
