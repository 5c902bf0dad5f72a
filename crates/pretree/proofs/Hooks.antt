-- Where the end of a walk is linked, and the hook that the code computes there.
use Prim.Native.Nat.{ℕ, ◌%◌, ◌≤◌, ◌<◌}
use mathlib.Core.Path.{◌≡◌, refl}
use mathlib.Core.Bool.{Bool, true, false}
use native.Mathlib.Nat.{lt_of_lt_of_le}
use lib.Dec.{ltb}
use lib.Pow.{shl-shr}
use Rattle.std.specs.Prelude.{Option, Some, None, if◌then◌else◌}
use Rattle.ordered.specs.Such.{Perhaps}
use Rattle.ordered.specs.Word.{Side, left, right, side_of, side}
use Rattle.ordered.specs.Way.{Step}
use Rattle.ordered.proofs.Parts.{IfSuch}
use Rattle.pretree.specs.declared.Row.{Row}
use Rattle.pretree.specs.declared.leg.Leg.{Leg}
use Rattle.pretree.specs.declared.leg.Side as Sides
use Rattle.pretree.specs.declared.leg.Side.TheVariants.{Left, Right}
use Rattle.pretree.specs.declared.leg.Hook.{Hook}
use Rattle.pretree.specs.Table.{to_side}
use Rattle.pretree.specs.Walk.{Walk, step_at, remembered}
use Rattle.pretree.specs.Leg.{Stands}
use Rattle.pretree.specs.Push.{end_bits, from_side, hook_of, HookInTable}
use Rattle.pretree.specs.Erased.{SameHook}
use Rattle.pretree.proofs.Places.{bits_there}

-- the code's name for a side names it
pub named : (s : Side) → to_side (from_side s) ≡ s
named left = refl
named right = refl

pub named_so : (n : Sides.Side) (s : Side) → to_side n ≡ s → n ≡ from_side s
named_so Left s e = rw (← e)
named_so Right s e = rw (← e)

-- the hook below the row `above`, if the condition holds: the side is the last bit of the path
abbrev pub hook_if : Bool → ℕ → ℕ → Option Hook
hook_if b above path = if b then Some (record { above = above; side = from_side (side_of (path % 2)) }) else None

-- where the end of a walk is linked; at the root `width` bits were left
abbrev pub hook_at : Walk → ℕ → Option Hook
hook_at w width = hook_if (ltb w.bits width) w.above w.path

-- the bits and the side at the end of a leg are those of the walk that is there
module _ (l : Leg) (p : Walk) (stands : Stands l.at p) where
  end_bits_are : end_bits l ≡ p.bits
  end_bits_are = bits_there l.at p stands

  end_side_is : side (end_bits l) l.at.path ≡ side_of (p.path % 2)
  unfolding side
  end_side_is = rw (end_bits_are, stands.path, shl-shr p.path p.bits)

-- the code's hook is the same
pub hook_is : (l : Leg) (w : Walk) (width : ℕ) → Stands l.at w → l.above ≡ w.above → hook_of l width ≡ hook_at w width
hook_is l w width st a = rw (end_side_is l w st, end_bits_are l w st, a)

-- the hook at the last step that a walk remembers
module _ (rows : ℕ → Row) (n room bits above path : ℕ) (fits : n ≤ room) where
  pub hook_by : (b : Bool) (p : Perhaps Step) → p ≡ remembered rows n b bits above (side_of (path % 2)) → SameHook p (hook_if b above path)
  unfolding step_at
  hook_by true p e = λ i table. rw (e, named (side_of (path % 2)))
  hook_by false p e = λ i table. rw e

  pub hook_in_table_by : (b : Bool) (p : Perhaps Step) → p ≡ remembered rows n b bits above (side_of (path % 2)) → IfSuch (λ s. s.at < n) p
      → HookInTable room (hook_if b above path)
  unfolding step_at
  hook_in_table_by true p e h = lt_of_lt_of_le (rw e at h) fits
  hook_in_table_by false p e h = tt
