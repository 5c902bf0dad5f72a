use mathlib.Core.Path.{◌∙◌}
use native.Mathlib.Omega.{arith}
use Rattle.console.proofs.Holding.{held_after}
use Rattle.console.proofs.hold.Goals as goal

pub returns : goal.returns
returns g c =
    let a = c.args in
    (rw c.unwrap.ensures at c.try_extend_from_slice.ensures.ok)
    ∙ held_after a.held.now.items a.part.now (omega (arith, c.remaining_capacity.ensures)) (rw c.min-fits.ensures (omega (arith, c.remaining_capacity.ensures)))
