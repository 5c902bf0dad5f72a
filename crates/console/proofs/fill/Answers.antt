use Rattle.std.proofs.Common.{rules, length-take-le}
use Rattle.std.proofs.lemmas.List.{places}
use Rattle.console.proofs.InTurn.{Consumes-next}
use Rattle.console.proofs.fill.Goals as goal

pub loop-done-preserved : goal.loop-done-preserved
loop-done-preserved g c =
    let long = length-take-le c.loop-done.done c.loop-done.space c.loop-done.invariant.0 in (
      search (rules, places),
      Consumes-next _ _ _ _ c.read.new.buf _ _ c.in-Ok.n long c.in-Ok.ensures.bound.0 c.loop-done.invariant.1 c.in-Ok.ensures.bytes.0,
    )
