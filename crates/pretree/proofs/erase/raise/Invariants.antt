-- The loop keeps `Raises`: the writes that are still to come lead to the table of the contract.
use Prim.Native.Nat.{◌-◌}
use Rattle.pretree.proofs.Raising.{Raises}
use Rattle.pretree.proofs.erase.raise.Given as goal

abbrev pub invariant-loop : goal.invariant-loop
invariant-loop l = Raises l.initial.table l.from l.steps l.table l.at (l.steps - l.counter)
