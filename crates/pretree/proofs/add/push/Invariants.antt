-- The loop keeps `Pushes`: the entries still to be written, in the table as it is now, give the table that the whole push gives.
use Prim.Native.Nat.{◌-◌, ◌≤◌}
use Rattle.pretree.proofs.Pushing.{Pushes}
use Rattle.pretree.proofs.add.push.Given as goal

abbrev pub invariant-loop-left : goal.invariant-loop-left
invariant-loop-left l =
    (l.end ≤ l.left) × Pushes l.initial.table l.end (l.bits - l.end) l.from l.initial.carried l.table (l.left - l.end) l.at l.carried
