-- The leg has gone on from where it began. The mask decreases.
use Rattle.pretree.specs.Leg.{Led}
use Rattle.pretree.proofs.leg.followed.Given as goal

abbrev pub invariant-loop-next : goal.invariant-loop-next
invariant-loop-next g l = Led (goal.P-post g l.past) l.initial.leg l.leg

abbrev pub decreases-loop-next : goal.decreases-loop-next
decreases-loop-next g l = l.leg.at.mask
