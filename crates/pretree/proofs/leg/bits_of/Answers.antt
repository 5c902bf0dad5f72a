use lib.Count.{leading_le}
use Rattle.pretree.proofs.leg.bits_of.Goals as goal

pub overflow_sub-result : goal.overflow_sub-result
overflow_sub-result c = leading_le 32 _
