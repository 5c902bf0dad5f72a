-- By the way of the word.
use Rattle.std.proofs.Common.{arith, ◌∙◌}
use Rattle.pretree.proofs.WordWay.{width_few, bits_fit}
use Rattle.pretree.proofs.Found.{found_way, has_refused}
use Rattle.pretree.proofs.Header.has.Goals as goal

pub overflow_sub-self : goal.overflow_sub-self
overflow_sub-self c = rw c.bits_of.ensures (bits_fit c.in-Ok.ensures.0)

pub found_by-requires : goal.found_by-requires
found_by-requires c = record { few = omega (arith, width_few c.in-Ok.ensures.0) }

pub returns-in-Ok : goal.returns-in-Ok
returns-in-Ok c = c.found_by.ensures ∙ rw c.bits_of.ensures (found_way c.in-Ok.ensures.0)

pub returns-in-Err : goal.returns-in-Err
returns-in-Err c = c.refused.ensures ∙ has_refused c.in-Err.ensures
