-- Where the call is refused.
use Rattle.std.proofs.Common.{◌∙◌}
use Rattle.pretree.proofs.Previous.{prev_refused}
use Rattle.pretree.proofs.Header.prev.Goals as goal

pub returns-in-Err : goal.returns-in-Err
returns-in-Err c = c.refused.ensures ∙ prev_refused c.in-Err.ensures
