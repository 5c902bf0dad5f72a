-- Where the call is refused.
use Rattle.std.proofs.Common.{◌∙◌}
use Rattle.pretree.proofs.NextReply.{next_refused}
use Rattle.pretree.proofs.Header.next.Goals as goal

pub returns-in-Err : goal.returns-in-Err
returns-in-Err c = c.refused.ensures ∙ next_refused c.in-Err.ensures
