use mathlib.Core.Path.{refl}
use Rattle.pretree.proofs.Header.fresh.Goals as goal

pub returns : goal.returns
returns c = refl
