use mathlib.Core.Path.{refl}
use mathlib.Core.List.{[]}
use native.Mathlib.Omega.{arith}
use Rattle.lines.proofs.Feeding.{feeds_nothing, after_step}
use Rattle.lines.proofs.session.Session.feed.Goals as goal

pub loop-self-init : goal.loop-self-init
loop-self-init c =
    record { part = []; whole = refl; first = λ e. c.clear.ensures; feeds = λ s keeps. feeds_nothing keeps refl refl c.clear.ensures; lines = omega arith }

pub loop-self-preserved : goal.loop-self-preserved
loop-self-preserved c = after_step c.loop-self.invariant c.step-rest.ensures
