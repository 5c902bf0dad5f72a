-- The loop's invariant: a part of the piece was taken in, and `rest` is left.
use lib.ListN.{length}
use Rattle.lines.proofs.Feeding.{FeedLoop}
use Rattle.lines.proofs.session.Session.feed.Given as goal

abbrev pub invariant-loop-self : goal.invariant-loop-self
invariant-loop-self l = FeedLoop l.piece l.rest l.fn.self l.self

abbrev pub decreases-loop-self : goal.decreases-loop-self
decreases-loop-self l = length l.rest
