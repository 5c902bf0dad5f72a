-- The loop's invariant: the session took in all that the reader gave, and has no more lines than the turns so far can have brought.
use Rattle.lines.proofs.Serving.{ServeLoop}
use Rattle.lines.proofs.serve.serve.Given as goal

abbrev pub invariant-loop-turn : goal.invariant-loop-turn
invariant-loop-turn g l = ServeLoop (g.R.Read.remaining l.fn.reader) (g.R.Read.remaining l.reader) l.session l._turn
