-- The loop's invariant: the first digits spell the value, and the rest is still to be judged.
use Rattle.numbers.proofs.Loop.{ReadLoop}
use Rattle.numbers.proofs.read_number.Given as goal

abbrev pub invariant-loop-digit : goal.invariant-loop-digit
invariant-loop-digit l = ReadLoop l.digits l.value l.digit-index
