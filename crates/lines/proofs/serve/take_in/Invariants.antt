-- The loop's invariant: a part of the piece was taken in, and `rest` is left.
use lib.ListN.{length}
use Rattle.lines.specs.Serving.{piece_of}
use Rattle.arrayvec.specs.ArrayVec.{array_vec_len}
use Rattle.lines.proofs.Serving.{PieceLoop}
use Rattle.lines.proofs.serve.take_in.Given as goal

abbrev pub invariant-loop-rest : goal.invariant-loop-rest
invariant-loop-rest g l = PieceLoop (piece_of l.count (array_vec_len l.fn.session.held) l.input) l.rest l.fn.session l.session

abbrev pub decreases-loop-rest : goal.decreases-loop-rest
decreases-loop-rest g l = length l.rest
