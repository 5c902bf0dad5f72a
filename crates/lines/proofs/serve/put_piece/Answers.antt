-- What was read is the piece; at the end of input it is a byte 10, if bytes are held.
use Rattle.lines.specs.Serving.{piece_of}
use Rattle.lines.proofs.Serving.{piece_read, piece_end}
use Rattle.lines.proofs.serve.put_piece.Goals as goal

pub returns-in-0-eq0 : goal.returns-in-0-eq0
unfolding piece_of
returns-in-0-eq0 c = rw (c.in-0-eq0.is-0, c.in-0-eq0.is-1)

pub returns-in-0-default : goal.returns-in-0-default
returns-in-0-default c = rw c.in-0-default.is-0 (piece_end c.args.input.now c.args.held c.in-0-default.is-1.1)

pub returns-in_default : goal.returns-in_default
returns-in_default c = piece_read c.args.input.now c.args.count c.args.held c.in_default.is-0.1
