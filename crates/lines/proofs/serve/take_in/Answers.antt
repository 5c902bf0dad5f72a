use mathlib.Core.Path.{sym, ◌∙◌}
use native.Mathlib.Omega.{arith}
use borrow.Author.Tests.{eqb-true}
use Rattle.arrayvec.specs.ArrayVec.{array_vec_len}
use Rattle.lines.proofs.Serving.{piece_start, piece_after_feed, is_output, left_over, taken, piece_within, not_both}
use Rattle.lines.proofs.serve.take_in.Goals as goal

pub loop-rest-init : goal.loop-rest-init
loop-rest-init g c = rw (← c.len.ensures.value, ← c.put_piece-rest.ensures) (piece_start c.put_piece-rest.result.now c.args.session.now)

pub feed-rest-requires-clause-piece_bound : goal.feed-rest-requires-clause-piece_bound
feed-rest-requires-clause-piece_bound g c =
    let i = c.loop-rest.invariant in
    omega (arith, left_over i, piece_within c.args.input.now c.args.count (array_vec_len c.args.session.now.held) c.requires.count_in_bounds.1)

pub write-requires : goal.write-requires
write-requires g c = rw c.deref.ensures.0 (is_output c.loop-rest.invariant c.feed-rest.ensures c.requires.reached)

pub loop-rest-preserved : goal.loop-rest-preserved
loop-rest-preserved g c = piece_after_feed c.loop-rest.invariant c.feed-rest.ensures

pub returns-in_err-write : goal.returns-in_err-write
returns-in_err-write g c =
    taken (piece_after_feed c.loop-rest.invariant c.feed-rest.ensures) (λ ok. absurd (not_both c.from_residual.result ok c.from_residual.ensures.0))

pub returns : goal.returns
returns g c = taken c.loop-rest.invariant (λ ok. eqb-true _ _ (sym c.is_empty.ensures ∙ c.loop-rest-test.false))
