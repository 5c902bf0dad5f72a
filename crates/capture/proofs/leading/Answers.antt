-- `capture::leading` meets its contract: the first `agreeing` bytes are what the definition `leading` computes. Assumes nothing.
use native.Mathlib.Omega.{arith}
use native.Mathlib.Nat.{sub-zero}
use Rattle.capture.specs.Capture.{leading}
use Rattle.capture.proofs.Agreeing.{within_both}
use Rattle.capture.proofs.Laws.{has_part}
use Rattle.capture.proofs.leading.Goals as goal

pub slice_bounds-result-end : goal.slice_bounds-result-end
slice_bounds-result-end c =
    let a = c.args in
    omega (arith, within_both a.new.now a.earlier.now)

pub returns : goal.returns
unfolding leading
returns c =
    let a = c.args in
    rw (sub-zero, c.count_agreeing-n.ensures) (has_part a.new.now a.earlier.now)
