use mathlib.Core.Path.{ap, ◌∙◌}
use mathlib.Core.List.{append_assoc, append-nil}
use native.Mathlib.Omega.{arith}
use lib.ListN.{length, length-append}
use Rattle.std.specs.Slice.Iter.{chunks_rest}
use Rattle.std.proofs.lemmas.List.{nil_from_length}
use Rattle.lines.specs.Render.{key_lines}
use Rattle.lines.proofs.KeyLines.{key_lines_append}
use Rattle.lines.proofs.put.put_keys.Goals as goal

pub loop-few-preserved : goal.loop-few-preserved
loop-few-preserved c =
    let few = c.in-Some.few.now in
    let left = chunks_rest c.next.new.self in
    let steps = c.in-Some.ensures.steps in
    record {
      size = steps.0 ∙ c.loop-few.invariant.size;
      put = rw (c.put.ensures.put, c.key_lines.ensures.put, c.clear.ensures.value, append-nil, append_assoc, ← key_lines_append few left, ← steps.1.0)
          c.loop-few.invariant.put;
      room = omega (arith, ap length steps.1.0 ∙ length-append few left);
    }

pub returns : goal.returns
unfolding key_lines
returns c = rw (nil_from_length _ c.in-None.ensures.steps.1.0, append-nil) at c.loop-few.invariant.put
