use mathlib.Core.Path.{ap, ◌∙◌}
use mathlib.Core.List.{[], ◌∷◌, append_assoc}
use native.Mathlib.Omega.{arith}
use lib.ListN.{length, length-append}
use Rattle.std.specs.Slice.Iter.{iter_rest}
use Rattle.std.specs.Iterator.Adapters.{rev_source}
use Rattle.std.proofs.lemmas.List.{nil_from_length}
use Rattle.lines.specs.Render.{key_lines, key_line}
use Rattle.lines.proofs.KeyLines.{last_line}
use Rattle.lines.proofs.put.Text.key_lines.Goals as goal

pub loop-word-preserved : goal.loop-word-preserved
loop-word-preserved g c =
    let left = iter_rest (rev_source c.next.new.self) in
    let word = c.in-Some.word.now in
    let taken = c.in-Some.ensures.steps in
    record {
      put = rw (c.key_line.ensures.put, ← append_assoc (key_lines left) (key_line word) c.loop-word.self, ← last_line left word, ← taken)
          c.loop-word.invariant.put;
      room = omega (arith, ap length taken ∙ length-append left (word ∷ []));
    }

pub returns-clause-put : goal.returns-clause-put
unfolding key_lines
returns-clause-put g c = rw (nil_from_length _ c.in-None.ensures.steps.0) at c.loop-word.invariant.put
