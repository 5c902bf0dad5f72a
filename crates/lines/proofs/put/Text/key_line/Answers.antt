use mathlib.Core.Path.{◌∙◌}
use mathlib.Core.List.{append_assoc}
use Rattle.lines.specs.Render.{key_line}
use Rattle.lines.proofs.put.Text.key_line.Goals as goal

pub returns-clause-put : goal.returns-clause-put
unfolding key_line
returns-clause-put g c =
    c.byte-4.ensures.put
    ∙ rw (c.byte-3.ensures.put, c.byte-2.ensures.put, c.field.ensures.put, c.byte.ensures.put)
    (simp append_assoc)
