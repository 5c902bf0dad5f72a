use mathlib.Core.Path.{◌∙◌}
use mathlib.Core.List.{append_assoc}
use Rattle.lines.specs.Render.{reply_line}
use Rattle.lines.proofs.put.Text.reply_line.Goals as goal

pub returns-clause-put : goal.returns-clause-put
unfolding reply_line
returns-clause-put g c =
    c.number.ensures.put
    ∙ rw (c.field-3.ensures.put, c.field_or_dash-2.ensures.put, c.field-2.ensures.put, c.field.ensures.put, c.field_or_dash.ensures.put, c.byte.ensures.put)
    (simp append_assoc)
