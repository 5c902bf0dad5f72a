use mathlib.Core.Path.{◌∙◌}
use mathlib.Core.List.{append_assoc, append-nil}
use Rattle.lines.proofs.KeyLines.{key_lines_append}
use Rattle.lines.proofs.put.put_answer.Goals as goal

pub returns : goal.returns
returns c =
    let whole = c.split_at.ensures.by_index.0 in
    c.put_keys.ensures
    ∙ rw (c.put.ensures.put, c.reply_line.ensures.put, c.key_lines.ensures.put, c.clear.ensures.value, whole, key_lines_append, append-nil)
    (simp append_assoc)
