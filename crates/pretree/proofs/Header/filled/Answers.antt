-- The second way is astray, or everything is judged and the writes follow.
use mathlib.Core.Path.{refl}
use native.Mathlib.Numerals.{sub-one}
use Rattle.pretree.proofs.Erasing.{on_straying, on_done}
use Rattle.pretree.proofs.Header.filled.Goals as goal

pub returns-in_default : goal.returns-in_default
returns-in_default c =
    let a = c.args in
    let astray = rw c.in_default.is at c.move_of.ensures.judged in
    rw (on_straying a.self a.table.now _ c.requires.header c.requires.width a.hole c.requires.judged _ astray) (record { reply = c.refused.ensures; table = refl })

pub returns : goal.returns
returns c =
    let a = c.args in
    let judged = rw c.in-Ok.is at c.move_of.ensures.judged in
    rw (on_done a.self a.table.now _ c.requires.header c.requires.width a.hole c.requires.judged c.in-Ok.last_move judged, ← sub-one, c.moved_rows.ensures) (record { reply = refl; table = c.shrink.ensures })
