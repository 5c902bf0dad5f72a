-- Each test of the code is one of the definition's, and what is written is the listing of the whole tree.
use mathlib.Core.Path.{◌≡◌, sym, ◌∙◌}
use mathlib.Core.Bool.{true, false}
use borrow.Author.Rules.{rules}
use Rattle.pretree.specs.Sound.{is_sound}
use Rattle.pretree.specs.Reply.{wrong_header}
use Rattle.pretree.proofs.WholeTable.{sound_standing, sound_listable, lists_none, lists_all}
use Rattle.pretree.proofs.Header.list.Goals as goal
use Rattle.pretree.proofs.Header.list.Goals.{In-Ok, Else-not-is_sound}

-- what is known past the first two refusals
right_there : (c : In-Ok) → wrong_header c.args.self c.args.table.now ≡ false
right_there c =
    let there : wrong_header c.in-Ok.rows.header c.in-Ok.rows.table.now ≡ false = search rules in
    rw (c.in-Ok.ensures.0, c.in-Ok.ensures.1) at there

sound-there : (c : Else-not-is_sound) → is_sound c.args.self c.args.table.now ≡ true
sound-there c = rw (c.in-Ok.ensures.0, c.in-Ok.ensures.1) at (sym c.is_sound.ensures ∙ c.if-not-is_sound.false)

pub returns-then-count-eq0 : goal.returns-then-count-eq0
returns-then-count-eq0 c =
    let a = c.args in
    let l = lists_none a.self a.table.now a.buffer.now (right_there (goal.at.returns-then-count-eq0 c).In-Ok) (sound-there (goal.at.returns-then-count-eq0 c).Else-not-is_sound) c.if-buffer-count.false c.if-count-eq0.true in
    (c.answered.ensures ∙ l.0, l.1)

pub row_listed-requires : goal.row_listed-requires
row_listed-requires c =
    let a = c.args in
    let right_so = right_there (goal.at.row_listed-requires c).In-Ok in
    rw (c.root.ensures, c.in-Ok.ensures.0) (record { row = sound_standing a.self a.table.now right_so c.if-count-eq0.false (sound-there (goal.at.row_listed-requires c).Else-not-is_sound); part = sound_listable a.self a.table.now right_so c.if-count-eq0.false (sound-there (goal.at.row_listed-requires c).Else-not-is_sound) a.buffer.now c.if-buffer-count.false })

pub returns : goal.returns
returns c =
    let a = c.args in
    let l = lists_all a.self a.table.now a.buffer.now (right_there (goal.at.returns c).In-Ok) (sound-there (goal.at.returns c).Else-not-is_sound) c.if-buffer-count.false c.if-count-eq0.false in
    let written = rw (c.root.ensures, c.in-Ok.ensures.0) at c.row_listed.ensures.words in
    (c.answered-2.ensures ∙ l.0, rw written l.1)
