-- The check of the header, and then the root.
use mathlib.Core.Path.{◌≡◌, sym, ◌∙◌}
use borrow.Author.Rules.{rules}
use mathlib.Core.Bool.{false}
use Rattle.ordered.specs.Way.{staying}
use Rattle.ordered.specs.Reading.{first}
use Rattle.pretree.specs.Table.{row_at}
use Rattle.pretree.specs.Reply.{wrong_header}
use Rattle.pretree.specs.Walk.{started}
use Rattle.pretree.specs.Leg.{root_place}
use Rattle.pretree.specs.Find.{first_reply}
use Rattle.pretree.proofs.Damaged.{mapped}
use Rattle.pretree.proofs.Checks.{right_header}
use Rattle.pretree.proofs.Places.{judges_alike, root_stands}
use Rattle.pretree.proofs.Found.{root_refused, no_root, from_root, row_read}
use Rattle.pretree.proofs.Header.first.Goals as goal
use Rattle.pretree.proofs.Header.first.Goals.{In-Ok}

-- the header is not refused
fine : (c : In-Ok) → wrong_header c.args.self c.args.table.now ≡ false
fine c =
    let there : wrong_header c.in-Ok.rows.header c.in-Ok.rows.table.now ≡ false = search rules in
    rw (c.in-Ok.ensures.0, c.in-Ok.ensures.1) at there

pub returns-then-self-eq0 : goal.returns-then-self-eq0
unfolding first_reply first
returns-then-self-eq0 c =
    let a = c.args in
    c.answered.ensures ∙ no_root a.self a.table.now staying (fine (goal.at.returns-then-self-eq0 c).In-Ok) c.if-self-eq0.true

pub returns : goal.returns
unfolding first_reply first
returns c =
    let a = c.args in
    let h = a.self in
    let table = a.table.now in
    let unrefused = fine (goal.at.returns c).In-Ok in
    c.word_by.ensures
    ∙ rw (mapped _ _ c.map-end.ensures.cases, c.row_end.ensures, c.root.ensures, c.in-Ok.ensures.0, c.in-Ok.ensures.1)
    (sym
    (row_read h 0 (row_at table) h.count h.width 0 0 (root_place h.width)
    (judges_alike (root_place h.width) (started h) (root_stands h (right_header h table unrefused).at_most_32) (row_at table 0)))
    ∙ from_root h table staying unrefused c.if-self-eq0.false)

pub returns-in-Err : goal.returns-in-Err
unfolding first_reply first
returns-in-Err c =
    let a = c.args in
    c.refused.ensures ∙ rw c.in-Err.ensures.0 (root_refused a.self a.table.now staying c.in-Err.ensures.1)
