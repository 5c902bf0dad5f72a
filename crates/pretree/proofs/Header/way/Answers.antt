-- The checks in document 01's order, and then where the seek stopped.
use Rattle.std.proofs.Common.{◌≡◌, false, sym, ◌∙◌}
use native.Mathlib.Nat.{pos_of_ne-zero}
use borrow.Author.Rules.{rules}
use Rattle.pretree.specs.Reply.{wrong_header, too_wide}
use Rattle.pretree.specs.Leg.{End}
use Rattle.pretree.specs.Seek.{WayEnds, by_header, by_word, by_damage}
use Rattle.pretree.proofs.WordWay.{sought_ends, empty_ends, refused_way}
use Rattle.pretree.proofs.Header.way.Goals as goal
use Rattle.pretree.proofs.Header.way.Goals.{After-seek_end, In_ok-rows, Else-is_too_wide}

fine : (c : In_ok-rows) → wrong_header c.args.self c.args.table.now ≡ false
fine c =
    let there : wrong_header c.in_ok-rows.rows.header c.in_ok-rows.rows.table.now ≡ false = search rules in
    rw (c.in_ok-rows.ensures.0, c.in_ok-rows.ensures.1) at there

small : (c : Else-is_too_wide) → too_wide c.args.self c.args.word ≡ false
small c = rw c.in_ok-rows.ensures.0 at (sym c.is_too_wide.ensures ∙ c.if-is_too_wide.false)

pub returns-then-is_too_wide : goal.returns-then-is_too_wide
returns-then-is_too_wide c = by_word (fine (goal.at.returns-then-is_too_wide c).In_ok-rows) (rw c.in_ok-rows.ensures.0 at (sym c.is_too_wide.ensures ∙ c.if-is_too_wide.true))

pub returns-then-self-eq0 : goal.returns-then-self-eq0
returns-then-self-eq0 c =
    let at = goal.at.returns-then-self-eq0 c in
    (rw (c.start.ensures, c.in_ok-rows.ensures.0) (empty_ends _ _ _ (fine at.In_ok-rows) (small at.Else-is_too_wide) c.if-self-eq0.true), c.in_ok-rows.ensures.0, c.in_ok-rows.ensures.1)

-- the seek has gone the way of the word
gone : (c : After-seek_end) (e : End) → c.seek_end.result ≡ e → WayEnds c.args.self c.args.table.now c.args.word c.sought-s.result e
gone c e is =
    let at = goal.at-After-seek_end c in
    sought_ends _ _ _ (fine at.In_ok-rows) (small at.Else-is_too_wide) _ e (pos_of_ne-zero c.if-self-eq0.false) (rw (c.in_ok-rows.ensures.0, c.in_ok-rows.ensures.1) at c.sought-s.ensures)
    (rw (c.in_ok-rows.ensures.0, c.in_ok-rows.ensures.1) at (sym is ∙ c.seek_end.ensures))

pub returns-in_err-row : goal.returns-in_err-row
returns-in_err-row c = refused_way _ _ c.from_residual-in_err-row.ensures.1 (by_damage (gone (goal.at.returns-in_err-row c).After-seek_end _ c.in_err-row.was))

pub returns : goal.returns
returns c = (gone (goal.at.returns c).After-seek_end _ c.in_ok-row.was, c.in_ok-rows.ensures.0, c.in_ok-rows.ensures.1)

pub returns-in_err-rows : goal.returns-in_err-rows
returns-in_err-rows c =
    let wrong = c.in_err-rows.ensures in
    refused_way _ _ c.from_residual.ensures.1 (rw wrong.0 (by_header wrong.1))
