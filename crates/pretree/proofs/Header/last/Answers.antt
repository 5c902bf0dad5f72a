-- The check of the header, and then the greatest word from the root down.
use mathlib.Core.Path.{◌≡◌, refl, ◌∙◌}
use mathlib.Core.Bool.{false}
use native.Mathlib.Omega.{arith}
use borrow.Author.Rules.{rules}
use Rattle.ordered.specs.Word as Words
use Rattle.ordered.specs.Way.{down}
use Rattle.ordered.specs.Reading.{last}
use Rattle.pretree.specs.Reply.{wrong_header}
use Rattle.pretree.specs.Walk.{started}
use Rattle.pretree.specs.Find.{last_reply}
use Rattle.pretree.specs.Found.{GreatestFrom}
use Rattle.pretree.proofs.Checks.{right_header}
use Rattle.pretree.proofs.Places.{root_stands}
use Rattle.pretree.proofs.Found.{root_refused, no_root, from_root}
use Rattle.pretree.proofs.Header.last.Goals as goal
use Rattle.pretree.proofs.Header.last.Goals.{After-root, In-Ok}

-- the header is not refused
fine : (c : In-Ok) → wrong_header c.args.self c.args.table.now ≡ false
fine c =
    let there : wrong_header c.in-Ok.rows.header c.in-Ok.rows.table.now ≡ false = search rules in
    rw (c.in-Ok.ensures.0, c.in-Ok.ensures.1) at there

pub returns-then-self-eq0 : goal.returns-then-self-eq0
unfolding last_reply last
returns-then-self-eq0 c =
    let a = c.args in
    c.answered.ensures ∙ no_root a.self a.table.now (down Words.right) (fine (goal.at.returns-then-self-eq0 c).In-Ok) c.if-self-eq0.true

-- a walk begins at the root
begun : (c : After-root) → wrong_header c.args.self c.args.table.now ≡ false → GreatestFrom c.args.self c.root.result
begun c right_there =
    let h = c.args.self in
    let at_most = (right_header h c.args.table.now right_there).at_most_32 in
    record { walk = started h; stands = rw (c.root.ensures, c.in-Ok.ensures.0) (root_stands h at_most); same_count = refl }

pub greatest-requires : goal.greatest-requires
greatest-requires c =
    let unrefused = fine (goal.at.greatest-requires c).In-Ok in
    record { stands = rw c.in-Ok.ensures.0 (begun (goal.at.greatest-requires c).After-root unrefused); few = omega arith }

pub returns : goal.returns
unfolding last_reply last begun
returns c =
    let a = c.args in
    let unrefused = fine (goal.at.returns c).In-Ok in
    (rw (c.in-Ok.ensures.0, c.in-Ok.ensures.1) at c.greatest.ensures) (begun (goal.at.returns c).After-root unrefused)
    ∙ from_root a.self a.table.now (down Words.right) unrefused c.if-self-eq0.false

pub returns-in-Err : goal.returns-in-Err
unfolding last_reply last
returns-in-Err c =
    let a = c.args in
    c.refused.ensures ∙ rw c.in-Err.ensures.0 (root_refused a.self a.table.now (down Words.right) c.in-Err.ensures.1)
