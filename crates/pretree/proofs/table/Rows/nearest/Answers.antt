-- By the nearer neighbour. The sum of the two counts does not overflow.
use Rattle.std.proofs.Common.{◌≡◌, sym, ◌∙◌, ℕ, ◌+◌, ◌≤◌, arith, Option, Result}
use borrow.Author.Rules.{rules}
use Rattle.pretree.specs.declared.leg.Damaged.{Damaged}
use Rattle.pretree.specs.Find.{prev_reply, next_reply}
use Rattle.pretree.specs.Gap.{gap_at, between}
use Rattle.pretree.proofs.Damaged.{ok_so}
use Rattle.pretree.proofs.Nearest.{few_below, few_above, between_is}
use Rattle.pretree.proofs.table.Rows.nearest.Goals as goal
use Rattle.pretree.proofs.table.Rows.nearest.Goals.{After-distance}

pub overflow_add-rows : goal.overflow_add-rows
overflow_add-rows c =
    let a = c.args in
    let below : c.prev-below.result.rows ≤ 34 = rw c.prev-below.ensures (few_below a.self.now.header a.self.now.table.now a.word (search rules) c.requires.width) in
    let above : c.next-above.result.rows ≤ 34
    = rw c.next-above.ensures (few_above a.self.now.header a.self.now.table.now a.word (search rules) c.requires.width) in
    omega arith

-- the reply, by the distance that was found
found : (c : After-distance) (d : Result (Option ℕ) Damaged) → c.distance.result ≡ d
    → gap_at c.args.self.now.header (c.prev-below.result.rows + c.next-above.result.rows) d
    ≡ between c.args.self.now.header c.args.word (prev_reply c.args.self.now.header c.args.self.now.table.now c.args.word) (next_reply c.args.self.now.header c.args.self.now.table.now c.args.word)
found c d is = between_is _ _ _ _ c.prev-below.ensures c.next-above.ensures d (sym is ∙ c.distance.ensures)

pub returns-in-Ok-Some : goal.returns-in-Ok-Some
returns-in-Ok-Some c =
    c.answered.ensures ∙ found (goal.at.returns-in-Ok-Some c).After-distance _ (ok_so c.in-Ok-Some.is c.in-Ok-Some.field-0-is)

pub returns-in-Ok-None : goal.returns-in-Ok-None
returns-in-Ok-None c =
    c.answered-in-Ok-None.ensures ∙ found (goal.at.returns-in-Ok-None c).After-distance _ (ok_so c.in-Ok-None.is c.in-Ok-None.field-0-is)

pub returns-in-Err : goal.returns-in-Err
returns-in-Err c = c.refused.ensures ∙ found (goal.at.returns-in-Err c).After-distance _ c.in-Err.is
