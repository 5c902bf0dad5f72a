use Prim.Native.Nat.{suc, ◌+◌, ◌-◌}
use mathlib.Core.Path.{◌≡◌}
use native.Mathlib.Omega.{arith}
use borrow.Author.Rules.{rules}
use Rattle.pretree.proofs.Pushing.{Pushes, begins_push, next_used, keeps_push, ends_push}
use Rattle.pretree.proofs.add.push.Goals as goal
use Rattle.pretree.proofs.add.push.Goals.{In-loop-left}

-- in a turn there is a row that takes its entry
ready : (c : In-loop-left)
    → let a = c.args in
    let l = c.loop-left in
    Pushes a.table.now a.end (a.bits - a.end) a.from a.entry l.table (suc (l.left - 1 - a.end)) l.at l.carried
ready c =
    let a = c.args in
    let l = c.loop-left in
    let more : l.left - a.end ≡ suc (l.left - 1 - a.end) = omega arith in
    rw more at l.invariant.1

pub loop-left-init : goal.loop-left-init
loop-left-init c =
    (search rules, begins_push _ _ _ _ _ (search rules))

pub row_at-row-requires : goal.row_at-row-requires
row_at-row-requires c = next_used _ _ _ _ _ _ _ _ _ (ready (goal.at.row_at-row-requires c).In-loop-left)

pub put_entry-requires : goal.put_entry-requires
put_entry-requires c =
    next_used _ _ _ _ _ _ _ _ _ (ready (goal.at.put_entry-requires c).In-loop-left)

pub loop-left-preserved : goal.loop-left-preserved
loop-left-preserved c =
    let a = c.args in
    let l = c.loop-left in
    let below : a.end + (l.left - 1 - a.end) ≡ l.left - 1 = omega arith in (
      omega arith,
      rw (c.put_entry.ensures, c.link-at.ensures, c.of.ensures, c.row_at-row.ensures) (rw below at (keeps_push _ _ _ _ _ _ _ _ _ (ready (goal.at.loop-left-preserved c).In-loop-left))),
    )

pub shape_of-table : goal.shape_of-table
shape_of-table c = c.loop-left.invariant.1.same_length

pub returns : goal.returns
returns c =
    let a = c.args in
    let l = c.loop-left in
    let none : l.left - a.end ≡ 0 = omega arith in
    let both = ends_push _ _ _ _ _ _ _ _ (rw none at l.invariant.1) in
    record { value = both.0; table_after = both.1 }
