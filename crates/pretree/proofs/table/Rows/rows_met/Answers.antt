-- The tree is that of the root's place, if there is a row.
use Rattle.std.proofs.Common.{sym, ap, ◌∙◌}
use Rattle.std.proofs.lemmas.Result.{err_from_is_err_and}
use borrow.Author.Rules.{rules}
use Rattle.pretree.specs.Part.{rows_in}
use Rattle.pretree.proofs.Parts.{rows_none, at_damage}
use Rattle.pretree.proofs.WholeTable.{none_shown, root_stands_there, root_part}
use Rattle.pretree.proofs.table.Rows.rows_met.Goals as goal

pub returns-then-self-eq0 : goal.returns-then-self-eq0
returns-then-self-eq0 c = sym (ap rows_in (none_shown c.args.self.now.header c.args.self.now.table.now c.if-self-eq0.true) ∙ rows_none)

pub returns-in_err-row_end : goal.returns-in_err-row_end
returns-in_err-row_end c =
    let h = c.args.self.now.header in
    let table = c.args.self.now.table.now in
    let p = err_from_is_err_and c.from_residual.result c.from_residual.ensures.1 in
    let some = c.if-self-eq0.false in
    let ends = sym (rw c.root-root.ensures at c.row_end.ensures) ∙ c.in_err-row_end.was in
    rw p.1 (sym (ap rows_in (sym (root_part h table (search rules) some)) ∙ at_damage _ _ _ _ (root_stands_there h table (search rules) some) ends))

pub rows_from-requires-clause-place : goal.rows_from-requires-clause-place
rows_from-requires-clause-place c = rw c.root-root.ensures (record { walk = _; stands = root_stands_there c.args.self.now.header c.args.self.now.table.now (search rules) c.if-self-eq0.false })

pub returns : goal.returns
returns c = c.rows_from.ensures ∙ rw c.root-root.ensures (ap rows_in (root_part c.args.self.now.header c.args.self.now.table.now (search rules) c.if-self-eq0.false))
