-- By the way of the word.
use Rattle.std.proofs.Common.{sym, ◌∙◌, arith}
use borrow.Author.Tests.{eq-eqb, ne_eqb}
use Rattle.pretree.proofs.WordWay.{width_few, bits_fit}
use Rattle.pretree.proofs.Nearest.{gap_way, gap_refused, none_near}
use Rattle.pretree.proofs.Header.gap.Goals as goal
use Rattle.pretree.proofs.Header.gap.Goals.{in_default-via-in-Some+else-row-word, in_default-via-in-None+else-self-eq0}

pub returns-in_default : goal.returns-in_default
returns-in_default c =
    (rw (c.in-Ok.ensures.1, c.in-Ok.ensures.2) at c.nearest.ensures)
    ∙ (elim c.in_default.branch [
      | in_default-via-in-Some+else-row-word w ↦ rw (w.in-Some.is, ne_eqb _ _ (λ same. w.if-row-word.false (sym same))) at (gap_way c.in-Ok.ensures.0)
      | in_default-via-in-None+else-self-eq0 w ↦ rw w.in-None.is at (gap_way c.in-Ok.ensures.0)
    ])

pub overflow_sub-self : goal.overflow_sub-self
overflow_sub-self c = rw c.bits_of.ensures (bits_fit c.in-Ok.ensures.0)

pub overflow_add-self : goal.overflow_add-self
overflow_add-self c = omega (arith, width_few c.in-Ok.ensures.0)

pub returns-in-Some : goal.returns-in-Some
returns-in-Some c =
    c.answered.ensures ∙ rw c.bits_of.ensures (rw (c.in-Some.is, eq-eqb _ _ (sym c.if-row-word.true)) at (gap_way c.in-Ok.ensures.0))

pub returns-in-None : goal.returns-in-None
returns-in-None c =
    let way = c.in-Ok.ensures.0 in
    c.answered-in-None.ensures ∙ none_near c.args.self c.args.table.now c.args.word way.fine way.small c.if-self-eq0.true

pub returns-in-Err : goal.returns-in-Err
returns-in-Err c = c.refused.ensures ∙ gap_refused c.in-Err.ensures
