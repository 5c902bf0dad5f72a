-- By the laws of the loop in Parts.antt.
use Rattle.std.specs.Prelude.{Ok}
use Rattle.std.proofs.Common.{◌≡◌, sym, ◌∙◌, ℕ, arith}
use Rattle.std.proofs.lemmas.Result.{err_from_is_err_and}
use mir.Facts.{Fits-bits}
use Rattle.ordered.specs.Word.{left}
use Rattle.pretree.specs.Table.{row_at}
use Rattle.pretree.specs.Leg.{row_end}
use Rattle.pretree.proofs.Parts as parts
use Rattle.pretree.proofs.whole.+rows_from.Goals as goal
use Rattle.pretree.proofs.whole.+rows_from.Goals.{In_ok-row, Joined-row-ne-NONE, then-row-ne-NONE+in_ok-rows, else-row-ne-NONE}

-- the row at hand
row_so : (t : ℕ) (c : In_ok-row t) → row_end (row_at c.args.table.now) c.args.header.count c.loop-row.at ≡ Ok c.in_ok-row.row
row_so t c = sym c.row_end.ensures ∙ c.in_ok-row.was

pub loop-row-init : goal.loop-row-init
loop-row-init t c = parts.counting_begins (row_at c.args.table.now) c.args.header.count c.args.start c.requires.place

pub returns-in_err-row : goal.returns-in_err-row
returns-in_err-row t c =
    let p = err_from_is_err_and c.from_residual.result c.from_residual.ensures.1 in
    rw p.1 (sym (parts.counting_damaged _ _ c.loop-row.invariant (sym c.row_end.ensures ∙ c.in_err-row.was)))

pub rows_from-requires : goal.rows_from-requires
rows_from-requires t c =
    let is = row_so t (goal.at.rows_from-requires t c).In_ok-row in
    let falls = parts.side_falls _ _ c.loop-row.invariant is left c.if-row-ne-NONE.true in
    rw c.below.ensures (omega (arith, c.decreases), (c.requires.header, parts.side_some _ _ c.loop-row.invariant is left c.if-row-ne-NONE.true))

pub returns-in_err-rows : goal.returns-in_err-rows
returns-in_err-rows t c =
    let is = row_so t (goal.at.returns-in_err-rows t c).In_ok-row in
    let p = err_from_is_err_and c.from_residual-in_err-rows.result c.from_residual-in_err-rows.ensures.1 in
    rw p.1 (sym (parts.left_damaged _ _ c.loop-row.invariant is c.if-row-ne-NONE.true _ (sym (rw c.below.ensures at c.rows_from.ensures) ∙ c.in_err-rows.was)))

pub overflow_add-rows : goal.overflow_add-rows
overflow_add-rows t c =
    let is = row_so t (goal.at.overflow_add-rows t c).In_ok-row in
    let inv = c.loop-row.invariant in
    let few = parts.counted_few _ _ inv is (parts.lefts_some _ _ inv is c.if-row-ne-NONE.true _ (sym (rw c.below.ensures at c.rows_from.ensures) ∙ c.in_ok-rows.was)) in
    Fits-bits 64 tt (omega arith)

-- past the left link
lefts : (t : ℕ) (c : Joined-row-ne-NONE t) (is : row_end (row_at c.args.table.now) c.args.header.count c.loop-row.at ≡ Ok c.in_ok-row.row)
    → parts.Lefts (row_at c.args.table.now) c.args.header.count c.loop-row.invariant is c.if-row-ne-NONE.rows
lefts t c is =
    let inv = c.loop-row.invariant in
    elim c.if-row-ne-NONE.branch [
      | then-row-ne-NONE+in_ok-rows w ↦
          rw w.rows-is (parts.lefts_some _ _ inv is w.if-row-ne-NONE.true _ (sym (rw w.below.ensures at w.rows_from.ensures) ∙ w.in_ok-rows.was))
      | else-row-ne-NONE w ↦ rw w.rows-is (parts.lefts_none _ _ inv is w.if-row-ne-NONE.false)
    ]

pub overflow_add-rows-in-loop-row : goal.overflow_add-rows-in-loop-row
overflow_add-rows-in-loop-row t c =
    let at = goal.at.overflow_add-rows-in-loop-row t c in
    let is = row_so t at.In_ok-row in
    let few = parts.counted_few _ _ c.loop-row.invariant is (lefts t at.Joined-row-ne-NONE is) in
    Fits-bits 64 tt (omega arith)

pub returns-then-row-eq-NONE : goal.returns-then-row-eq-NONE
returns-then-row-eq-NONE t c =
    let at = goal.at.returns-then-row-eq-NONE t c in
    let is = row_so t at.In_ok-row in
    sym (parts.counting_ends _ _ c.loop-row.invariant is (lefts t at.Joined-row-ne-NONE is) c.if-row-eq-NONE.true)

pub loop-row-preserved : goal.loop-row-preserved
loop-row-preserved t c =
    let at = goal.at.loop-row-preserved t c in
    let is = row_so t at.In_ok-row in
    rw c.below-at.ensures (parts.counting_goes_on _ _ c.loop-row.invariant is (lefts t at.Joined-row-ne-NONE is) c.if-row-eq-NONE.false)
