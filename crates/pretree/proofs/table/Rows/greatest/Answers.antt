-- A walk goes with the leg, and the end of the walk gives the reply.
use mathlib.Core.Path.{◌∙◌}
use native.Mathlib.Omega.{arith}
use Rattle.pretree.proofs.Damaged.{mapped}
use Rattle.pretree.proofs.Found.{greatest_begun, fewer_bits, greatest_is}
use Rattle.pretree.proofs.table.Rows.greatest.Goals as goal

pub down-leg-requires : goal.down-leg-requires
down-leg-requires c =
    let a = c.args in
    record { begun = greatest_begun a.self.now.header a.self.now.table.now a.at c.requires.stands }

pub overflow_sub-rows : goal.overflow_sub-rows
overflow_sub-rows c =
    let a = c.args in
    omega (arith, c.bits_of-2.ensures, c.bits_of.ensures, fewer_bits a.self.now.header a.self.now.table.now a.at c.requires.stands c.down-leg.result c.down-leg.ensures)

pub returns : goal.returns
returns c =
    λ from.
    let a = c.args in
    c.word_by.ensures
    ∙ rw (c.bits_of-2.ensures, c.bits_of.ensures, mapped _ _ c.map-end.ensures.cases, c.row_end.ensures)
    (greatest_is a.self.now.header a.self.now.table.now a.at from c.down-leg.result c.down-leg.ensures a.rows)
