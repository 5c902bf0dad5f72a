-- The stretch met damage, or it was judged and `filled` does the rest.
use mathlib.Core.Path.{◌≡◌, refl, sym, ◌∙◌}
use Rattle.pretree.specs.Table.{row_at}
use Rattle.pretree.specs.Leg.{row_end, damage}
use Rattle.pretree.proofs.Damaged.{is_damage, not_damage}
use Rattle.pretree.proofs.Erasing.{begun, few_bits, falls, damaged_below, judged_stretch, within, on_damage}
use Rattle.pretree.proofs.Header.erased.Goals as goal
use Rattle.pretree.proofs.Header.erased.Goals.{Else-is_err}

pub down-leg-requires : goal.down-leg-requires
down-leg-requires c = record { begun = begun c.requires.header c.requires.found }

pub returns-then-is_err : goal.returns-then-is_err
returns-then-is_err c =
    let a = c.args in
    let broken = damaged_below c.requires.header c.requires.found c.down-leg.ensures
    (sym c.row_end-end.ensures ∙ is_damage _ (sym c.is_err.ensures.value ∙ c.if-is_err.true)) in
    let outcome = on_damage a.self a.table.now _ c.requires.header c.requires.width broken in
    rw outcome (record { reply = c.refused.ensures; table = refl })

-- the leg ended at a row
whole : (c : Else-is_err) → row_end (row_at c.args.table.now) c.args.self.count c.down-leg.result.at ≡ damage → ⊥
whole c d = not_damage _ (sym c.is_err.ensures.value ∙ c.if-is_err.false) (c.row_end-end.ensures ∙ d)

pub overflow_sub-hole : goal.overflow_sub-hole
overflow_sub-hole c =
    rw (c.bits_of.ensures, c.bits_of-bits.ensures)
    (falls c.requires.header c.requires.found c.down-leg.ensures (whole (goal.at.overflow_sub-hole c).Else-is_err))

pub overflow_sub-hole-2 : goal.overflow_sub-hole-2
overflow_sub-hole-2 c = rw c.bits_of-bits.ensures (few_bits c.requires.header c.requires.found c.down-leg.ensures)

pub filled-requires-clause-judged : goal.filled-requires-clause-judged
filled-requires-clause-judged c =
    rw (c.hook_of.ensures, c.bits_of.ensures, c.bits_of-bits.ensures)
    (judged_stretch c.requires.header c.requires.found c.down-leg.ensures (whole (goal.at.filled-requires-clause-judged c).Else-is_err))

pub filled-requires-clause-within : goal.filled-requires-clause-within
filled-requires-clause-within c =
    rw (c.hook_of.ensures, c.bits_of.ensures, c.bits_of-bits.ensures)
    (within c.requires.header c.requires.found c.down-leg.ensures (whole (goal.at.filled-requires-clause-within c).Else-is_err))
