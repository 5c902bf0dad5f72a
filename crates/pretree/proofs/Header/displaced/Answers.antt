-- The row is passed, the push continues below it, and the end of the push decides the reply.
use mathlib.Core.Path.{◌≡◌, refl, sym, ◌∙◌}
use Rattle.ordered.specs.Way.{pushing}
use Rattle.pretree.specs.Table.{from_code, row_at}
use Rattle.pretree.specs.Walk.{stage_at}
use Rattle.pretree.specs.Leg.{below_place, link_end, passes_push, own_side, BegunLeg, LegStopped, damage}
use Rattle.pretree.specs.Add.{add_outcome}
use Rattle.pretree.specs.Push.{end_bits, hook_of, Growable, grown_outcome}
use Rattle.pretree.proofs.Damaged.{is_damage, not_damage}
use Rattle.pretree.proofs.Displacing.{begun_push, push_damaged, push_growable, push_outcome}
use Rattle.pretree.proofs.Header.displaced.Goals as goal
use Rattle.pretree.proofs.Header.displaced.Goals.{After-pushed-leg, Else-is_err}

pub pushed-leg-requires : goal.pushed-leg-requires
pushed-leg-requires c =
    let a = c.args in
    let begun : BegunLeg a.self.count stage_at (record { at = c.below.result; above = a.at.row })
    = rw (c.below.ensures, c.own_side.ensures)
    (begun_push a.self a.table.now a.entry a.at a.row c.requires.header c.requires.width c.requires.ends) in
    record { begun = begun }

-- the leg that went the push
went : (c : After-pushed-leg) → let a = c.args in
    LegStopped (row_at a.table.now) pushing a.self.count stage_at (passes_push (row_at a.table.now) a.self.count)
    (record { at = below_place a.at a.row (own_side a.at.mask a.row.entry.key); above = a.at.row })
    c.pushed-leg.result
went c = rw (c.below.ensures, c.own_side.ensures) at c.pushed-leg.ensures

pub returns-then-is_err : goal.returns-then-is_err
returns-then-is_err c =
    let a = c.args in
    rw (push_damaged a.self a.table.now a.entry a.at a.row c.requires.header c.requires.width c.requires.ends c.pushed-leg.result (went (goal.at.returns-then-is_err c).After-pushed-leg) (sym c.link_end-end.ensures ∙ is_damage _ (sym c.is_err.ensures.value ∙ c.if-is_err.true))) (record { value = c.refused.ensures; table_after = refl })

-- its end is not damage
whole : (c : Else-is_err) → let a = c.args in
    link_end (row_at a.table.now) a.self.count c.pushed-leg.result.at ≡ damage → ⊥
whole c damaged = not_damage _ (sym c.is_err.ensures.value ∙ c.if-is_err.false) (c.link_end-end.ensures ∙ damaged)

pub grown-requires : goal.grown-requires
grown-requires c =
    let a = c.args in
    let g : Growable a.self a.table.now a.at.row c.bits_of.result (end_bits c.pushed-leg.result) (hook_of c.pushed-leg.result a.self.width)
    = rw c.bits_of.ensures
    (push_growable a.self a.table.now a.entry a.at a.row c.requires.header c.requires.width c.requires.ends c.pushed-leg.result (went (goal.at.grown-requires c).After-pushed-leg) (whole (goal.at.grown-requires c).Else-is_err)) in
    record { header = c.requires.header; growable = g }

pub returns : goal.returns
returns c =
    let a = c.args in
    let leg = c.pushed-leg.result in
    let is : add_outcome a.self a.table.now (from_code a.entry)
    ≡ grown_outcome a.self a.table.now a.entry a.at.row c.bits_of.result (end_bits leg) (hook_of leg a.self.width)
    = rw c.bits_of.ensures
    (push_outcome a.self a.table.now a.entry a.at a.row c.requires.header c.requires.width c.requires.ends leg (went (goal.at.returns c).After-pushed-leg) (whole (goal.at.returns c).Else-is_err)) in
    record { value = rw is c.grown.ensures.value; table_after = rw is c.grown.ensures.table_after }
