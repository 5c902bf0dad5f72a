-- By the way of the word.
use Rattle.std.proofs.Common.{◌≡◌, refl, arith, Some, None, Ok}
use Rattle.pretree.specs.declared.Entry.{Entry}
use Rattle.pretree.specs.Table.{from_code}
use Rattle.pretree.specs.Seek.{row_of, WayEnds}
use Rattle.pretree.specs.Add.{add_outcome}
use Rattle.pretree.specs.Push.{end_bits, hook_of, Growable, grown_outcome, Displaces}
use Rattle.pretree.proofs.WordWay.{width_few, bits_fit, another}
use Rattle.pretree.proofs.Adding.{link_growable, link_outcome, there_outcome, row_used, displaces, add_refused}
use Rattle.pretree.proofs.Header.add.Goals as goal
use Rattle.pretree.proofs.Header.add.Goals.{In-None, In-Some, In-Some-2, Start}

-- what the call puts into the set
abbrev its : Start → Entry
its c = record { key = c.args.word; serial = c.args.serial }

-- the way ended at an empty link, or at a row
at_link : (c : In-None) → WayEnds c.args.self c.args.table.now c.args.word c.in-Ok.s (Ok None)
at_link c = rw c.in-None.is at c.in-Ok.ensures.0

at_row : (c : In-Some) → WayEnds c.args.self c.args.table.now c.args.word c.in-Ok.s (Ok (Some c.in-Some.row))
at_row c = rw c.in-Some.is at c.in-Ok.ensures.0

at_greater : (c : In-Some-2) → WayEnds c.args.self c.args.table.now c.args.word c.in-Ok.s (Ok (Some c.in-Some-2.row))
at_greater c = rw c.in-Some-2.is at c.in-Ok.ensures.0

pub grown-requires : goal.grown-requires
grown-requires c =
    let a = c.args in
    let s = c.in-Ok.s in
    let q = at_link (goal.at.grown-requires c).In-None in
    let g : Growable a.self a.table.now (row_of s) c.bits_of.result (end_bits c.leg.result) (hook_of c.leg.result a.self.width)
    = rw (c.bits_of.ensures, c.leg.ensures, q.ends.word) (link_growable a.self a.table.now (its (goal.at.grown-requires c).Start) q.fine q.small s q.ends) in
    record { header = q.fine; growable = g }

pub returns-in-None : goal.returns-in-None
returns-in-None c =
    let a = c.args in
    let s = c.in-Ok.s in
    let q = at_link (goal.at.returns-in-None c).In-None in
    let entry = its (goal.at.returns-in-None c).Start in
    let is : add_outcome a.self a.table.now (from_code entry) ≡ grown_outcome a.self a.table.now entry (row_of s) c.bits_of.result (end_bits c.leg.result) (hook_of c.leg.result a.self.width)
    = rw (c.bits_of.ensures, c.leg.ensures, q.ends.word) (link_outcome a.self a.table.now entry q.fine q.small s q.ends) in
    record { value = rw is c.grown.ensures.value; table_after = rw is c.grown.ensures.table_after }

pub put_serial-requires : goal.put_serial-requires
put_serial-requires c =
    let q = at_row (goal.at.put_serial-requires c).In-Some in
    row_used c.args.self c.args.table.now (its (goal.at.put_serial-requires c).Start) q.fine q.small c.in-Ok.s _ q.ends

pub overflow_sub-self : goal.overflow_sub-self
overflow_sub-self c = rw c.bits_of-in-Some.ensures (bits_fit c.in-Ok.ensures.0)

pub overflow_add-self : goal.overflow_add-self
overflow_add-self c = omega (arith, width_few c.in-Ok.ensures.0)

pub returns-in-Some : goal.returns-in-Some
returns-in-Some c =
    let q = at_row (goal.at.returns-in-Some c).In-Some in
    let is = there_outcome c.args.self c.args.table.now (its (goal.at.returns-in-Some c).Start) q.fine q.small c.in-Ok.s _ q.ends c.if-row-word.true in
    record { value = rw (is, c.answered.ensures, c.bits_of-in-Some.ensures); table_after = rw (is, c.put_serial.ensures) }

pub displaced-requires : goal.displaced-requires
displaced-requires c =
    let a = c.args in
    let q = at_greater (goal.at.displaced-requires c).In-Some-2 in
    let ends : Displaces a.self a.table.now a.word c.place.result c.in-Some-2.row
    = rw (c.place.ensures, q.ends.word) (displaces a.self a.table.now (its (goal.at.displaced-requires c).Start) q.fine q.small c.in-Ok.s _ q.ends (another _ _ c.in-Some.is c.in-Some-2.is c.if-row-word.false)) in
    record { header = q.fine; width = q.small; ends = ends }

pub returns-in-Err : goal.returns-in-Err
returns-in-Err c =
    rw (add_refused (its (goal.at.returns-in-Err c).Start) c.in-Err.ensures) (record { value = c.refused.ensures; table_after = refl })
