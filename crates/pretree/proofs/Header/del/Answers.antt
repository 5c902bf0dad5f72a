-- By the way of the word, and the answer 8 if it does not end at k.
use Rattle.std.proofs.Common.{refl, Some, Ok}
use Rattle.pretree.specs.Seek.{WayEnds}
use Rattle.pretree.proofs.WordWay.{bits_fit, another}
use Rattle.pretree.proofs.Erasing.{del_refused, seek_none, seek_other, row_of_key, key_there}
use Rattle.pretree.proofs.Header.del.Goals as goal
use Rattle.pretree.proofs.Header.del.Goals.{In-Some}

pub overflow_sub-passed : goal.overflow_sub-passed
overflow_sub-passed c = rw c.bits_of.ensures (bits_fit c.in-Ok.ensures.0)

pub returns-in-None : goal.returns-in-None
returns-in-None c =
    let outcome = seek_none (rw c.in-None.is at c.in-Ok.ensures.0) in
    rw (outcome, ← c.bits_of.ensures) (record { reply = c.answered-in-None.ensures; table = refl })

-- the way ended at a row
at_row : (c : In-Some) → WayEnds c.args.self c.args.table.now c.args.word c.in-Ok.s (Ok (Some c.in-Some.row))
at_row c = rw c.in-Some.is at c.in-Ok.ensures.0

pub erased-requires : goal.erased-requires
erased-requires c =
    let q = at_row (goal.at.erased-requires c).In-Some in
    rw (c.leg.ensures, q.ends.word, key_there q c.if-row-word.true) (record { header = q.fine; width = q.small; found = row_of_key q c.if-row-word.true })

pub returns-in-Some-2 : goal.returns-in-Some-2
returns-in-Some-2 c =
    let outcome = seek_other (rw c.in-Some-2.is at c.in-Ok.ensures.0) (another _ _ c.in-Some.is c.in-Some-2.is c.if-row-word.false) in
    rw (outcome, ← c.bits_of.ensures) (record { reply = c.answered.ensures; table = refl })

pub returns-in-Err : goal.returns-in-Err
returns-in-Err c = rw (del_refused c.in-Err.ensures) (record { reply = c.refused.ensures; table = refl })
