-- By the laws of the loop in Parts.antt.
use Rattle.std.proofs.Common.{◌≡◌, refl, ◌∙◌, ℕ, length, arith}
use Rattle.std.proofs.Math.ListN.{length-set}
use Rattle.ordered.specs.Word.{left, right}
use Rattle.pretree.specs.Table.{capacity, row_at}
use Rattle.pretree.proofs.Parts as parts
use Rattle.pretree.proofs.whole.+row_listed.Goals as goal
use Rattle.pretree.proofs.whole.+row_listed.Goals.{Joined-row-ne-NONE, then-row-ne-NONE, else-row-ne-NONE}

pub loop-row-init : goal.loop-row-init
loop-row-init t c =
    let a = c.args in
    record {
      same = refl;
      writing =
          rw c.row_at-row.ensures
          (parts.writing_begins (row_at a.table.now) (capacity a.table.now) a.bits a.from a.buffer.now a.start c.requires.row c.requires.part);
    }

-- there is room for the row's key
pub bounds-buffer-next : goal.bounds-buffer-next
bounds-buffer-next t c = parts.write_room _ _ c.loop-row.invariant.writing

pub row_listed-next-requires : goal.row_listed-next-requires
row_listed-next-requires t c =
    let inv = c.loop-row.invariant.writing in
    let some = c.if-row-ne-NONE.true in
    let less = parts.half_less _ _ inv left some in
    (omega (arith, c.decreases), (parts.side_standing _ _ inv left some, parts.left_listable _ _ inv some))

-- past the left link
left_written : (t : ℕ) (c : Joined-row-ne-NONE t)
    → parts.LeftWritten (row_at c.args.table.now) (capacity c.args.table.now) c.loop-row.invariant.writing c.if-row-ne-NONE.next c.if-row-ne-NONE.buffer
left_written t c =
    let inv = c.loop-row.invariant.writing in
    elim c.if-row-ne-NONE.branch [
      | then-row-ne-NONE w ↦
          let call = w.row_listed-next in
          rw (w.next-is, w.buffer-is) (parts.left_some _ _ inv w.if-row-ne-NONE.true call.result call.new.buffer call.ensures.end call.ensures.words)
      | else-row-ne-NONE w ↦ rw (w.next-is, w.buffer-is) (parts.left_none _ _ inv w.if-row-ne-NONE.false)
    ]

pub returns-then-row-eq-NONE-clause-end : goal.returns-then-row-eq-NONE-clause-end
returns-then-row-eq-NONE-clause-end t c =
    (parts.writing_ends _ _ c.loop-row.invariant.writing (left_written t (goal.at.returns-then-row-eq-NONE-clause-end t c).Joined-row-ne-NONE) c.if-row-eq-NONE.true).0

pub returns-then-row-eq-NONE-clause-words : goal.returns-then-row-eq-NONE-clause-words
returns-then-row-eq-NONE-clause-words t c =
    (parts.writing_ends _ _ c.loop-row.invariant.writing (left_written t (goal.at.returns-then-row-eq-NONE-clause-words t c).Joined-row-ne-NONE) c.if-row-eq-NONE.true).1

pub row_at-row-requires-in-loop-row : goal.row_at-row-requires-in-loop-row
row_at-row-requires-in-loop-row t c = (parts.side_standing _ _ c.loop-row.invariant.writing right c.if-row-eq-NONE.false).used

pub loop-row-preserved : goal.loop-row-preserved
loop-row-preserved t c =
    let inv = c.loop-row.invariant in
    let kept : length c.if-row-ne-NONE.buffer ≡ length c.loop-row.buffer
    = c.if-row-ne-NONE.auto.buffer ∙ length-set c.loop-row.buffer c.loop-row.next c.loop-row.row.entry.key in
    record {
      same = kept ∙ inv.same;
      writing =
          rw c.row_at-row-in-loop-row.ensures
          (parts.writing_goes_on _ _ inv.writing (left_written t (goal.at.loop-row-preserved t c).Joined-row-ne-NONE) c.if-row-eq-NONE.false kept);
    }
