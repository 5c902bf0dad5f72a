-- The mask decreases from row to row.
use Rattle.pretree.specs.Table.{row_at}
use Rattle.pretree.specs.Part.{part_at, rows_in}
use Rattle.pretree.proofs.Parts.{Counting}
use Rattle.pretree.proofs.whole.+rows_from.Given as goal

abbrev pub decreases-rows_from : goal.decreases-rows_from
decreases-rows_from l = l.start.mask

abbrev pub invariant-loop-row : goal.invariant-loop-row
invariant-loop-row l =
    Counting (row_at l.table) l.header.count (rows_in (part_at (row_at l.table) l.header.count l.fn.start)) l.fn.start.mask l.at l.rows

abbrev pub decreases-loop-row : goal.decreases-loop-row
decreases-loop-row l = l.at.mask
