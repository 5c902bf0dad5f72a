-- The mask decreases from row to row.
use Rattle.std.proofs.Common.{◌≡◌, length}
use Rattle.pretree.specs.Table.{capacity, row_at}
use Rattle.pretree.specs.Seek.{bits_left_by}
use Rattle.pretree.specs.Part.{row_tree}
use Rattle.pretree.proofs.Parts.{Writing}
use Rattle.pretree.proofs.whole.+row_listed.Given as goal

abbrev pub decreases-row_listed : goal.decreases-row_listed
decreases-row_listed l = l.bits

-- the row at which the call began has this tree in `writing`
abbrev pub invariant-loop-row : goal.invariant-loop-row
invariant-loop-row l =
    record {
      same : length l.buffer ≡ length l.initial.buffer;
      writing :
          Writing
          (row_at l.table)
          (capacity l.table)
          (row_tree (row_at l.table) (capacity l.table) (bits_left_by l.bits) l.from)
          l.initial.buffer
          l.start
          l.bits
          l.buffer
          l.row
          l.mask
          l.next;
    }

abbrev pub decreases-loop-row : goal.decreases-loop-row
decreases-loop-row l = l.mask
