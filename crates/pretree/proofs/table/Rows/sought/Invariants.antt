-- The loop keeps `OnSeek`: some walk of the word's way is where the seek is. The mask decreases.
use Prim.Native.Nat.{ℕ, ◌+◌, ◌*◌, ◌≤◌}
use mathlib.Core.Path.{◌≡◌}
use Rattle.pretree.specs.declared.Header.{Header}
use Rattle.pretree.specs.declared.seek.Seek.{Seek}
use Rattle.pretree.specs.Table.{row_words, capacity, row_at}
use Rattle.pretree.specs.Unfold.{shown}
use Rattle.pretree.specs.Seek.{rows_before, bits_left_by, OnSeek}
use Rattle.pretree.proofs.table.Rows.sought.Given as goal

-- the header that the seek began with
abbrev pub header : Seek → ℕ → Header
header s count = record { width = bits_left_by s.mask; count = count }

abbrev pub invariant-loop-table : goal.invariant-loop-table
invariant-loop-table l =
    let count : ℕ = rows_before l.past in
    (count ≤ capacity l.table)
    × (l.past + 3 ≡ row_words * count)
    × OnSeek (row_at l.table) (header l.initial.s count) (shown (header l.initial.s count) l.table) l.initial.s.word l.s

abbrev pub decreases-loop-table : goal.decreases-loop-table
decreases-loop-table l = l.s.mask
