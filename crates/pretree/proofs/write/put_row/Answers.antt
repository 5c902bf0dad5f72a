-- The four words of the row, written at once.
use Prim.Native.Nat.{ℕ, ◌+◌, ◌*◌, ◌-◌, ◌≤◌}
use mathlib.Core.List.{List}
use mathlib.Core.Path.{◌≡◌, sym}
use native.Mathlib.Omega.{arith}
use lib.ListN.{length}
use lib.Seq.{drop-drop}
use Rattle.std.proofs.Common.{append_assoc}
use Rattle.std.proofs.lemmas.List.Edits.{sets-eq}
use Rattle.pretree.specs.Table.{row_words, capacity, with_row}
use Rattle.pretree.proofs.Rows.{row_as_words}
use Rattle.pretree.proofs.write.put_row.Goals as goal

pub returns : goal.returns
unfolding capacity with_row
returns c =
    let at = row_words * c.args.i in
    let room : at + 4 ≤ length c.args.table.now = omega arith in
    let four : at + 4 - at ≡ 4 = omega arith in
    let words : List ℕ = row_as_words c.args.row in
    rw (c.copy_from_slice.ensures.after, four) (sym (rw (append_assoc, ← drop-drop 4 at c.args.table.now) at (sets-eq words c.args.table.now at room)))
