-- The shift loses no bit at a width of 32 or less.
use Prim.Native.Nat.{ℕ, ◌*◌, ◌%◌, ◌^◌}
use mathlib.Core.Path.{◌≡◌}
use native.Mathlib.Nat.{lt_of_lt_of_le}
use borrow.Author.Rules.{rules}
use lib.Pow.{pow_pos, ones_lt, pow_mono}
use mir.Facts.{Fits-bits}
use Rattle.pretree.proofs.Checks.{right_header, shifted}
use Rattle.pretree.proofs.table.Rows.root.Goals as goal
use Rattle.pretree.proofs.table.Rows.root.Goals.{Start}

one_shifted : (c : Start) → let w : ℕ = c.args.self.now.header.width in 1 * 2 ^ w % 2 ^ 64 ≡ 2 ^ w
one_shifted c = shifted c.args.self.now.header c.args.self.now.table.now (search rules)

pub overflow_sub-result : goal.overflow_sub-result
overflow_sub-result c = rw (one_shifted (goal.at.overflow_sub-result c).Start) (pow_pos c.args.self.now.header.width)

pub overflow_cast-result-2 : goal.overflow_cast-result-2
overflow_cast-result-2 c =
    let w : ℕ = c.args.self.now.header.width in
    let few = (right_header c.args.self.now.header c.args.self.now.table.now (search rules)).at_most_32 in
    rw (one_shifted (goal.at.overflow_cast-result-2 c).Start) (Fits-bits 32 tt (lt_of_lt_of_le (ones_lt w) (pow_mono few)))

pub returns : goal.returns
returns c = rw (one_shifted (goal.at.returns c).Start)
