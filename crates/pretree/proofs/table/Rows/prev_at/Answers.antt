-- By how the way ended, and by the last row that it passed.
use Rattle.std.proofs.Common.{ℕ, Ok, ◌+◌, ◌-◌}
use Prim.Native.Nat.{◌^◌, ◌≤◌, ◌<◌}
use mathlib.Core.Path.{◌≡◌, refl, sym, ap, ◌∙◌}
use native.Mathlib.Omega.{arith}
use borrow.Author.Rules.{rules}
use Rattle.pretree.specs.Table.{row_at}
use Rattle.pretree.specs.Seek.{above_of, bits_left_by, WayEnds}
use Rattle.pretree.specs.Prev.{rows_to, left_if_right}
use Rattle.pretree.specs.Walk.{Walk}
use Rattle.pretree.specs.Found.{GreatestFrom, greatest_by}
use Rattle.pretree.proofs.WordWay.{width_few, bits_fit}
use Rattle.pretree.proofs.Previous.{rows_to_few, rows_to_is, left_start, none_less, few_bits, small_mask, last_used, part_stands, last_is, left_of_last}
use Rattle.pretree.proofs.table.Rows.prev_at.Goals as goal
use Rattle.pretree.proofs.table.Rows.prev_at.Goals.{After-row_at-last, After-from, After-left_if_right, After-left_of}

pub overflow_sub-passed : goal.overflow_sub-passed
overflow_sub-passed c =
    let a = c.args in
    rw c.bits_of-bits.ensures
    (bits_fit c.requires.way)

-- the rows that the way read
few_read : (c : After-from) → c.args.self.now.header.width - c.bits_of-bits.result + c.from.result ≤ 33
few_read c = rw (c.from.ensures, c.is_some.ensures, rows_to_is) (rows_to_few c.args.row _ (omega (arith, width_few c.requires.way)))

pub overflow_add-rows : goal.overflow_add-rows
overflow_add-rows c = let few = few_read c in search rules

pub returns-then-passed-eq0 : goal.returns-then-passed-eq0
returns-then-passed-eq0 c =
    c.answered.ensures
    ∙ rw (c.from.ensures, c.is_some.ensures, rows_to_is, c.bits_of-bits.ensures)
    (none_less c.requires.way (rw c.bits_of-bits.ensures at c.if-passed-eq0.true))

pub row_at-last-requires : goal.row_at-last-requires
row_at-last-requires c =
    last_used c.requires.way (rw c.bits_of-bits.ensures at c.if-passed-eq0.false)

pub left_if_right-requires : goal.left_if_right-requires
left_if_right-requires c = record { few = rw c.bits_of-bits.ensures (few_bits c.requires.way (rw c.bits_of-bits.ensures at c.if-passed-eq0.false)) }

-- the left link of the last row that the way passed
looked : (c : After-left_if_right)
    → let a = c.args in
    c.left_if_right.result ≡ left_if_right a.s.word (bits_left_by a.s.mask) (row_at a.self.now.table.now (above_of a.s))
looked c =
    rw (c.row_at-last.ensures, c.bits_of-bits.ensures) at c.left_if_right.ensures

pub returns-then-left_if_right-eq-NONE : goal.returns-then-left_if_right-eq-NONE
returns-then-left_if_right-eq-NONE c =
    c.answered-then-left_if_right-eq-NONE.ensures
    ∙ rw (c.row_at-last.ensures, c.from.ensures, c.is_some.ensures, rows_to_is, c.bits_of-bits.ensures)
    (last_is c.requires.way (rw c.bits_of-bits.ensures at c.if-passed-eq0.false)
    (sym (looked (goal.at.returns-then-left_if_right-eq-NONE c).After-left_if_right) ∙ c.if-left_if_right-eq-NONE.true))

pub left_of-requires : goal.left_of-requires
left_of-requires c = record { few = small_mask c.requires.way (rw c.bits_of-bits.ensures at c.if-passed-eq0.false) }

-- a key is a word
narrow : (c : After-row_at-last) → (row_at c.args.self.now.table.now (above_of c.args.s)).entry.key < 2 ^ 32
narrow c = let small : c.row_at-last.result.entry.key < 2 ^ 32 = search rules in rw c.row_at-last.ensures at small

-- the walk that begins at the left part
starts : (c : After-left_of) → WayEnds c.args.self.now.header c.args.self.now.table.now c.args.s.word c.args.s (Ok c.args.row)
    → (row_at c.args.self.now.table.now (above_of c.args.s)).entry.key < 2 ^ 32 → GreatestFrom c.args.self.now.header c.left_of.result
starts c g small =
    let a = c.args in
    record {
      walk = left_start a.self.now.header.count (row_at a.self.now.table.now (above_of a.s)) (bits_left_by a.s.mask);
      stands =
          rw (c.left_of.ensures, c.row_at-last.ensures)
          (part_stands g (rw c.bits_of-bits.ensures at c.if-passed-eq0.false) small);
      same_count = refl;
    }

pub greatest-requires : goal.greatest-requires
greatest-requires c =
    let a = c.args in
    record { stands = starts (goal.at.greatest-requires c).After-left_of c.requires.way (narrow (goal.at.greatest-requires c).After-row_at-last); few = few_read (goal.at.greatest-requires c).After-from }

pub returns : goal.returns
unfolding starts
returns c =
    let a = c.args in
    let start : Walk = left_start a.self.now.header.count (row_at a.self.now.table.now (above_of a.s)) (bits_left_by a.s.mask) in
    let read : c.args.self.now.header.width - c.bits_of-bits.result + c.from.result ≡ rows_to a.row (a.self.now.header.width - bits_left_by a.s.mask) = rw (c.from.ensures, c.is_some.ensures, rows_to_is, c.bits_of-bits.ensures) in
    c.greatest.ensures (starts (goal.at.returns c).After-left_of c.requires.way (narrow (goal.at.returns c).After-row_at-last))
    ∙ ap (λ (n : ℕ). greatest_by a.self.now.header (row_at a.self.now.table.now) n start) read
    ∙ left_of_last c.requires.way (rw c.bits_of-bits.ensures at c.if-passed-eq0.false)
    (λ none. c.if-left_if_right-eq-NONE.false (looked (goal.at.returns c).After-left_if_right ∙ none))
