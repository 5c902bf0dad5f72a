-- By how the way ended. One row further down the tail keeps only bits of the word.
use Rattle.std.proofs.Common.{◌≡◌, ◌∙◌, arith}
use native.Mathlib.Nat.{le_trans}
use lib.Bits.{and_le_l}
use borrow.Author.Rules.{rules}
use Rattle.pretree.specs.Table.{row_at}
use Rattle.pretree.specs.Next.{next_at}
use Rattle.pretree.proofs.WordWay.{width_few, bits_fit, tail_fits}
use Rattle.pretree.proofs.NextReply.{next_way, span_few}
use Rattle.pretree.proofs.table.Rows.next_at.Goals as goal

pub overflow_sub-passed : goal.overflow_sub-passed
overflow_sub-passed c = rw c.bits_of.ensures (bits_fit c.requires.way)

pub next_place-requires-clause-span : goal.next_place-requires-clause-span
next_place-requires-clause-span c = span_few c.requires.way

pub word_by-requires : goal.word_by-requires
word_by-requires c = record { few = omega (arith, width_few c.requires.way) }

pub returns-in-None : goal.returns-in-None
returns-in-None c =
    let a = c.args in
    let is : c.word_by.result ≡ next_at a.self.now.header (row_at a.self.now.table.now) a.s.word a.s a.row = search rules in
    is ∙ next_way c.requires.way

pub returns-then-s-key : goal.returns-then-s-key
returns-then-s-key c =
    let a = c.args in
    let is : c.answered.result ≡ next_at a.self.now.header (row_at a.self.now.table.now) a.s.word a.s a.row = search rules in
    is ∙ next_way c.requires.way

pub next_place-requires-in-Some-clause-tail : goal.next_place-requires-in-Some-clause-tail
next_place-requires-in-Some-clause-tail c = rw c.stepped-further.ensures (le_trans (and_le_l _ _) (tail_fits c.requires.way))

pub next_place-requires-in-Some-clause-span : goal.next_place-requires-in-Some-clause-span
next_place-requires-in-Some-clause-span c = let few = span_few c.requires.way in search rules

pub overflow_add-passed-in-Some : goal.overflow_add-passed-in-Some
overflow_add-passed-in-Some c = let few = width_few c.requires.way in search rules

pub word_by-requires-in-Some : goal.word_by-requires-in-Some
word_by-requires-in-Some c = record { few = omega (arith, width_few c.requires.way) }

pub returns-else-s-key : goal.returns-else-s-key
returns-else-s-key c =
    let a = c.args in
    let is : c.word_by-in-Some.result ≡ next_at a.self.now.header (row_at a.self.now.table.now) a.s.word a.s a.row = search rules in
    is ∙ next_way c.requires.way
