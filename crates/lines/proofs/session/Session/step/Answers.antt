-- A part in which no line ends is held; a line that ends is answered from what is held of it.
use Prim.Native.Nat.{◌+◌}
use mathlib.Core.Path.{◌≡◌, refl, sym, ◌∙◌}
use mathlib.Core.List.{[]}
use native.Mathlib.Omega.{arith}
use borrow.Author.Tests.{eqb-true}
use lib.ListN.{take}
use Rattle.std.proofs.lemmas.List.{nil_from_length}
use Rattle.std.proofs.lemmas.List.{take_rest}
use Rattle.lines.proofs.Finding.{is_first}
use Rattle.lines.proofs.Gathering.{parse_whole, parse_gathered}
use Rattle.lines.proofs.Feeding.{part_advances, line_advances}
use Rattle.lines.proofs.session.Session.step.Goals as goal

pub returns-in_default : goal.returns-in_default
returns-in_default c = part_advances c.args.piece.now c.requires.some (omega (arith, is_first 10 c.args.piece.now c.in_default.ensures)) refl refl c.hold.ensures

pub returns-then-is_empty : goal.returns-then-is_empty
returns-then-is_empty c =
    let piece = c.args.piece.now in
    let line = take c.in-Some.end piece in
    let found = is_first 10 piece c.in-Some.ensures in
    let none : c.args.self.now.held.items ≡ [] = nil_from_length _ (eqb-true _ _ (sym c.is_empty.ensures ∙ c.if-is_empty.true)) in
    rw (take_rest piece (c.in-Some.end + 1))
    (line_advances piece line found.0 found.1 refl refl none (λ whole held. parse_whole whole held none line) c.answer.ensures)

pub returns : goal.returns
returns c =
    let piece = c.args.piece.now in
    let line = c.deref.result.now in
    let found = is_first 10 piece c.in-Some.ensures in
    rw (take_rest piece (c.in-Some.end + 1))
    (line_advances piece line found.0 found.1 refl refl c.take-line.ensures.after
    (λ whole held. rw (c.deref.ensures.0, c.take-line.ensures.value, c.hold-2.ensures) (parse_gathered whole held (take c.in-Some.end piece)))
    c.answer-2.ensures)
