use Rattle.std.proofs.Common.{rules, arith, ◌≡◌, ◌∙◌, sym, true}
use Rattle.numbers.specs.Decimal.{leads_with_zero}
use Rattle.numbers.proofs.Laws.{none_given, too_many, digits_more, zero_leads}
use Rattle.numbers.proofs.Loop.{at_other_byte, after_digit, ends, narrowed}
use Rattle.numbers.proofs.read_number.Goals as goal

pub returns-then-is_empty : goal.returns-then-is_empty
returns-then-is_empty c = let x = none_given c.args.digits.now (search rules) in rw x

pub returns-then-digits-gt10 : goal.returns-then-digits-gt10
returns-then-digits-gt10 c = rw (too_many c.args.digits.now (omega arith))

pub returns-then-digits-eq48 : goal.returns-then-digits-eq48
returns-then-digits-eq48 c =
    let ds = c.args.digits.now in
    let zero : leads_with_zero ds ≡ true = digits_more ds (omega arith) ∙ search rules in
    rw (zero_leads ds (omega arith) (omega arith) zero)

pub returns-then-not-is_ascii_digit : goal.returns-then-not-is_ascii_digit
returns-then-not-is_ascii_digit c = let x = at_other_byte c.loop-digit.invariant (omega (arith, c.loop-digit-test.true)) (sym c.if-not-is_ascii_digit.ensures.value) in rw x

pub loop-digit-preserved : goal.loop-digit-preserved
loop-digit-preserved c = let y = c.if-not-is_ascii_digit.ensures.cases in rw c.from.ensures (after_digit c.loop-digit.invariant c.loop-digit-test.true y.0 y.1)

pub returns : goal.returns
returns c =
    c.ok.ensures.value
    ∙ narrowed _ c.try_from.result c.try_from.ensures
    ∙ sym (ends c.loop-digit.invariant c.loop-digit-test.false)
