-- What stands before the first tab, and what comes after it, as the two numbers.
use mathlib.Core.Path.{refl}
use Rattle.pretree.specs.declared.Call.TheVariants.{Add}
use Rattle.lines.proofs.Finding.{is_first}
use Rattle.lines.proofs.TwoNumbers.{two_parted}
use Rattle.lines.proofs.parse.add.Goals as goal

pub returns-in_err-word : goal.returns-in_err-word
returns-in_err-word c =
    let tab = is_first 9 c.args.rest.now c.in_ok-tab.ensures in
    rw (two_parted Add c.args.rest.now c.in_ok-tab.tab tab.0 tab.1, ← c.in_err-word.ensures) c.from_residual-in_err-word.ensures

pub returns-in_err-serial : goal.returns-in_err-serial
returns-in_err-serial c =
    let tab = is_first 9 c.args.rest.now c.in_ok-tab.ensures in
    rw (two_parted Add c.args.rest.now c.in_ok-tab.tab tab.0 tab.1, ← c.in_ok-word.ensures, ← c.in_err-serial.ensures) c.from_residual-in_err-serial.ensures

pub returns : goal.returns
returns c =
    let tab = is_first 9 c.args.rest.now c.in_ok-tab.ensures in
    rw (two_parted Add c.args.rest.now c.in_ok-tab.tab tab.0 tab.1, ← c.in_ok-word.ensures, ← c.in_ok-serial.ensures) refl
