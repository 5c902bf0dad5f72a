-- A line without a tab.
use Rattle.std.proofs.Common.{◌≡◌, ◌+◌, ◌≤◌, ℕ, List, [], length, Option, Some, None, refl, arith, drop_of_length-le}
use Rattle.std.proofs.lemmas.Bool.Decides.{nat_tests}
use Rattle.std.specs.Prelude.{position}
use Rattle.std.specs.List.{position_or_len, before_first, after_first}
use Rattle.numbers.specs.Decimal.{read_number}
use Rattle.numbers.proofs.Laws.{none_given}
use Rattle.tray_lines.specs.Line.{is_tab, joined, line_of}

no_second : (n : Option ℕ) → joined n None ≡ None
no_second (Some k) = refl
no_second None = refl

-- It has no second number, so it is not read.
pub no_tab : (line : List ℕ) → position is_tab line ≡ None → line_of line ≡ None
unfolding line_of
no_tab line none =
    let past : length line ≤ position_or_len is_tab line + 1 = grind (arith, nat_tests) in
    let nothing : read_number (after_first is_tab line) ≡ None = rw (drop_of_length-le line past) (none_given [] refl) in
    grind (arith, nothing, no_second (read_number (before_first is_tab line)))
