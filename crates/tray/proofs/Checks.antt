-- What is known of a counted sample, of a record that is not damaged, of a width that is not refused, and of a cutoff.
use Prim.Native.Nat.{ℕ, ◌≤◌, ◌<◌}
use mathlib.Core.Path.{◌≡◌}
use mathlib.Core.Bool.{Bool, true, false}
use native.Mathlib.Omega.{arith}
use lib.Dec.{leb}
use Rattle.std.proofs.lemmas.Bool.Decides.{nat_tests}
use Rattle.std.specs.Prelude.{is_ok}
use Rattle.tray.specs.declared.Seat.{Seat}
use Rattle.tray.specs.declared.Sample.{Sample}
use Rattle.tray.specs.Seat.{top, window, wrong_width, too_wide, low_cutoff, damaged, repeats, run_with, repetition_alarm, verdict}

pub at_most_32 : (width : ℕ) → wrong_width width ≡ false → width ≤ 32
unfolding wrong_width
at_most_32 width e = grind (arith, nat_tests)

-- A window has at least one sample, and at most 1,024.
pub window_bounds : (width : ℕ) → (0 < window width) × (window width ≤ 1024)
unfolding window
window_bounds width = grind (arith, nat_tests)

pub undamaged : (size : ℕ) (r : Seat) → damaged size r ≡ false → (r.place < size) × (r.count ≤ r.place)
unfolding damaged
undamaged size r e = grind (arith, nat_tests)

-- every check of `verdict`, passed
pub record Passed (present : Bool) (r : Seat) (s : Sample) : Type 0 where
  pub width : wrong_width s.width ≡ false
  pub word : too_wide s.width s.word ≡ false
  pub seat : present ≡ true
  pub cutoffs : low_cutoff s.repetition s.proportion ≡ false
  pub undamaged : damaged (window s.width) r ≡ false

-- A counted sample has passed them all. No other proof cites this.
pub passed : (present : Bool) (r : Seat) (s : Sample) → is_ok (verdict present r s) ≡ true → Passed present r s
unfolding verdict
passed present r s e = record {
  width = grind (arith, nat_tests);
  word = grind (arith, nat_tests);
  seat = grind (arith, nat_tests);
  cutoffs = grind (arith, nat_tests);
  undamaged = grind (arith, nat_tests);
}

-- A cutoff of 32 bits is at most the top. So a run at its top has reached every cutoff, and the run alone decides.
pub run_decides : (r : Seat) (cutoff word : ℕ) → cutoff ≤ top → leb cutoff (run_with r word) ≡ repetition_alarm r cutoff word
unfolding repetition_alarm run_with repeats
run_decides r cutoff word fits = grind (arith, nat_tests)
