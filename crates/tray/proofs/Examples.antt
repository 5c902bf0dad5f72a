-- Tests by computation: records that no sequence of samples leaves, and the edges of a window and of a run. `alarms_are_the_standard's` covers every record
-- that samples leave, and the contract of `take_sample` every record. Assumes nothing.
use Prim.Native.Nat.{ℕ}
use mathlib.Core.Path.{◌≡◌, refl}
use mathlib.Core.Bool.{true, false}
use Rattle.tray.specs.declared.Seat.{Seat}
use Rattle.tray.specs.declared.Sample.{Sample}
use Rattle.std.specs.Prelude.{Ok, Err}
use Rattle.tray.specs.declared.Refusal.TheVariants.{Damage}
use Rattle.tray.specs.Seat.{fresh, top, window, repeats, run_with, repetition_alarm, is_window_word, window_word, count_with, proportion_alarm, counted, wrong_width, too_wide, low_cutoff, damaged, verdict, after}

-- a record with the last word 7, in a window of the word 7
abbrev seat : ℕ → ℕ → ℕ → Seat
seat run place count = record { last = 7; run = run; word = 7; place = place; count = count }

-- the word 7, with both cutoffs at 2
abbrev sevens : Sample
sevens = record { width = 8; word = 7; repetition = 2; proportion = 2 }

-- "whose place is the window's length or more"
pub place_is_the_length : verdict true (seat 1 512 1) sevens ≡ Err Damage
unfolding verdict wrong_width too_wide low_cutoff damaged window
place_is_the_length = refl

-- "or whose count is above its place"
pub count_above_place : verdict true (seat 1 3 4) sevens ≡ Err Damage
unfolding verdict wrong_width too_wide low_cutoff damaged window
count_above_place = refl

-- The last sample of a window alarms, and then the window is cleared.
pub last_of_a_window : verdict true (seat 1 511 5) sevens ≡ Ok (record { repetition = true; proportion = true })
unfolding verdict wrong_width too_wide low_cutoff damaged window repetition_alarm repeats run_with proportion_alarm is_window_word count_with
last_of_a_window = refl

pub window_cleared : after true (seat 1 511 5) sevens ≡ record { last = 7; run = 2; word = 0; place = 0; count = 0 }
unfolding after verdict wrong_width too_wide low_cutoff damaged window counted repetition_alarm repeats run_with proportion_alarm is_window_word count_with window_word
window_cleared = refl

-- A run at its top alarms at the highest cutoff, and stays there.
pub run_at_its_top : verdict true (seat top 1 1) (record { width = 8; word = 7; repetition = top; proportion = 3 }) ≡ Ok (record { repetition = true; proportion = false })
unfolding verdict wrong_width too_wide low_cutoff damaged window repetition_alarm repeats run_with proportion_alarm is_window_word count_with
run_at_its_top = refl

pub top_stays : run_with (seat top 1 1) 7 ≡ top
unfolding run_with repeats
top_stays = refl

-- The word 0 at a fresh seat begins a run and a window like any other word.
pub first_zero : after true fresh (record { width = 1; word = 0; repetition = 2; proportion = 2 }) ≡ record { last = 0; run = 1; word = 0; place = 1; count = 1 }
unfolding after verdict wrong_width too_wide low_cutoff damaged window counted repetition_alarm repeats run_with proportion_alarm is_window_word count_with window_word
first_zero = refl
