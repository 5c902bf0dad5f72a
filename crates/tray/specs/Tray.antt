-- The tray is a list of seat records. A sample changes its seat's record alone.
-- Document 02, §6: "A sample for one seat changes that seat's record alone." [..] "13 for a seat that isn't in the tray or is 64 or more".
use Rattle.std.specs.Prelude.{ℕ, ◌≡◌, Bool, ◌&&◌, List, ltb, length, get_or, set}
use Rattle.tray.specs.declared.Seat.{Seat}
use Rattle.tray.specs.declared.Sample.{Sample}
use Rattle.tray.specs.Verdict.{Verdict}
use Rattle.tray.specs.Seat.{fresh, verdict, after}

unfoldable pub is_present : List Seat → ℕ → Bool
is_present tray seat = ltb seat (length tray) && ltb seat 64

-- the answer to a sample for a seat
unfoldable pub reply_to : List Seat → ℕ → Sample → Verdict
reply_to tray seat s = verdict (is_present tray seat) (get_or tray seat fresh) s

-- The tray after the sample: that seat's record is replaced. Past the end of the tray `set` changes nothing.
unfoldable pub tray_after : List Seat → ℕ → Sample → List Seat
tray_after tray seat s = set tray seat (after (is_present tray seat) (get_or tray seat fresh) s)

-- what `take_sample` ensures
pub record Sampled (tray : List Seat) (seat : ℕ) (s : Sample) (left : List Seat) (answer : Verdict) : Type 0 where
  pub answers : answer ≡ reply_to tray seat s
  pub leaves : left ≡ tray_after tray seat s
