-- The document's number for each verdict.
use Rattle.std.specs.Prelude.{ℕ, Result, Ok, Err}
use Rattle.tray.specs.declared.Alarms.{Alarms}
use Rattle.tray.specs.declared.Refusal.{Refusal}
use Rattle.tray.specs.declared.Refusal.TheVariants.{WrongWidth, WordTooWide, Damage, NoSuchSeat, LowCutoff}

-- the answer to a sample: both alarms, or a refusal
abbrev pub Verdict : Type 0
Verdict = Result Alarms Refusal

abbrev pub number_of : Verdict → ℕ
number_of (Ok alarms) = 0
number_of (Err WrongWidth) = 1
number_of (Err WordTooWide) = 3
number_of (Err NoSuchSeat) = 13
number_of (Err LowCutoff) = 14
number_of (Err Damage) = 4
