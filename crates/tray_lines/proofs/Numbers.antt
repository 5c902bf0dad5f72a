-- An answer number fits in a byte.
use Rattle.std.proofs.Common.{◌≤◌, Ok, Err, arith}
use Rattle.tray.specs.declared.Refusal.TheVariants.{WrongWidth, WordTooWide, Damage, NoSuchSeat, LowCutoff}
use Rattle.tray.specs.Verdict.{Verdict, number_of}

pub at_most_14 : (verdict : Verdict) → number_of verdict ≤ 14
at_most_14 (Ok alarms) = omega arith
at_most_14 (Err WrongWidth) = omega arith
at_most_14 (Err WordTooWide) = omega arith
at_most_14 (Err NoSuchSeat) = omega arith
at_most_14 (Err LowCutoff) = omega arith
at_most_14 (Err Damage) = omega arith
