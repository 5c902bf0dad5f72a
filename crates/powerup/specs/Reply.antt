-- The reply to any bytes and any edition. Document 02 §9: "Input is 2,500 bytes [..]. Refusals: 16 for another length, 17 for an edition other than 1
-- or 2, in that order."
use Rattle.std.specs.Prelude.{ℕ, cond, false, List, eqb, length, replicate, Result, Ok, Err}
use Rattle.powerup.specs.declared.Refusal.{Refusal}
use Rattle.powerup.specs.declared.Refusal.TheVariants.{WrongLength, WrongEdition}
use Rattle.powerup.specs.declared.Limits.{Limits}
use Rattle.powerup.specs.declared.Counts.{Counts}
use Rattle.powerup.specs.declared.Report.{Report}
use Rattle.powerup.specs.Bits.{bits}
use Rattle.powerup.specs.Counts.{counts_of}
use Rattle.powerup.specs.Limits.{first_edition, second_edition}
use Rattle.powerup.specs.Verdicts.{verdicts_of}

-- an answer's number
abbrev pub number_of : Result Report Refusal → ℕ
number_of (Ok r) = 0
number_of (Err WrongLength) = 16
number_of (Err WrongEdition) = 17

abbrev pub refused : Refusal → Result Report Refusal
refused r = Err r

unfoldable pub judged : Limits → Counts → Report
judged l c = record { counts = c; verdicts = verdicts_of l c }

unfoldable pub reply_of : List ℕ → ℕ → Result Report Refusal
reply_of bytes edition =
    cond (eqb (length bytes) 2500)
    (cond (eqb edition 1) (Ok (judged first_edition (counts_of (bits bytes))))
    (cond (eqb edition 2) (Ok (judged second_edition (counts_of (bits bytes)))) (refused WrongEdition)))
    (refused WrongLength)

-- all counts are 0, and no verdict passes
unfoldable pub nothing : Report
nothing = record {
  counts = record {
    ones = 0;
    poker = replicate 16 0;
    sum = 0;
    runs = record { zeros = replicate 6 0; ones = replicate 6 0; longest = 0 };
  };
  verdicts = record { monobit = false; poker = false; runs = false; long = false };
}

-- what a reply shows
abbrev pub shown : Result Report Refusal → Report
shown (Ok r) = r
shown (Err e) = nothing
