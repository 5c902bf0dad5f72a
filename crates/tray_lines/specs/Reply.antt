-- The fields of a reply line, its bytes, and the tray after a line. Both alarms are 0 with a refusal.
use Rattle.std.specs.Prelude.{ℕ, Bool, cond, List, [], ◌∷◌, ◌++◌, false, Option, Some, None, Ok, Err}
use Rattle.std.specs.Fmt.{decimal}
use Rattle.tray.specs.declared.Seat.{Seat}
use Rattle.tray.specs.declared.Sample.{Sample}
use Rattle.tray.specs.declared.Alarms.{Alarms}
use Rattle.tray.specs.Verdict.{Verdict, number_of}
use Rattle.tray.specs.Tray.{reply_to, tray_after}
use Rattle.tray.specs.Sequence.{Arrival, standard}
use Rattle.tray_lines.specs.declared.parse.Line.{Line}
use Rattle.tray_lines.specs.declared.answer.ReplyFields.{ReplyFields}

abbrev pub no_alarms : Alarms
no_alarms = record { repetition = false; proportion = false }

abbrev pub fields_of : Verdict → ReplyFields
fields_of (Ok alarms) = record { answer = number_of (Ok alarms); alarms = alarms }
fields_of (Err refusal) = record { answer = number_of (Err refusal); alarms = no_alarms }

abbrev pub not_read : ReplyFields
not_read = record { answer = 9; alarms = no_alarms }

-- the digit 0 or 1
abbrev pub alarm_byte : Bool → ℕ
alarm_byte alarm = cond alarm 49 48

-- A reply line as bytes: line number, answer number, repetition alarm and proportion alarm, with a byte 9 between two fields and a byte 10 at the end.
unfoldable pub reply_line : ℕ → ReplyFields → List ℕ
reply_line line fields =
    decimal line ++ 9 ∷ decimal fields.answer ++ 9 ∷ alarm_byte fields.alarms.repetition ∷ 9 ∷ alarm_byte fields.alarms.proportion ∷ 10 ∷ []

-- the sample of a line, with the width and the cutoffs of the program's arguments
abbrev pub sample_of : Sample → ℕ → Sample
sample_of settings word = record { width = settings.width; word = word; repetition = settings.repetition; proportion = settings.proportion }

-- A line that is not two numbers is answer 9, and changes nothing.
abbrev pub fields_on : List Seat → Option Line → Sample → ReplyFields
fields_on tray (Some line) settings = fields_of (reply_to tray line.seat (sample_of settings line.word))
fields_on tray None settings = not_read

abbrev pub tray_on : List Seat → Option Line → Sample → List Seat
tray_on tray (Some line) settings = tray_after tray line.seat (sample_of settings line.word)
tray_on tray None settings = tray

-- the replies to lines, one after the other
unfoldable pub replies : Sample → List Seat → List (Option Line) → List ReplyFields
replies settings tray [] = []
replies settings tray (line ∷ rest) = fields_on tray line settings ∷ replies settings (tray_on tray line settings) rest

-- what the standard replies to each line, in a tray of 64 seats, after the arrivals `before`
unfoldable pub standard_replies : Sample → List Arrival → List (Option Line) → List ReplyFields
standard_replies settings before [] = []
standard_replies settings before (Some line ∷ rest) =
    let a : Arrival = record { seat = line.seat; word = line.word } in
    fields_of (standard settings.width settings.repetition settings.proportion 64 before a) ∷ standard_replies settings (before ++ a ∷ []) rest
standard_replies settings before (None ∷ rest) = not_read ∷ standard_replies settings before rest
