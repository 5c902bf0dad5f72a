-- One seat's record: the answer to a sample, and the record after it. Cutoffs, words and counts are numbers.
-- Document 02, §6: "Each test's own alarm is raised at each sample that lifts the standard's count to the cutoff or past it, or repeats the
-- word of a run at its top, and at no other; counting goes on after it."
use Rattle.std.specs.Prelude.{ℕ, suc, ◌^◌, min, Bool, cond, ◌&&◌, ◌||◌, ltb, leb, eqb, Ok, Err, is_ok}
use Rattle.tray.specs.declared.Seat.{Seat}
use Rattle.tray.specs.declared.Sample.{Sample}
use Rattle.tray.specs.declared.Alarms.{Alarms}
use Rattle.tray.specs.declared.Refusal.TheVariants.{WrongWidth, WordTooWide, NoSuchSeat, LowCutoff, Damage}
use Rattle.tray.specs.Verdict.{Verdict}

-- "A fresh record is all zeros"
abbrev pub fresh : Seat
fresh = record { last = 0; run = 0; word = 0; place = 0; count = 0 }

-- "a run stays at 4,294,967,295 once it is there"
abbrev pub top : ℕ
top = 4294967295

-- "the proportion window is 1,024 samples for one-bit words and 512 for wider ones"
unfoldable pub window : ℕ → ℕ
window width = cond (eqb width 1) 1024 512

-- Whether the word repeats the last one. "a run of 0 means no sample yet".
unfoldable pub repeats : Seat → ℕ → Bool
repeats r word = ltb 0 r.run && eqb r.last word

-- the run with this word counted
unfoldable pub run_with : Seat → ℕ → ℕ
run_with r word = cond (repeats r word) (min (suc r.run) top) 1

unfoldable pub repetition_alarm : Seat → ℕ → ℕ → Bool
repetition_alarm r cutoff word = leb cutoff (run_with r word) || (repeats r word && eqb r.run top)

-- Whether the word is the window's word; a window's first word is. "The place is how many samples the present window has had".
unfoldable pub is_window_word : Seat → ℕ → Bool
is_window_word r word = eqb r.place 0 || eqb r.word word

unfoldable pub window_word : Seat → ℕ → ℕ
window_word r word = cond (eqb r.place 0) word r.word

-- the count of the window's word, with this word counted
unfoldable pub count_with : Seat → ℕ → ℕ
count_with r word = cond (is_window_word r word) (suc r.count) r.count

unfoldable pub proportion_alarm : Seat → ℕ → ℕ → Bool
proportion_alarm r cutoff word = is_window_word r word && leb cutoff (count_with r word)

-- The record with one more word counted. "after a window's last sample its word, place and count are 0"
unfoldable pub counted : ℕ → Seat → ℕ → Seat
counted size r word =
    cond (eqb (suc r.place) size)
    (record { last = word; run = run_with r word; word = 0; place = 0; count = 0 })
    (record { last = word; run = run_with r word; word = window_word r word; place = suc r.place; count = count_with r word })

-- "1 for a width of 0 or above 32"
unfoldable pub wrong_width : ℕ → Bool
wrong_width width = eqb width 0 || ltb 32 width

-- "3 for a word of 2^W or more"
unfoldable pub too_wide : ℕ → ℕ → Bool
too_wide width word = leb (2 ^ width) word

-- "14 for either cutoff below 2"
unfoldable pub low_cutoff : ℕ → ℕ → Bool
low_cutoff repetition proportion = ltb repetition 2 || ltb proportion 2

-- "4 for a seat record whose place is the window's length or more or whose count is above its place"
unfoldable pub damaged : ℕ → Seat → Bool
damaged size r = leb size r.place || ltb r.place r.count

-- the alarms of a sample that is counted
abbrev pub alarms : Seat → Sample → Alarms
alarms r s = record { repetition = repetition_alarm r s.repetition s.word; proportion = proportion_alarm r s.proportion s.word }

-- The answer to a sample. The order of the lines is the order of the refusals. `present` says whether the seat is in the tray and below 64; if
-- not, the record plays no part.
unfoldable pub verdict : Bool → Seat → Sample → Verdict
verdict present r s =
    cond (wrong_width s.width) (Err WrongWidth)
    (cond (too_wide s.width s.word) (Err WordTooWide)
    (cond present
    (cond (low_cutoff s.repetition s.proportion) (Err LowCutoff)
    (cond (damaged (window s.width) r) (Err Damage)
    (Ok (alarms r s))))
    (Err NoSuchSeat)))

-- The record after a sample. A refusal changes nothing.
unfoldable pub after : Bool → Seat → Sample → Seat
after present r s = cond (is_ok (verdict present r s)) (counted (window s.width) r s.word) r
