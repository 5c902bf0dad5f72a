-- A sequence of samples to the seats of a tray, with one width and one pair of cutoffs: the answers of the calls, and the answers that the
-- standard's procedures give on each seat's samples alone.
-- Document 02, §6: "Show both over any sequence of samples to any seats of a fresh tray, with one width and one pair of cutoffs."
use Rattle.std.specs.Prelude.{ℕ, cond, not, ◌&&◌, List, [], ◌∷◌, ◌++◌, ltb, eqb, Ok, Err}
use Rattle.tray.specs.declared.Seat.{Seat}
use Rattle.tray.specs.declared.Sample.{Sample}
use Rattle.tray.specs.declared.Alarms.{Alarms}
use Rattle.tray.specs.Verdict.{Verdict}
use Rattle.tray.specs.declared.Refusal.TheVariants.{WrongWidth, WordTooWide, NoSuchSeat, LowCutoff}
use Rattle.tray.specs.Seat.{window, wrong_width, too_wide, low_cutoff}
use Rattle.tray.specs.Standard.{repetition_test, proportion_test}
use Rattle.tray.specs.Tray.{reply_to, tray_after}

-- a word that arrives at a seat
pub record Arrival : Type 0 where
  pub seat : ℕ
  pub word : ℕ

module _ (width repetition proportion : ℕ) where
  abbrev pub sample_of : Arrival → Sample
  sample_of a = record { width = width; word = a.word; repetition = repetition; proportion = proportion }

  -- the answers of the calls, each on the tray that the call before it left
  unfoldable pub replies : List Seat → List Arrival → List Verdict
  replies tray [] = []
  replies tray (a ∷ rest) = reply_to tray a.seat (sample_of a) ∷ replies (tray_after tray a.seat (sample_of a)) rest

  -- one seat's samples among all arrivals. A word of 2^W or more is refused, so it is no sample.
  unfoldable pub samples_of : ℕ → List Arrival → List ℕ
  samples_of seat [] = []
  samples_of seat (a ∷ rest) = cond (eqb a.seat seat && not (too_wide width a.word)) (a.word ∷ samples_of seat rest) (samples_of seat rest)

  -- the standard's alarms for a word after the samples `past` of its seat
  abbrev pub standard_alarms : List ℕ → ℕ → Alarms
  standard_alarms past word = record { repetition = repetition_test repetition past word; proportion = proportion_test (window width) proportion past word }

  -- The expected answer to an arrival in a tray of `size` records, after the arrivals `before` it: a refusal of the width, the word, the seat or the
  -- cutoffs, or the standard's alarms. No record is damaged.
  unfoldable pub standard : ℕ → List Arrival → Arrival → Verdict
  standard size before a =
      cond (wrong_width width) (Err WrongWidth)
      (cond (too_wide width a.word) (Err WordTooWide)
      (cond (ltb a.seat size && ltb a.seat 64)
      (cond (low_cutoff repetition proportion) (Err LowCutoff)
      (Ok (standard_alarms (samples_of a.seat before) a.word)))
      (Err NoSuchSeat)))

  -- the expected answers to several arrivals
  unfoldable pub standards : ℕ → List Arrival → List Arrival → List Verdict
  standards size before [] = []
  standards size before (a ∷ rest) = standard size before a ∷ standards size (before ++ a ∷ []) rest
