-- The promise of document 02, §6: over any sequence of samples to any seats of a fresh tray, with one width and one pair of cutoffs, each sample's alarms are
-- those of the standard's two procedures on that seat's samples alone. A cutoff is a number of 32 bits (`fits`). Assumes nothing.
-- The proof: every record follows its seat's samples (`AllFollow`). A fresh tray does (`all_fresh`), and each arrival keeps it so (`one`).
use Prim.Native.Nat.{ℕ, ◌≤◌, ◌<◌}
use mathlib.Core.Path.{◌≡◌, refl, sym, ap, ◌∙◌}
use mathlib.Core.Bool.{Bool, true, false, cond, not, ◌&&◌, true≢false}
use mathlib.Core.Logic.{◌≢◌}
use mathlib.Core.List.{List, [], ◌∷◌, ◌++◌}
use native.Mathlib.Omega.{arith}
use lib.Dec.{ltb, eqb}
use lib.ListN.{length, get_or, set, replicate, length-replicate, get_or-replicate}
use lib.Seq.{get_or-set_same, get_or-set_other}
use Rattle.tray.specs.declared.Seat.{Seat}
use Rattle.tray.specs.declared.Sample.{Sample}
use Rattle.std.specs.Prelude.{Ok, Err, is_ok}
use Rattle.tray.specs.declared.Refusal.{Refusal}
use Rattle.tray.specs.declared.Refusal.TheVariants.{WrongWidth, WordTooWide, NoSuchSeat, LowCutoff}
use Rattle.tray.specs.Seat.{fresh, top, window, wrong_width, too_wide, low_cutoff, counted, alarms, verdict, after}
use Rattle.tray.specs.Tray.{is_present, reply_to, tray_after}
use Rattle.tray.specs.Sequence.{Arrival, sample_of, replies, samples_of, standard, standards}
use Rattle.tray.proofs.Checks.{window_bounds}
use Rattle.std.proofs.Math.Bool.{and-false}
use Rattle.std.proofs.lemmas.Bool.Decides.{nat_tests}
use Rattle.tray.proofs.Following.{Follows, fresh_follows, is_undamaged, repetition_is, proportion_is, follows_on}
use Rattle.tray.proofs.Trays.{refusal_leaves, length_stays}
use Rattle.tray.proofs.Windows.{eqb_same, steps_commute}

-- a seat of a tray of `size` records
abbrev is_seat : ℕ → ℕ → Bool
is_seat size seat = ltb seat size && ltb seat 64

within_size : (seat size : ℕ) → is_seat size seat ≡ true → seat < size
within_size seat size is = grind (arith, nat_tests)

module _ (width repetition proportion : ℕ) (fits : repetition ≤ top) where
  abbrev samples : ℕ → List Arrival → List ℕ
  samples = samples_of width repetition proportion

  abbrev sample : Arrival → Sample
  sample = sample_of width repetition proportion

  -- Each record of the tray follows its seat's samples. With a refused width or cutoff nothing is counted, so nothing is asked of the records.
  pub record AllFollow (size : ℕ) (before : List Arrival) (tray : List Seat) : Type 0 where
    pub long : length tray ≡ size
    pub each : wrong_width width ≡ false → low_cutoff repetition proportion ≡ false → (seat : ℕ) → is_seat size seat ≡ true → Follows (window width) (samples seat before) (get_or tray seat fresh)

  abbrev is_sample_of : ℕ → Arrival → Bool
  is_sample_of seat a = eqb a.seat seat && not (too_wide width a.word)

  samples_snoc : (seat : ℕ) (before : List Arrival) (a : Arrival)
      → samples seat (before ++ a ∷ []) ≡ cond (is_sample_of seat a) (samples seat before ++ a.word ∷ []) (samples seat before)
  unfolding samples_of
  samples_snoc seat [] a = refl
  samples_snoc seat (b ∷ before) a =
      rw (samples_snoc seat before a)
      (steps_commute (is_sample_of seat b) (is_sample_of seat a) (λ (l : List ℕ). b.word ∷ l) (λ (l : List ℕ). l ++ a.word ∷ []) (samples seat before) refl)

  -- One arrival: the answer is the standard's, and the records still follow their seats' samples.
  module _ (size : ℕ) (before : List Arrival) (tray : List Seat) (follow : AllFollow size before tray) (a : Arrival) where
    pub record Correct : Type 0 where
      pub answers : reply_to tray a.seat (sample a) ≡ standard width repetition proportion size before a
      pub leaves : AllFollow size (before ++ a ∷ []) (tray_after tray a.seat (sample a))

    -- a refusal that changes no seat's samples
    refused : (t : Refusal) → reply_to tray a.seat (sample a) ≡ Err t → standard width repetition proportion size before a ≡ Err t
        → (wrong_width width ≡ false → low_cutoff repetition proportion ≡ false → (seat : ℕ) → is_seat size seat ≡ true → samples seat (before ++ a ∷ []) ≡ samples seat before) → Correct
    refused t e e' kept =
        let stays : tray_after tray a.seat (sample a) ≡ tray = refusal_leaves tray a.seat (sample a) (ap is_ok e) in
        record { answers = e ∙ sym e'; leaves = rw stays (record { long = follow.long; each = λ wide high seat is. rw (kept wide high seat is) (follow.each wide high seat is) }) }

    abbrev r : Seat
    r = get_or tray a.seat fresh

    -- an arrival that is counted
    module _ (right_width : wrong_width width ≡ false) (narrow : too_wide width a.word ≡ false) (seat_is : is_seat size a.seat ≡ true) (right_cutoffs : low_cutoff repetition proportion ≡ false) where
      its_record : Follows (window width) (samples a.seat before) r
      its_record = follow.each right_width right_cutoffs a.seat seat_is

      present : is_present tray a.seat ≡ true
      unfolding is_present
      present = rw follow.long seat_is

      answer : reply_to tray a.seat (sample a) ≡ Ok (alarms r (sample a))
      unfolding reply_to verdict
      answer = rw (right_width, narrow, present, right_cutoffs, is_undamaged (window width) (window_bounds width).0 (samples a.seat before) r its_record)

      tray_left : tray_after tray a.seat (sample a) ≡ set tray a.seat (counted (window width) r a.word)
      unfolding reply_to tray_after after
      tray_left = let is : is_ok (verdict (is_present tray a.seat) r (sample a)) ≡ true = ap is_ok answer in rw is

      still_follows : (seat : ℕ) → is_seat size seat ≡ true → Follows (window width) (samples seat (before ++ a ∷ [])) (get_or (set tray a.seat (counted (window width) r a.word)) seat fresh)
      still_follows seat is = by_cases (eqb a.seat seat) refl
        where
          by_cases : (t : Bool) → eqb a.seat seat ≡ t → Follows (window width) (samples seat (before ++ a ∷ [])) (get_or (set tray a.seat (counted (window width) r a.word)) seat fresh)
          by_cases true t =
              let equal : a.seat ≡ seat = grind (arith, nat_tests) in
              let within : a.seat < length tray = omega (arith, follow.long, within_size a.seat size seat_is) in
              rw (← equal, samples_snoc a.seat before a, eqb_same a.seat, narrow, get_or-set_same tray a.seat (counted (window width) r a.word) fresh within)
              (follows_on (window width) (window_bounds width).0 (samples a.seat before) r its_record a.word)
          by_cases false t =
              let other : seat ≢ a.seat = grind (arith, nat_tests) in
              rw (samples_snoc seat before a, t, get_or-set_other tray a.seat seat (counted (window width) r a.word) fresh other) (follow.each right_width right_cutoffs seat is)

      counted_correct : Correct
      unfolding standard
      counted_correct = record {
        answers = answer ∙ rw (
          right_width,
          narrow,
          seat_is,
          right_cutoffs,
          repetition_is (window width) (window_bounds width).0 (samples a.seat before) r its_record a.word repetition fits,
          proportion_is (window width) (window_bounds width).0 (samples a.seat before) r its_record a.word proportion,
        );
        leaves = record { long = length_stays tray a.seat (sample a) ∙ follow.long; each = λ wide high seat is. rw tray_left (still_follows seat is) };
      }

    pub one : Correct
    unfolding reply_to verdict standard is_present
    one = by_cases (wrong_width width) (too_wide width a.word) (is_seat size a.seat) (low_cutoff repetition proportion) refl refl refl refl
      where
        by_cases : (w t u l : Bool) → wrong_width width ≡ w → too_wide width a.word ≡ t → is_seat size a.seat ≡ u → low_cutoff repetition proportion ≡ l → Correct
        by_cases true t u l w e is low = refused WrongWidth (rw w) (rw w) (λ wide. absurd (true≢false (sym w ∙ wide)))
        by_cases false true u l w e is low =
            refused WordTooWide (rw (w, e)) (rw (w, e)) (λ wide high seat there. rw (samples_snoc seat before a, e, and-false (eqb a.seat seat)))
        by_cases false false false l w e is low =
            refused NoSuchSeat (rw (w, e, follow.long, is)) (rw (w, e, is)) (λ wide high seat there.
            let differs : eqb a.seat seat ≡ false = grind (arith, nat_tests) in
            rw (samples_snoc seat before a, differs))
        by_cases false false true true w e is low =
            refused LowCutoff (rw (w, e, follow.long, is, low)) (rw (w, e, is, low)) (λ wide high. absurd (true≢false (sym low ∙ high)))
        by_cases false false true false w e is low = counted_correct w e is low

  all_correct : (size : ℕ) (before : List Arrival) (tray : List Seat) → AllFollow size before tray → (arrivals : List Arrival)
      → replies width repetition proportion tray arrivals ≡ standards width repetition proportion size before arrivals
  unfolding replies standards
  all_correct size before tray follow [] = refl
  all_correct size before tray follow (a ∷ rest) =
      let now = one size before tray follow a in
      rw (now.answers, all_correct size (before ++ a ∷ []) (tray_after tray a.seat (sample a)) now.leaves rest)

  pub all_fresh : (size : ℕ) → AllFollow size [] (replicate size fresh)
  unfolding samples_of
  all_fresh size = record {
    long = length-replicate size fresh;
    each = λ wide high seat is. rw (get_or-replicate size seat fresh fresh (within_size seat size is)) (fresh_follows (window width));
  }

  -- THE PROMISE: on a fresh tray of any size the answers to any arrivals are the expected ones.
  pub alarms_are_the_standard's : (size : ℕ) (arrivals : List Arrival)
      → replies width repetition proportion (replicate size fresh) arrivals ≡ standards width repetition proportion size [] arrivals
  alarms_are_the_standard's size arrivals = all_correct size [] (replicate size fresh) (all_fresh size) arrivals
