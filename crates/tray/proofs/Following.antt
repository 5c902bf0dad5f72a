-- A record follows its seat's samples if its fields are what the standard's procedures count over them. Then its alarms are the standard's, and with one
-- more sample counted it follows that too. Assumes nothing.
use Prim.Native.Nat.{ℕ, suc, ◌%◌, ◌≤◌, ◌<◌, min}
use mathlib.Core.Path.{◌≡◌, refl, sym, ap, ◌∙◌}
use mathlib.Core.Bool.{Bool, true, false, cond}
use mathlib.Core.List.{List, [], ◌∷◌, ◌++◌}
use native.Mathlib.Omega.{arith}
use native.Mathlib.Nat.{mod-lt}
use lib.Dec.{leb, eqb}
use Rattle.std.proofs.lemmas.Bool.Decides.{nat_tests}
use lib.ListN.{length, get_or}
use lib.Seq.{drop-nil}
use Rattle.tray.specs.declared.Seat.{Seat}
use Rattle.tray.specs.Seat.{fresh, top, repeats, run_with, repetition_alarm, is_window_word, window_word, count_with, proportion_alarm, counted, damaged}
use Rattle.tray.specs.Standard.{ending_run, repetition_test, present_window, occurrences, proportion_test}
use Rattle.tray.proofs.Checks.{run_decides}
use Rattle.tray.proofs.Windows.{length_snoc, ending_run_next, occurrences_snoc, occurrences_at_most, window_length, window_goes_on, window_ends}

-- The record's last three fields fit a window that has had the samples w.
pub record InWindow (w : List ℕ) (r : Seat) : Type 0 where
  pub place : r.place ≡ length w
  pub word : 0 < length w → r.word ≡ get_or w 0 0
  pub count : r.count ≡ occurrences (get_or w 0 0) w

-- The record follows the samples `past`. `next`: `repeats` says which words would make the last run longer.
pub record Follows (size : ℕ) (past : List ℕ) (r : Seat) : Type 0 where
  pub run : r.run ≡ min (ending_run past) top
  pub next : (k : ℕ) → ending_run (past ++ k ∷ []) ≡ cond (repeats r k) (suc (ending_run past)) 1
  pub window : InWindow (present_window size past) r

pub fresh_follows : (size : ℕ) → Follows size [] fresh
unfolding ending_run repeats present_window occurrences
fresh_follows size = record {
  run = refl;
  next = λ k. refl;
  window = record { place = rw drop-nil; word = rw drop-nil (λ h. omega arith); count = rw drop-nil };
}

-- the first sample of the window w and k
abbrev first : List ℕ → ℕ → ℕ
first w k = get_or (w ++ k ∷ []) 0 0

-- the record's fields for the window, with one more sample k
record OneMore (w : List ℕ) (r : Seat) (k : ℕ) : Type 0 where
  lifts : is_window_word r k ≡ eqb (first w k) k
  place : suc r.place ≡ length (w ++ k ∷ [])
  word : window_word r k ≡ first w k
  count : count_with r k ≡ occurrences (first w k) (w ++ k ∷ [])

one_more : (w : List ℕ) (r : Seat) (k : ℕ) → InWindow w r → OneMore w r k
unfolding is_window_word window_word count_with occurrences
one_more [] r k is = record {
  lifts = grind (arith, nat_tests);
  place = ap suc is.place;
  word = grind (arith, nat_tests);
  count = grind (arith, nat_tests);
}
one_more (x ∷ w) r k is =
    let word : r.word ≡ x = is.word (omega arith) in
    record {
      lifts = grind (arith, nat_tests);
      place = rw is.place (sym (length_snoc (x ∷ w) k));
      word = grind (arith, nat_tests);
      count = grind (arith, nat_tests, occurrences_snoc x (x ∷ w) k);
    }

leb_min : (c e : ℕ) → c ≤ top → leb c (min e top) ≡ leb c e
leb_min c e fits = grind (arith, nat_tests)

run_positive : (r : Seat) (k : ℕ) → 0 < run_with r k
unfolding run_with
run_positive r k = grind arith

-- Last word and run are the same whether the window ends or not.
counted_run : (size : ℕ) (r : Seat) (k : ℕ) → ((counted size r k).last ≡ k) × ((counted size r k).run ≡ run_with r k)
unfolding counted
counted_run size r k = grind arith

module _ (size : ℕ) (some_size : 0 < size) (past : List ℕ) (r : Seat) (follows : Follows size past r) where
  -- It is not damaged.
  pub is_undamaged : damaged size r ≡ false
  unfolding damaged
  is_undamaged =
      let w : List ℕ = present_window size past in
      grind (arith, nat_tests, window_length size past, mod-lt (length past) some_size, occurrences_at_most (get_or w 0 0) w)

  module _ (k : ℕ) where
    run_is : run_with r k ≡ min (ending_run (past ++ k ∷ [])) top
    unfolding run_with
    run_is = grind (arith, follows.next k)

    -- Its alarms are the standard's.
    pub repetition_is : (cutoff : ℕ) → cutoff ≤ top → repetition_alarm r cutoff k ≡ repetition_test cutoff past k
    unfolding repetition_test
    repetition_is cutoff fits = sym (run_decides r cutoff k fits) ∙ (rw run_is (leb_min cutoff (ending_run (past ++ k ∷ [])) fits))

    pub proportion_is : (cutoff : ℕ) → proportion_alarm r cutoff k ≡ proportion_test size cutoff past k
    unfolding proportion_alarm proportion_test
    proportion_is cutoff = let more = one_more (present_window size past) r k follows.window in rw (more.lifts, more.count)

    -- With one more sample counted it still follows.
    repeats_is : (j : ℕ) → repeats (counted size r k) j ≡ eqb k j
    unfolding repeats
    repeats_is j = grind (arith, nat_tests, counted_run size r k, run_positive r k)

    in_window : InWindow (present_window size (past ++ k ∷ [])) (counted size r k)
    unfolding counted occurrences
    in_window = by_cases (eqb (suc r.place) size) refl
      where
        by_cases : (t : Bool) → eqb (suc r.place) size ≡ t → InWindow (present_window size (past ++ k ∷ [])) (counted size r k)
        by_cases true t =
            let full : suc (length past % size) ≡ size = grind (arith, nat_tests, follows.window.place, window_length size past) in
            rw (t, window_ends size past k full) (record { place = refl; word = λ h. omega arith; count = refl })
        by_cases false t =
            let more = one_more (present_window size past) r k follows.window in
            let on : suc (length past % size) < size = grind (arith, nat_tests, follows.window.place, window_length size past, mod-lt (length past) some_size) in
            rw (t, window_goes_on size past k on) (record { place = more.place; word = λ h. more.word; count = more.count })

    pub follows_on : Follows size (past ++ k ∷ []) (counted size r k)
    follows_on = record { run = (counted_run size r k).1 ∙ run_is; next = λ j. rw (repeats_is j) (ending_run_next past k j); window = in_window }
