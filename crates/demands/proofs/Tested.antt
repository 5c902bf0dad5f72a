-- The test that `audit` makes agrees with document 01: a table is sound when "the rows met from row 0 in the order row, left part, right part
-- are the rows 0 to count−1, each once, their keys strictly increase in that order", and so on.
use Prim.Native.Nat.{ℕ, suc, ◌+◌, ◌≤◌, ◌<◌}
use mathlib.Core.Path.{◌≡◌, refl, sym, ◌∙◌}
use mathlib.Core.Logic.{◌↔◌}
use mathlib.Core.Bool.{Bool, true, false}
use mathlib.Core.List.{List}
use native.Mathlib.Numerals.{add-two}
use native.Mathlib.Omega.{arith}
use lib.Dec.{eqb}
use lib.Pow.{pow_pos}
use borrow.Author.Tests.{eqb-true, eq-eqb}
use Rattle.std.specs.Prelude.{if◌then◌else◌}
use Rattle.ordered.specs.Tree.{Tree, none, size, intact}
use Rattle.ordered.specs.Proper.{Proper}
use Rattle.ordered.proofs.Parts.{All, none_all}
use Rattle.ordered.proofs.OneTree.{keys_rise}
use Rattle.pretree.specs.declared.Header.{Header}
use Rattle.pretree.specs.Table.{row_at}
use Rattle.pretree.specs.Unfold.{unfolded, shown}
use Rattle.pretree.specs.Sound.{met, SoundRows, rows_met, Sound, is_sound}
use Rattle.demands.specs.Numbers.{numbers, often}
use Rattle.demands.proofs.Numbers.{once_below, each_once, number_of_all, numbers_length}
use Rattle.demands.proofs.Unfolding.{both, none_proper, unfolded_proper, numbers_in_use, no_row_twice}
use Rattle.demands.proofs.Meeting.{met_in, keys_met, times_met, proper_in_place, met_shown, met_intact, sound_orderly}

module _ (h : Header) (table : List ℕ) where
  -- what holds of the empty tree and of the tree unfolded from row 0 holds of the tree that is shown
  pub shown_as : (P : Tree → Type 0) → P none → P (unfolded (row_at table) h.count h.width 0 0 0) → P (shown h table)
  unfolding shown
  shown_as P empty root = by_cases (eqb h.count 0)
    where
      by_cases : (b : Bool) → P (if b then none else unfolded (row_at table) h.count h.width 0 0 0)
      by_cases true = empty
      by_cases false = root

  -- the laws of Unfolding.antt for the whole tree that is shown
  module _ (undamaged : intact (shown h table) ≡ true) where
    pub shown_proper : Proper h.width 0 0 (shown h table)
    shown_proper =
        shown_as (λ t. intact t ≡ true → Proper h.width 0 0 t) (λ i. none_proper h.width 0 0)
        (unfolded_proper (row_at table) h.count h.width 0 0 0) undamaged

    shown_in_use : All (λ i. i < h.count) (numbers (shown h table))
    unfolding numbers
    shown_in_use =
        shown_as (λ t. intact t ≡ true → All (λ i. i < h.count) (numbers t)) (λ i. none_all)
        (numbers_in_use (row_at table) h.count h.width 0 0 0) undamaged

    pub shown_once : (i : ℕ) → often i (numbers (shown h table)) ≤ 1
    unfolding numbers often
    shown_once =
        shown_as (λ t. intact t ≡ true → (i : ℕ) → often i (numbers t) ≤ 1) (λ i j. omega arith)
        (no_row_twice (row_at table) h.count h.width 0 0 0) undamaged

    shown_met : rows_met h table ≡ met_in 0 0 (shown h table)
    unfolding shown met met_in
    shown_met = by_cases (eqb h.count 0) undamaged
      where
        root : Tree
        root = unfolded (row_at table) h.count h.width 0 0 0

        by_cases : (b : Bool) → intact (if b then none else root) ≡ true → met (row_at table) (if b then 0 else h.width + 2) 0 0 0 ≡ met_in 0 0 (if b then none else root)
        by_cases true u = refl
        by_cases false u = rw add-two (met_shown (row_at table) h.count h.width 0 0 0 0 u)

  -- the test asks for no damage, and as many rows as are in use
  pub test_passes : intact (shown h table) ≡ true → size (shown h table) ≡ h.count → is_sound h table ≡ true
  unfolding is_sound
  test_passes undamaged whole = rw (undamaged, eq-eqb (size (shown h table)) h.count whole)

  pub test_says : is_sound h table ≡ true → (intact (shown h table) ≡ true) × (size (shown h table) ≡ h.count)
  unfolding is_sound
  test_says passed =
      let b = both (intact (shown h table)) (eqb (size (shown h table)) h.count) passed in
      (b.0, eqb-true (size (shown h table)) h.count b.1)

  -- if the test passes, each row in use is in the tree once
  pub each_row_once : is_sound h table ≡ true → (i : ℕ) → often i (numbers (shown h table)) ≡ once_below h.count i
  each_row_once passed =
      let t : Tree = shown h table in
      let b = test_says passed in
      each_once (numbers t) (shown_once b.0) h.count (shown_in_use b.0) (numbers_length t ∙ b.1)

  -- a table that passes the test is sound
  sound_by_test : is_sound h table ≡ true → Sound h table
  unfolding Sound
  sound_by_test passed =
      let t : Tree = shown h table in
      let undamaged : intact t ≡ true = (test_says passed).0 in
      rw (shown_met undamaged) (record {
        each_once = λ i. times_met i 0 0 t ∙ each_row_once passed i;
        increase = rw keys_met (keys_rise h.width 0 0 t (shown_proper undamaged));
        in_place = proper_in_place h.width 0 h.width 0 0 t (omega arith) (pow_pos 0) (shown_proper undamaged);
      })

  sound_undamaged : Sound h table → intact (shown h table) ≡ true
  unfolding Sound shown intact
  sound_undamaged sound = by_cases (eqb h.count 0) sound
    where
      by_cases :
          (b : Bool) → SoundRows h.width h.count (met (row_at table) (if b then 0 else h.width + 2) 0 0 0)
          → intact (if b then none else unfolded (row_at table) h.count h.width 0 0 0) ≡ true
      by_cases true s = refl
      by_cases false s =
          met_intact (row_at table) h.count h.width h.width 0 0 0 0 (omega arith)
          (sound_orderly h.width h.count (met (row_at table) (suc (suc h.width)) 0 0 0) (rw add-two at s))

  -- a sound table passes the test
  test_of_sound : Sound h table → is_sound h table ≡ true
  unfolding Sound
  test_of_sound sound =
      let t : Tree = shown h table in
      let undamaged : intact t ≡ true = sound_undamaged sound in
      let met_once : SoundRows h.width h.count (met_in 0 0 t) = rw (shown_met undamaged) at sound in
      test_passes undamaged
      (sym (numbers_length t) ∙ number_of_all h.count (shown_in_use undamaged) (λ i. sym (times_met i 0 0 t) ∙ met_once.each_once i))

  pub sound_tested : Sound h table ↔ (is_sound h table ≡ true)
  sound_tested = (test_of_sound, sound_by_test)
