-- The counts of specs/Standard are those of the standard's loops, and its windows follow one another without gap or overlap. Assumes nothing.
use Prim.Native.Nat.{ℕ, ◌+◌, ◌-◌, ◌%◌, ◌≤◌, ◌<◌}
use mathlib.Core.Path.{◌≡◌, refl}
use mathlib.Core.List.{List, [], ◌∷◌, ◌++◌, append_assoc, append-nil}
use native.Mathlib.Omega.{arith}
use native.Mathlib.Nat.{mod-le, mod-eq_of_lt, add-mod_left, sub_self}
use lib.ListN.{length, length-append}
use lib.Seq.{drop-append-add}
use Rattle.std.proofs.lemmas.Bool.Decides.{nat_tests}
use Rattle.tray.specs.Standard.{ending_run, present_window, occurrences}
use Rattle.tray.specs.Procedure.{Counter, repetition_step, proportion_step, after_all, start_at}
use Rattle.tray.proofs.Windows.{eqb_same, ending_run_next}

-- ---- 4.4.1
-- From a counter that has the last sample as A and its run as B, the loop keeps it so.
repetition_from : (past : List ℕ) (k : ℕ) (c : Counter) → c.A ≡ k → c.B ≡ ending_run (past ++ k ∷ []) → (rest : List ℕ)
    → (after_all repetition_step c rest).B ≡ ending_run ((past ++ k ∷ []) ++ rest)
unfolding after_all
repetition_from past k c a b [] = rw (append-nil (past ++ k ∷ [])) b
repetition_from past k c a b (X ∷ rest) =
    let is_A : (repetition_step c X).A ≡ X = grind (arith, nat_tests) in
    let is_B : (repetition_step c X).B ≡ ending_run ((past ++ k ∷ []) ++ X ∷ []) = grind (arith, nat_tests, ending_run_next past k X) in
    rw (← append_assoc (past ++ k ∷ []) (X ∷ []) rest) (repetition_from (past ++ k ∷ []) X (repetition_step c X) is_A is_B rest)

-- Over any samples, B of the loop is the run of equal samples that ends them.
pub repetition_loop : (first : ℕ) (rest : List ℕ) → (after_all repetition_step (start_at first) rest).B ≡ ending_run (first ∷ rest)
unfolding ending_run
repetition_loop first rest = repetition_from [] first (start_at first) refl refl rest

-- ---- 4.4.2
proportion_from : (c : Counter) (rest : List ℕ) → (after_all proportion_step c rest).B ≡ c.B + occurrences c.A rest
unfolding after_all occurrences
proportion_from c [] = omega arith
proportion_from c (X ∷ rest) = grind (arith, proportion_from (proportion_step c X) rest)

-- Over the samples of a window, B of the loop is the count of its first sample among them.
pub proportion_loop : (first : ℕ) (rest : List ℕ) → (after_all proportion_step (start_at first) rest).B ≡ occurrences first (first ∷ rest)
unfolding occurrences
proportion_loop first rest = rw (eqb_same first) (omega (arith, proportion_from (start_at first) rest))

-- Samples that do not fill a window are the present window.
pub begun_window : (size : ℕ) (samples : List ℕ) → length samples < size → present_window size samples ≡ samples
unfolding present_window
begun_window size samples few = rw (mod-eq_of_lt few, sub_self (length samples))

-- After a full window a new one begins.
pub full_window : (size : ℕ) (full samples : List ℕ) → length full ≡ size → present_window size (full ++ samples) ≡ present_window size samples
unfolding present_window
full_window size full samples all =
    let long : length (full ++ samples) ≡ size + length samples = simp length-append (omega arith) in
    let rest : (size + length samples) % size ≡ length samples % size = add-mod_left size (length samples) in
    let few : length samples % size ≤ length samples = mod-le (length samples) size in
    let back : size + length samples - length samples % size ≡ length full + (length samples - length samples % size) = omega arith in
    rw (long, rest, back) (drop-append-add full samples (length samples - length samples % size))
