-- The standard's counts, as the list of samples grows by one. Assumes nothing.
use Prim.Native.Nat.{ℕ, suc, ◌-◌, ◌%◌, ◌≤◌, ◌<◌}
use mathlib.Core.Path.{◌≡◌, refl, ap, ◌∙◌}
use mathlib.Core.Bool.{Bool, true, cond, ◌&&◌}
use mathlib.Core.List.{List, [], ◌∷◌, ◌++◌}
use native.Mathlib.Omega.{arith}
use native.Mathlib.Nat.{mod-le, suc-mod, mod-eq_of_lt, mod_self}
use lib.Dec.{eqb}
use lib.ListN.{length, length-append, length-drop, drop_of_length-le}
use lib.Seq.{drop-append-le}
use Rattle.std.proofs.lemmas.Bool.Decides.{nat_tests}
use Rattle.std.proofs.Math.Bool.{and-true}
use Rattle.tray.specs.Standard.{all_equal, ending_run, present_window, occurrences}

pub eqb_same : (n : ℕ) → eqb n n ≡ true
eqb_same n = grind (arith, nat_tests)

pub eqb_sym : (a b : ℕ) → eqb a b ≡ eqb b a
eqb_sym a b = grind (arith, nat_tests)

-- Two optional steps commute if the steps do.
pub steps_commute : {A : Type 0} (t u : Bool) (f g : A → A) (x : A) → f (g x) ≡ g (f x)
    → cond t (f (cond u (g x) x)) (cond u (g x) x) ≡ cond u (g (cond t (f x) x)) (cond t (f x) x)
steps_commute t u f g x commute = grind arith

all_equal_snoc : (a : ℕ) (xs : List ℕ) (k : ℕ) → all_equal a (xs ++ k ∷ []) ≡ (all_equal a xs && eqb k a)
all_equal_snoc a [] k = and-true (eqb k a)
all_equal_snoc a (x ∷ xs) k = grind (arith, all_equal_snoc a xs k)

-- If all of xs and k are a, then k is a.
last_equal : (a : ℕ) (xs : List ℕ) (k : ℕ) → all_equal a (xs ++ k ∷ []) ≡ true → k ≡ a
last_equal a xs k h = grind (arith, nat_tests, all_equal_snoc a xs k)

pub length_snoc : (xs : List ℕ) (k : ℕ) → length (xs ++ k ∷ []) ≡ suc (length xs)
length_snoc xs k = simp length-append (omega arith)

-- A sample that equals the one before it makes the run longer by 1. Any other sample starts a run of 1.
pub ending_run_next : (past : List ℕ) (k j : ℕ) → ending_run ((past ++ k ∷ []) ++ j ∷ []) ≡ cond (eqb k j) (suc (ending_run (past ++ k ∷ []))) 1
unfolding ending_run
ending_run_next [] k j = grind (arith, nat_tests)
ending_run_next (x ∷ xs) k j =
    grind (arith, nat_tests, all_equal_snoc x (xs ++ k ∷ []) j, all_equal_snoc x xs k, length_snoc (xs ++ k ∷ []) j, ending_run_next xs k j)

pub occurrences_snoc : (a : ℕ) (xs : List ℕ) (k : ℕ) → occurrences a (xs ++ k ∷ []) ≡ cond (eqb k a) (suc (occurrences a xs)) (occurrences a xs)
unfolding occurrences
occurrences_snoc a [] k = refl
occurrences_snoc a (x ∷ xs) k = rw (occurrences_snoc a xs k) (steps_commute (eqb x a) (eqb k a) suc suc (occurrences a xs) refl)

pub occurrences_at_most : (a : ℕ) (xs : List ℕ) → occurrences a xs ≤ length xs
unfolding occurrences
occurrences_at_most a [] = omega arith
occurrences_at_most a (x ∷ xs) = grind (arith, occurrences_at_most a xs)

-- The present window grows by a sample until it is full, and then a new one begins.
module _ (size : ℕ) (past : List ℕ) where
  pub window_length : length (present_window size past) ≡ length past % size
  unfolding present_window
  window_length = simp length-drop (omega (arith, mod-le (length past) size))

  module _ (k : ℕ) where
    pub window_goes_on : suc (length past % size) < size → present_window size (past ++ k ∷ []) ≡ present_window size past ++ k ∷ []
    unfolding present_window
    window_goes_on more =
        let rest : suc (length past) % size ≡ suc (length past % size) = suc-mod (length past) size ∙ mod-eq_of_lt more in
        let back : suc (length past) - suc (length past % size) ≡ length past - length past % size = omega arith in
        let within : length past - length past % size ≤ length past = omega arith in
        rw (length_snoc past k, rest, back) (drop-append-le (length past - length past % size) past (k ∷ []) within)

    pub window_ends : suc (length past % size) ≡ size → present_window size (past ++ k ∷ []) ≡ []
    unfolding present_window
    window_ends full =
        let rest : suc (length past) % size ≡ 0 = suc-mod (length past) size ∙ ap (λ (n : ℕ). n % size) full ∙ mod_self size in
        let all : length (past ++ k ∷ []) ≤ suc (length past) - 0 = omega (arith, length_snoc past k) in
        rw (length_snoc past k, rest) (drop_of_length-le (past ++ k ∷ []) all)
