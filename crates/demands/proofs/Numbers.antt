-- Laws of row numbers, for "the rows 0 to count−1, each once". A list of different numbers below n has at most n elements. If it has n, each
-- number below n is in it once. A tree with other row numbers, or without any, is otherwise the same.
use Prim.Native.Nat.{ℕ, zero, suc, ◌+◌, ◌≤◌, ◌<◌}
use mathlib.Core.Path.{◌≡◌, refl, ap, ap₂, ◌∙◌}
use mathlib.Core.Bool.{Bool, true, false, ◌&&◌}
use mathlib.Core.List.{List, [], ◌∷◌, map, map-append}
use mathlib.Core.Logic.{⊎_elim}
use native.Mathlib.Nat.{eq-or-lt_of_le, le_of_suc-le-suc, not-suc-le-zero}
use native.Mathlib.Omega.{arith}
use lib.Dec.{ltb, eqb}
use lib.ListN.{length, length-append}
use borrow.Author.Tests.{ltb-true, ltb-false, eqb-true, eqb-false, lt-ltb, le-ltb, ne_eqb}
use Rattle.std.specs.Prelude.{if◌then◌else◌}
use Rattle.ordered.specs.Dictionary.{Above, none_above, one_above, Increasing, none_increasing, one_increasing}
use Rattle.ordered.specs.Tree.{Tree, none, row, damaged, entries, size, intact, unnumbered}
use Rattle.ordered.proofs.Parts.{All, none_all, one_all}
use Rattle.demands.specs.Numbers.{numbers, often, renamed}

-- how many elements of a list are below n
abbrev total : ℕ → List ℕ → ℕ
total zero xs = 0
total (suc n) xs = often n xs + total n xs

abbrev pub once_below : ℕ → ℕ → ℕ
once_below n i = if ltb i n then 1 else 0

one : (n i : ℕ) → i < n → once_below n i ≡ 1
one n i h = rw lt-ltb

total_none : (n : ℕ) → total n [] ≡ 0
unfolding often
total_none zero = refl
total_none (suc n) = omega (arith, total_none n)

one_more : (n x : ℕ) → (if eqb n x then 1 else 0) + once_below n x ≡ once_below (suc n) x
one_more n x = by_cases (eqb n x) refl (ltb x n) refl
  where
    by_cases : (b : Bool) → eqb n x ≡ b → (c : Bool) → ltb x n ≡ c → (if b then 1 else 0) + (if c then 1 else 0) ≡ once_below (suc n) x
    by_cases true e true l = absurd (omega (arith, eqb-true n x e, ltb-true x n l))
    by_cases true e false l = rw (lt-ltb x (suc n) (omega (arith, eqb-true n x e)))
    by_cases false e true l = rw (lt-ltb x (suc n) (omega (arith, ltb-true x n l)))
    by_cases false e false l = rw (le-ltb x (suc n) (omega (arith, ltb-false x n l, eqb-false n x e)))

total_one : (n x : ℕ) (xs : List ℕ) → total n (x ∷ xs) ≡ once_below n x + total n xs
unfolding often
total_one zero x xs = rw (le-ltb x 0 (omega arith))
total_one (suc n) x xs = omega (arith, total_one n x xs, one_more n x)

total_length : (n : ℕ) {xs : List ℕ} → All (λ x. x < n) xs → total n xs ≡ length xs
total_length n none_all = total_none n
total_length n (one_all {x} {xs} h hs) = omega (arith, total_one n x xs, one n x h, total_length n hs)

never : (n : ℕ) {xs : List ℕ} → All (λ x. x < n) xs → (i : ℕ) → n ≤ i → often i xs ≡ 0
unfolding often
never n none_all i h = refl
never n (one_all {x} k ks) i h = rw (ne_eqb i x (λ e. omega arith), never n ks i h)

-- no number is in the list twice
module _ (xs : List ℕ) (no_more : (i : ℕ) → often i xs ≤ 1) where
  total_few : (n : ℕ) → total n xs ≤ n
  total_few zero = omega arith
  total_few (suc n) = omega (arith, no_more n, total_few n)

  total_full : (n : ℕ) → total n xs ≡ n → (i : ℕ) → i < n → often i xs ≡ 1
  total_full zero e i h = absurd (not-suc-le-zero h)
  total_full (suc n) e i h =
      ⊎_elim
      (λ same. rw same (omega (arith, no_more n, total_few n)))
      (λ less. total_full n (omega (arith, no_more n, total_few n)) i less)
      (eq-or-lt_of_le (le_of_suc-le-suc h))

  module _ (n : ℕ) (small : All (λ x. x < n) xs) where
    pub at_most : length xs ≤ n
    at_most = omega (arith, total_length n small, total_few n)

    -- n different numbers below n are the numbers below n, each once
    pub each_once : length xs ≡ n → (i : ℕ) → often i xs ≡ once_below n i
    each_once whole i = by_cases (ltb i n) refl
      where
        by_cases : (b : Bool) → ltb i n ≡ b → often i xs ≡ (if b then 1 else 0)
        by_cases true e = total_full n (omega (arith, total_length n small)) i (ltb-true i n e)
        by_cases false e = never n small i (ltb-false i n e)

-- if each number below n is in the list once, and no other, the list has n elements
pub number_of_all : (n : ℕ) {xs : List ℕ} → All (λ x. x < n) xs → ((i : ℕ) → often i xs ≡ once_below n i) → length xs ≡ n
number_of_all n {xs} small once = omega (arith, total_length n small, all_of_them n (λ i h. once i ∙ one n i h))
  where
    all_of_them : (m : ℕ) → ((i : ℕ) → i < m → often i xs ≡ 1) → total m xs ≡ m
    all_of_them zero h = refl
    all_of_them (suc m) h = omega (arith, h m (omega arith), all_of_them m (λ i k. h i (omega arith)))

-- numbers whose keys increase are different
module _ (key : ℕ → ℕ) where
  not_again : (x : ℕ) (xs : List ℕ) → Above (key x) (map key xs) → often x xs ≡ 0
  unfolding often
  not_again x [] none_above = refl
  not_again x (y ∷ ys) (one_above h a) = rw (ne_eqb x y (λ e. omega (arith, ap key e)), not_again x ys a)

  pub none_twice : (xs : List ℕ) → Increasing (map key xs) → (i : ℕ) → often i xs ≤ 1
  unfolding often
  none_twice [] none_increasing i = omega arith
  none_twice (x ∷ xs) (one_increasing a h) i = by_cases (eqb i x) refl (none_twice xs h i)
    where
      by_cases : (b : Bool) → eqb i x ≡ b → often i xs ≤ 1 → (if b then 1 else 0) + often i xs ≤ 1
      by_cases true e rest = omega (arith, ap (λ j. often j xs) (eqb-true i x e), not_again x xs a)
      by_cases false e rest = omega arith

pub numbers_length : (t : Tree) → length (numbers t) ≡ size t
unfolding numbers size
numbers_length none = refl
numbers_length (row i e l r) = ap suc (length-append (numbers l) (numbers r) ∙ ap₂ ◌+◌ (numbers_length l) (numbers_length r))
numbers_length damaged = refl

-- what stays the same if the row numbers are removed
pub intact_unnumbered : (t : Tree) → intact (unnumbered t) ≡ intact t
unfolding intact unnumbered
intact_unnumbered none = refl
intact_unnumbered (row i e l r) = ap₂ ◌&&◌ (intact_unnumbered l) (intact_unnumbered r)
intact_unnumbered damaged = refl

pub entries_unnumbered : (t : Tree) → entries (unnumbered t) ≡ entries t
unfolding entries unnumbered
entries_unnumbered none = refl
entries_unnumbered (row i e l r) = rw (entries_unnumbered l, entries_unnumbered r)
entries_unnumbered damaged = refl

-- what stays the same if the row numbers are changed
module _ (σ : ℕ → ℕ) where
  pub unnumbered_renamed : (t : Tree) → unnumbered (renamed σ t) ≡ unnumbered t
  unfolding unnumbered renamed
  unnumbered_renamed none = refl
  unnumbered_renamed (row i e l r) = ap₂ (row 0 e) (unnumbered_renamed l) (unnumbered_renamed r)
  unnumbered_renamed damaged = refl

  numbers_renamed : (t : Tree) → numbers (renamed σ t) ≡ map σ (numbers t)
  unfolding numbers renamed
  numbers_renamed none = refl
  numbers_renamed (row i e l r) = rw (numbers_renamed l, numbers_renamed r, map-append σ)
  numbers_renamed damaged = refl

pub renamed_same : (t : Tree) → renamed (λ i. i) t ≡ t
unfolding renamed
renamed_same none = refl
renamed_same (row i e l r) = ap₂ (row i e) (renamed_same l) (renamed_same r)
renamed_same damaged = refl
