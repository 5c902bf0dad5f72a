-- Laws about lists: a number raised by one, occurrences, runs of one kind, the longest run, functions of the numbers below n. Assumes nothing.
use mathlib.Core.Path.{◌≡◌, refl, ap}
use mathlib.Core.Bool.{Bool, true, false, ◌&&◌}
use mathlib.Core.List.{List, [], ◌∷◌, ◌++◌}
use mathlib.Core.Logic.{◌⊎◌, inl, inr}
use Prim.Native.Nat.{ℕ, zero, suc, ◌+◌, ◌*◌, ◌≤◌, ◌<◌, max}
use native.Mathlib.Omega.{arith}
use native.Mathlib.Nat.{mul-le-mul}
use lib.ListN.{length, get_or, length-set}
use Rattle.powerup.specs.declared.Interval.{Interval}
use Rattle.powerup.specs.Verdicts.{within, all_within}
use Rattle.powerup.specs.Counts.{Run, run, sixteen, occurrences, is_of, how_many, longest}
use Rattle.std.specs.List.{zip, list_all}
use Rattle.std.proofs.lemmas.Bool.Decides.{nat_tests}
use Rattle.std.proofs.lemmas.Grind.{common_steps}
use Rattle.std.proofs.lemmas.List.Sums.{sum_by-cons}
use Rattle.powerup.specs.Steps.{Few, raised, place, dot, thirty_two}

pub either : (t : Bool) → (t ≡ true) ⊎ (t ≡ false)
either true = inl refl
either false = inr refl

-- P holds for each number below n, as a tuple. With numerals `omega` proves it by computation.
abbrev pub Each : (ℕ → Type 0) → ℕ → Type 0
Each P zero = Unit
Each P (suc n) = Each P n × P n

pub each : (P : ℕ → Type 0) (n : ℕ) → Each P n → (v : ℕ) → v < n → P v
each P zero e v h = absurd (omega arith)
each P (suc n) e v h = grind (arith, nat_tests, each P n e.0 v)

-- Raising one number keeps the length and the other numbers.
pub raised_length : (l : List ℕ) (i : ℕ) → length (raised l i) ≡ length l
unfolding raised
raised_length l i = length-set l i (get_or l i 0 + 1)

pub raised_few : (l : List ℕ) (i n : ℕ) → i < length l → Few l n → Few (raised l i) (suc n)
unfolding raised
raised_few l i n h few j = grind (arith, common_steps)

-- Runs of one kind are counted run by run, list by list, and are no more than the runs.
pub many_cons : (b k : ℕ) (r : Run) (rs : List Run) → how_many b k (r ∷ rs) ≡ how_many b k (r ∷ []) + how_many b k rs
unfolding how_many
many_cons b k r rs = grind (arith, nat_tests)

pub many_append : (b k : ℕ) (qs rs : List Run) → how_many b k (qs ++ rs) ≡ how_many b k qs + how_many b k rs
unfolding how_many
many_append b k [] rs = omega arith
many_append b k (q ∷ qs) rs = grind (arith, nat_tests, many_append b k qs rs)

pub many_most : (b k : ℕ) (rs : List Run) → how_many b k rs ≤ length rs
unfolding how_many
many_most b k [] = omega arith
many_most b k (r ∷ rs) = grind (arith, nat_tests, many_most b k rs)

pub longest_append : (qs rs : List Run) → longest (qs ++ rs) ≡ max (longest qs) (longest rs)
unfolding longest
longest_append [] rs = omega arith
longest_append (q ∷ qs) rs = omega (arith, longest_append qs rs)

-- The longest of a run, the runs qs after it and the runs rs after those; a was the longest before, i is the longest of qs.
pub longest_three :
    (a b n i : ℕ) (qs rs : List Run)
    → longest qs ≡ i
    → max (max i (max n a)) (longest rs) ≡ max a (longest (run b n ∷ qs ++ rs))
unfolding longest
longest_three a b n i qs rs e = omega (arith, longest_append qs rs)

-- Counting an ended run raises the number of its own kind and no other.
pub ended_raised :
    (l : List ℕ) → length l ≡ 14 → (c m b k : ℕ) → c < 2 → b < 2 → 0 < k → k ≤ 6
    → get_or (raised l (place c m)) (place b k) 0 ≡ get_or l (place b k) 0 + how_many b k (run c m ∷ [])
unfolding how_many is_of raised
ended_raised l size c m b k hc hb some most = grind (arith, nat_tests, common_steps)

-- Counting a number x that is read raises the number at x and no other.
pub met_raised : (l xs : List ℕ) (x p : ℕ) → x < length l → get_or (raised l x) p 0 + occurrences p xs ≡ get_or l p 0 + occurrences p (x ∷ xs)
unfolding occurrences raised
met_raised l xs x p h = grind (arith, nat_tests, common_steps)

-- Each number below 16, or below 32, occurs once.
pub once_16 : (v : ℕ) → v < 16 → occurrences v sixteen ≡ 1
unfolding occurrences
once_16 = each (λ v. occurrences v sixteen ≡ 1) 16 (omega arith)

pub once_32 : (v : ℕ) → v < 32 → occurrences v thirty_two ≡ 1
unfolding occurrences
once_32 = each (λ v. occurrences v thirty_two ≡ 1) 32 (omega arith)

-- A sum of products is the first product plus the others.
pub dot_none : (ws : List ℕ) → dot [] ws ≡ 0
unfolding dot
dot_none ws = refl

pub dot_cons : (x : ℕ) (xs : List ℕ) (w : ℕ) (ws : List ℕ) → dot (x ∷ xs) (w ∷ ws) ≡ x * w + dot xs ws
unfolding dot
dot_cons x xs w ws = sum_by-cons (λ (p : ℕ × ℕ). p.0 * p.1) (x, w) (zip xs ws)

dot_short : (xs : List ℕ) → dot xs [] ≡ 0
unfolding dot
dot_short [] = refl
dot_short (x ∷ xs) = refl

pub dot_most : (m n : ℕ) (xs ws : List ℕ) → Few xs m → Few ws n → dot xs ws ≤ length xs * (m * n)
dot_most m n [] ws f g = omega (arith, dot_none ws)
dot_most m n (x ∷ xs) [] f g = omega (arith, dot_short (x ∷ xs))
dot_most m n (x ∷ xs) (w ∷ ws) f g =
    omega (arith, dot_cons x xs w ws, mul-le-mul (f 0) (g 0), dot_most m n xs ws (λ i. f (suc i)) (λ i. g (suc i)))

-- Each count lies in the interval at its place if each pair of an interval and its count passes.
pub within_zip : (is : List Interval) (ns : List ℕ) → list_all (λ p. within p.0 p.1) (zip is ns) ≡ all_within is ns
unfolding all_within
within_zip [] ns = refl
within_zip (i ∷ is) [] = refl
within_zip (i ∷ is) (n ∷ ns) = ap (λ b. within i n && b) (within_zip is ns)
