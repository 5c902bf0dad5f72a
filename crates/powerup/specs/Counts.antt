-- What is counted in any list of bits. The edition does not matter here. Document 02 §9: "Reply with all counts and four verdicts. Counting is shown
-- once; the editions differ in their numbers alone."
use Rattle.std.specs.Prelude.{ℕ, suc, ◌+◌, ◌*◌, min, max, Bool, cond, ◌&&◌, List, [], ◌∷◌, map, eqb}
use Rattle.powerup.specs.declared.RunCounts.{RunCounts}
use Rattle.powerup.specs.declared.Counts.{Counts}

-- how often a number occurs in a list
unfoldable pub occurrences : ℕ → List ℕ → ℕ
occurrences v [] = 0
occurrences v (x ∷ xs) = cond (eqb x v) (suc (occurrences v xs)) (occurrences v xs)

-- each four bits as a number, highest bit first; up to three bits left at the end are dropped
unfoldable pub half_bytes : List ℕ → List ℕ
half_bytes [] = []
half_bytes (a ∷ []) = []
half_bytes (a ∷ b ∷ []) = []
half_bytes (a ∷ b ∷ c ∷ []) = []
half_bytes (a ∷ b ∷ c ∷ d ∷ bs) = (8 * a + 4 * b + 2 * c + d) ∷ half_bytes bs

abbrev pub sixteen : List ℕ
sixteen = 0 ∷ 1 ∷ 2 ∷ 3 ∷ 4 ∷ 5 ∷ 6 ∷ 7 ∷ 8 ∷ 9 ∷ 10 ∷ 11 ∷ 12 ∷ 13 ∷ 14 ∷ 15 ∷ []

-- how often each half-byte occurs
unfoldable pub poker_counts : List ℕ → List ℕ
poker_counts bs = map (λ v. occurrences v (half_bytes bs)) sixteen

-- "the sixteen squared counts", added up
unfoldable pub sum_of_squares : List ℕ → ℕ
sum_of_squares [] = 0
sum_of_squares (c ∷ cs) = c * c + sum_of_squares cs

-- a run: the bit, and how often it is repeated
pub record Run : Type 0 where
  pub bit : ℕ
  pub len : ℕ

abbrev pub run : ℕ → ℕ → Run
run b n = record { bit = b; len = n }

-- the runs of n bits b followed by a list of bits
unfoldable pub runs_from : ℕ → ℕ → List ℕ → List Run
runs_from b n [] = run b n ∷ []
runs_from b n (c ∷ cs) = cond (eqb c b) (runs_from b (suc n) cs) (run b n ∷ runs_from c 1 cs)

-- the maximal runs, in order
unfoldable pub runs : List ℕ → List Run
runs [] = []
runs (b ∷ bs) = runs_from b 1 bs

-- whether a run has the bit b and the length k, where 6 means "6 or more"
unfoldable pub is_of : ℕ → ℕ → Run → Bool
is_of b k r = eqb r.bit b && eqb (min r.len 6) k

-- the number of such runs
unfoldable pub how_many : ℕ → ℕ → List Run → ℕ
how_many b k [] = 0
how_many b k (r ∷ rs) = cond (is_of b k r) (suc (how_many b k rs)) (how_many b k rs)

-- "runs of 1, 2, 3, 4, 5, and 6 or more"
abbrev pub sizes : List ℕ
sizes = 1 ∷ 2 ∷ 3 ∷ 4 ∷ 5 ∷ 6 ∷ []

unfoldable pub longest : List Run → ℕ
longest [] = 0
longest (r ∷ rs) = max r.len (longest rs)

-- "of zeros and of ones"
unfoldable pub run_counts : List Run → RunCounts
run_counts rs = record {
  zeros = map (λ k. how_many 0 k rs) sizes;
  ones = map (λ k. how_many 1 k rs) sizes;
  longest = longest rs;
}

-- all counts
unfoldable pub counts_of : List ℕ → Counts
counts_of bs = record {
  ones = occurrences 1 bs;
  poker = poker_counts bs;
  sum = sum_of_squares (poker_counts bs);
  runs = run_counts (runs bs);
}
