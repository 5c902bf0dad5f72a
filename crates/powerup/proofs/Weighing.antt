-- From a tally to the counts (`counts_right`). What depends on single half-bytes is a sum over the pairs: how often a pair occurs times its weight
-- (`weigh`). Also the bounds that the sums need. Assumes nothing.
use mathlib.Core.Path.{◌≡◌, refl, ap, sym, ◌∙◌}
use mathlib.Core.List.{List, [], ◌∷◌, ◌++◌, map}
use mathlib.Core.Logic.{⊎_elim}
use Prim.Native.Nat.{ℕ, suc, ◌+◌, ◌*◌, ◌/◌, ◌%◌, ◌≤◌, ◌<◌}
use native.Mathlib.Omega.{arith}
use borrow.Author.Tests.{eqb-true, eqb-false, eq-eqb, ne_eqb}
use lib.Dec.{eqb}
use lib.ListN.{length, get_or}
use Rattle.std.specs.List.{range_with_len}
use Rattle.std.proofs.lemmas.Bool.Decides.{nat_tests}
use Rattle.std.proofs.lemmas.Grind.{common_steps}
use Rattle.std.proofs.lemmas.List.FromFn.{fill_by_all, get_or-map-range_with_len, length-map-range_with_len}
use Rattle.powerup.specs.declared.count.Tally.{Tally}
use Rattle.powerup.specs.Bits.{bits}
use Rattle.powerup.specs.Counts.{Run, sizes, occurrences, half_bytes, poker_counts, sum_of_squares, runs_from, runs, is_of, how_many, longest, run_counts, counts_of}
use Rattle.powerup.specs.Steps.{Few, Small, Tallied, pair, place, half_bits, pairs_from, pairs_of, inner_runs, but_last, total, thirty_two, dot, poker_of, ones_at, inside_at, runs_in, counts_in}
use Rattle.powerup.proofs.Lists.{either, each, many_most, once_32, dot_none, dot_cons, dot_most}
use Rattle.powerup.proofs.Counting.{inner, byte_halves}

few_map : (f : ℕ → ℕ) (n k : ℕ) → ((v : ℕ) → v < k → f v ≤ n) → Few (map f (range_with_len 0 k)) n
few_map f n k h i = grind (arith, common_steps, h, get_or-map-range_with_len, length-map-range_with_len {X = ℕ})

-- If f is small, the pairs weighed by f have a sum that fits.
light_map : {t : Tally} → Small t → (f : ℕ → ℕ) → ((p : ℕ) → p < 32 → f p ≤ 4) → dot t.pairs (map f thirty_two) ≤ 640000
light_map {t} s f small = omega (arith, s.size, dot_most 5000 4 t.pairs (map f thirty_two) s.pairs (few_map f 4 32 small))

-- how many ones a pair's half-byte has
abbrev ones_of : ℕ → ℕ
ones_of p = occurrences 1 (half_bits (p % 16))

pub light_ones : {t : Tally} → Small t → dot t.pairs ones_at ≤ 640000
unfolding ones_at occurrences
light_ones s = light_map s ones_of (each (λ p. ones_of p ≤ 4) 32 (omega arith))

pub light_inside : {t : Tally} (b k : ℕ) → Small t → dot t.pairs (inside_at b k) ≤ 640000
unfolding inside_at inner_runs but_last runs_from
light_inside b k s =
    light_map s (inner b k)
    (λ p h. omega (arith, many_most b k (inner_runs p), each (λ p. length (inner_runs p) ≤ 3) 32 (omega arith) p h))

pub poker_few : (pairs : List ℕ) → Few pairs 5000 → Few (poker_of pairs) 10000
unfolding poker_of
poker_few pairs few = few_map (λ v. get_or pairs v 0 + get_or pairs (16 + v) 0) 10000 16 (λ v h. omega (arith, few v, few (16 + v)))

pub poker_size : (pairs : List ℕ) → length (poker_of pairs) ≡ 16
unfolding poker_of
poker_size pairs = refl

pub dot_self : (cs : List ℕ) → dot cs cs ≡ sum_of_squares cs
unfolding sum_of_squares
dot_self [] = dot_none []
dot_self (c ∷ cs) = dot_cons c cs c cs ∙ ap (λ (s : ℕ). c * c + s) (dot_self cs)

-- The squares of the poker counts have a sum that fits.
pub light_squares : (pairs : List ℕ) → Few pairs 5000 → dot (poker_of pairs) (poker_of pairs) ≤ 1600000000
light_squares pairs few =
    omega (arith, poker_size pairs, dot_most 10000 10000 (poker_of pairs) (poker_of pairs) (poker_few pairs few) (poker_few pairs few))

-- all numbers of a list are below n
abbrev pub Under : ℕ → List ℕ → Type 0
Under n [] = Unit
Under n (x ∷ xs) = (x < n) × Under n xs

-- The sum of f over a list of numbers below n: how often each number occurs, times f of it, added up over the numbers below n (`weigh`).
module _ (f : ℕ → ℕ) where
  weigh_none : (vs : List ℕ) → dot (map (λ p. occurrences p []) vs) (map f vs) ≡ 0
  unfolding occurrences
  weigh_none [] = dot_none []
  weigh_none (v ∷ vs) = omega (arith, dot_cons 0 (map (λ p. occurrences p []) vs) (f v) (map f vs), weigh_none vs)

  weigh_one :
      (x : ℕ) (xs vs : List ℕ)
      → dot (map (λ p. occurrences p (x ∷ xs)) vs) (map f vs) ≡ occurrences x vs * f x + dot (map (λ p. occurrences p xs) vs) (map f vs)
  unfolding occurrences
  weigh_one x xs [] = omega (arith, dot_none [])
  weigh_one x xs (v ∷ vs) =
      let all = dot_cons (occurrences v (x ∷ xs)) (map (λ p. occurrences p (x ∷ xs)) vs) (f v) (map f vs) in
      let rest = dot_cons (occurrences v xs) (map (λ p. occurrences p xs) vs) (f v) (map f vs) in
      ⊎_elim
      (λ t.
      let q : x ≡ v = eqb-true x v t in
      let first : occurrences v (x ∷ xs) ≡ suc (occurrences v xs) = rw t in
      let second : occurrences x (v ∷ vs) ≡ suc (occurrences x vs) = rw (eq-eqb v x (sym q)) in
      omega (arith, ap (λ (m : ℕ). m * f v) first, ap (λ (m : ℕ). m * f x) second, ap f q, weigh_one x xs vs))
      (λ n.
      let first : occurrences v (x ∷ xs) ≡ occurrences v xs = rw n in
      let second : occurrences x (v ∷ vs) ≡ occurrences x vs = rw (ne_eqb v x (λ q. eqb-false x v n (sym q))) in
      omega (arith, ap (λ (m : ℕ). m * f v) first, ap (λ (m : ℕ). m * f x) second, weigh_one x xs vs)) (either (eqb x v))

  pub weigh :
      (ns : List ℕ) (n : ℕ) → ((v : ℕ) → v < n → occurrences v ns ≡ 1) → (xs : List ℕ) → Under n xs
      → dot (map (λ v. occurrences v xs) ns) (map f ns) ≡ total f xs
  unfolding total
  weigh ns n once [] u = weigh_none ns
  weigh ns n once (x ∷ xs) u =
      omega (arith, weigh_one x xs ns, ap (λ (n : ℕ). n * f x) (once x u.0), weigh ns n once xs u.1)

  total_zero : (ps : List ℕ) → Under 32 ps → ((p : ℕ) → p < 32 → f p ≡ 0) → total f ps ≡ 0
  unfolding total
  total_zero [] u z = refl
  total_zero (p ∷ ps) u z = omega (arith, z p u.0, total_zero ps u.1 z)

-- The half-bytes of bytes are the two halves of each byte, in order.
half_bytes_of : (b : ℕ) (bytes : List ℕ) → half_bytes (bits (b ∷ bytes)) ≡ b / 16 % 16 ∷ b % 16 ∷ half_bytes (bits bytes)
unfolding bits half_bytes
half_bytes_of b bytes = grind arith

no_half_bytes : half_bytes (bits []) ≡ []
unfolding bits half_bytes
no_half_bytes = refl

pub halves_under : (bytes : List ℕ) → Under 16 (half_bytes (bits bytes))
halves_under [] = rw no_half_bytes tt
halves_under (b ∷ bytes) = rw (half_bytes_of b bytes) (omega arith, (omega arith, halves_under bytes))

pub halves_length : (bytes : List ℕ) → length (half_bytes (bits bytes)) ≡ 2 * length bytes
halves_length [] = rw no_half_bytes
halves_length (b ∷ bytes) = rw (half_bytes_of b bytes) (omega (arith, halves_length bytes))

pairs_under : (x : ℕ) → x < 2 → (vs : List ℕ) → Under 16 vs → Under 32 (pairs_from x vs)
unfolding pairs_from
pairs_under x h [] u = tt
pairs_under x h (v ∷ vs) u = (omega (arith, u.0), pairs_under (v % 2) (omega arith) vs u.1)

occurrences_append : (v : ℕ) (xs ys : List ℕ) → occurrences v (xs ++ ys) ≡ occurrences v xs + occurrences v ys
unfolding occurrences
occurrences_append v [] ys = omega arith
occurrences_append v (x ∷ xs) ys = grind (arith, nat_tests, occurrences_append v xs ys)

ones_of_byte : (b : ℕ) (bytes : List ℕ) → occurrences 1 (bits (b ∷ bytes)) ≡ occurrences 1 (half_bits (b / 16 % 16)) + (occurrences 1 (half_bits (b % 16)) + occurrences 1 (bits bytes))
unfolding bits
ones_of_byte b bytes =
    ap (occurrences 1) (byte_halves b (bits bytes))
    ∙ occurrences_append 1 (half_bits (b / 16 % 16)) (half_bits (b % 16) ++ bits bytes)
    ∙ ap (λ (n : ℕ). occurrences 1 (half_bits (b / 16 % 16)) + n) (occurrences_append 1 (half_bits (b % 16)) (bits bytes))

ones_of_pair : (x v : ℕ) → v < 16 → ones_of (pair x v) ≡ occurrences 1 (half_bits v)
ones_of_pair x v h = let q : pair x v % 16 ≡ v = omega arith in ap (λ (n : ℕ). occurrences 1 (half_bits n)) q

no_ones : 0 ≡ occurrences 1 (bits [])
unfolding bits occurrences
no_ones = refl

ones_total : (x : ℕ) (bytes : List ℕ) → total ones_of (pairs_from x (half_bytes (bits bytes))) ≡ occurrences 1 (bits bytes)
unfolding pairs_from total
ones_total x [] = rw no_half_bytes no_ones
ones_total x (b ∷ bytes) =
    rw (half_bytes_of b bytes)
    (omega (
      arith,
      ones_of_byte b bytes,
      ones_of_pair x (b / 16 % 16) (omega arith),
      ones_of_pair (b / 16 % 16 % 2) (b % 16) (omega arith),
      ones_total (b % 16 % 2) bytes,
    ))

-- A half-byte occurs as often as its two pairs together: after a zero and after a one.
poker_total :
    (x : ℕ) → x < 2 → (vs : List ℕ) → Under 16 vs → (v : ℕ) → v < 16
    → occurrences v (pairs_from x vs) + occurrences (16 + v) (pairs_from x vs) ≡ occurrences v vs
unfolding pairs_from occurrences
poker_total x hx [] u v hv = refl
poker_total x hx (h ∷ vs) u v hv = grind (arith, nat_tests, poker_total (h % 2) (omega arith) vs u.1 v hv)

-- No run of four or more lies inside a half-byte.
short : (p : ℕ) → p < 32 → longest (inner_runs p) ≤ 3
unfolding inner_runs but_last runs_from longest
short = each (λ p. longest (inner_runs p) ≤ 3) 32 (omega arith)

none_longer : (b k : ℕ) (rs : List Run) → longest rs < k → k ≤ 6 → how_many b k rs ≡ 0
unfolding how_many is_of longest
none_longer b k [] h most = refl
none_longer b k (r ∷ rs) h most = grind (arith, nat_tests, none_longer b k rs)

-- The counts that follow from the tally of a block are the block's counts.
module _ (bytes : List ℕ) (t : Tally) (done : Tallied (bits bytes) t) where
  pairs_below : Under 32 (pairs_of (bits bytes))
  pairs_below = pairs_under 0 (omega arith) (half_bytes (bits bytes)) (halves_under bytes)

  weighed : (f : ℕ → ℕ) → dot t.pairs (map f thirty_two) ≡ total f (pairs_of (bits bytes))
  weighed f = rw done.pairs (weigh f thirty_two 32 once_32 (pairs_of (bits bytes)) pairs_below)

  ones_right : dot t.pairs ones_at ≡ occurrences 1 (bits bytes)
  unfolding ones_at
  ones_right = weighed ones_of ∙ ones_total 0 bytes

  poker_right : poker_of t.pairs ≡ poker_counts (bits bytes)
  unfolding poker_of poker_counts
  poker_right =
      let ps = pairs_of (bits bytes) in
      fill_by_all (λ v. occurrences v (half_bytes (bits bytes))) (poker_of t.pairs) 16 0 refl
      (λ v h.
      let low : get_or t.pairs v 0 ≡ occurrences v (pairs_of (bits bytes)) = rw done.pairs (get_or-map-range_with_len (λ p. occurrences p (pairs_of (bits bytes))) 0 32 v v 0 (omega arith) (omega arith)) in
      let high : get_or t.pairs (16 + v) 0 ≡ occurrences (16 + v) (pairs_of (bits bytes)) = rw done.pairs (get_or-map-range_with_len (λ p. occurrences p (pairs_of (bits bytes))) 0 32 (16 + v) (16 + v) 0 (omega arith) (omega arith)) in
      get_or-map-range_with_len (λ i. get_or t.pairs i 0 + get_or t.pairs (16 + i) 0) 0 16 v v 0 h (omega arith)
      ∙ omega (arith, low, high, poker_total 0 (omega arith) (half_bytes (bits bytes)) (halves_under bytes) v h))

  runs_right : (b : ℕ) → b < 2 → runs_in b t ≡ map (λ k. how_many b k (runs (bits bytes))) sizes
  unfolding runs_in inside_at
  runs_right b h =
      let some : (k : ℕ) → 0 < k → k ≤ 6 → get_or t.ended (place b k) 0 + dot t.pairs (inside_at b k) ≡ how_many b k (runs (bits bytes)) =
      λ k l m. omega (arith, done.ended b k h l m, weighed (inner b k)) in
      let none : (k : ℕ) → 3 < k → k ≤ 6 → get_or t.ended (place b k) 0 ≡ how_many b k (runs (bits bytes)) =
      λ k l m.
      omega (
        arith,
        done.ended b k h (omega arith) m,
        total_zero (inner b k) (pairs_of (bits bytes)) pairs_below (λ p q. none_longer b k (inner_runs p) (omega (arith, short p q)) m),
      ) in
      cc (
        some 1 (omega arith) (omega arith),
        some 2 (omega arith) (omega arith),
        some 3 (omega arith) (omega arith),
        none 4 (omega arith) (omega arith),
        none 5 (omega arith) (omega arith),
        none 6 (omega arith) (omega arith),
      )

  pub counts_right : counts_in t ≡ counts_of (bits bytes)
  unfolding counts_in counts_of run_counts
  counts_right = rw (ones_right, poker_right, runs_right 0 (omega arith), runs_right 1 (omega arith), done.longest)

  pub small : Small t
  small = record { size = rw done.pairs; pairs = done.few_pairs; ended = done.few_ended }
