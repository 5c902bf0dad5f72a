-- The code's tables are right: at each of the 32 pairs of a bit and a half-byte they are compared with the runs, by computation. `shape` is what the
-- loop needs: the runs of a half-byte and the bits after it, for an open run of any length. Assumes nothing.
use mathlib.Core.Path.{◌≡◌}
use mathlib.Core.Bool.{true, cond}
use mathlib.Core.List.{List, ◌∷◌, ◌++◌}
use Prim.Native.Nat.{ℕ, zero, suc, ◌+◌, ◌/◌, ◌%◌, ◌≤◌, ◌<◌}
use native.Mathlib.Omega.{arith}
use lib.Dec.{eqb}
use lib.ListN.{length, get_or}
use Rattle.powerup.specs.Counts.{Run, run, runs_from, longest}
use Rattle.powerup.specs.Steps.{pair, lead_at, longest_at, lasts, half_bits, inner_runs, but_last}
use Rattle.powerup.proofs.Lists.{Each, each}

-- k more than n; for a numeral k it computes to successors of n, as `runs_from` does
abbrev more : ℕ → ℕ → ℕ
more zero n = n
more (suc k) n = suc (more k n)

more_is : (k n : ℕ) → more k n ≡ n + k
more_is zero n = omega arith
more_is (suc k) n = omega (arith, more_is k n)

-- what the tables say of the runs of n bits, then a pair's half-byte, then `rest`; the n bits equal the pair's bit
abbrev shaped : (ℕ → ℕ → ℕ) → ℕ → ℕ → List ℕ → List Run
shaped plus p n rest =
    cond (eqb (lead_at p) 4) (runs_from (p % 16 % 2) (plus 4 n) rest)
    (run (p / 16) (plus (lead_at p) n) ∷ inner_runs p ++ runs_from (p % 16 % 2) (get_or lasts (p % 16) 0) rest)

abbrev Shaped : ℕ → Type 0
Shaped p = (n : ℕ) (rest : List ℕ) → runs_from (p / 16) n (half_bits (p % 16) ++ rest) ≡ shaped more p n rest

all_shaped : Each Shaped 32
unfolding runs_from inner_runs but_last
all_shaped = search depth 70

pub inside : (p : ℕ) → p < 32 → longest (inner_runs p) ≡ longest_at p
unfolding runs_from inner_runs but_last longest
inside = each (λ p. longest (inner_runs p) ≡ longest_at p) 32 (omega arith)

-- If the open run goes on through the half-byte, no run lies inside it.
pub no_inner : (p : ℕ) → p < 32 → eqb (lead_at p) 4 ≡ true → length (inner_runs p) ≡ 0
unfolding runs_from inner_runs but_last
no_inner p h t = rw t at (each (λ p. cond (eqb (lead_at p) 4) (length (inner_runs p)) 0 ≡ 0) 32 (omega arith) p h)

-- The table entries are small enough for their casts and sums.
pub low : (p : ℕ) → p < 32 → lead_at p + longest_at p ≤ 4
low = each (λ p. lead_at p + longest_at p ≤ 4) 32 (omega arith)

pub ends : (v : ℕ) → v < 16 → get_or lasts v 0 ≤ 4
ends = each (λ v. get_or lasts v 0 ≤ 4) 16 (omega arith)

module _ (b v : ℕ) (hb : b < 2) (hv : v < 16) where
  -- An open run of n bits b meets the half-byte v: it goes on, or it ends and the half-byte's last run is open.
  pub shape :
      (n : ℕ) (rest : List ℕ)
      → runs_from b n (half_bits v ++ rest)
      ≡ cond (eqb (lead_at (pair b v)) 4) (runs_from (v % 2) (n + 4) rest)
      (run b (n + lead_at (pair b v)) ∷ inner_runs (pair b v) ++ runs_from (v % 2) (get_or lasts v 0) rest)
  shape n rest =
      let q : pair b v / 16 ≡ b = omega arith in
      let r : pair b v % 16 ≡ v = omega arith in
      let e : runs_from (pair b v / 16) n (half_bits (pair b v % 16) ++ rest) ≡ shaped more (pair b v) n rest = each Shaped 32 all_shaped (pair b v) (omega arith) n rest in
      rw (← more_is 4 n, ← more_is (lead_at (pair b v)) n) (rw (q, r) at e)
