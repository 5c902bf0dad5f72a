-- The loop's invariant, `Counting`: it holds at the start (`none_read`), one more half-byte keeps it (`step`), and at the end it gives the tally
-- (`all_read`). `all` are the bits of the block, `rest` the bits not yet read. Assumes nothing.
use mathlib.Core.Path.{◌≡◌, refl, ap, ◌∙◌}
use mathlib.Core.Bool.{true, false}
use mathlib.Core.List.{List, [], ◌∷◌, ◌++◌}
use mathlib.Core.Logic.{⊎_elim}
use Prim.Native.Nat.{ℕ, zero, suc, ◌+◌, ◌*◌, ◌/◌, ◌%◌, ◌≤◌, ◌<◌, max}
use native.Mathlib.Omega.{arith}
use native.Mathlib.Numerals.{add-one}
use lib.Dec.{eqb}
use lib.ListN.{length, get_or, drop, replicate}
use lib.Seq.{drop-cons}
use Rattle.std.proofs.lemmas.Bool.Decides.{nat_tests}
use Rattle.std.proofs.lemmas.List.FromFn.{fill_by_all}
use Rattle.powerup.specs.declared.count.LastRun.{LastRun}
use Rattle.powerup.specs.Bits.{byte_bits, bits}
use Rattle.powerup.specs.Counts.{run, occurrences, half_bytes, runs_from, runs, is_of, how_many, longest}
use Rattle.powerup.specs.Steps.{Few, raised, place, pair, lead_at, longest_at, lasts, stepped, closed, half_bits, pairs_from, pairs_of, inner_runs, total, Tallied, Ready}
use Rattle.powerup.proofs.Lists.{either, raised_length, raised_few, many_cons, many_append, many_most, ended_raised, met_raised, longest_three}
use Rattle.powerup.proofs.Shapes.{inside, no_inner, ends, shape}

-- the number of runs of one kind inside a pair's half-byte
abbrev pub inner : ℕ → ℕ → ℕ → ℕ
inner b k p = how_many b k (inner_runs p)

pub record Counting (all rest : List ℕ) (n : ℕ) (pairs ended : List ℕ) (o : LastRun) : Type 0 where
  pub bit : o.bit < 2
  pub pairs_size : length pairs ≡ 32
  pub ended_size : length ended ≡ 14
  -- bounds after n half-bytes
  pub short : o.length ≤ 4 * n
  pub few_pairs : Few pairs n
  pub few_ended : Few ended n
  -- the counts so far plus the counts of `rest` are the counts of `all`
  pub paired : (p : ℕ) → get_or pairs p 0 + occurrences p (pairs_from o.bit (half_bytes rest)) ≡ occurrences p (pairs_of all)
  pub counted :
      (b k : ℕ) → b < 2 → 0 < k → k ≤ 6
      → get_or ended (place b k) 0 + how_many b k (runs_from o.bit o.length rest) + total (inner b k) (pairs_of all)
      ≡ how_many b k (runs_from 0 0 all) + total (inner b k) (pairs_from o.bit (half_bytes rest))
  pub long : max o.longest (longest (runs_from o.bit o.length rest)) ≡ longest (runs_from 0 0 all)

-- A half-byte is the number that its four bits spell.
pub half_of : (v : ℕ) (rest : List ℕ) → v < 16 → half_bytes (half_bits v ++ rest) ≡ v ∷ half_bytes rest
unfolding half_bytes
half_of v rest h = grind arith

module _ {all rest : List ℕ} {n : ℕ} {pairs ended : List ℕ} {o : LastRun} (v : ℕ) (hv : v < 16)
    (c : Counting all (half_bits v ++ rest) n pairs ended o) where
  still_paired : (p : ℕ) → get_or (raised pairs (pair o.bit v)) p 0 + occurrences p (pairs_from (v % 2) (half_bytes rest)) ≡ occurrences p (pairs_of all)
  unfolding pairs_from
  still_paired p =
      let h : pair o.bit v < length pairs = omega (arith, c.bit, c.pairs_size) in
      met_raised pairs (pairs_from (v % 2) (half_bytes rest)) (pair o.bit v) p h ∙ (rw (half_of v rest hv) at (c.paired p))

  abbrev lead : ℕ
  lead = lead_at (pair o.bit v)

  -- The run goes on through the half-byte.
  module _ (t : eqb lead 4 ≡ true) where
    goes_on : Counting all rest (suc n) (raised pairs (pair o.bit v)) ended (record { bit = v % 2; length = o.length + 4; longest = o.longest })
    unfolding pairs_from total
    goes_on =
        let h : pair o.bit v < length pairs = omega (arith, c.bit, c.pairs_size) in
        let e : runs_from o.bit o.length (half_bits v ++ rest) ≡ runs_from (v % 2) (o.length + 4) rest = rw t at (shape o.bit v c.bit hv o.length rest) in
        record {
          bit = omega arith;
          pairs_size = rw raised_length c.pairs_size;
          ended_size = c.ended_size;
          short = omega (arith, c.short);
          few_pairs = raised_few pairs (pair o.bit v) n h c.few_pairs;
          few_ended = λ i. omega (arith, c.few_ended i);
          paired = still_paired;
          counted = λ b k hb some most.
              let q = rw (e, half_of v rest hv) at (c.counted b k hb some most) in
              omega (
                arith,
                q,
                many_most b k (inner_runs (pair o.bit v)),
                no_inner (pair o.bit v) (omega (arith, c.bit)) t,
              );
          long = rw e at c.long;
        }

  -- The run ends in the half-byte. The half-byte's last run is then the open one.
  module _ (f : eqb lead 4 ≡ false) where
    ends_run :
        Counting all rest (suc n) (raised pairs (pair o.bit v)) (raised ended (place o.bit (o.length + lead)))
        (record { bit = v % 2; length = get_or lasts v 0; longest = max (longest_at (pair o.bit v)) (max (o.length + lead) o.longest) })
    unfolding pairs_from total
    ends_run =
        let h : pair o.bit v < length pairs = omega (arith, c.bit, c.pairs_size) in
        let h2 : place o.bit (o.length + lead) < length ended = omega (arith, c.bit, c.ended_size) in
        let e : runs_from o.bit o.length (half_bits v ++ rest) ≡ run o.bit (o.length + lead) ∷ inner_runs (pair o.bit v) ++ runs_from (v % 2) (get_or lasts v 0) rest = rw f at (shape o.bit v c.bit hv o.length rest) in
        record {
          bit = omega arith;
          pairs_size = rw raised_length c.pairs_size;
          ended_size = rw raised_length c.ended_size;
          short = omega (arith, ends v hv);
          few_pairs = raised_few pairs (pair o.bit v) n h c.few_pairs;
          few_ended = raised_few ended (place o.bit (o.length + lead)) n h2 c.few_ended;
          paired = still_paired;
          counted = λ b k hb some most.
              let q = rw (e, half_of v rest hv) at (c.counted b k hb some most) in
              omega (
                arith,
                q,
                many_cons b k (run o.bit (o.length + lead)) (inner_runs (pair o.bit v) ++ runs_from (v % 2) (get_or lasts v 0) rest),
                many_append b k (inner_runs (pair o.bit v)) (runs_from (v % 2) (get_or lasts v 0) rest),
                ended_raised ended c.ended_size o.bit (o.length + lead) b k c.bit hb some most,
              );
          long =
              longest_three o.longest o.bit (o.length + lead) (longest_at (pair o.bit v)) (inner_runs (pair o.bit v)) (runs_from (v % 2) (get_or lasts v 0) rest) (inside (pair o.bit v) (omega (arith, c.bit)))
              ∙ (rw e at c.long);
        }

  -- One more half-byte keeps the invariant.
  pub step :
      Counting all rest (suc n) (raised pairs (pair o.bit v)) (closed ended o.bit (stepped o v).ended) (stepped o v).next
  unfolding stepped closed
  step = ⊎_elim (λ t. rw t (goes_on t)) (λ f. rw f (ends_run f)) (either (eqb lead 4))

module _ {all rest : List ℕ} {n : ℕ} {pairs ended : List ℕ} {o : LastRun} (c : Counting all rest n pairs ended o) (few : n ≤ 5000) where
  pub ready : (v : ℕ) → v < 16 → Ready o v pairs ended
  ready v hv = record {
    bit = c.bit;
    half = hv;
    short = omega (arith, c.short);
    few_pairs = λ i. omega (arith, c.few_pairs i);
    few_ended = λ i. omega (arith, c.few_ended i);
  }

-- A byte's bits are those of its two half-bytes.
pub byte_halves : (b : ℕ) (rest : List ℕ) → byte_bits b ++ rest ≡ half_bits (b / 16 % 16) ++ half_bits (b % 16) ++ rest
byte_halves b rest = grind arith

-- The bits not read before byte i are the bits of its two half-bytes and of the bytes after it.
pub bits_left :
    (bytes : List ℕ) (i : ℕ) → i < length bytes → get_or bytes i 0 < 256
    → bits (drop i bytes) ≡ half_bits (get_or bytes i 0 / 16) ++ half_bits (get_or bytes i 0 % 16) ++ bits (drop (i + 1) bytes)
unfolding bits
bits_left bytes i h small =
    let q : get_or bytes i 0 / 16 % 16 ≡ get_or bytes i 0 / 16 = omega arith in
    rw (add-one i, ← q) (ap bits (drop-cons bytes i 0 h) ∙ byte_halves (get_or bytes i 0) (bits (drop (suc i) bytes)))

zeros_at : (n i : ℕ) → get_or {A = ℕ} (replicate n 0) i 0 ≡ 0
zeros_at zero i = refl
zeros_at (suc n) zero = refl
zeros_at (suc n) (suc i) = zeros_at n i

-- The invariant holds before the first byte.
pub none_read : (all : List ℕ) → Counting all all 0 (replicate 32 0) (replicate 14 0) (record { bit = 0; length = 0; longest = 0 })
none_read all = record {
  bit = omega arith;
  pairs_size = refl;
  ended_size = refl;
  short = omega arith;
  few_pairs = λ i. rw (zeros_at 32 i) (omega arith);
  few_ended = λ i. rw (zeros_at 14 i) (omega arith);
  paired = λ p. rw (zeros_at 32 p) (omega arith);
  counted = λ b k hb some most. omega (arith, zeros_at 14 (place b k));
  long = omega arith;
}

-- A run of length 0 before the first run changes no count and not the longest run.
from_start : (b k : ℕ) (bs : List ℕ) → 0 < k → how_many b k (runs_from 0 0 bs) ≡ how_many b k (runs bs)
unfolding runs_from runs how_many is_of
from_start b k [] some = grind (arith, nat_tests)
from_start b k (c ∷ cs) some = grind (arith, nat_tests)

longest_from_start : (bs : List ℕ) → longest (runs_from 0 0 bs) ≡ longest (runs bs)
unfolding runs_from runs longest
longest_from_start [] = refl
longest_from_start (c ∷ cs) = grind (arith, nat_tests)

-- When no bit is left and the last run is counted, the tally is right.
module _ {all : List ℕ} {n : ℕ} {pairs ended : List ℕ} {o : LastRun} (c : Counting all [] n pairs ended o) (few : n ≤ 5000) where
  pub all_read :
      Tallied all
      (record { pairs = pairs; ended = raised ended (place o.bit o.length); longest = max o.longest o.length })
  unfolding half_bytes pairs_from occurrences runs_from total longest
  all_read =
      let h : place o.bit o.length < length ended = omega (arith, c.bit, c.ended_size) in
      record {
        pairs = fill_by_all (λ p. occurrences p (pairs_of all)) pairs 32 0 c.pairs_size (λ p _. omega (arith, c.paired p));
        ended = λ b k hb some most.
            omega (
              arith,
              c.counted b k hb some most,
              ended_raised ended c.ended_size o.bit o.length b k c.bit hb some most,
              from_start b k all some,
            );
        few_pairs = λ i. omega (arith, c.few_pairs i);
        few_ended = λ i. omega (arith, raised_few ended (place o.bit o.length) n h c.few_ended i);
        longest = omega (arith, c.long, longest_from_start all);
      }
