-- What the definitions mean: the runs are the bits, cut where they change; the counts add up; a verdict is true exactly inside its limits; the
-- refusals come in their order. docs/PROMISES.md lists these laws. Assumes nothing.
use mathlib.Core.Path.{◌≡◌, refl, ap, sym, ◌∙◌}
use mathlib.Core.Bool.{Bool, true, false, cond}
use mathlib.Core.List.{List, [], ◌∷◌, ◌++◌, map}
use mathlib.Core.Logic.{◌↔◌, ⊎_elim}
use Prim.Native.Nat.{ℕ, zero, suc, ◌+◌, ◌*◌, ◌≤◌, ◌<◌}
use native.Mathlib.Omega.{arith}
use borrow.Author.Tests.{eq-eqb, ne_eqb}
use lib.Dec.{eqb}
use Rattle.std.proofs.lemmas.Bool.Decides.{nat_tests}
use lib.ListN.{length, replicate, length-append, length-replicate}
use Rattle.powerup.specs.declared.Interval.{Interval}
use Rattle.powerup.specs.declared.Limits.{Limits}
use Rattle.powerup.specs.declared.Counts.{Counts}
use Rattle.powerup.specs.declared.Refusal.TheVariants.{WrongLength, WrongEdition}
use Rattle.std.specs.Prelude.{Result, Ok, Err}
use Rattle.powerup.specs.declared.Refusal.{Refusal}
use Rattle.powerup.specs.declared.editions.Edition.{Edition}
use Rattle.powerup.specs.declared.editions.Edition.TheVariants.{First, Second}
use Rattle.powerup.specs.Limits.{first_edition, second_edition, edition_of, limits_of}
use Rattle.powerup.specs.Bits.{bits}
use Rattle.powerup.specs.Counts.{Run, runs_from, runs, occurrences, half_bytes, poker_counts, sixteen, counts_of}
use Rattle.powerup.specs.Steps.{total, dot}
use Rattle.powerup.specs.Verdicts.{between, within, verdicts_of}
use Rattle.powerup.specs.Reply.{refused, judged, reply_of, shown}
use Rattle.powerup.proofs.Lists.{either, once_16, dot_none, dot_cons}
use Rattle.powerup.proofs.Weighing.{Under, weigh, halves_under, halves_length}

-- the bits that runs spell
abbrev pub spelled : List Run → List ℕ
spelled [] = []
spelled (r ∷ rs) = replicate r.len r.bit ++ spelled rs

one_more : (n b : ℕ) (bs : List ℕ) → replicate (suc n) b ++ bs ≡ replicate n b ++ b ∷ bs
one_more zero b bs = refl
one_more (suc n) b bs = ap (λ (l : List ℕ). b ∷ l) (one_more n b bs)

from_spelled : (b n : ℕ) (bs : List ℕ) → spelled (runs_from b n bs) ≡ replicate n b ++ bs
unfolding runs_from
from_spelled b n [] = refl
from_spelled b n (c ∷ cs) = grind (arith, nat_tests, one_more n b cs, from_spelled b (suc n) cs, from_spelled c 1 cs)

-- The runs spell the bits, in order.
pub runs_spell : (bs : List ℕ) → spelled (runs bs) ≡ bs
unfolding runs
runs_spell [] = refl
runs_spell (b ∷ bs) = from_spelled b 1 bs

-- Runs after a bit b: none is empty, and each has another bit than the run or bit before it.
abbrev pub Differ : ℕ → List Run → Type 0
Differ b [] = Unit
Differ b (r ∷ rs) = (r.bit ≡ b → ⊥) × (0 < r.len) × Differ r.bit rs

abbrev pub Maximal : List Run → Type 0
Maximal [] = Unit
Maximal (r ∷ rs) = (0 < r.len) × Differ r.bit rs

from_differ : (p b n : ℕ) (bs : List ℕ) → (b ≡ p → ⊥) → 0 < n → Differ p (runs_from b n bs)
unfolding runs_from
from_differ p b n [] d h = (d, h, tt)
from_differ p b n (c ∷ cs) d h = grind (arith, nat_tests, from_differ p b (suc n) cs d, from_differ b c 1 cs)

from_maximal : (b n : ℕ) (bs : List ℕ) → 0 < n → Maximal (runs_from b n bs)
unfolding runs_from
from_maximal b n [] h = (h, tt)
from_maximal b n (c ∷ cs) h = grind (arith, nat_tests, from_maximal b (suc n) cs, from_differ b c 1 cs)

-- No run is empty, and none can be made longer: its neighbours have the other bit.
pub runs_maximal : (bs : List ℕ) → Maximal (runs bs)
unfolding runs
runs_maximal [] = tt
runs_maximal (b ∷ bs) = from_maximal b 1 bs (omega arith)

abbrev pub lengths : List Run → ℕ
lengths [] = 0
lengths (r ∷ rs) = r.len + lengths rs

spelled_length : (rs : List Run) → length (spelled rs) ≡ lengths rs
spelled_length [] = refl
spelled_length (r ∷ rs) =
    omega (arith, length-append (replicate r.len r.bit) (spelled rs), length-replicate r.len r.bit, spelled_length rs)

-- The lengths of the runs add up to the number of bits.
pub lengths_add_up : (bs : List ℕ) → lengths (runs bs) ≡ length bs
lengths_add_up bs = sym (spelled_length (runs bs)) ∙ ap length (runs_spell bs)

-- A byte has eight bits.
pub bits_length : (bytes : List ℕ) → length (bits bytes) ≡ 8 * length bytes
unfolding bits
bits_length [] = refl
bits_length (b ∷ bytes) = omega (arith, bits_length bytes)

bits_under : (bytes : List ℕ) → Under 2 (bits bytes)
unfolding bits
bits_under [] = tt
bits_under (b ∷ bytes) = grind (arith, bits_under bytes)

zeros_ones : (bs : List ℕ) → Under 2 bs → occurrences 0 bs + occurrences 1 bs ≡ length bs
unfolding occurrences
zeros_ones [] u = refl
zeros_ones (b ∷ bs) u = grind (arith, nat_tests, zeros_ones bs u.1)

-- Every bit is a zero or a one: 20,000 in 2,500 bytes.
pub zeros_and_ones : (bytes : List ℕ) → occurrences 0 (bits bytes) + occurrences 1 (bits bytes) ≡ 8 * length bytes
zeros_and_ones bytes = zeros_ones (bits bytes) (bits_under bytes) ∙ bits_length bytes

abbrev pub added : List ℕ → ℕ
added [] = 0
added (x ∷ xs) = x + added xs

-- A sum is a sum of products with the weight 1.
added_weighed : (f : ℕ → ℕ) (vs : List ℕ) → added (map f vs) ≡ dot (map f vs) (map (λ _. 1) vs)
added_weighed f [] = omega (arith, dot_none [])
added_weighed f (v ∷ vs) = omega (arith, dot_cons (f v) (map f vs) 1 (map (λ _. 1) vs), added_weighed f vs)

total_of_ones : (xs : List ℕ) → total (λ _. 1) xs ≡ length xs
unfolding total
total_of_ones [] = refl
total_of_ones (x ∷ xs) = omega (arith, total_of_ones xs)

-- The poker counts add up to 2 for each byte: 5,000 in 2,500 bytes.
pub poker_adds_up : (bytes : List ℕ) → added (poker_counts (bits bytes)) ≡ 2 * length bytes
unfolding poker_counts
poker_adds_up bytes =
    let hs = half_bytes (bits bytes) in
    added_weighed (λ v. occurrences v hs) sixteen
    ∙ weigh (λ _. 1) sixteen 16 once_16 hs (halves_under bytes)
    ∙ total_of_ones hs
    ∙ halves_length bytes

-- The ends of the monobit interval fail; the ends of the other intervals pass.
pub between_exactly : (i : Interval) (n : ℕ) → (between i n ≡ true) ↔ ((i.low < n) × (n < i.high))
unfolding between
between_exactly i n = grind (arith, nat_tests)

pub within_exactly : (i : Interval) (n : ℕ) → (within i n ≡ true) ↔ ((i.low ≤ n) × (n ≤ i.high))
unfolding within
within_exactly i n = grind (arith, nat_tests)

-- A run as long as the limit fails.
pub long_exactly : (l : Limits) (c : Counts) → ((verdicts_of l c).long ≡ true) ↔ (c.runs.longest < l.long)
unfolding verdicts_of
long_exactly l c = grind (arith, nat_tests)

-- The length is judged first, whatever the edition.
pub length_first : (bytes : List ℕ) (edition : ℕ) → (length bytes ≡ 2500 → ⊥) → reply_of bytes edition ≡ refused WrongLength
unfolding reply_of
length_first bytes edition h = rw (ne_eqb (length bytes) 2500 h)

-- Then the edition is judged.
pub edition_next :
    (bytes : List ℕ) (edition : ℕ) → length bytes ≡ 2500 → (edition ≡ 1 → ⊥) → (edition ≡ 2 → ⊥) → reply_of bytes edition ≡ refused WrongEdition
unfolding reply_of
edition_next bytes edition h first second = rw (eq-eqb (length bytes) 2500 h, ne_eqb edition 1 first, ne_eqb edition 2 second)

-- The reply follows from the edition that a number names, and from the refusal of one that names none.
abbrev named : Bool → Bool → Result Edition Refusal
named first second = cond first (Ok First) (cond second (Ok Second) (Err WrongEdition))

chosen :
    (first second : Bool) (c : Counts) (e : Edition) → named first second ≡ Ok e
    → cond first (Ok (judged first_edition c)) (cond second (Ok (judged second_edition c)) (refused WrongEdition)) ≡ Ok (judged (limits_of e) c)
chosen true s c First q = refl
chosen true s c Second q = absurd cc
chosen false true c First q = absurd cc
chosen false true c Second q = refl
chosen false false c e q = absurd cc

pub edition_judges :
    (bytes : List ℕ) (n : ℕ) (e : Edition) → length bytes ≡ 2500 → edition_of n ≡ Ok e
    → reply_of bytes n ≡ Ok (judged (limits_of e) (counts_of (bits bytes)))
unfolding reply_of
edition_judges bytes n e h q = rw (eq-eqb (length bytes) 2500 h) (chosen (eqb n 1) (eqb n 2) (counts_of (bits bytes)) e q)

-- Both editions have the same counts.
pub same_counts : (bytes : List ℕ) → (shown (reply_of bytes 1)).counts ≡ (shown (reply_of bytes 2)).counts
unfolding reply_of judged
same_counts bytes = ⊎_elim (λ t. rw t) (λ f. rw f) (either (eqb (length bytes) 2500))
