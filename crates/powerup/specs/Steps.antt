-- How the code counts: a half-byte at a time. These definitions serve the contracts of private functions; the promise does not rest on them.
use Rattle.std.specs.Prelude.{ℕ, Option, None, Some, ◌+◌, ◌*◌, ◌/◌, ◌%◌, ◌≤◌, ◌<◌, min, max, ◌≡◌, cond, List, [], ◌∷◌, map, eqb, length, get_or, set, drop, sum_by}
use Rattle.std.specs.List.{zip}
use Rattle.powerup.specs.declared.count.LastRun.{LastRun}
use Rattle.powerup.specs.declared.count.Step.{Step}
use Rattle.powerup.specs.declared.count.Tally.{Tally}
use Rattle.powerup.specs.declared.tables.Start.{Start}
use Rattle.powerup.specs.declared.Counts.{Counts}
use Rattle.powerup.specs.Counts.{Run, occurrences, sum_of_squares, sixteen, half_bytes, runs_from, runs, how_many, longest}

-- no number is above n
abbrev pub Few : List ℕ → ℕ → Type 0
Few l n = (i : ℕ) → get_or l i 0 ≤ n

-- the number at a place, raised by one
unfoldable pub raised : List ℕ → ℕ → List ℕ
raised l i = set l i (get_or l i 0 + 1)

-- the place of a run in the table of ended runs. Each bit has seven places: for the lengths 0 to 5, and for 6 or more. No run is empty, and no count
-- reads a place for length 0: one is there for the empty run that the loop begins with.
abbrev pub place : ℕ → ℕ → ℕ
place b n = 7 * b + min n 6

-- the index of a pair, a bit and the half-byte after it, in the table of pairs
abbrev pub pair : ℕ → ℕ → ℕ
pair b half = 16 * b + half

-- an entry of the code's table `starts`
abbrev pub start : ℕ → ℕ → Start
start l i = record { lead = l; inside = i }

-- The code's tables. At each pair: how many of the half-byte's first bits equal the bit before it, and the longest run that follows them and ends
-- inside the half-byte (`starts`; 0 if there is none). At each half-byte: the length of its last run (`lasts`).
abbrev pub starts : List Start
starts =
    start 4 0 ∷ start 3 0 ∷ start 2 1 ∷ start 2 0 ∷ start 1 1 ∷ start 1 1 ∷ start 1 2 ∷ start 1 0
    ∷ start 0 1 ∷ start 0 2 ∷ start 0 1 ∷ start 0 1 ∷ start 0 2 ∷ start 0 2 ∷ start 0 3 ∷ start 0 0
    ∷ start 0 0 ∷ start 0 3 ∷ start 0 2 ∷ start 0 2 ∷ start 0 1 ∷ start 0 1 ∷ start 0 2 ∷ start 0 1
    ∷ start 1 0 ∷ start 1 2 ∷ start 1 1 ∷ start 1 1 ∷ start 2 0 ∷ start 2 1 ∷ start 3 0 ∷ start 4 0 ∷ []

abbrev pub lead_at : ℕ → ℕ
lead_at p = (get_or starts p (start 0 0)).lead

abbrev pub longest_at : ℕ → ℕ
longest_at p = (get_or starts p (start 0 0)).inside

abbrev pub lasts : List ℕ
lasts = 4 ∷ 1 ∷ 1 ∷ 2 ∷ 2 ∷ 1 ∷ 1 ∷ 3 ∷ 3 ∷ 1 ∷ 1 ∷ 2 ∷ 2 ∷ 1 ∷ 1 ∷ 4 ∷ []

-- the last run after a half-byte, and the length of the run that the half-byte ended, if it ended one
unfoldable pub stepped : LastRun → ℕ → Step
stepped o half =
    cond (eqb (lead_at (pair o.bit half)) 4)
    (record { next = record { bit = half % 2; length = o.length + 4; longest = o.longest }; ended = None })
    (record {
      next = record {
        bit = half % 2;
        length = get_or lasts half 0;
        longest = max (longest_at (pair o.bit half)) (max (o.length + lead_at (pair o.bit half)) o.longest);
      };
      ended = Some (o.length + lead_at (pair o.bit half));
    })

-- the ended runs, with one more if a run of the bit b ended
unfoldable pub closed : List ℕ → ℕ → Option ℕ → List ℕ
closed ended b None = ended
closed ended b (Some n) = raised ended (place b n)

-- the four bits of a half-byte
abbrev pub half_bits : ℕ → List ℕ
half_bits v = v / 8 % 2 ∷ v / 4 % 2 ∷ v / 2 % 2 ∷ v % 2 ∷ []

-- the pairs of a list of half-bytes after a bit
unfoldable pub pairs_from : ℕ → List ℕ → List ℕ
pairs_from b [] = []
pairs_from b (v ∷ vs) = pair b v ∷ pairs_from (v % 2) vs

-- the pairs of a block; its first half-byte is paired with a zero
abbrev pub pairs_of : List ℕ → List ℕ
pairs_of bs = pairs_from 0 (half_bytes bs)

unfoldable pub but_last : List Run → List Run
but_last [] = []
but_last (r ∷ []) = []
but_last (r ∷ q ∷ rs) = r ∷ but_last (q ∷ rs)

-- the runs inside a pair's half-byte: they neither continue the bit before it nor touch its end
unfoldable pub inner_runs : ℕ → List Run
inner_runs p = but_last (drop 1 (runs_from (p / 16) 0 (half_bits (p % 16))))

-- the sum of a function over a list
unfoldable pub total : (ℕ → ℕ) → List ℕ → ℕ
total f [] = 0
total f (x ∷ xs) = f x + total f xs

abbrev pub thirty_two : List ℕ
thirty_two =
    0 ∷ 1 ∷ 2 ∷ 3 ∷ 4 ∷ 5 ∷ 6 ∷ 7 ∷ 8 ∷ 9 ∷ 10 ∷ 11 ∷ 12 ∷ 13 ∷ 14 ∷ 15
    ∷ 16 ∷ 17 ∷ 18 ∷ 19 ∷ 20 ∷ 21 ∷ 22 ∷ 23 ∷ 24 ∷ 25 ∷ 26 ∷ 27 ∷ 28 ∷ 29 ∷ 30 ∷ 31 ∷ []

-- the tally when all bits are read
pub record Tallied (bs : List ℕ) (t : Tally) : Type 0 where
  pub pairs : t.pairs ≡ map (λ p. occurrences p (pairs_of bs)) thirty_two
  pub ended : (b k : ℕ) → b < 2 → 0 < k → k ≤ 6 → get_or t.ended (place b k) 0 + total (λ p. how_many b k (inner_runs p)) (pairs_of bs) ≡ how_many b k (runs bs)
  pub few_pairs : Few t.pairs 5000
  pub few_ended : Few t.ended 5001
  pub longest : t.longest ≡ longest (runs bs)

-- what reading a half-byte requires: no number is near its type's limit
pub record Ready (o : LastRun) (v : ℕ) (pairs ended : List ℕ) : Type 0 where
  pub bit : o.bit < 2
  pub half : v < 16
  pub short : o.length ≤ 100000
  pub few_pairs : Few pairs 100000
  pub few_ended : Few ended 100000

-- the sum of numbers, each times its weight
unfoldable pub dot : List ℕ → List ℕ → ℕ
dot xs ws = sum_by (λ p. p.0 * p.1) (zip xs ws)

-- how often each half-byte occurs: after a zero and after a one together
unfoldable pub poker_of : List ℕ → List ℕ
poker_of pairs = map (λ v. get_or pairs v 0 + get_or pairs (16 + v) 0) sixteen

-- the runs of one bit, by length: the six places after `first` have the ended runs; x, y and z are the runs of length 1, 2 and 3 inside a half-byte
abbrev pub by_length : List ℕ → ℕ → ℕ → ℕ → ℕ → List ℕ
by_length ended first x y z =
    (get_or ended (first + 1) 0 + x)
    ∷ (get_or ended (first + 2) 0 + y)
    ∷ (get_or ended (first + 3) 0 + z)
    ∷ get_or ended (first + 4) 0
    ∷ get_or ended (first + 5) 0
    ∷ get_or ended (first + 6) 0
    ∷ []

-- At each pair: the ones of the half-byte; the runs of the bit b and the length k inside it.
unfoldable pub ones_at : List ℕ
ones_at = map (λ p. occurrences 1 (half_bits (p % 16))) thirty_two

unfoldable pub inside_at : ℕ → ℕ → List ℕ
inside_at b k = map (λ p. how_many b k (inner_runs p)) thirty_two

-- the runs of the bit b inside a half-byte, by length
abbrev pub tables_of : ℕ → List (List ℕ)
tables_of b = inside_at b 1 ∷ inside_at b 2 ∷ inside_at b 3 ∷ []

-- the runs of one bit in a tally
unfoldable pub runs_in : ℕ → Tally → List ℕ
runs_in b t = by_length t.ended (7 * b) (dot t.pairs (inside_at b 1)) (dot t.pairs (inside_at b 2)) (dot t.pairs (inside_at b 3))

-- the counts that follow from a tally
unfoldable pub counts_in : Tally → Counts
counts_in t = record {
  ones = dot t.pairs ones_at;
  poker = poker_of t.pairs;
  sum = sum_of_squares (poker_of t.pairs);
  runs = record { zeros = runs_in 0 t; ones = runs_in 1 t; longest = t.longest };
}

-- a tally whose numbers are small enough for the sums
pub record Small (t : Tally) : Type 0 where
  pub size : length t.pairs ≡ 32
  pub pairs : Few t.pairs 5000
  pub ended : Few t.ended 5001
