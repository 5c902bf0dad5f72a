-- The four verdicts on counts, for any limits. A verdict is true if the block passes.
use Rattle.std.specs.Prelude.{ℕ, Bool, true, ◌&&◌, List, [], ◌∷◌, ltb, leb}
use Rattle.powerup.specs.declared.Interval.{Interval}
use Rattle.powerup.specs.declared.Limits.{Limits}
use Rattle.powerup.specs.declared.Counts.{Counts}
use Rattle.powerup.specs.declared.Verdicts.{Verdicts}

-- "strictly between"
unfoldable pub between : Interval → ℕ → Bool
between i n = ltb i.low n && ltb n i.high

-- "1,562,822 to 1,580,437": the ends pass
unfoldable pub within : Interval → ℕ → Bool
within i n = leb i.low n && leb n i.high

-- each count lies in the interval at its place
unfoldable pub all_within : List Interval → List ℕ → Bool
all_within [] ns = true
all_within (i ∷ is) [] = true
all_within (i ∷ is) (n ∷ ns) = within i n && all_within is ns

-- "Intervals for runs [..], of zeros and of ones alike"; "A run of 34 or more, respectively 26 or more, equal bits fails."
unfoldable pub verdicts_of : Limits → Counts → Verdicts
verdicts_of l c = record {
  monobit = between l.ones c.ones;
  poker = within l.poker c.sum;
  runs = all_within l.runs c.runs.zeros && all_within l.runs c.runs.ones;
  long = ltb c.runs.longest l.long;
}
