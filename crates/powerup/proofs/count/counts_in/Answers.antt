-- `powerup::count::counts_in` meets its contract. Assumes nothing.
use native.Mathlib.Omega.{arith}
use mathlib.Core.Path.{refl}
use Rattle.powerup.specs.Counts.{occurrences, runs_from, is_of, how_many}
use Rattle.powerup.specs.Steps.{but_last, inner_runs, ones_at, inside_at, counts_in}
use Rattle.powerup.proofs.Weighing.{light_ones, dot_self}
use Rattle.powerup.proofs.count.counts_in.Goals as goal

pub weighed-requires : goal.weighed-requires
unfolding occurrences ones_at
weighed-requires c = omega (arith, light_ones c.requires)

pub runs_of-requires : goal.runs_of-requires
unfolding runs_from is_of how_many but_last inner_runs inside_at
runs_of-requires c = (c.requires, omega arith, refl)

pub runs_of-requires-2 : goal.runs_of-requires-2
unfolding runs_from is_of how_many but_last inner_runs inside_at
runs_of-requires-2 c = (c.requires, omega arith, refl)

pub returns : goal.returns
unfolding occurrences ones_at counts_in
returns c = rw (c.runs_of-2.ensures, c.runs_of.ensures, c.weighed-2.ensures, c.weighed.ensures, c.poker_counts-poker.ensures, dot_self)
