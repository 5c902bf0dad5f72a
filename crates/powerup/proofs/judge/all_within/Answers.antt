-- `powerup::judge::all_within` meets its contract. Assumes nothing.
use mathlib.Core.Path.{◌∙◌}
use Rattle.std.proofs.Common.{ℕ, rules, tests}
use Rattle.std.proofs.lemmas.Iterator.{YieldsList-from_slice, YieldsList-from_zip}
use Rattle.std.proofs.lemmas.Iterator.Search.{all_from_yields_List}
use Rattle.powerup.specs.declared.Interval.{Interval}
use Rattle.powerup.specs.Verdicts.{within}
use Rattle.powerup.proofs.Lists.{within_zip}
use Rattle.powerup.proofs.judge.all_within.Goals as goal

pub returns : goal.returns
returns c =
    all_from_yields_List (λ (p : Interval × ℕ). within p.0 p.1) c.all.new.self _ c.all.result c.all.ensures.ran
    (YieldsList-from_zip (YieldsList-from_slice c.args.intervals.now cc) (YieldsList-from_slice c.args.counts.now cc)) (λ x b q k. search (rules, tests))
    ∙ within_zip c.args.intervals.now c.args.counts.now
