-- `powerup::count::weighed` meets its contract. Assumes nothing.
use Rattle.std.proofs.Common.{ℕ, ◌*◌, ◌^◌, ◌<◌, refl, rules, arith}
use Rattle.std.specs.List.{zip}
use Rattle.std.proofs.lemmas.Iterator.{YieldsList-from_slice, YieldsList-from_zip}
use Rattle.std.proofs.lemmas.Iterator.Adapters.{serves_from_places}
use Rattle.std.proofs.lemmas.List.Sums.{get_or-le-sum_by}
use Rattle.powerup.specs.Steps.{dot}
use Rattle.powerup.proofs.count.weighed.Goals as goal

-- Each product is at most the whole sum.
pub sum-requires-clause-can : goal.sum-requires-clause-can
unfolding dot
sum-requires-clause-can c =
    let pairs = zip c.args.numbers.now c.args.weights.now in (
      (tt, tt),
      serves_from_places (YieldsList-from_zip (YieldsList-from_slice c.args.numbers.now cc) (YieldsList-from_slice c.args.weights.now cc)) (λ x q r. refl)
          (λ x k h e.
          let most : x.0.now * x.1.now < 2 ^ 32 =
          omega (arith, rw (← e) at (get_or-le-sum_by (λ (p : ℕ × ℕ). p.0 * p.1) pairs k (x.0.now, x.1.now) h)) in
          search rules),
    )
