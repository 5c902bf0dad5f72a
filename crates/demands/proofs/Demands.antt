-- The three demands together. They hold of `after`, so they hold of every program that keeps the contracts, since `after` is the only one.
use mathlib.Core.Path.{sym, subst}
use Rattle.pretree.specs.Call.{after}
use Rattle.demands.specs.Demands.{Demands, DemandsMet}
use Rattle.demands.proofs.Refusals.{refusals}
use Rattle.demands.proofs.Zeros.{zeros_kept}
use Rattle.demands.proofs.RowsRead.{rows_exact, rows_bounded}
use Rattle.demands.proofs.Demand2.{demand2, sequences}
use Rattle.demands.proofs.History.{history, two_histories}
use Rattle.demands.proofs.LeastBounds.{least_bounds}
use Rattle.demands.proofs.Contracts.{one_program}

ours : Demands after
ours =
    record {
      refusals = refusals;
      zeros_kept = zeros_kept;
      dictionary = demand2;
      sequences = sequences;
      rows_exact = rows_exact;
      history = history;
      two_histories = two_histories;
      rows_bounded = rows_bounded;
      least_bounds = least_bounds;
    }

pub demands_met : DemandsMet
demands_met program keeps = subst Demands (sym ((one_program program).0 keeps)) ours
