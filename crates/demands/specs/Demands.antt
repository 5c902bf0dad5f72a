-- The three demands on one program, together.
use Rattle.std.specs.Prelude.{ℕ, ◌≤◌}
use Rattle.demands.specs.Program.{Program}
use Rattle.demands.specs.Refusals.{Demand1}
use Rattle.demands.specs.Zeros.{ZerosKept}
use Rattle.demands.specs.RowsRead.{RowsExact, RowsBounded}
use Rattle.demands.specs.Demand2.{Demand2, Sequences}
use Rattle.demands.specs.History.{History, TwoHistories}
use Rattle.demands.specs.Reached.{LeastBounds}
use Rattle.demands.specs.Contracts.{Contracted}

pub record Demands (program : Program) : Type 0 where
  -- 1
  pub refusals : Demand1 program
  pub zeros_kept : ZerosKept program
  -- 2
  pub dictionary : Demand2 program
  pub sequences : Sequences program
  -- 3
  pub rows_exact : RowsExact program
  pub history : History program
  pub two_histories : TwoHistories program
  pub rows_bounded : RowsBounded program
  pub least_bounds : (W : ℕ) → 1 ≤ W → W ≤ 32 → LeastBounds program W

-- They hold of every program that keeps the contracts of our code.
abbrev pub DemandsMet : Type 0
DemandsMet = (program : Program) → Contracted program → Demands program
