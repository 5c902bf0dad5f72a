-- The contract of `take_sample`, as the code has it, asks nothing and says `Sampled`. If the clause is removed from the code, it is missing here
-- too, and the theorem is refused. crates/capture/proofs/Contracts.antt says what the checker makes of a contract.
use Prim.Native.Nat.{ℕ}
use mathlib.Core.List.{List}
use mathlib.Core.Logic.{◌↔◌}
use base.Fml.{Lft}
use denote.Ref.{MutBor}
use denote.Triple.Clauses.{at_exit}
use Rattle.tray.specs.declared.Seat.{Seat}
use Rattle.tray.specs.declared.Sample.{Sample}
use Rattle.tray.specs.Verdict.{Verdict}
use Rattle.tray.specs.Tray.{Sampled}
use Rattle.tray.specs.contracts.take_sample as take_sample_clauses
use Rattle.tray.proofs.take_sample as take_sample_fn

-- a tray lent as `&mut [Seat]`, a seat and a sample
module _ (tray : MutBor (List Seat)) (seat : ℕ) (s : Sample) (t : Lft) where
  abbrev lifetimes : Lft × Unit {0}
  lifetimes = (t, tt)

  abbrev given : MutBor (List Seat) × (ℕ × (Sample × Unit {0}))
  given = (tray, (seat, (s, tt)))

  -- what the contract says of the tray at exit and of the answer
  abbrev pub Contract : List Seat → Verdict → Type 0
  Contract left answer = take_sample_fn.Reads.Post lifetimes given answer (at_exit take_sample_clauses.ended lifetimes given (left, (tt, (tt, tt))))

  pub contract_is_sampled : (left : List Seat) (answer : Verdict) → Contract left answer ↔ Sampled tray.now seat s left answer
  contract_is_sampled left answer = (λ said. said, λ said. said)

  pub asks_nothing : take_sample_fn.Reads.Asked lifetimes given
  asks_nothing = tt
