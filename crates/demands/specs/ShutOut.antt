-- Programs that break the demands. Document 01: "Try these: a set that refuses everything, one that always replies alike, one that never
-- changes the table, and one that really works only at its first call are all shut out by demand 2, which compares reply and set after every
-- call. A set that invents its row counts is shut out by demand 3."
use Rattle.std.specs.Prelude.{ℕ, ◌≡◌, List}
use Rattle.pretree.specs.declared.Header.{Header}
use Rattle.pretree.specs.declared.Reply.{Reply}
use Rattle.pretree.specs.declared.Call.{Call}
use Rattle.pretree.specs.Answer.{number_of}
use Rattle.demands.specs.Program.{Program}
use Rattle.demands.specs.Refusals.{Refusal}
use Rattle.demands.specs.RowsRead.{RowsExact}
use Rattle.demands.specs.Demand2.{Demand2}

pub record ShutOut (program : Program) : Type 0 where
  pub refuses_everything :
      ((c : Call) (h : Header) (table buffer : List ℕ) → Refusal (number_of (program c h table buffer).reply.answer)) → ¬ Demand2 program
  pub replies_alike : (r : Reply) → ((c : Call) (h : Header) (table buffer : List ℕ) → (program c h table buffer).reply ≡ r) → ¬ Demand2 program
  pub never_changes_the_table : ((c : Call) (h : Header) (table buffer : List ℕ) → (program c h table buffer).table ≡ table) → ¬ Demand2 program
  -- A program that returns the header it was given works only at its first call: the next call does not know of a word that was added.
  pub first_call_alone : ((c : Call) (h : Header) (table buffer : List ℕ) → (program c h table buffer).reply.header ≡ h) → ¬ Demand2 program
  pub invents_its_counts : (n : ℕ) → ((c : Call) (h : Header) (table buffer : List ℕ) → (program c h table buffer).reply.rows ≡ n) → ¬ RowsExact program
