-- The rows past the count stay zeros, on every table, also on a damaged one.
-- Document 01: "Rows in use are 0 to count−1. All later rows up to capacity hold three zeros after `new`, and our calls keep it so."
use Rattle.std.specs.Prelude.{ℕ, ◌<◌, ◌≤◌, ◌≡◌, false, List}
use Rattle.pretree.specs.declared.Header.{Header}
use Rattle.pretree.specs.Table.{capacity, row_at, cleared}
use Rattle.pretree.specs.Reply.{wrong_width}
use Rattle.pretree.specs.declared.Call.{Call}
use Rattle.pretree.specs.declared.Call.TheVariants.{New}
use Rattle.demands.specs.Program.{Program}

abbrev pub LaterZeros : Header → List ℕ → Type 0
LaterZeros h table = (i : ℕ) → h.count ≤ i → i < capacity table → row_at table i ≡ cleared

pub record ZerosKept (program : Program) : Type 0 where
  pub after_new :
      (w : ℕ) (h : Header) (table buffer : List ℕ) → wrong_width w ≡ false
      → LaterZeros (program (New w) h table buffer).reply.header (program (New w) h table buffer).table
  -- whatever is in the rows in use, and whatever the header is
  pub kept_so :
      (c : Call) (h : Header) (table buffer : List ℕ) → LaterZeros h table
      → LaterZeros (program c h table buffer).reply.header (program c h table buffer).table
