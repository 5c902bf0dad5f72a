-- Programs, and lists of calls. The demands are stated for any program, so that it can be proved that wrong programs break them
-- (proofs/ShutOut.antt). Our program is `after` of crate `pretree`. It is what the contracts of the functions say (`contract_is_after`,
-- proofs/Contracts.antt).
use Rattle.std.specs.Prelude.{ℕ, List, [], ◌∷◌}
use Rattle.pretree.specs.declared.Header.{Header}
use Rattle.pretree.specs.declared.Call.{Call}
use Rattle.pretree.specs.Call.{After}

-- what a program answers to each call on every header, table and buffer, and what it leaves in the table and the buffer
abbrev pub Program : Type 0
Program = Call → Header → List ℕ → List ℕ → After

-- a call, and the buffer that is lent with it. Only `list` looks at the buffer.
pub record Asked : Type 0 where
  pub call : Call
  pub buffer : List ℕ

-- the state between two calls: "one table that only our calls touch, each given the latest header"
pub record State : Type 0 where
  pub header : Header
  pub table : List ℕ

module _ (program : Program) where
  abbrev pub outcome : Asked → State → After
  outcome a s = program a.call s.header s.table a.buffer

  abbrev pub state_after : Asked → State → State
  state_after a s = record { header = (outcome a s).reply.header; table = (outcome a s).table }

  -- the state after a list of calls
  unfoldable pub end_state : List Asked → State → State
  end_state [] s = s
  end_state (a ∷ cs) s = end_state cs (state_after a s)
