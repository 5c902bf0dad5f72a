-- What a call on the set header and table answers and leaves, and what is set after it.
use Rattle.std.specs.Prelude.{◌≡◌, ℕ, true, false, List, take, replicate}
use Rattle.pretree.specs.declared.Header.{Header}
use Rattle.pretree.specs.declared.Call.{Call}
use Rattle.pretree.specs.Call.{After, after}
use Rattle.raw.specs.declared.state.State.{State}

-- The call gets the words of the table that were set, and a blank buffer.
abbrev pub outcome : Call → State → List ℕ → After
outcome call s table = after call s.header (take s.size table) (replicate s.room 2863311530)

abbrev pub with_header : State → Header → State
with_header s h = record s { header = h }

-- With `keep`, header and table are then what the call left. With `fresh`, nothing has changed.
pub record SetAfter (call : Call) (s : State) (table : List ℕ) (r : State) (left : List ℕ) : Type 0 where
  pub kept : s.keep ≡ true → (r ≡ with_header s (outcome call s table).reply.header) × (take s.size left ≡ (outcome call s table).table)
  pub untouched : s.keep ≡ false → (r ≡ s) × (left ≡ table)
