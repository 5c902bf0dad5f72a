-- Demand 3 over histories: "After any sequence of calls, each call reports as rows read exactly those on the way that document 01 defines
-- over the PreTree of the present words, or none if refused."
use Rattle.std.specs.Prelude.{ℕ, ◌≡◌, false, List, length}
use Rattle.ordered.specs.Dictionary.{words}
use Rattle.pretree.specs.declared.Call.{Call}
use Rattle.pretree.specs.Table.{capacity}
use Rattle.pretree.specs.Reply.{wrong_width}
use Rattle.demands.specs.Program.{Program, Asked, State, outcome, end_state}
use Rattle.demands.specs.Expected.{Kept, kept_at_end}
use Rattle.demands.specs.RowsRead.{rows_over, moved_over, refused_over, Reports}
use Rattle.demands.specs.Demand2.{HoldsKept, empty_state, empty_kept, Throughout}

module _ (program : Program) where
  -- A call reports the rows of its ways over the PreTree of the words that the dictionary keeps at that moment. The moving count is that of
  -- the last row's way. Which row is the last one depends on the table.
  abbrev pub ReportsAs : ℕ → Asked → State → Kept → Type 0
  ReportsAs room a s k =
      Reports (refused_over a.call k.width k.set room (length a.buffer)) (rows_over a.call k.width k.set)
      (moved_over a.call s.header s.table k.set) (outcome program a s).reply

  abbrev pub ReportsThroughout : List Asked → State → Kept → Type 0
  ReportsThroughout cs s k = Throughout program (ReportsAs (capacity s.table)) cs (capacity s.table) s k

  abbrev pub History : Type 0
  History = (cs : List Asked) (s : State) (k : Kept) → HoldsKept s k → ReportsThroughout cs s k

  -- "Start with an empty set in one table"
  abbrev pub HistoryFromEmpty : Type 0
  HistoryFromEmpty = (cs : List Asked) (W : ℕ) (table : List ℕ) → wrong_width W ≡ false → ReportsThroughout cs (empty_state W table) (empty_kept W)

  -- "So two histories that end with the same words and width in tables of equal length give the same counts, save the count for moving a row
  -- at an erase." A history is any list of calls from an empty set. It may have a `new` of another width, refusals, `audit` and `list`.
  -- The serials may differ.
  abbrev pub TwoHistories : Type 0
  TwoHistories =
      (cs cs' : List Asked) (W W' : ℕ) (table table' : List ℕ) → wrong_width W ≡ false → wrong_width W' ≡ false → length table ≡ length table'
      → (kept_at_end cs (capacity table) (empty_kept W)).width ≡ (kept_at_end cs' (capacity table') (empty_kept W')).width
      → words (kept_at_end cs (capacity table) (empty_kept W)).set ≡ words (kept_at_end cs' (capacity table') (empty_kept W')).set
      → (c : Call) (buffer buffer' : List ℕ) → length buffer ≡ length buffer'
      → (outcome program (record { call = c; buffer = buffer }) (end_state program cs (empty_state W table))).reply.rows
      ≡ (outcome program (record { call = c; buffer = buffer' }) (end_state program cs' (empty_state W' table'))).reply.rows
