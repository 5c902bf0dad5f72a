-- Demand 3 over histories: `rows_exact` gives each call's rows, and `demand2` the table that the calls before it left.
use Prim.Native.Nat.{ℕ}
use mathlib.Core.Path.{◌≡◌, refl, sym, subst, ◌∙◌}
use lib.ListN.{length}
use Rattle.pretree.specs.Table.{capacity}
use Rattle.pretree.specs.Call.{after}
use Rattle.demands.specs.Program.{Asked, State, outcome, end_state}
use Rattle.demands.specs.Expected.{Kept, kept_at_end}
use Rattle.demands.specs.RowsRead.{rows_over, moved_over, refused_over, Reports}
use Rattle.demands.specs.Demand2.{HoldsKept, empty_state, empty_kept}
use Rattle.demands.specs.History.{ReportsAs, History, HistoryFromEmpty, TwoHistories}
use Rattle.demands.proofs.RowsRead.{rows_exact, rows_alike}
use Rattle.demands.proofs.Demand2.{throughout, sequences_from_empty, empty_holds}

-- `rows_exact` for a call with the buffer lent with it, if the table has room for `room` words
module _ (room : ℕ) (a : Asked) (s : State) (k : Kept) (same_room : capacity s.table ≡ room) (H : HoldsKept s k) where
  pub reports_as : ReportsAs after room a s k
  reports_as =
      let P : ℕ → ℕ → Type 0 =
      λ r W.
      Reports (refused_over a.call W k.set r (length a.buffer)) (rows_over a.call W k.set)
      (moved_over a.call s.header s.table k.set) (outcome after a s).reply in
      subst (λ r. P r k.width) same_room
      (subst (P (capacity s.table)) H.width
      (rows_exact a.call s.header s.table a.buffer k.set H.held.right_header H.held.holds))

pub history : History after
history cs s k H =
    let room : ℕ = capacity s.table in
    throughout room (ReportsAs after room) (λ a s k here. reports_as room a s k here.0 here.1) cs s k (refl, H)

pub history_from_empty : HistoryFromEmpty after
history_from_empty cs W table right = history cs (empty_state W table) (empty_kept W) (empty_holds W table right)

pub two_histories : TwoHistories after
two_histories cs cs' W W' table table' right right' same_length same_width_lem same_words c buffer buffer' same_space =
    let e = sequences_from_empty cs W table right in
    let e' = sequences_from_empty cs' W' table' right' in
    rows_alike c (end_state after cs (empty_state W table)).header (end_state after cs' (empty_state W' table')).header
    (end_state after cs (empty_state W table)).table (end_state after cs' (empty_state W' table')).table buffer buffer'
    (kept_at_end cs (capacity table) (empty_kept W)).set (kept_at_end cs' (capacity table') (empty_kept W')).set
    e.at_end.held.right_header e'.at_end.held.right_header e.at_end.held.holds e'.at_end.held.holds same_words
    (e.at_end.width ∙ same_width_lem ∙ sym e'.at_end.width)
    (e.same_length ∙ same_length ∙ sym e'.same_length) same_space
