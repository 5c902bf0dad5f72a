-- Demand 2, put together from the proofs for each call; and its corollary for sequences of calls.
use Prim.Native.Nat.{ℕ, ◌≤◌}
use mathlib.Core.Path.{◌≡◌, refl, subst, ◌∙◌}
use mathlib.Core.Bool.{false}
use mathlib.Core.List.{List, [], ◌∷◌, ◌++◌}
use native.Mathlib.Omega.{arith}
use lib.ListN.{length, length-append}
use borrow.Author.Tests.{le-ltb}
use Rattle.pretree.specs.Table.{capacity}
use Rattle.pretree.specs.Reply.{wrong_width, wrong_header}
use Rattle.pretree.proofs.Writing.{same_capacity}
use Rattle.pretree.specs.declared.Call.{Call}
use Rattle.pretree.specs.declared.Call.TheVariants.{New, Add, Del, Has, Next, Prev, Gap, First, Last, Audit}
use Rattle.pretree.specs.Call.{after}
use Rattle.demands.specs.Program.{Asked, State, outcome, state_after, end_state}
use Rattle.demands.specs.Expected.{Kept, expected, kept_after, kept_after_call, kept_at_end}
use Rattle.demands.specs.Demand2.{Keeps, Demand2, HoldsKept, empty_state, empty_kept, Throughout, AnswersAs, Sequences, SequencesFromEmpty, EverySetHeld}
use Rattle.demands.proofs.Written.{every_set_has_rows}
use Rattle.demands.proofs.Answered.{empty_held, keeps_has, keeps_next, keeps_prev, keeps_gap, keeps_first, keeps_last, keeps_audit, keeps_list, keeps_new}
use Rattle.demands.proofs.StoredSerial.{keeps_add}
use Rattle.demands.proofs.Removed.{keeps_del}

pub demand2 : Demand2 after
demand2 (New w) h table buffer S H = keeps_new h table buffer S H w
demand2 (Add k serial) h table buffer S H = keeps_add h table S H k serial buffer
demand2 (Del k) h table buffer S H = keeps_del h table S H k buffer
demand2 (Has k) h table buffer S H = keeps_has h table buffer S H k
demand2 (Next k) h table buffer S H = keeps_next h table buffer S H k
demand2 (Prev k) h table buffer S H = keeps_prev h table buffer S H k
demand2 (Gap k) h table buffer S H = keeps_gap h table buffer S H k
demand2 First h table buffer S H = keeps_first h table buffer S H
demand2 Last h table buffer S H = keeps_last h table buffer S H
demand2 Audit h table buffer S H = keeps_audit h table buffer S H
demand2 Call.List h table buffer S H = keeps_list h table buffer S H

-- demand 2 for a call with the buffer lent with it, if the table has room for `room` words
module _ (room : ℕ) (a : Asked) (s : State) (k : Kept) (same_room : capacity s.table ≡ room) (H : HoldsKept s k) where
  pub answers_as : AnswersAs after room a s k
  answers_as =
      let kept : ℕ → Kept = λ W. record { width = W; set = k.set; buffer = a.buffer } in
      let P : ℕ → ℕ → Type 0 = λ r W. Keeps (expected a.call r (kept W)) (kept_after a.call r (kept W)) s.table (outcome after a s) in
      subst (λ r. P r k.width) same_room
      (subst (P (capacity s.table)) H.width (demand2 a.call s.header s.table a.buffer k.set H.held))

  kept_so : HoldsKept (state_after after a s) (kept_after_call a room k)
  kept_so = record { width = answers_as.width; held = answers_as.held }

  room_stays : capacity (state_after after a s).table ≡ room
  room_stays = same_capacity (state_after after a s).table s.table answers_as.same_length ∙ same_room

-- If P holds of a call in every state that holds what the dictionary keeps, P holds of each call of a list.
module _ (room : ℕ) where
  abbrev Here : State → Kept → Type 0
  Here s k = (capacity s.table ≡ room) × HoldsKept s k

  pub throughout : (P : Asked → State → Kept → Type 0) → ((a : Asked) (s : State) (k : Kept) → Here s k → P a s k) → (cs : List Asked) (s : State) (k : Kept) → Here s k → Throughout after P cs room s k
  unfolding Throughout
  throughout P each [] s k here = tt
  throughout P each (a ∷ cs) s k here = (
    each a s k here,
    throughout P each cs (state_after after a s) (kept_after_call a room k) (room_stays room a s k here.0 here.1, kept_so room a s k here.0 here.1),
  )

  holds_at_end : (cs : List Asked) (s : State) (k : Kept) → Here s k → HoldsKept (end_state after cs s) (kept_at_end cs room k) × (length (end_state after cs s).table ≡ length s.table)
  unfolding end_state kept_at_end
  holds_at_end [] s k here = (here.1, refl)
  holds_at_end (a ∷ cs) s k here =
      let e = holds_at_end cs (state_after after a s) (kept_after_call a room k) (room_stays room a s k here.0 here.1, kept_so room a s k here.0 here.1) in
      (e.0, e.1 ∙ (answers_as room a s k here.0 here.1).same_length)

pub sequences : Sequences after
sequences cs s k H =
    let room : ℕ = capacity s.table in
    let e = holds_at_end room cs s k (refl, H) in
    record {
      answers = throughout room (AnswersAs after room) (λ a s k here. answers_as room a s k here.0 here.1) cs s k (refl, H);
      at_end = e.0;
      same_length = e.1;
    }

pub empty_holds : (W : ℕ) (table : List ℕ) → wrong_width W ≡ false → HoldsKept (empty_state W table) (empty_kept W)
empty_holds W table right = record { width = refl; held = empty_held W table right }

pub sequences_from_empty : SequencesFromEmpty after
sequences_from_empty cs W table right = sequences cs (empty_state W table) (empty_kept W) (empty_holds W table right)

pub every_set_held : EverySetHeld
unfolding wrong_header capacity
every_set_held W S rest right rising below few =
    let r = every_set_has_rows W S rest rising below in
    let room : length S ≤ capacity (r.rows ++ rest) = rw length-append (omega (arith, r.as_many)) in
    record {
      rows = r.rows;
      as_many = r.as_many;
      held = record { right_header = rw (right, le-ltb (capacity (r.rows ++ rest)) (length S) room); holds = r.held };
    }
