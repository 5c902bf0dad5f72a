-- The rows past the count stay zeros, on every table. `add` and `del` write only rows in use and the new row of `add` (proofs/Owned.antt),
-- which is in use afterwards. The row that `del` takes out of use is cleared.
use Prim.Native.Nat.{ℕ, suc, pred, ◌*◌, ◌<◌, ◌≤◌}
use mathlib.Core.Path.{◌≡◌, refl, ◌∙◌}
use mathlib.Core.Logic.{◌⊎◌, inl, inr}
use mathlib.Core.Bool.{Bool, true, false}
use mathlib.Core.List.{List}
use native.Mathlib.Nat.{eq-or-lt_of_le}
use native.Mathlib.Omega.{arith}
use lib.Dec.{ltb}
use lib.ListN.{length, get_or, drop, replicate, length-replicate, get_or-replicate, get_or-append}
use Rattle.ordered.specs.Dictionary.{Entry}
use Rattle.ordered.specs.Reading.{Reading, broken_in}
use Rattle.ordered.specs.Reading.{has, next, prev, gap, first, last}
use Rattle.ordered.specs.Change.{erasing}
use Rattle.ordered.proofs.Lists.{by_test}
use Rattle.pretree.specs.declared.Header.{Header}
use Rattle.pretree.specs.declared.Answer.{Answer}
use Rattle.pretree.specs.declared.Answer.TheVariants.{Distance}
use Rattle.pretree.specs.declared.Reply.{Reply}
use Rattle.pretree.specs.Table.{row_words, capacity, row_at, with_row, cleared}
use Rattle.pretree.specs.Unfold.{shown}
use Rattle.pretree.specs.Reply.{wrong_width, wrong_header, too_wide}
use Rattle.pretree.specs.Find.{serial as say_serial, word, read_reply, has_reply, next_reply, prev_reply, gap_reply, first_reply, last_reply}
use Rattle.pretree.specs.Whole.{new_reply, new_table, audit_reply, list_reply}
use Rattle.pretree.specs.Sound.{is_sound}
use Rattle.pretree.specs.Add.{entry_for, Outcome, add_outcome}
use Rattle.pretree.specs.Del.{shrunk, del_outcome}
use Rattle.pretree.proofs.Writing.{same_capacity, row_words_of}
use Rattle.pretree.proofs.Rows.{row_written, row_length, same_row, zero_row}
use Rattle.pretree.specs.declared.Call.{Call}
use Rattle.pretree.specs.declared.Call.TheVariants.{New, Add, Del, Has, Next, Prev, Gap, First, Last, Audit}
use Rattle.pretree.specs.Call.{after}
use Rattle.demands.specs.Refusals.{SameFrom}
use Rattle.demands.specs.Zeros.{LaterZeros, ZerosKept}
use Rattle.demands.proofs.Owned.{stored, stored_kept, new_kept, added, removed, added_kept, removed_kept, of_add_outcome, of_del_outcome}

-- "it clears every row"
cleared_word : (table : List ℕ) (w p : ℕ) → wrong_width w ≡ false → p < row_words * capacity table → get_or (new_table table w) p 0 ≡ 0
unfolding new_table
cleared_word table w p right room =
    let n : ℕ = row_words * capacity table in
    rw right
    (get_or-append (replicate n 0) (drop n table) 0 p (omega (arith, length-replicate {A = ℕ} n 0)) ∙ get_or-replicate n p 0 0 room)

new_zeros : (w : ℕ) (h : Header) (table : List ℕ) → wrong_width w ≡ false → LaterZeros (new_reply h w).header (new_table table w)
new_zeros w h table right i past room =
    let fits : i < capacity table = omega (arith, same_capacity (new_table table w) table (new_kept table w).same_length) in
    zero_row (new_table table w) i (λ p from to. cleared_word table w p right (omega arith))

-- "Row count−1 is then three zeros."
clear_row : (i : ℕ) (table : List ℕ) → i < capacity (with_row i cleared table) → row_at (with_row i cleared table) i ≡ cleared
clear_row i table room =
    row_written i table (omega (arith, (row_words_of (with_row i cleared table) i room).within, row_length i cleared table)) cleared

module _ (h : Header) (table : List ℕ) (zeros : LaterZeros h table) where
  -- the rows from number n on are still zeros, if a call wrote none of them
  still_zeros : (n : ℕ) → h.count ≤ n → (table' : List ℕ) → SameFrom (row_words * n) table table'
      → (i : ℕ) → n ≤ i → i < capacity table' → row_at table' i ≡ cleared
  still_zeros n more table' same i past room =
      same_row table table' i (λ p from to. same.same_words p (omega arith))
      ∙ zeros i (omega arith) (omega (arith, same_capacity table' table same.same_length))

  -- a reply and an outcome after which the later rows are zeros
  abbrev Replied : Reply → Type 0
  Replied r = LaterZeros r.header table

  abbrev Left : Outcome → Type 0
  Left o = LaterZeros o.reply.header o.table

  unchanged : (r : Reply) → r.header ≡ h → Replied r
  unchanged r same = rw same zeros

  zeros_add : (new : Entry) → Left (add_outcome h table new)
  zeros_add new =
      of_add_outcome h table new Left unchanged
      (λ fits there. still_zeros h.count (omega arith) (stored h table new).table (stored_kept h table new h.count (omega arith)))
      (λ room. still_zeros (suc h.count) (omega arith) (added h table new).table (added_kept h table new (suc h.count) (omega arith)))

  module _ (k : ℕ) where
    zeros_del : Left (del_outcome h table k)
    unfolding shrunk
    zeros_del = of_del_outcome h table k Left unchanged (λ fits present i past room. by_row present i room (eq-or-lt_of_le past))
      where
        by_row : (erasing h.width k (shown h table)).present ≡ true → (i : ℕ) → i < capacity (removed h table k).table
            → (pred h.count ≡ i) ⊎ (pred h.count < i) → row_at (removed h table k).table i ≡ cleared
        by_row present i room (inl same) = rw (← same) (clear_row (pred h.count) _ (rw (← same) at room))
        by_row present i room (inr later) =
            still_zeros h.count (omega arith) (removed h table k).table (removed_kept h table k h.count (omega arith) present) i
            (omega arith) room

  read_zeros : {A : Type 0} (wide : Bool) (say : A → Answer) (r : Reading A) → Replied (read_reply h table wide say r)
  read_zeros wide say r =
      by_test Replied (wrong_header h table) (λ wrong. zeros)
      (λ right. by_test Replied wide (λ too_wide. zeros)
      (λ narrow. by_test Replied (broken_in r.ways) (λ damage. zeros) (λ whole. zeros)))

  call_zeros : (c : Call) (buffer : List ℕ) → LaterZeros (after c h table buffer).reply.header (after c h table buffer).table
  unfolding after new_reply new_table has_reply next_reply prev_reply gap_reply first_reply last_reply audit_reply list_reply
  call_zeros (New w) buffer = by_cases (wrong_width w) refl
    where
      by_cases : (b : Bool) → wrong_width w ≡ b → LaterZeros (new_reply h w).header (new_table table w)
      by_cases true wrong = rw wrong zeros
      by_cases false right = new_zeros w h table right
  call_zeros (Add k serial) buffer = zeros_add (entry_for k serial)
  call_zeros (Del k) buffer = zeros_del k
  call_zeros (Has k) buffer = read_zeros (too_wide h k) say_serial (has h.width k (shown h table))
  call_zeros (Next k) buffer = read_zeros (too_wide h k) word (next h.width k (shown h table))
  call_zeros (Prev k) buffer = read_zeros (too_wide h k) word (prev h.width k (shown h table))
  call_zeros (Gap k) buffer = read_zeros (too_wide h k) Distance (gap h.width k (shown h table))
  call_zeros First buffer = read_zeros false word (first h.width (shown h table))
  call_zeros Last buffer = read_zeros false word (last h.width (shown h table))
  call_zeros Audit buffer =
      by_test Replied (wrong_header h table) (λ wrong. zeros) (λ right. by_test Replied (is_sound h table) (λ sound. zeros) (λ damage. zeros))
  call_zeros Call.List buffer =
      by_test Replied (wrong_header h table) (λ wrong. zeros)
      (λ right. by_test Replied (is_sound h table)
      (λ sound. by_test Replied (ltb (length buffer) h.count) (λ short. zeros) (λ room. zeros)) (λ damage. zeros))

pub zeros_kept : ZerosKept after
unfolding after
zeros_kept =
    record { after_new = λ w h table buffer right. new_zeros w h table right; kept_so = λ c h table buffer zeros. call_zeros h table zeros c buffer }
