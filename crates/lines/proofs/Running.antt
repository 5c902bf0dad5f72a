-- A call that is run, and a line that is answered.
use Prim.Native.Nat.{ℕ, ◌+◌, ◌≤◌}
use mathlib.Core.Path.{◌≡◌, refl}
use mathlib.Core.Bool.{true, false}
use mathlib.Core.List.{List, ◌++◌, append-nil}
use mathlib.Core.Logic.{⊎_elim}
use native.Mathlib.Omega.{arith}
use borrow.Author.Tests.{ltb-false}
use lib.Dec.{ltb}
use native.Mathlib.Numerals.{add-one}
use lib.ListN.{length, take}
use Rattle.pretree.specs.declared.Header.{Header}
use Rattle.pretree.specs.declared.Answer.TheVariants.{Done}
use Rattle.pretree.specs.Answer.{number_of}
use Rattle.pretree.specs.Reply.{wrong_header}
use Rattle.pretree.specs.Sound.{is_sound}
use Rattle.pretree.specs.Whole.{list_reply}
use Rattle.pretree.specs.Call.{after}
use Rattle.pretree.specs.declared.Call.{Call}
use Rattle.std.specs.Prelude.{None, Some}
use Rattle.lines.specs.declared.answer.CallResult.{CallResult}
use Rattle.lines.specs.Render.{fields_of, not_read, reply_line, key_lines}
use Rattle.lines.specs.Output.{State, listed_in, answer, written}
use Rattle.lines.specs.Answering.{Runs}
use Rattle.std.proofs.lemmas.Bool.{cases_Bool}

-- A `list` that is not done lists nothing. Answer 6 is given for a "`list` buffer shorter than count", so the words of one that is done are in
-- the buffer.
pub list_lists :
    (h : Header) (t b : List ℕ)
    → (((list_reply h t b).answer ≡ Done → ⊥) → listed_in (list_reply h t b) ≡ 0) × (listed_in (list_reply h t b) ≤ length b)
unfolding list_reply number_of
list_lists h t b =
    ⊎_elim
    (λ (w : wrong_header h t ≡ true). rw w (λ n. refl, omega arith))
    (λ (w : wrong_header h t ≡ false).
    ⊎_elim
    (λ (s : is_sound h t ≡ true).
    ⊎_elim
    (λ (l : ltb (length b) h.count ≡ true). rw (w, s, l) (λ n. refl, omega arith))
    (λ (l : ltb (length b) h.count ≡ false). rw (w, s, l) (λ n. absurd (n refl), ltb-false _ _ l))
    (cases_Bool (ltb (length b) h.count)))
    (λ (s : is_sound h t ≡ false). rw (w, s) (λ n. refl, omega arith))
    (cases_Bool (is_sound h t)))
    (cases_Bool (wrong_header h t))

-- a line whose call was run, and a line that is not read
module _ (s : State) where
  pub read_state :
      (call : Call) {r : CallResult} {rows words : List ℕ} → Runs call (after call s.header s.table s.buffer) r rows words
      → record { header = r.reply.header; table = rows; buffer = words; lines = s.lines + 1 } ≡ (answer s (Some call)).state
  unfolding answer
  read_state call h = rw (h.reply, h.table, h.buffer, add-one)

  pub read_written :
      (call : Call) {r : CallResult} {rows words : List ℕ} → Runs call (after call s.header s.table s.buffer) r rows words
      → reply_line (s.lines + 1) (fields_of r.reply) ++ key_lines (take r.listed words) ≡ written (answer s (Some call))
  unfolding answer written
  read_written call h = rw (h.reply, h.listed, h.buffer, add-one)

  pub unread_state : record { header = s.header; table = s.table; buffer = s.buffer; lines = s.lines + 1 } ≡ (answer s None).state
  unfolding answer
  unread_state = rw add-one

  pub unread_written : reply_line (s.lines + 1) not_read ≡ written (answer s None)
  unfolding answer written key_lines
  unread_written = rw (add-one, append-nil)
