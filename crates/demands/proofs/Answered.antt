-- Demand 2 for the calls that write no row (`has`, `next`, `prev`, `gap`, `first`, `last`, `audit`, `list`), and for `new`.
use Prim.Native.Nat.{ℕ, ◌*◌, ◌/◌, ◌^◌}
use mathlib.Core.Path.{◌≡◌, refl, ap, ◌∙◌}
use mathlib.Core.Bool.{Bool, true, false, ◌||◌}
use mathlib.Core.List.{List, [], ◌++◌}
use native.Mathlib.Omega.{arith}
use lib.Dec.{ltb, leb, eqb}
use lib.ListN.{length, drop, replicate}
use borrow.Author.Tests.{leb-false, le-ltb}
use Rattle.std.specs.Prelude.{if◌then◌else◌}
use Rattle.ordered.specs.Such.{Perhaps, no_such, such, its, is_there}
use Rattle.ordered.specs.Dictionary.{Entry, words, word_of, lookup, min, max, successor, predecessor}
use Rattle.ordered.specs.Tree.{Tree, entries, intact}
use Rattle.ordered.specs.Proper.{Proper}
use Rattle.ordered.specs.Reading.{Found, word_in, entry_in, Reading, rows_of, broken_in, nearest}
use Rattle.ordered.specs.Reading.{has as has_read, next as next_read, prev as prev_read, first as first_read, last as last_read, gap as gap_read}
use Rattle.ordered.proofs.Bits.{on_root_path}
use Rattle.ordered.proofs.Answers.{word_entry, has_answer, next_answer, prev_answer, gap_answer, first_answer, last_answer}
use Rattle.ordered.proofs.Unbroken.{has_unbroken, next_unbroken, prev_unbroken, gap_unbroken, first_unbroken, last_unbroken}
use Rattle.pretree.specs.declared.Header.{Header}
use Rattle.pretree.specs.declared.Answer.{Answer}
use Rattle.pretree.specs.declared.Answer.TheVariants.{Done, Distance, WrongWidth, WordTooWide, ShortBuffer}
use Rattle.pretree.specs.declared.Reply.{Reply}
use Rattle.pretree.specs.Answer.{number_of, key_of, serial_of}
use Rattle.pretree.specs.Table.{row_words, capacity}
use Rattle.pretree.specs.Unfold.{shown}
use Rattle.pretree.specs.Reply.{fresh, wrong_width, wrong_header, too_wide, refused, answered}
use Rattle.pretree.specs.Find.{saying, serial as say_serial, word as say_word, read_reply, has_reply, next_reply, prev_reply, gap_reply, first_reply, last_reply}
use Rattle.pretree.specs.Whole.{new_reply, new_table, audit_reply, list_reply, list_buffer}
use Rattle.pretree.specs.declared.Call.{Call}
use Rattle.pretree.specs.declared.Call.TheVariants.{New, Has, Next, Prev, Gap, First, Last, Audit}
use Rattle.pretree.specs.Call.{After, after}
use Rattle.demands.specs.Expected.{found, AnswerFields, Kept, only, word, expected, changed, kept_after}
use Rattle.demands.specs.Demand2.{Holding, fields_in, Keeps, kept_by, KeepsDictionary}
use Rattle.demands.proofs.Tested.{shown_proper}
use Rattle.demands.proofs.Owned.{new_kept}
use Rattle.demands.proofs.SoundIs.{tree_intact, tree_entries, test_of_set, held_by_entries}

abbrev fields_of : Answer → AnswerFields
fields_of a = record { number = number_of a; key = key_of a; serial = serial_of a }

word_fields : (p : Perhaps Found) → fields_of (saying say_word p) ≡ word (its word_in p)
unfolding number_of key_of serial_of
word_fields no_such = refl
word_fields (such x) = refl

-- an answer with the word of the entry that was found
entry_fields : (p : Perhaps Found) {q : Perhaps Entry} → entry_in p ≡ q → fields_of (saying say_word p) ≡ word (word_of q)
entry_fields p found = word_fields p ∙ ap word (word_entry p ∙ ap word_of found)

distance_fields : (p : Perhaps ℕ) → fields_of (saying Distance p) ≡ word p
unfolding number_of key_of serial_of
distance_fields no_such = refl
distance_fields (such x) = refl

serial_fields : (p : Perhaps Found) {q : Perhaps Entry} → entry_in p ≡ q → fields_of (saying say_serial p) ≡ found q
unfolding number_of key_of serial_of
serial_fields no_such same = ap found same
serial_fields (such x) same = ap found same

either_way : {A : Type 0} (b : Bool) (x : A) → (if b then x else x) ≡ x
either_way true x = refl
either_way false x = refl

-- what a header and a table that hold the set S show
module _ {h : Header} {table : List ℕ} {S : List Entry} (H : Holding h table S) where
  pub undamaged : intact (shown h table) ≡ true
  undamaged = tree_intact h table S H.holds.increasing H.holds.below H.holds.tree

  pub holds_entries : entries (shown h table) ≡ S
  holds_entries = tree_entries h table S H.holds.increasing H.holds.below H.holds.tree

  pub proper : Proper h.width 0 0 (shown h table)
  proper = shown_proper h table undamaged

-- a word that is not "2^W or more" is on the path of the root
pub narrow : (h : Header) (k : ℕ) → leb (2 ^ h.width) k ≡ false → k / 2 ^ h.width ≡ 0
narrow h k e = (on_root_path h.width k).0 (leb-false (2 ^ h.width) k e)

-- an empty set is held by every table
pub empty_held : (W : ℕ) (table : List ℕ) → wrong_width W ≡ false → Holding (fresh W) table []
unfolding wrong_header shown entries intact
empty_held W table right =
    record { right_header = rw (right, le-ltb (capacity table) 0 (omega arith)); holds = held_by_entries (fresh W) table refl refl refl }

-- the table that `new` leaves
abbrev cleaned : List ℕ → List ℕ
cleaned table = replicate (row_words * capacity table) 0 ++ drop (row_words * capacity table) table

module _ (h : Header) (table buffer : List ℕ) (S : List Entry) (H : Holding h table S) where
  abbrev kept : Kept
  kept = kept_by h S buffer

  abbrev leaving : Reply → After
  leaving r = record { reply = r; table = table; buffer = buffer }

  -- an answer that changes nothing
  pub nothing_changed : (r : Reply) (fields : AnswerFields) → fields_in r ≡ fields → r.header ≡ h → Keeps fields kept table (leaving r)
  nothing_changed r fields e same =
      record { answer = e; width = ap (λ g. g.width) same; held = rw same H; written = refl; same_length = refl }

  -- a reading call: answer 3, or what was found
  read : {A : Type 0} (wide : Bool) (say : A → Answer) (r : Reading A) (fields : AnswerFields) → broken_in r.ways ≡ false
      → (wide ≡ false → fields_of (saying say r.answer) ≡ fields)
      → let all : AnswerFields = if wide then only 3 else fields in
      Keeps all (if eqb all.number 0 || eqb all.number 7 then kept else kept) table (leaving (read_reply h table wide say r))
  unfolding number_of key_of serial_of
  read wide say r fields sound found =
      rw (either_way (eqb (if wide then only 3 else fields).number 0 || eqb (if wide then only 3 else fields).number 7) kept, H.right_header, sound) (either wide found)
    where
      either : (b : Bool) → (b ≡ false → fields_of (saying say r.answer) ≡ fields)
          → Keeps (if b then only 3 else fields) kept table (leaving (if b then refused h WordTooWide else answered h (saying say r.answer) (rows_of r.ways)))
      either true found = nothing_changed (refused h WordTooWide) (only 3) refl refl
      either false found = nothing_changed (answered h (saying say r.answer) (rows_of r.ways)) fields (found refl) refl

  abbrev t : Tree
  t = shown h table

  module _ (k : ℕ) where
    pub keeps_has : KeepsDictionary after (Has k) h table buffer S
    unfolding after expected kept_after changed has_reply too_wide
    keeps_has =
        read (leb (2 ^ h.width) k) say_serial (has_read h.width k t) (found (lookup k S)) (has_unbroken h.width t (undamaged H) k)
        (λ e.
        serial_fields (has_read h.width k t).answer
        (has_answer h.width k 0 0 t (narrow h k e) (proper H) ∙ ap (lookup k) (holds_entries H)))

    pub keeps_next : KeepsDictionary after (Next k) h table buffer S
    unfolding after expected kept_after changed next_reply too_wide
    keeps_next =
        read (leb (2 ^ h.width) k) say_word (next_read h.width k t) (word (word_of (successor k S))) (next_unbroken h.width t (undamaged H) k)
        (λ e.
        entry_fields (next_read h.width k t).answer
        (next_answer h.width k 0 0 t (narrow h k e) (proper H) ∙ ap (successor k) (holds_entries H)))

    pub keeps_prev : KeepsDictionary after (Prev k) h table buffer S
    unfolding after expected kept_after changed prev_reply too_wide
    keeps_prev =
        read (leb (2 ^ h.width) k) say_word (prev_read h.width k t) (word (word_of (predecessor k S))) (prev_unbroken h.width t (undamaged H) k)
        (λ e.
        entry_fields (prev_read h.width k t).answer
        (prev_answer h.width k 0 0 t (narrow h k e) (proper H) ∙ ap (predecessor k) (holds_entries H)))

    abbrev distance : List Entry → Perhaps ℕ
    distance es = if is_there (lookup k es) then such 0 else nearest k (word_of (predecessor k es)) (word_of (successor k es))

    pub keeps_gap : KeepsDictionary after (Gap k) h table buffer S
    unfolding after expected kept_after changed gap_reply too_wide
    keeps_gap =
        read (leb (2 ^ h.width) k) Distance (gap_read h.width k t) (word (distance S)) (gap_unbroken h.width t (undamaged H) k)
        (λ e. distance_fields (gap_read h.width k t).answer ∙ ap word (gap_answer h.width k 0 0 t (narrow h k e) (proper H) ∙ ap distance (holds_entries H)))

  pub keeps_first : KeepsDictionary after First h table buffer S
  unfolding after expected kept_after changed first_reply
  keeps_first =
      read false say_word (first_read h.width t) (word (word_of (min S))) (first_unbroken h.width t (undamaged H))
      (λ e. entry_fields (first_read h.width t).answer (first_answer h.width t ∙ ap min (holds_entries H)))

  pub keeps_last : KeepsDictionary after Last h table buffer S
  unfolding after expected kept_after changed last_reply
  keeps_last =
      read false say_word (last_read h.width t) (word (word_of (max S))) (last_unbroken h.width t (undamaged H))
      (λ e. entry_fields (last_read h.width t).answer (last_answer h.width 0 0 t (proper H) ∙ ap max (holds_entries H)))

  pub keeps_audit : KeepsDictionary after Audit h table buffer S
  unfolding after expected kept_after changed audit_reply number_of key_of serial_of
  keeps_audit = rw (H.right_header, test_of_set H.holds) (nothing_changed (answered h Done h.count) (only 0) refl refl)

  pub keeps_list : KeepsDictionary after Call.List h table buffer S
  unfolding after expected kept_after changed list_reply list_buffer number_of key_of serial_of
  keeps_list = rw (H.right_header, test_of_set H.holds, holds_entries H, H.holds.number) (either (ltb (length buffer) h.count))
    where
      either : (b : Bool) → Keeps (if b then only 6 else only 0) (if eqb (if b then only 6 else only 0).number 0 || eqb (if b then only 6 else only 0).number 7 then record { width = h.width; set = S; buffer = words S ++ drop h.count buffer } else kept) table
          (record { reply = if b then refused h ShortBuffer else answered h Done h.count; table = table; buffer = if b then buffer else words S ++ drop h.count buffer })
      either true = nothing_changed (refused h ShortBuffer) (only 6) refl refl
      either false = record { answer = refl; width = refl; held = H; written = refl; same_length = refl }

  -- "it clears every row and hands back its W with a count of 0"
  pub keeps_new : (w : ℕ) → KeepsDictionary after (New w) h table buffer S
  unfolding after expected kept_after changed new_reply new_table number_of key_of serial_of
  keeps_new w = either (wrong_width w) refl
    where
      either : (b : Bool) → wrong_width w ≡ b
          → Keeps (if b then only 1 else only 0) (if eqb (if b then only 1 else only 0).number 0 || eqb (if b then only 1 else only 0).number 7 then record { width = w; set = []; buffer = buffer } else kept) table
          (record { reply = if b then refused h WrongWidth else answered (fresh w) Done 0; table = if b then table else cleaned table; buffer = buffer })
      either true e = nothing_changed (refused h WrongWidth) (only 1) refl refl
      either false e = record { answer = refl; width = refl; held = empty_held w (cleaned table) e; written = refl; same_length = rw e at (new_kept table w).same_length }
