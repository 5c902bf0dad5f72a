-- The line program writes what the dictionary answers: each line by `answers_as` and `rows_exact`, on the table that the lines before it left.
use Prim.Native.Nat.{ℕ, suc}
use mathlib.Core.Path.{◌≡◌, refl, sym, ap, ap₂, subst, ◌∙◌}
use mathlib.Core.Logic.{◌⊎◌, inl, inr}
use mathlib.Core.Bool.{Bool, true, false, ◌||◌, false≢true}
use mathlib.Core.List.{List, [], ◌∷◌, ◌++◌}
use lib.Dec.{ltb, eqb}
use lib.ListN.{length, take, drop}
use lib.Seq.{take_at}
use Rattle.std.specs.Prelude.{if◌then◌else◌, Option, None, Some}
use Rattle.ordered.specs.Dictionary.{words}
use Rattle.ordered.proofs.OneTree.{words_length}
use Rattle.pretree.specs.declared.Header.{Header}
use Rattle.pretree.specs.declared.Call.{Call}
use Rattle.pretree.specs.declared.Call.TheVariants.{New, Add, Del, Has, Next, Prev, Gap, First, Last, Audit}
use Rattle.pretree.specs.declared.Answer.TheVariants.{WrongHeader}
use Rattle.pretree.specs.Table.{capacity}
use Rattle.pretree.specs.Answer.{number_of, key_of, serial_of}
use Rattle.pretree.specs.Reply.{fresh, wrong_width, wrong_header, refused}
use Rattle.pretree.specs.Find.{has_reply, next_reply, prev_reply, first_reply, last_reply, gap_reply}
use Rattle.pretree.specs.Add.{add_outcome}
use Rattle.pretree.specs.Del.{del_outcome}
use Rattle.pretree.specs.Whole.{new_reply, new_table, audit_reply, list_reply, list_buffer}
use Rattle.pretree.specs.Call.{After, after}
use Rattle.pretree.proofs.Writing.{same_capacity}
use Rattle.lines.specs.declared.ReplyFields.{ReplyFields}
use Rattle.lines.specs.Line.{parse}
use Rattle.lines.specs.Render.{fields_of, reply_line, key_lines}
use Rattle.lines.specs.Output.{State, start, listed_in, listed_by, answer, written, written_for, lines_of, output}
use Rattle.demands.specs.Program.{State as Between}
use Rattle.demands.specs.Expected.{Kept, only, expected, kept_after, changed}
use Rattle.demands.specs.RowsRead.{rows_over, moved_over, refused_over, Reports}
use Rattle.demands.specs.Demand2.{Keeps, HoldsKept}
use Rattle.demands.specs.Lines.{Kind, makes, lists, works, kind_of, finds_no_set, fields_on_set, listed_on_set, fields_to, listed_to, kept_after_line, dictated, no_set_yet, OutputDictated}
use Rattle.demands.proofs.Owned.{new_kept}
use Rattle.demands.proofs.Demand2.{answers_as, empty_holds}
use Rattle.demands.proofs.History.{reports_as}

abbrev between : State → Between
between s = record { header = s.header; table = s.table }

-- there is no set yet ("header W 0"), or the table holds what the dictionary keeps
abbrev Standing : State → Kept → Type 0
Standing s k = ((s.header ≡ fresh 0) × (k.width ≡ 0)) ⊎ HoldsKept (between s) k

record Serving (s : State) (k : Kept) : Type 0 where
  same_buffer : s.buffer ≡ k.buffer
  room : capacity s.table ≡ 4096
  standing : Standing s k

-- a line is answered as the dictionary does
record Dictated (line : Option Call) (s : State) (k : Kept) : Type 0 where
  says : (answer s line).fields ≡ fields_to line s k
  listing : (answer s line).listed ≡ listed_to line k
  goes_on : Serving (answer s line).state (kept_after_line line k)

neither : (a b : Bool) → a || b ≡ false → a ≡ false
neither true b h = h
neither false b h = refl

-- if the width is not 0, there is a set
set_found : (kind : Kind) (width : ℕ) → eqb width 0 ≡ false → finds_no_set kind width ≡ false
set_found makes width some = refl
set_found lists width some = some
set_found works width some = some

-- "After a `list` with answer 0 come lines `key`, tab, word."
list_listed : (k : Kept) (table : List ℕ) (left : After) (b : Bool)
    → let fields = if b then only 6 else only 0 in
    Keeps fields (if eqb fields.number 0 || eqb fields.number 7 then changed Call.List k else k) table left
    → take (listed_in left.reply) left.buffer ≡ (if eqb fields.number 0 then words k.set else [])
unfolding changed
list_listed k table left true keeps = rw (ap (λ x. x.number) keeps.answer)
list_listed k table left false keeps =
    rw (ap (λ x. x.number) keeps.answer, keeps.written, ← keeps.held.holds.number) (take_at (words k.set) (drop (length k.set) k.buffer) (length k.set) (words_length k.set))

words_listed : (c : Call) (k : Kept) (table : List ℕ) (left : After) → Keeps (expected c 4096 k) (kept_after c 4096 k) table left
    → take (listed_by c left.reply) left.buffer ≡ listed_on_set (kind_of c) (expected c 4096 k).number k.set
unfolding listed_by expected kept_after
words_listed (New w) k table left keeps = refl
words_listed (Add x serial) k table left keeps = refl
words_listed (Del x) k table left keeps = refl
words_listed (Has x) k table left keeps = refl
words_listed (Next x) k table left keeps = refl
words_listed (Prev x) k table left keeps = refl
words_listed (Gap x) k table left keeps = refl
words_listed First k table left keeps = refl
words_listed Last k table left keeps = refl
words_listed Audit k table left keeps = refl
words_listed Call.List k table left keeps = list_listed k table left (ltb (length k.buffer) (length k.set)) keeps

-- a call on a set
module _ (c : Call) (s : State) (k : Kept) (same_buffer : s.buffer ≡ k.buffer) (room : capacity s.table ≡ 4096) (H : HoldsKept (between s) k) where
  abbrev left : After
  left = after c s.header s.table s.buffer

  same_kept : record { width = k.width; set = k.set; buffer = s.buffer } ≡ k
  same_kept = ap (λ b. record { width = k.width; set = k.set; buffer = b }) same_buffer

  keeps : Keeps (expected c 4096 k) (kept_after c 4096 k) s.table left
  keeps =
      subst (λ l. Keeps (expected c 4096 l) (kept_after c 4096 l) s.table left) same_kept
      (answers_as 4096 (record { call = c; buffer = s.buffer }) (between s) k room H)

  reports : Reports (refused_over c k.width k.set 4096 (length k.buffer)) (rows_over c k.width k.set) (moved_over c s.header s.table k.set) left.reply
  reports =
      subst (λ b. Reports (refused_over c k.width k.set 4096 (length b)) (rows_over c k.width k.set) (moved_over c s.header s.table k.set) left.reply)
      same_buffer (reports_as 4096 (record { call = c; buffer = s.buffer }) (between s) k room H)

  some_width : eqb k.width 0 ≡ false
  unfolding wrong_header
  some_width =
      let h : Header = s.header in
      subst (λ w. eqb w 0 ≡ false) H.width
      (neither (eqb h.width 0) (ltb 32 h.width) (neither (wrong_width h.width) (ltb (capacity s.table) h.count) H.held.right_header))

  found : finds_no_set (kind_of c) k.width ≡ false
  found = set_found (kind_of c) k.width some_width

  says_on_set : fields_of left.reply ≡ fields_on_set c s k
  says_on_set =
      let refused : Bool = refused_over c k.width k.set 4096 (length k.buffer) in
      same_fields (ap (λ x. x.number) keeps.answer) (ap (λ x. x.key) keeps.answer) reports.rows_read reports.moving_count
      (ap (λ x. x.serial) keeps.answer)
    where
      same_fields : {a a' rows rows' moved moved' : ℕ} {key key' serial serial' : Option ℕ} → a ≡ a' → key ≡ key' → rows ≡ rows' → moved ≡ moved'
          → serial ≡ serial'
          → ◌≡◌ {A = ReplyFields} (record { answer = a; key = key; rows = rows; moved = moved; serial = serial })
          (record { answer = a'; key = key'; rows = rows'; moved = moved'; serial = serial' })
      same_fields e f g h i = rw (e, f, g, h, i)

  on_set : Dictated (Some c) s k
  unfolding answer fields_to listed_to kept_after_line
  on_set =
      record {
        says = rw found says_on_set;
        listing = rw found (words_listed c k s.table left keeps);
        goes_on =
            rw found (record {
              same_buffer = keeps.written;
              room = same_capacity left.table s.table keeps.same_length ∙ room;
              standing = inr (record { width = keeps.width; held = keeps.held });
            });
      }

-- a call that lacks a set is answered 2, and leaves everything as it was
no_set_left : (c : Call) (table buffer : List ℕ) → finds_no_set (kind_of c) 0 ≡ true
    → after c (fresh 0) table buffer ≡ record { reply = refused (fresh 0) WrongHeader; table = table; buffer = buffer }
unfolding after wrong_header has_reply next_reply prev_reply gap_reply first_reply last_reply add_outcome del_outcome audit_reply list_reply list_buffer
no_set_left (New w) table buffer none_found = absurd (false≢true none_found)
no_set_left (Add k serial) table buffer none_found = refl
no_set_left (Del k) table buffer none_found = refl
no_set_left (Has k) table buffer none_found = refl
no_set_left (Next k) table buffer none_found = refl
no_set_left (Prev k) table buffer none_found = refl
no_set_left (Gap k) table buffer none_found = refl
no_set_left First table buffer none_found = refl
no_set_left Last table buffer none_found = refl
no_set_left Audit table buffer none_found = refl
no_set_left Call.List table buffer none_found = refl

unlisted : (c : Call) → listed_by c (refused (fresh 0) WrongHeader) ≡ 0
unfolding listed_by number_of
unlisted (New w) = refl
unlisted (Add k serial) = refl
unlisted (Del k) = refl
unlisted (Has k) = refl
unlisted (Next k) = refl
unlisted (Prev k) = refl
unlisted (Gap k) = refl
unlisted First = refl
unlisted Last = refl
unlisted Audit = refl
unlisted Call.List = refl

-- if the width is 0, every call but `new` lacks a set
new_or_none : (c : Call) → ((w : ℕ) × (c ≡ New w)) ⊎ (finds_no_set (kind_of c) 0 ≡ true)
new_or_none (New w) = inl (w, refl)
new_or_none (Add k serial) = inr refl
new_or_none (Del k) = inr refl
new_or_none (Has k) = inr refl
new_or_none (Next k) = inr refl
new_or_none (Prev k) = inr refl
new_or_none (Gap k) = inr refl
new_or_none First = inr refl
new_or_none Last = inr refl
new_or_none Audit = inr refl
new_or_none Call.List = inr refl

-- where there is no set yet
module _ (s : State) (k : Kept) (same_buffer : s.buffer ≡ k.buffer) (room : capacity s.table ≡ 4096) (at_start : s.header ≡ fresh 0) (no_width : k.width ≡ 0) where
  none_found : (c : Call) → finds_no_set (kind_of c) 0 ≡ true → Dictated (Some c) s k
  unfolding answer fields_to listed_to kept_after_line number_of key_of serial_of
  none_found c finds =
      let left : after c s.header s.table s.buffer ≡ record { reply = refused (fresh 0) WrongHeader; table = s.table; buffer = s.buffer } =
      ap (λ h. after c h s.table s.buffer) at_start ∙ no_set_left c s.table s.buffer finds in
      let finds_here : finds_no_set (kind_of c) k.width ≡ true = subst (λ w. finds_no_set (kind_of c) w ≡ true) (sym no_width) finds in
      record {
        says = rw (left, finds_here);
        listing = rw (left, finds_here, unlisted c);
        goes_on = rw (left, finds_here) (record { same_buffer = same_buffer; room = room; standing = inl (refl, no_width) });
      }

  new_room : (w : ℕ) → capacity (new_table s.table w) ≡ 4096
  new_room w = same_capacity (new_table s.table w) s.table (new_kept s.table w).same_length ∙ room

  makes_one : (w : ℕ) → Dictated (Some (New w)) s k
  unfolding answer after new_reply new_table fields_to listed_to kept_after_line kept_after changed expected refused_over rows_over moved_over listed_by number_of key_of serial_of
  makes_one w = by_cases (wrong_width w) refl
    where
      by_cases : (b : Bool) → wrong_width w ≡ b → Dictated (Some (New w)) s k
      by_cases true wrong =
          record {
            says = rw wrong;
            listing = refl;
            goes_on = rw wrong (record { same_buffer = same_buffer; room = room; standing = inl (at_start, no_width) });
          }
      by_cases false right =
          record {
            says = rw right;
            listing = refl;
            goes_on = rw right (record {
              same_buffer = same_buffer;
              room = rw right at (new_room w);
              standing = inr (record { width = refl; held = (empty_holds w _ right).held });
            });
          }

  without_set : (c : Call) → Dictated (Some c) s k
  without_set c = elim (new_or_none c) [ inl new ↦ subst (λ c. Dictated (Some c) s k) (sym new.1) (makes_one new.0) | inr finds ↦ none_found c finds ]

dictated_line : (line : Option Call) (s : State) (k : Kept) → Serving s k → Dictated line s k
unfolding answer fields_to listed_to kept_after_line
dictated_line None s k serving = record { says = refl; listing = refl; goes_on = record { same_buffer = serving.same_buffer; room = serving.room; standing = serving.standing } }
dictated_line (Some c) s k serving = by_cases serving.standing
  where
    by_cases : Standing s k → Dictated (Some c) s k
    by_cases (inl none_yet) = without_set s k serving.same_buffer serving.room none_yet.0 none_yet.1 c
    by_cases (inr held) = on_set c s k serving.same_buffer serving.room held

counted : (s : State) (line : Option Call) → (answer s line).state.lines ≡ suc s.lines
unfolding answer
counted s None = refl
counted s (Some c) = refl

lines_dictated : (lines : List (List ℕ)) (s : State) (k : Kept) → Serving s k → written_for s lines ≡ dictated s k lines
unfolding written_for dictated written
lines_dictated [] s k serving = refl
lines_dictated (line ∷ rest) s k serving =
    let d : Dictated (parse line) s k = dictated_line (parse line) s k serving in
    let text : written (answer s (parse line)) ≡ reply_line (suc s.lines) (fields_to (parse line) s k) ++ key_lines (listed_to (parse line) k) =
    rw (counted s (parse line), d.says, d.listing) in
    ap₂ ◌++◌ text
    (lines_dictated rest (answer s (parse line)).state (kept_after_line (parse line) k) d.goes_on)

pub output_dictated : OutputDictated
unfolding output capacity
output_dictated input =
    lines_dictated (lines_of input) start no_set_yet (record { same_buffer = refl; room = refl; standing = inl (refl, refl) })
