-- Demand 1: the proofs for specs/Refusals.antt. For each call one proof goes through the tests in their order ("Order: 9, 1, 2, 3, 4, then 7 or
-- 8, then 5. For `list`: 2, 4, 6.") and records the result as a `Seen`. All clauses of the demand follow from it.
use Prim.Native.Nat.{ℕ, suc, ◌*◌, ◌^◌, ◌<◌, pred}
use mathlib.Core.Path.{◌≡◌, refl, sym, ◌∙◌}
use mathlib.Core.Logic.Iff
use mathlib.Core.Logic.{◌↔◌, ◌⊎◌, inl, inr}
use mathlib.Core.Bool.{Bool, true, false, not, ◌&&◌, ◌||◌, or-false, false≢true}
use mathlib.Core.List.{List, [], ◌∷◌, ◌++◌}
use native.Mathlib.Omega.{arith}
use native.Mathlib.Nat.{add-zero}
use lib.Dec.{ltb, eqb}
use lib.ListN.{length, drop, replicate}
use Rattle.std.specs.Prelude.{if◌then◌else◌}
use Rattle.ordered.specs.Such.{Perhaps, no_such, such}
use Rattle.ordered.specs.Source004.{Whether}
use Rattle.ordered.specs.Tree.{listing}
use Rattle.ordered.specs.Way.{Way, way, rows, broken, following}
use Rattle.ordered.specs.Reading.{Reading, rows_of, broken_in}
use Rattle.ordered.specs.Reading.{has as reading_has, next as reading_next, prev as reading_prev, gap as reading_gap, first as reading_first, last as reading_last}
use Rattle.ordered.specs.Change.{Adding, adding, way_ends_at, number_at, Erasing, erasing}
use Rattle.ordered.proofs.Answers.{adding_finds}
use Rattle.pretree.specs.declared.Header.{Header}
use Rattle.pretree.specs.declared.Answer.{Answer}
use Rattle.pretree.specs.declared.Answer.TheVariants.{Done, Distance, WrongWidth, WrongHeader, WordTooWide, Damage, Full, ShortBuffer, NoSuchWord}
use Rattle.pretree.specs.declared.Reply.{Reply}
use Rattle.pretree.specs.Answer.{number_of}
use Rattle.pretree.specs.Table.{row_words, capacity, with_entry}
use Rattle.pretree.specs.Reply.{fresh, wrong_width, wrong_header, too_wide, refused, answered}
use Rattle.pretree.specs.Unfold.{shown}
use Rattle.pretree.specs.Find.{saying, serial as say_serial, word, read_reply, has_reply, next_reply, prev_reply, gap_reply, first_reply, last_reply}
use Rattle.pretree.specs.Whole.{new_reply, new_table, audit_reply, list_reply, list_buffer}
use Rattle.pretree.specs.Sound.{Sound, is_sound}
use Rattle.pretree.specs.Add.{entry_for, Outcome, taking, grown, add_outcome}
use Rattle.pretree.specs.Del.{second_way, astray, shrunk, del_outcome}
use Rattle.pretree.specs.declared.Call.{Call}
use Rattle.pretree.specs.declared.Call.TheVariants.{New, Add, Del, Has, Next, Prev, Gap, First, Last, Audit}
use Rattle.pretree.specs.Call.{After, after}
use Rattle.demands.specs.Refusals.{SerialStored, ways_of, HasWrongWidth, HasWrongHeader, IsTooWide, Full as FullFor, Check, ◌when◌, header_checks, checks, FirstGiven}
use Rattle.demands.specs.Refusals.{Refusal, Untouched, SameFrom, number_after, Demand1}
use Rattle.demands.specs.Damage.{DamageOn, Absent}
use Rattle.demands.proofs.SoundIs.{sound_is}
use Rattle.demands.proofs.Damage.{damage_test, damage_tested, absent_tested}
use Rattle.demands.proofs.StoredSerial.{its_own_word, only_serial}
use Rattle.demands.proofs.Owned.{stored, same_all, new_kept, add_kept, del_kept, list_kept}
use Rattle.demands.proofs.Whether.{fails, holds, both_tested, either_tested, less_tested, at_most_tested, equal_tested}

-- none of the conditions holds
abbrev NoneGiven : List Check → Type 0
NoneGiven [] = Unit {0}
NoneGiven (c ∷ cs) = ¬ c.condition × NoneGiven cs

first_only : (cs : List Check) (m n : ℕ) → FirstGiven cs m → FirstGiven cs n → m ≡ n
unfolding FirstGiven
first_only (c ∷ cs) m n (inl a) (inl b) = a.1 ∙ sym b.1
first_only (c ∷ cs) m n (inl a) (inr b) = absurd (b.0 a.0)
first_only (c ∷ cs) m n (inr a) (inl b) = absurd (a.0 b.0)
first_only (c ∷ cs) m n (inr a) (inr b) = first_only cs m n a.1 b.1
first_only [] m n none given = elim none [ ]

none_first : (cs : List Check) (n : ℕ) → NoneGiven cs → FirstGiven cs n → ⊥
unfolding FirstGiven
none_first (c ∷ cs) n not_any (inl a) = not_any.0 a.0
none_first (c ∷ cs) n not_any (inr a) = none_first cs n not_any.1 a.1
none_first [] n not_any given = elim given [ ]

-- The result of a call that makes these checks: a refusal by the first check whose condition holds, or an answer if none holds.
-- `Seven` is what is claimed of an answer 7.
data Seen (Seven : Type 0) (cs : List Check) (h : Header) (table buffer : List ℕ) (ways : List Way) (a : After) : Type 0 where
  refusing :
      Refusal (number_of a.reply.answer) → FirstGiven cs (number_of a.reply.answer) → Untouched h table buffer a → a.reply.rows ≡ 0
      → Seen Seven cs h table buffer ways a
  answering :
      ¬ Refusal (number_of a.reply.answer) → NoneGiven cs
      → ((number_of a.reply.answer ≡ 7) ⊎ (number_of a.reply.answer ≡ 8) → a.reply.rows ≡ rows_of ways)
      → (number_of a.reply.answer ≡ 8 → Untouched h table buffer a) → (number_of a.reply.answer ≡ 7 → Seven)
      → Seen Seven cs h table buffer ways a

-- an outcome that is only a reply leaves everything as it was
untouched : {h : Header} {table buffer : List ℕ} {a : Answer} {n : ℕ}
    → Untouched h table buffer (record { reply = answered h a n; table = table; buffer = buffer })
untouched = record { same_header = refl; same_table = refl; same_buffer = refl; none_moved = refl }

module _ {Seven : Type 0} {h : Header} {table buffer : List ℕ} {ways : List Way} where
  -- the first check refuses
  refuse :
      {cs : List Check} {P : Type 0} (a : Answer) → Refusal (number_of a) → P
      → Seen Seven (number_of a when P ∷ cs) h table buffer ways (record { reply = refused h a; table = table; buffer = buffer })
  unfolding FirstGiven
  refuse a number there = refusing number (inl (there, refl)) untouched refl

  -- the first check passes, and the others follow
  pass : {cs : List Check} {n : ℕ} {P : Type 0} {a : After} → ¬ P → Seen Seven cs h table buffer ways a → Seen Seven (n when P ∷ cs) h table buffer ways a
  unfolding FirstGiven
  pass not_there (refusing number first same counts) = refusing number (inr (not_there, first)) same counts
  pass not_there (answering number not_any counts same stores) = answering number (not_there, not_any) counts same stores

  -- an answer that changes nothing
  answer :
      (a : Answer) → ¬ Refusal (number_of a) → (number_of a ≡ 7 → ⊥) → {n : ℕ} → n ≡ rows_of ways
      → Seen Seven [] h table buffer ways (record { reply = answered h a n; table = table; buffer = buffer })
  answer a number not_seven true_count = answering number tt (λ which. true_count) (λ eight. untouched) (λ seven. absurd (not_seven seven))

  -- answer 0
  zero_seen : (a : After) → number_of a.reply.answer ≡ 0 → Seen Seven [] h table buffer ways a
  zero_seen a number =
      answering (λ r. omega arith) tt (elim [ inl seven ↦ absurd (omega arith) | inr eight ↦ absurd (omega arith) ])
      (λ eight. absurd (omega arith)) (λ seven. absurd (omega arith))

-- P holds of the outcome that a test for C picks, if it holds of x when C holds, and of y when it does not
judge : {X : Type 0} (P : X → Type 0) {C : Type 0} {t : Bool} {x y : X} → Whether C t → (C → P x) → (¬ C → P y) → P (if t then x else y)
judge P {C} {t} {x} {y} w if_so if_not = by_cases t w
  where
    by_cases : (b : Bool) → Whether C b → P (if b then x else y)
    by_cases true w = if_so (w.0 refl)
    by_cases false w = if_not (fails w)

-- if a condition does not hold, its test fails
untested : {C : Type 0} {t : Bool} → Whether C t → ¬ C → t ≡ false
untested {C} {t} w not_so = by_cases t w
  where
    by_cases : (b : Bool) → Whether C b → b ≡ false
    by_cases true w = absurd (not_so (w.0 refl))
    by_cases false w = refl

wrong_width_tested : (W : ℕ) → Whether (HasWrongWidth W) (wrong_width W)
wrong_width_tested W = either_tested (eqb W 0) (ltb 32 W) (equal_tested W 0) (less_tested 32 W)

wrong_header_tested : (h : Header) (table : List ℕ) → Whether (HasWrongHeader h table) (wrong_header h table)
unfolding wrong_header
wrong_header_tested h table =
    either_tested (wrong_width h.width) (ltb (capacity table) h.count) (wrong_width_tested h.width) (less_tested (capacity table) h.count)

too_wide_tested : (h : Header) (k : ℕ) → Whether (IsTooWide h k) (too_wide h k)
unfolding too_wide
too_wide_tested h k = at_most_tested (2 ^ h.width) k

-- The calls that only read; `DamageThere` is the damage on their ways. A call that takes a word checks it after the header and before the way.
module _ (Seven : Type 0) {A : Type 0} (h : Header) (table buffer : List ℕ) (say : A → Answer) (r : Reading A) (zero_number : (x : A) → number_of (say x) ≡ 0)
    {DamageThere : Type 0} (tested : Whether DamageThere (broken_in r.ways)) where
  abbrev SeenReading : List Check → Reply → Type 0
  SeenReading cs reply = Seen Seven cs h table buffer r.ways (record { reply = reply; table = table; buffer = buffer })

  abbrev of_way : List Check
  of_way = 4 when DamageThere ∷ []

  found : (q : Perhaps A) → ¬ Refusal (number_of (saying say q))
  unfolding number_of
  found (such x) number = omega (arith, zero_number x)
  found no_such number = omega arith

  not_seven : (q : Perhaps A) → number_of (saying say q) ≡ 7 → ⊥
  unfolding number_of
  not_seven (such x) number = omega (arith, zero_number x)
  not_seven no_such number = omega arith

  way_seen :
      SeenReading of_way (if broken_in r.ways then refused h Damage else answered h (saying say r.answer) (rows_of r.ways))
  unfolding number_of
  way_seen =
      judge (SeenReading of_way) tested (refuse Damage (omega arith))
      (λ whole. pass whole (answer (saying say r.answer) (found r.answer) (not_seven r.answer) refl))

  read_seen : SeenReading (header_checks h table ++ of_way) (read_reply h table false say r)
  unfolding number_of
  read_seen =
      judge (SeenReading (header_checks h table ++ of_way)) (wrong_header_tested h table) (refuse WrongHeader (omega arith))
      (λ right. pass right way_seen)

  read_word_seen : (k : ℕ) → SeenReading (header_checks h table ++ 3 when IsTooWide h k ∷ of_way) (read_reply h table (too_wide h k) say r)
  unfolding number_of
  read_word_seen k =
      judge (SeenReading (header_checks h table ++ 3 when IsTooWide h k ∷ of_way)) (wrong_header_tested h table) (refuse WrongHeader (omega arith))
      (λ right. pass right
      (judge (SeenReading (3 when IsTooWide h k ∷ of_way)) (too_wide_tested h k) (refuse WordTooWide (omega arith))
      (λ narrow. pass narrow way_seen)))

-- `Seen` for a call of our program
abbrev SeenOf : Call → Header → List ℕ → List ℕ → Type 0
SeenOf c h table buffer =
    Seen (SerialStored c h table buffer (after c h table buffer)) (checks c h table buffer) h table buffer (ways_of c h table) (after c h table buffer)

new_seen : (W : ℕ) (h : Header) (table buffer : List ℕ) → SeenOf (New W) h table buffer
unfolding after checks ways_of number_of new_reply new_table
new_seen W h table buffer = by_cases (wrong_width W) (wrong_width_tested W)
  where
    words : ℕ
    words = row_words * capacity table

    by_cases : (b : Bool) → Whether (HasWrongWidth W) b
        → Seen (SerialStored (New W) h table buffer (after (New W) h table buffer)) (1 when HasWrongWidth W ∷ []) h table buffer []
        (record {
          reply = if b then refused h WrongWidth else answered (fresh W) Done 0;
          table = if b then table else replicate words 0 ++ drop words table;
          buffer = buffer;
        })
    by_cases true w = refuse WrongWidth (omega arith) (w.0 refl)
    by_cases false w =
        pass (fails w) (zero_seen (record { reply = answered (fresh W) Done 0; table = replicate words 0 ++ drop words table; buffer = buffer }) refl)

-- `audit` and `list` answer 4 "exactly when the table is not sound"
whether_sound : (h : Header) (table : List ℕ) → Whether (Sound h table) (is_sound h table)
whether_sound h table = Iff.symm (sound_is h table).the_test

-- `add` and `del` test for their damage
add_damage : (k serial : ℕ) (h : Header) (table : List ℕ) → Whether (DamageOn (Add k serial) h table) (broken (adding h.width (entry_for k serial) (shown h table)).rows_read)
unfolding damage_test ways_of broken_in
add_damage k serial h table = rw or-false at (damage_tested (Add k serial) h table)

del_damage : (k : ℕ) (h : Header) (table : List ℕ)
    → let e : Erasing = erasing h.width k (shown h table) in
    let second : Way = second_way h table in
    Whether (DamageOn (Del k) h table)
    (broken e.rows_read || (e.present && (not (eqb e.hole (pred h.count)) && (broken second || astray h table second))))
unfolding damage_test
del_damage k h table = damage_tested (Del k) h table

one_take : (k serial : ℕ) (h : Header) (table : List ℕ) → way_ends_at k (way (following k) h.width (shown h table)) ≡ true
    → taking (adding h.width (entry_for k serial) (shown h table)).takes table
    ≡ with_entry (number_at (way (following k) h.width (shown h table)).end) (entry_for k serial) table
unfolding adding taking
one_take k serial h table ends = rw ends

-- if the word is there, its row takes the new serial
serial_stored : (k serial : ℕ) (h : Header) (table buffer : List ℕ) → wrong_header h table ≡ false → too_wide h k ≡ false
    → let a : Adding = adding h.width (entry_for k serial) (shown h table) in
    broken a.rows_read ≡ false → a.present ≡ true
    → SerialStored (Add k serial) h table buffer (after (Add k serial) h table buffer)
unfolding SerialStored after add_outcome
serial_stored k serial h table buffer right narrow whole there =
    let ends : way_ends_at k (way (following k) h.width (shown h table)) ≡ true =
    sym (adding_finds h.width (entry_for k serial) (shown h table)) ∙ there in
    rw (right, narrow, whole, there)
    (record {
      row = number_at (way (following k) h.width (shown h table)).end;
      on_the_way = refl;
      its_word = its_own_word h table (entry_for k serial) ends;
      same_header = refl;
      new_table_is = one_take k serial h table ends ∙ only_serial h table (entry_for k serial) ends;
      same_buffer = refl;
      none_moved = refl;
    })

add_seen : (k serial : ℕ) (h : Header) (table buffer : List ℕ) → SeenOf (Add k serial) h table buffer
unfolding after checks number_of add_outcome ways_of rows_of
add_seen k serial h table buffer =
    judge (P (header_checks h table ++ of_word)) (wrong_header_tested h table) (refuse WrongHeader (omega arith))
    (λ right. pass right (judge (P of_word) (too_wide_tested h k) (refuse WordTooWide (omega arith))
    (λ narrow. pass narrow (by_damage right narrow (broken a.rows_read) refl))))
  where
    a : Adding
    a = adding h.width (entry_for k serial) (shown h table)

    of_room : List Check
    of_room = 5 when FullFor k h table ∷ []

    of_way : List Check
    of_way = 4 when DamageOn (Add k serial) h table ∷ of_room

    of_word : List Check
    of_word = 3 when IsTooWide h k ∷ of_way

    P : List Check → Outcome → Type 0
    P cs o =
        Seen (SerialStored (Add k serial) h table buffer (after (Add k serial) h table buffer)) cs h table buffer (ways_of (Add k serial) h table) (record { reply = o.reply; table = o.table; buffer = buffer })

    more : Outcome
    more =
        record {
          reply = answered (record { width = h.width; count = suc h.count }) Done (rows a.rows_read);
          table = grown h.count a table;
        }

    by_room : Absent k h table
        → P of_room (if eqb h.count (capacity table) then record { reply = refused h Full; table = table } else more)
    by_room absent =
        judge (P of_room) (both_tested true (eqb h.count (capacity table)) (holds absent) (equal_tested h.count (capacity table)))
        (refuse Full (omega arith))
        (λ room. pass room (zero_seen (record { reply = more.reply; table = more.table; buffer = buffer }) refl))

    by_presence : (b : Bool) → a.present ≡ b → wrong_header h table ≡ false → too_wide h k ≡ false → broken a.rows_read ≡ false
        → Whether (Absent k h table) (not b)
        → P of_room (if b then stored h table (entry_for k serial)
        else if eqb h.count (capacity table) then record { reply = refused h Full; table = table }
        else more)
    by_presence true there right narrow whole absent =
        pass (λ full. fails absent full.0)
        (answering (λ r. omega arith) tt (λ which. sym (add-zero (rows a.rows_read))) (λ eight. absurd (omega arith))
        (λ seven. serial_stored k serial h table buffer right narrow whole there))
    by_presence false gone right narrow whole absent = by_room (absent.0 refl)

    by_damage : ¬ HasWrongHeader h table → ¬ IsTooWide h k → (b : Bool) → broken a.rows_read ≡ b
        → P of_way (if b then record { reply = refused h Damage; table = table }
        else if a.present then stored h table (entry_for k serial)
        else if eqb h.count (capacity table) then record { reply = refused h Full; table = table }
        else more)
    by_damage right narrow true damaged_there = refuse Damage (omega arith) ((add_damage k serial h table).0 damaged_there)
    by_damage right narrow false whole =
        pass (λ damage. false≢true (sym whole ∙ (add_damage k serial h table).1 damage))
        (by_presence a.present refl (untested (wrong_header_tested h table) right) (untested (too_wide_tested h k) narrow) whole (absent_tested k serial h table whole))

audit_seen : (h : Header) (table buffer : List ℕ) → SeenOf Audit h table buffer
unfolding after checks number_of audit_reply ways_of
audit_seen h table buffer =
    judge (P (header_checks h table ++ of_soundness)) (wrong_header_tested h table) (refuse WrongHeader (omega arith))
    (λ right. pass right (by_soundness (is_sound h table) (whether_sound h table)))
  where
    of_soundness : List Check
    of_soundness = 4 when (¬ Sound h table) ∷ []

    P : List Check → Reply → Type 0
    P cs reply =
        Seen (SerialStored Audit h table buffer (after Audit h table buffer)) cs h table buffer [] (record { reply = reply; table = table; buffer = buffer })

    by_soundness : (b : Bool) → Whether (Sound h table) b → P of_soundness (if b then answered h Done h.count else refused h Damage)
    by_soundness true sound =
        pass (λ not_sound. not_sound (sound.0 refl)) (zero_seen (record { reply = answered h Done h.count; table = table; buffer = buffer }) refl)
    by_soundness false sound = refuse Damage (omega arith) (fails sound)

list_seen : (h : Header) (table buffer : List ℕ) → SeenOf Call.List h table buffer
unfolding after checks number_of list_reply list_buffer ways_of
list_seen h table buffer =
    by_cases (wrong_header h table) (is_sound h table) (ltb (length buffer) h.count) (wrong_header_tested h table) (whether_sound h table)
    (less_tested (length buffer) h.count)
  where
    listed : List ℕ
    listed = listing (shown h table) ++ drop h.count buffer

    by_cases : (wrong sound short : Bool) → Whether (HasWrongHeader h table) wrong → Whether (Sound h table) sound
        → Whether (length buffer < h.count) short
        → Seen (SerialStored Call.List h table buffer (after Call.List h table buffer)) (header_checks h table ++ 4 when (¬ Sound h table) ∷ 6 when (length buffer < h.count) ∷ []) h table buffer []
        (record {
          reply =
              if wrong then refused h WrongHeader
              else if sound then (if short then refused h ShortBuffer else answered h Done h.count)
              else refused h Damage;
          table = table;
          buffer = if wrong then buffer else if sound then (if short then buffer else listed) else buffer;
        })
    by_cases true sound short v w u = refuse WrongHeader (omega arith) (v.0 refl)
    by_cases false false short v w u = pass (fails v) (refuse Damage (omega arith) (fails w))
    by_cases false true true v w u =
        pass (fails v) (pass (λ not_sound. not_sound (w.0 refl)) (refuse ShortBuffer (omega arith) (u.0 refl)))
    by_cases false true false v w u =
        pass (fails v) (pass (λ not_sound. not_sound (w.0 refl)) (pass (fails u)
        (zero_seen (record { reply = answered h Done h.count; table = table; buffer = listed }) refl)))

del_seen : (k : ℕ) (h : Header) (table buffer : List ℕ) → SeenOf (Del k) h table buffer
unfolding after checks number_of del_outcome ways_of rows_of
del_seen k h table buffer =
    judge (P (header_checks h table ++ of_word)) (wrong_header_tested h table) (refuse WrongHeader (omega arith))
    (λ right. pass right (judge (P of_word) (too_wide_tested h k) (refuse WordTooWide (omega arith))
    (λ narrow. pass narrow
    (by_cases (broken e.rows_read) e.present (moves && (broken second || astray h table second)) (del_damage k h table)))))
  where
    e : Erasing
    e = erasing h.width k (shown h table)

    of_way : List Check
    of_way = 4 when DamageOn (Del k) h table ∷ []

    of_word : List Check
    of_word = 3 when IsTooWide h k ∷ of_way

    P : List Check → Outcome → Type 0
    P cs o =
        Seen (SerialStored (Del k) h table buffer (after (Del k) h table buffer)) cs h table buffer (ways_of (Del k) h table) (record { reply = o.reply; table = o.table; buffer = buffer })

    last_row : ℕ
    last_row = pred h.count

    moves : Bool
    moves = not (eqb e.hole last_row)

    second : Way
    second = second_way h table

    less : Outcome
    less =
        record {
          reply =
              record {
                header = record { width = h.width; count = last_row };
                answer = Done;
                rows = rows e.rows_read;
                moved = if moves then rows second else 0;
              };
          table = shrunk last_row e second moves table;
        }

    by_cases : (first_damaged present second_damaged : Bool)
        → Whether (DamageOn (Del k) h table) (first_damaged || (present && second_damaged))
        → P of_way (if first_damaged then record { reply = refused h Damage; table = table }
        else if not present then record { reply = answered h NoSuchWord (rows e.rows_read); table = table }
        else if second_damaged then record { reply = refused h Damage; table = table }
        else less)
    by_cases true p q w = refuse Damage (omega arith) (w.0 refl)
    by_cases false false q w =
        pass (fails w) (answer NoSuchWord (λ r. omega arith) (λ seven. omega arith) (sym (add-zero (rows e.rows_read))))
    by_cases false true true w = refuse Damage (omega arith) (w.0 refl)
    by_cases false true false w = pass (fails w) (zero_seen (record { reply = less.reply; table = less.table; buffer = buffer }) refl)

seen : (c : Call) (h : Header) (table buffer : List ℕ) → SeenOf c h table buffer
unfolding number_of after checks ways_of damage_test has_reply next_reply prev_reply gap_reply first_reply last_reply
seen (New W) h table buffer = new_seen W h table buffer
seen (Add k serial) h table buffer = add_seen k serial h table buffer
seen (Del k) h table buffer = del_seen k h table buffer
seen (Has k) h table buffer =
    read_word_seen (SerialStored (Has k) h table buffer (after (Has k) h table buffer)) h table buffer say_serial (reading_has h.width k (shown h table)) (λ x. refl) (damage_tested (Has k) h table) k
seen (Next k) h table buffer =
    read_word_seen (SerialStored (Next k) h table buffer (after (Next k) h table buffer)) h table buffer word (reading_next h.width k (shown h table)) (λ x. refl) (damage_tested (Next k) h table) k
seen (Prev k) h table buffer =
    read_word_seen (SerialStored (Prev k) h table buffer (after (Prev k) h table buffer)) h table buffer word (reading_prev h.width k (shown h table)) (λ x. refl) (damage_tested (Prev k) h table) k
seen (Gap k) h table buffer =
    read_word_seen (SerialStored (Gap k) h table buffer (after (Gap k) h table buffer)) h table buffer Distance (reading_gap h.width k (shown h table)) (λ x. refl) (damage_tested (Gap k) h table) k
seen First h table buffer =
    read_seen (SerialStored First h table buffer (after First h table buffer)) h table buffer word (reading_first h.width (shown h table)) (λ x. refl) (damage_tested First h table)
seen Last h table buffer =
    read_seen (SerialStored Last h table buffer (after Last h table buffer)) h table buffer word (reading_last h.width (shown h table)) (λ x. refl) (damage_tested Last h table)
seen Audit h table buffer = audit_seen h table buffer
seen Call.List h table buffer = list_seen h table buffer

-- the clauses of the demand that follow from `Seen`
module _ (c : Call) (h : Header) (table buffer : List ℕ) where
  exactly : SeenOf c h table buffer → (n : ℕ) → Refusal n → (number_after after c h table buffer ≡ n) ↔ FirstGiven (checks c h table buffer) n
  exactly (refusing number first same counts) n refusal =
      (λ same_number. rw same_number at first, λ given. first_only (checks c h table buffer) (number_after after c h table buffer) n first given)
  exactly (answering number not_any true_counts same stores) n refusal =
      (λ same_number. absurd (number (rw (← same_number) at refusal)), λ given. absurd (none_first (checks c h table buffer) n not_any given))

  untouched_refusal : SeenOf c h table buffer → Refusal (number_after after c h table buffer)
      → Untouched h table buffer (after c h table buffer) × ((after c h table buffer).reply.rows ≡ 0)
  untouched_refusal (refusing number first same counts) refusal = (same, counts)
  untouched_refusal (answering number not_any true_counts same stores) refusal = absurd (number refusal)

  counts_of : SeenOf c h table buffer → (number_after after c h table buffer ≡ 7) ⊎ (number_after after c h table buffer ≡ 8)
      → (after c h table buffer).reply.rows ≡ rows_of (ways_of c h table)
  counts_of (refusing number first same counts) (inl seven) = absurd (omega arith)
  counts_of (refusing number first same counts) (inr eight) = absurd (omega arith)
  counts_of (answering number not_any true_counts same stores) which = true_counts which

  untouched_eight : SeenOf c h table buffer → number_after after c h table buffer ≡ 8 → Untouched h table buffer (after c h table buffer)
  untouched_eight (refusing number first same counts) eight = absurd (omega arith)
  untouched_eight (answering number not_any true_counts same stores) eight = same eight

  stored_seven : SeenOf c h table buffer → number_after after c h table buffer ≡ 7
      → SerialStored c h table buffer (after c h table buffer)
  stored_seven (refusing number first same counts) seven = absurd (omega arith)
  stored_seven (answering number not_any true_counts same stores) seven = stores seven

-- a call writes only its rows, or the listing
module _ (h : Header) (table buffer : List ℕ) where
  abbrev Kept : List ℕ → List ℕ → Type 0
  Kept table' buffer' = SameFrom (row_words * capacity table) table table' × SameFrom h.count buffer buffer'

  as_it_was : Kept table buffer
  as_it_was = (same_all (row_words * capacity table), same_all h.count)

  kept : (c : Call) → Kept (after c h table buffer).table (after c h table buffer).buffer
  unfolding after
  kept (New W) = (new_kept table W, same_all h.count)
  kept (Add k serial) = (add_kept h table (entry_for k serial), same_all h.count)
  kept (Del k) = (del_kept h table k, same_all h.count)
  kept (Has k) = as_it_was
  kept (Next k) = as_it_was
  kept (Prev k) = as_it_was
  kept (Gap k) = as_it_was
  kept First = as_it_was
  kept Last = as_it_was
  kept Audit = as_it_was
  kept Call.List = (same_all (row_words * capacity table), list_kept h table buffer)

pub refusals : Demand1 after
refusals c h table buffer =
    let here : SeenOf c h table buffer = seen c h table buffer in
    record {
      given_exactly = exactly c h table buffer here;
      refusal = untouched_refusal c h table buffer here;
      true_counts = counts_of c h table buffer here;
      eight = untouched_eight c h table buffer here;
      seven = stored_seven c h table buffer here;
      past_the_rows = (kept h table buffer c).0;
      past_the_listing = (kept h table buffer c).1;
    }
