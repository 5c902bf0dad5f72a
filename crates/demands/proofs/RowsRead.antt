-- Demand 3: the rows that a call reports are those of its ways over the PreTree of the present words, and the bounds on them.
-- Document 01: "The rows-read number in each reply equals the length of the defined way, bounded by W+1 or W+2."
use Prim.Native.Nat.{ℕ, suc, pred, ◌+◌, ◌/◌, ◌^◌, ◌≤◌, ◌<◌}
use mathlib.Core.Path.{◌≡◌, refl, sym, ap, ◌∙◌}
use mathlib.Core.Bool.{Bool, true, false, not, ◌&&◌, ◌||◌, false≢true}
use mathlib.Core.List.{List, [], ◌∷◌}
use native.Mathlib.Omega.{arith}
use lib.Dec.{ltb, leb, eqb}
use lib.ListN.{length}
use borrow.Author.Tests.{leb-false}
use Rattle.std.specs.Prelude.{if◌then◌else◌}
use Rattle.ordered.specs.Such.{Perhaps, no_such, such, first_such, is_there}
use Rattle.ordered.specs.Dictionary.{Entry, words, lookup}
use Rattle.ordered.specs.Tree.{Tree, intact, tree_of}
use Rattle.ordered.specs.Way.{Way, rows, broken, way, following}
use Rattle.ordered.specs.Reading.{Reading, rows_of, broken_in, has as has_over, next as next_over, prev as prev_over, first as first_over, last as last_over, gap as gap_over}
use Rattle.ordered.specs.Change.{Adding, adding, Erasing, erasing}
use Rattle.ordered.proofs.Rows.{way_rows, has_rows, next_rows, prev_rows, first_rows, last_rows, gap_rows, adding_rows, erasing_rows}
use Rattle.ordered.proofs.Bits.{on_root_path}
use Rattle.ordered.proofs.Dictionary.{there_by_words}
use Rattle.ordered.proofs.OneTree.{words_length}
use Rattle.ordered.proofs.Unnumbered.{SeesWords, way_sees, has_sees, next_sees, prev_sees, first_sees, last_sees, gap_sees, adding_sees, erasing_sees, numbers_unseen, on_same_words}
use Rattle.ordered.proofs.Unbroken.{has_unbroken, next_unbroken, prev_unbroken, first_unbroken, last_unbroken, gap_unbroken, adding_unbroken, erasing_unbroken}
use Rattle.ordered.proofs.Ways.{following_blind, unbroken}
use Rattle.ordered.proofs.Answers.{adding_present, erasing_present}
use Rattle.pretree.specs.declared.Header.{Header}
use Rattle.pretree.specs.declared.Answer.{Answer}
use Rattle.pretree.specs.declared.Answer.TheVariants.{Done, Distance, WrongWidth, WrongHeader, WordTooWide, Damage, Full, ShortBuffer, AlreadyThere, NoSuchWord}
use Rattle.pretree.specs.declared.Reply.{Reply}
use Rattle.pretree.specs.Table.{capacity, row_at}
use Rattle.pretree.specs.Unfold.{shown}
use Rattle.pretree.specs.Answer.{number_of}
use Rattle.pretree.specs.Reply.{fresh, wrong_width, wrong_header, too_wide, refused, answered}
use Rattle.pretree.specs.Find.{saying, serial as say_serial, word, read_reply, has_reply, next_reply, prev_reply, first_reply, last_reply, gap_reply}
use Rattle.pretree.specs.Add.{entry_for, Outcome, add_outcome}
use Rattle.pretree.specs.Del.{second_way, astray, del_outcome}
use Rattle.pretree.specs.Sound.{is_sound}
use Rattle.pretree.specs.Whole.{new_reply, audit_reply, list_reply}
use Rattle.pretree.specs.declared.Call.{Call}
use Rattle.pretree.specs.declared.Call.TheVariants.{New, Add, Del, Has, Next, Prev, Gap, First, Last, Audit}
use Rattle.pretree.specs.Call.{after}
use Rattle.demands.specs.SoundIs.{HoldsSet}
use Rattle.demands.specs.RowsRead.{rows_over, moves, moved_over, refused_over, is_refusal, Reports, RowsExact, RowsAlike, most_rows, most_moved, AtMost, RowsBounded}
use Rattle.demands.proofs.Tested.{shown_proper}
use Rattle.demands.proofs.SoundIs.{tree_intact, sound_is, one_tree_each}
use Rattle.demands.proofs.SecondWay.{second_way_ends}

not_empty : (k : ℕ) (S : List Entry) → is_there (lookup k S) ≡ true → 0 < length S
unfolding lookup first_such
not_empty k [] there = absurd (false≢true there)
not_empty k (x ∷ xs) there = omega arith

module _ (h : Header) (table : List ℕ) (S : List Entry) (right : wrong_header h table ≡ false) (s : HoldsSet h table S) where
  undamaged : intact (shown h table) ≡ true
  undamaged = tree_intact h table S s.increasing s.below s.tree

  -- what sees only words is the same over the tree that the table shows and over the PreTree of the set
  on_set : (f : Tree → ℕ) → SeesWords f → f (shown h table) ≡ f (tree_of h.width S)
  on_set f sees = sym (numbers_unseen f sees (shown h table)) ∙ ap f s.tree

  -- a call that reads by f: f meets no damage in an intact tree, and its rows depend only on the words
  read_reports : {A : Type 0} (f : Tree → Reading A) (wide : Bool) (say : A → Answer) → ((x : A) → is_refusal (number_of (say x)) ≡ false)
      → (intact (shown h table) ≡ true → broken_in (f (shown h table)).ways ≡ false) → SeesWords (λ t. rows_of (f t).ways)
      → Reports wide (rows_of (f (tree_of h.width S)).ways) 0 (read_reply h table wide say (f (shown h table)))
  unfolding number_of
  read_reports f true say says whole blind = rw right (record { number = refl; rows_read = refl; moving_count = refl })
  read_reports {A} f false say says whole blind =
      rw (right, whole undamaged)
      (record {
        number = not_refused (f (shown h table)).answer;
        rows_read = on_set (λ t. rows_of (f t).ways) blind;
        moving_count = refl;
      })
    where
      not_refused : (q : Perhaps A) → is_refusal (number_of (saying say q)) ≡ false
      not_refused (such x) = says x
      not_refused no_such = refl

  sound : is_sound h table ≡ true
  sound = (sound_is h table).the_test.0 ((sound_is h table).of_a_set.1 (S, s))

  module _ (k serial : ℕ) (fits : leb (2 ^ h.width) k ≡ false) where
    on_path : k / 2 ^ h.width ≡ 0
    on_path = (on_root_path h.width k).0 (leb-false (2 ^ h.width) k fits)

    add_finds : (adding h.width (entry_for k serial) (shown h table)).present ≡ is_there (lookup k S)
    add_finds =
        adding_present h.width 0 0 (entry_for k serial) (shown h table) on_path (shown_proper h table undamaged)
        ∙ ap (λ es. is_there (lookup k es)) (one_tree_each.its_entries s)

    del_finds : (erasing h.width k (shown h table)).present ≡ is_there (lookup k S)
    del_finds =
        erasing_present h.width k 0 0 (shown h table) on_path (shown_proper h table undamaged)
        ∙ ap (λ es. is_there (lookup k es)) (one_tree_each.its_entries s)

  abbrev last_key : ℕ
  last_key = (row_at table (pred h.count)).entry.key

  second_rows : rows (second_way h table) ≡ rows (way (following last_key) h.width (tree_of h.width S))
  unfolding second_way
  second_rows = on_set (λ t. rows (way (following last_key) h.width t)) (way_sees h.width (following last_key) (following_blind last_key))

  second_whole : broken (second_way h table) ≡ false
  unfolding second_way
  second_whole = unbroken (following last_key) h.width (shown h table) undamaged

  module _ (k serial : ℕ) where
    abbrev AddReports : Type 0
    AddReports =
        Reports (leb (2 ^ h.width) k || (not (is_there (lookup k S)) && eqb (length S) (capacity table)))
        (rows (adding h.width (entry_for k serial) (tree_of h.width S)).rows_read) 0 (add_outcome h table (entry_for k serial)).reply

    add_reports : AddReports
    unfolding add_outcome too_wide number_of
    add_reports = by_width (leb (2 ^ h.width) k) refl
      where
        same : rows (adding h.width (entry_for k serial) (shown h table)).rows_read ≡ rows (adding h.width (entry_for k serial) (tree_of h.width S)).rows_read
        same = on_set (λ t. rows (adding h.width (entry_for k serial) t).rows_read) (adding_sees h.width (entry_for k serial))

        no_damage : broken (adding h.width (entry_for k serial) (shown h table)).rows_read ≡ false
        no_damage = adding_unbroken h.width (shown h table) undamaged (entry_for k serial)

        by_room : leb (2 ^ h.width) k ≡ false → is_there (lookup k S) ≡ false → (b : Bool) → eqb h.count (capacity table) ≡ b → AddReports
        by_room fits absent true full =
            rw (right, fits, no_damage, add_finds k serial fits, absent, s.number, full) (record { number = refl; rows_read = refl; moving_count = refl })
        by_room fits absent false full =
            rw (right, fits, no_damage, add_finds k serial fits, absent, s.number, full) (record { number = refl; rows_read = same; moving_count = refl })

        by_presence : leb (2 ^ h.width) k ≡ false → (b : Bool) → is_there (lookup k S) ≡ b → AddReports
        by_presence fits true there =
            rw (right, fits, no_damage, add_finds k serial fits, there) (record { number = refl; rows_read = same; moving_count = refl })
        by_presence fits false absent = by_room fits absent (eqb h.count (capacity table)) refl

        by_width : (b : Bool) → leb (2 ^ h.width) k ≡ b → AddReports
        by_width true wide = rw (right, wide) (record { number = refl; rows_read = refl; moving_count = refl })
        by_width false fits = by_presence fits (is_there (lookup k S)) refl

    abbrev DelReports : Type 0
    DelReports =
        Reports (leb (2 ^ h.width) k) (rows (erasing h.width k (tree_of h.width S)).rows_read) (moved_over (Del k) h table S)
        (del_outcome h table k).reply

    del_reports : DelReports
    unfolding del_outcome moved_over moves too_wide number_of
    del_reports = by_width (leb (2 ^ h.width) k) refl
      where
        same : rows (erasing h.width k (shown h table)).rows_read ≡ rows (erasing h.width k (tree_of h.width S)).rows_read
        same = on_set (λ t. rows (erasing h.width k t).rows_read) (erasing_sees h.width k)

        no_damage : broken (erasing h.width k (shown h table)).rows_read ≡ false
        no_damage = erasing_unbroken h.width (shown h table) undamaged k

        by_hole : leb (2 ^ h.width) k ≡ false → is_there (lookup k S) ≡ true → (b : Bool)
            → not (eqb (erasing h.width k (shown h table)).hole (pred h.count)) ≡ b → DelReports
        by_hole fits there true goes =
            let some : 0 < h.count = omega (arith, not_empty k S there) in
            rw (right, fits, no_damage, del_finds k serial fits, there, goes, second_whole, second_way_ends h table S s some)
            (record { number = refl; rows_read = same; moving_count = second_rows })
        by_hole fits there false stays =
            rw (right, fits, no_damage, del_finds k serial fits, there, stays) (record { number = refl; rows_read = same; moving_count = refl })

        by_presence : leb (2 ^ h.width) k ≡ false → (b : Bool) → is_there (lookup k S) ≡ b → DelReports
        by_presence fits true there = by_hole fits there (not (eqb (erasing h.width k (shown h table)).hole (pred h.count))) refl
        by_presence fits false absent =
            rw (right, fits, no_damage, del_finds k serial fits, absent) (record { number = refl; rows_read = same; moving_count = refl })

        by_width : (b : Bool) → leb (2 ^ h.width) k ≡ b → DelReports
        by_width true wide = rw (right, wide) (record { number = refl; rows_read = refl; moving_count = refl })
        by_width false fits = by_presence fits (is_there (lookup k S)) refl

  audit_reports : Reports false (length S) 0 (audit_reply h table)
  unfolding audit_reply number_of
  audit_reports = rw (right, sound) (record { number = refl; rows_read = sym s.number; moving_count = refl })

  list_reports : (buffer : List ℕ) → Reports (ltb (length buffer) (length S)) (length S) 0 (list_reply h table buffer)
  unfolding list_reply number_of
  list_reports buffer = rw (right, sound, s.number) (by_space (ltb (length buffer) h.count))
    where
      by_space : (b : Bool) → Reports b h.count 0 (if b then refused h ShortBuffer else answered h Done h.count)
      by_space true = record { number = refl; rows_read = refl; moving_count = refl }
      by_space false = record { number = refl; rows_read = refl; moving_count = refl }

new_reports : (h : Header) (w : ℕ) → Reports (wrong_width w) 0 0 (new_reply h w)
unfolding new_reply number_of
new_reports h w = by_width (wrong_width w)
  where
    by_width : (b : Bool) → Reports b 0 0 (if b then refused h WrongWidth else answered (fresh w) Done 0)
    by_width true = record { number = refl; rows_read = refl; moving_count = refl }
    by_width false = record { number = refl; rows_read = refl; moving_count = refl }

pub rows_exact : RowsExact after
unfolding after refused_over rows_over moved_over too_wide number_of has_reply next_reply prev_reply gap_reply first_reply last_reply
rows_exact (New w) h table buffer S right s = new_reports h w
rows_exact (Add k serial) h table buffer S right s = add_reports h table S right s k serial
rows_exact (Del k) h table buffer S right s = del_reports h table S right s k 0
rows_exact (Has k) h table buffer S right s =
    read_reports h table S right s (has_over h.width k) (leb (2 ^ h.width) k) say_serial (λ x. refl)
    (λ whole. has_unbroken h.width (shown h table) whole k) (has_sees h.width k)
rows_exact (Next k) h table buffer S right s =
    read_reports h table S right s (next_over h.width k) (leb (2 ^ h.width) k) word (λ x. refl)
    (λ whole. next_unbroken h.width (shown h table) whole k) (next_sees h.width k)
rows_exact (Prev k) h table buffer S right s =
    read_reports h table S right s (prev_over h.width k) (leb (2 ^ h.width) k) word (λ x. refl)
    (λ whole. prev_unbroken h.width (shown h table) whole k) (prev_sees h.width k)
rows_exact (Gap k) h table buffer S right s =
    read_reports h table S right s (gap_over h.width k) (leb (2 ^ h.width) k) Distance (λ x. refl)
    (λ whole. gap_unbroken h.width (shown h table) whole k) (gap_sees h.width k)
rows_exact First h table buffer S right s =
    read_reports h table S right s (first_over h.width) false word (λ x. refl)
    (λ whole. first_unbroken h.width (shown h table) whole) (first_sees h.width)
rows_exact Last h table buffer S right s =
    read_reports h table S right s (last_over h.width) false word (λ x. refl)
    (λ whole. last_unbroken h.width (shown h table) whole) (last_sees h.width)
rows_exact Audit h table buffer S right s = audit_reports h table S right s
rows_exact Call.List h table buffer S right s = list_reports h table S right s buffer

-- for two sets of the same words, the rows are the same, and so are the refusals
module _ (W : ℕ) (S S' : List Entry) (same : words S ≡ words S') where
  over_both : (f : Tree → ℕ) → SeesWords f → f (tree_of W S) ≡ f (tree_of W S')
  over_both f sees = on_same_words f sees W S S' same

  as_long : length S ≡ length S'
  as_long = sym (words_length S) ∙ ap length same ∙ words_length S'

rows_by_words : (c : Call) (W : ℕ) (S S' : List Entry) → words S ≡ words S' → rows_over c W S ≡ rows_over c W S'
unfolding rows_over
rows_by_words (New w) W S S' same = refl
rows_by_words (Add k serial) W S S' same = over_both W S S' same _ (adding_sees W (entry_for k serial))
rows_by_words (Del k) W S S' same = over_both W S S' same _ (erasing_sees W k)
rows_by_words (Has k) W S S' same = over_both W S S' same _ (has_sees W k)
rows_by_words (Next k) W S S' same = over_both W S S' same _ (next_sees W k)
rows_by_words (Prev k) W S S' same = over_both W S S' same _ (prev_sees W k)
rows_by_words (Gap k) W S S' same = over_both W S S' same _ (gap_sees W k)
rows_by_words First W S S' same = over_both W S S' same _ (first_sees W)
rows_by_words Last W S S' same = over_both W S S' same _ (last_sees W)
rows_by_words Audit W S S' same = as_long W S S' same
rows_by_words Call.List W S S' same = as_long W S S' same

refused_by_words : (c : Call) (W : ℕ) (S S' : List Entry) (room space : ℕ) → words S ≡ words S'
    → refused_over c W S room space ≡ refused_over c W S' room space
unfolding refused_over
refused_by_words (New w) W S S' room space same = refl
refused_by_words (Add k serial) W S S' room space same =
    rw (there_by_words k S S' same, as_long W S S' same)
refused_by_words (Del k) W S S' room space same = refl
refused_by_words (Has k) W S S' room space same = refl
refused_by_words (Next k) W S S' room space same = refl
refused_by_words (Prev k) W S S' room space same = refl
refused_by_words (Gap k) W S S' room space same = refl
refused_by_words First W S S' room space same = refl
refused_by_words Last W S S' room space same = refl
refused_by_words Audit W S S' room space same = refl
refused_by_words Call.List W S S' room space same = ap (λ n. ltb space n) (as_long W S S' same)

pub rows_alike : RowsAlike after
unfolding capacity
rows_alike c h h' table table' buffer buffer' S S' right right' s s' same width length space =
    (rows_exact c h table buffer S right s).rows_read
    ∙ (rw (width, length, space, rows_by_words c h'.width S S' same, refused_by_words c h'.width S S' _ _ same))
    ∙ sym (rows_exact c h' table' buffer' S' right' s').rows_read

-- what holds of both holds of the one that a test picks
either_way : {A : Type 0} (P : A → Type 0) (b : Bool) {x y : A} → P x → P y → P (if b then x else y)
either_way P true p q = p
either_way P false p q = q

module _ {n m : ℕ} where
  none_few : (h : Header) (a : Answer) → AtMost n m (refused h a)
  none_few h a = record { few_read = omega arith; few_moved = omega arith }

  answer_few : (h : Header) (a : Answer) {x : ℕ} → x ≤ n → AtMost n m (answered h a x)
  answer_few h a few = record { few_read = few; few_moved = omega arith }

read_few : {A : Type 0} {n : ℕ} (h : Header) (table : List ℕ) (wide : Bool) (say : A → Answer) (r : Reading A) → rows_of r.ways ≤ n
    → AtMost n 0 (read_reply h table wide say r)
read_few {n} h table wide say r few =
    either_way (AtMost n 0) (wrong_header h table) (none_few h WrongHeader)
    (either_way (AtMost n 0) wide (none_few h WordTooWide)
    (either_way (AtMost n 0) (broken_in r.ways) (none_few h Damage) (answer_few h (saying say r.answer) few)))

pub rows_bounded : RowsBounded after
unfolding after most_rows most_moved new_reply has_reply next_reply prev_reply gap_reply first_reply last_reply add_outcome del_outcome audit_reply list_reply second_way
rows_bounded (New w) h table buffer =
    either_way (AtMost 0 0) (wrong_width w) (none_few h WrongWidth) (none_few (fresh w) Done)
rows_bounded (Add k serial) h table buffer =
    let a : Adding = adding h.width (entry_for k serial) (shown h table) in
    let more : Header = record { width = h.width; count = suc h.count } in
    let P : Outcome → Type 0 = λ o. AtMost (h.width + 1) 0 o.reply in
    let few : rows a.rows_read ≤ h.width + 1 = adding_rows h.width (entry_for k serial) (shown h table) in
    either_way P (wrong_header h table) (none_few h WrongHeader)
    (either_way P (too_wide h k) (none_few h WordTooWide)
    (either_way P (broken a.rows_read) (none_few h Damage)
    (either_way P a.present (answer_few h AlreadyThere few)
    (either_way P (eqb h.count (capacity table)) (none_few h Full) (answer_few more Done few)))))
rows_bounded (Del k) h table buffer =
    let e : Erasing = erasing h.width k (shown h table) in
    let second : Way = second_way h table in
    let goes : Bool = not (eqb e.hole (pred h.count)) in
    let P : Outcome → Type 0 = λ o. AtMost (h.width + 1) (h.width + 1) o.reply in
    let few : rows e.rows_read ≤ h.width + 1 = erasing_rows h.width k (shown h table) in
    let key : ℕ = (row_at table (pred h.count)).entry.key in
    either_way P (wrong_header h table) (none_few h WrongHeader)
    (either_way P (too_wide h k) (none_few h WordTooWide)
    (either_way P (broken e.rows_read) (none_few h Damage)
    (either_way P (not e.present) (answer_few h NoSuchWord few)
    (either_way P (goes && (broken second || astray h table second)) (none_few h Damage)
    (record {
      few_read = few;
      few_moved = either_way (λ x. x ≤ h.width + 1) goes (way_rows (following key) h.width (shown h table)) (omega arith);
    })))))
rows_bounded (Has k) h table buffer =
    read_few h table (too_wide h k) say_serial (has_over h.width k (shown h table)) (has_rows h.width k (shown h table))
rows_bounded (Next k) h table buffer =
    read_few h table (too_wide h k) word (next_over h.width k (shown h table)) (next_rows h.width k (shown h table))
rows_bounded (Prev k) h table buffer =
    read_few h table (too_wide h k) word (prev_over h.width k (shown h table)) (prev_rows h.width k (shown h table))
rows_bounded (Gap k) h table buffer =
    read_few h table (too_wide h k) Distance (gap_over h.width k (shown h table)) (gap_rows h.width k (shown h table))
rows_bounded First h table buffer =
    read_few h table false word (first_over h.width (shown h table)) (omega (arith, first_rows h.width (shown h table)))
rows_bounded Last h table buffer =
    read_few h table false word (last_over h.width (shown h table)) (last_rows h.width (shown h table))
rows_bounded Audit h table buffer =
    let P : Reply → Type 0 = AtMost h.count 0 in
    either_way P (wrong_header h table) (none_few h WrongHeader)
    (either_way P (is_sound h table) (answer_few h Done (omega arith)) (none_few h Damage))
rows_bounded Call.List h table buffer =
    let P : Reply → Type 0 = AtMost h.count 0 in
    either_way P (wrong_header h table) (none_few h WrongHeader)
    (either_way P (is_sound h table)
    (either_way P (ltb (length buffer) h.count) (none_few h ShortBuffer) (answer_few h Done (omega arith)))
    (none_few h Damage))
