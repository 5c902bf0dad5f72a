-- An `add` of a word that is already there: its row takes the new entry. The table then shows the same tree with that entry, and holds the
-- dictionary's next set. Document 02 §1: "An `add` of a word already there still answers 7, but now stores the new serial."
use Prim.Native.Nat.{ℕ, zero, suc, ◌+◌, ◌*◌, ◌^◌, ◌<◌}
use mathlib.Core.Path.{◌≡◌, refl, sym, ap, ap₂, ◌∙◌, subst}
use mathlib.Core.Bool.{Bool, true, false, ◌||◌, false≢true}
use mathlib.Core.List.{List, [], ◌∷◌, ◌++◌}
use native.Mathlib.Omega.{arith}
use lib.Dec.{leb, eqb}
use lib.ListN.{length}
use borrow.Author.Tests.{leb-false, eqb-true, le-ltb, ne_eqb}
use Rattle.std.specs.Prelude.{if◌then◌else◌}
use Rattle.ordered.specs.Such.{no_such, such, only_if, first_such, is_there}
use Rattle.ordered.specs.Dictionary.{Entry, words, Increasing, one_increasing, insert, lookup}
use Rattle.ordered.specs.Word.{left, right, bit_of}
use Rattle.ordered.specs.Tree.{Tree, none, row, damaged, exists, entries, intact}
use Rattle.ordered.specs.Proper.{Fitting, Proper}
use Rattle.ordered.specs.Way.{Step, Way, way, following}
use Rattle.ordered.specs.Reading.{Found, word_in, root_row}
use Rattle.ordered.specs.Change.{Take, adding, way_ends_at, number_at}
use Rattle.ordered.specs.Grown.{chained, shifted, storing, tree_after_add}
use Rattle.ordered.proofs.Lists.{by_order}
use Rattle.ordered.proofs.Parts.{one_all, all_map, above_all, no_lookup}
use Rattle.ordered.proofs.OneTree.{root_fits, proper_intact}
use Rattle.ordered.proofs.Ways.{chained_again}
use Rattle.ordered.proofs.PushPop.{taken_by, chained_append}
use Rattle.ordered.proofs.Grown.{grown_proper, grown_entries}
use Rattle.pretree.specs.declared.Header.{Header}
use Rattle.pretree.specs.Table.{capacity, row_at, entry_of, with_entry, with_serial}
use Rattle.pretree.specs.Unfold.{shown}
use Rattle.pretree.specs.Sound.{Met, met_by, met, SoundRows, rows_met, Sound}
use Rattle.pretree.specs.declared.Row.{Row}
use Rattle.pretree.specs.Reply.{wrong_header, refused}
use Rattle.pretree.specs.declared.Answer.TheVariants.{WordTooWide, Full}
use Rattle.pretree.specs.Answer.{number_of, key_of, serial_of}
use Rattle.pretree.specs.Add.{entry_for, Outcome, taking}
use Rattle.pretree.specs.declared.Call.TheVariants.{Add}
use Rattle.pretree.specs.Call.{After, after}
use Rattle.pretree.proofs.Writing.{same_capacity}
use Rattle.pretree.proofs.Rows.{key_stays, links_stay, own_key, rows_fit, taking_length}
use Rattle.demands.specs.Expected.{AnswerFields, Kept, only, expected, changed, kept_after}
use Rattle.demands.specs.Demand2.{Holding, Keeps, kept_by, KeepsDictionary}
use Rattle.demands.specs.SoundIs.{AnySerial}
use Rattle.demands.proofs.ShownRows.{EachRow, shown_each, way_each}
use Rattle.demands.proofs.SoundIs.{held_by_entries}
use Rattle.demands.proofs.Answered.{holds_entries, proper, nothing_changed}
use Rattle.demands.proofs.Spelled.{Spelled}
use Rattle.demands.proofs.Rewritten.{SamePlaces, same_places, shifted_places, joined_places, first_place, entries_taken, unchanged_taken, taking_both}
use Rattle.demands.proofs.Added.{outcome, outcome_so, present_is, present_so, same_long, add_held, shown_spelled, root_first, rows_once, right_width, has_room, shown_so}

-- the row at which a way ends, as one more row that it passes; and then the end of that way
abbrev last_step : Tree → List Step
last_step none = []
last_step (row i e l r) = record { at = i; entry = e; turn = left; left_part = l; right_part = r; below = 0 } ∷ []
last_step damaged = []

abbrev beyond : Tree → Tree
beyond none = none
beyond (row i e l r) = l
beyond damaged = damaged

chained_end : (u : Tree) → chained (last_step u) (beyond u) ≡ u
unfolding chained
chained_end none = refl
chained_end (row i e l r) = refl
chained_end damaged = refl

linked_stored : (e : Entry) (u : Tree) → chained (shifted e (last_step u)) (beyond u) ≡ storing e u
unfolding chained shifted
linked_stored e none = refl
linked_stored e (row i f l r) = refl
linked_stored e damaged = refl

stored_take : (m k : ℕ) (e : Entry) (u : Tree) → is_there (only_if (λ f. eqb k (word_in f)) (root_row m u)) ≡ true
    → taken_by (shifted e (last_step u)) ≡ record { at = number_at u; entry = e } ∷ []
unfolding shifted
stored_take m k e none there = absurd (false≢true there)
stored_take m k e (row i f l r) there = refl
stored_take m k e damaged there = absurd (false≢true there)

-- replacing the entry of a word does not change the length
insert_length_there : (e : Entry) (s : List Entry) → Increasing (words s) → is_there (lookup e.key s) ≡ true → length (insert e s) ≡ length s
unfolding insert lookup first_such
insert_length_there e [] rising there = absurd (false≢true there)
insert_length_there e (f ∷ s) (one_increasing a rising) there =
    by_order (λ (t : List Entry). length t ≡ suc (length s)) e.key f.key
    (λ less. absurd (false≢true (sym (absent less) ∙ there)))
    (λ equal. refl)
    (λ greater. ap suc (insert_length_there e s rising (rw (ne_eqb e.key f.key (λ same. omega arith)) at there)))
  where
    absent : e.key < f.key → is_there (lookup e.key (f ∷ s)) ≡ false
    absent less =
        ap is_there (no_lookup e.key (f ∷ s)
        (one_all (ne_eqb e.key f.key (λ same. omega arith))
        (all_map (λ g above. ne_eqb e.key g.key (λ same. omega arith)) (above_all s a))))

-- a set in which a word is found is not empty, and the tree of such a set is not none
not_empty : (k : ℕ) (s : List Entry) → is_there (lookup k s) ≡ true → length s ≡ 0 → ⊥
unfolding lookup first_such
not_empty k [] there none_there = false≢true there
not_empty k (e ∷ s) there none_there = omega arith

exists_so : (k : ℕ) (t : Tree) → is_there (lookup k (entries t)) ≡ true → exists t ≡ true
unfolding entries lookup first_such
exists_so k none there = absurd (false≢true there)
exists_so k (row i e l r) there = refl
exists_so k damaged there = refl

module _ (h : Header) (table : List ℕ) (S : List Entry) (H : Holding h table S) (new : Entry) where
  abbrev t : Tree
  t = shown h table

  abbrev w : Way
  w = way (following new.key) h.width t

  abbrev before : List Step
  before = w.passed ++ last_step w.end

  abbrev later : List Step
  later = w.passed ++ shifted new (last_step w.end)

  abbrev end_take : List Take
  end_take = record { at = number_at w.end; entry = new } ∷ []

  abbrev stored_table : List ℕ
  stored_table = taking end_take table

  places : SamePlaces before later
  places = joined_places (same_places w.passed) (shifted_places new (last_step w.end))

  before_whole : chained before (beyond w.end) ≡ t
  before_whole =
      chained_append w.passed (last_step w.end) (beyond w.end) ∙ ap (chained w.passed) (chained_end w.end)
      ∙ chained_again (following new.key) h.width t

  way_whole : chained w.passed w.end ≡ t
  way_whole = chained_again (following new.key) h.width t

  module _ (ends : way_ends_at new.key w ≡ true) where
    takes_there : (adding h.width new t).takes ≡ end_take
    unfolding adding
    takes_there = rw ends

    taken : taking (taken_by later) table ≡ stored_table
    taken =
        taking_both w.passed (shifted new (last_step w.end)) table
        ∙ ap (taking (taken_by (shifted new (last_step w.end))))
        (unchanged_taken h.count w.passed w.end table (rw way_whole (shown_spelled H)))
        ∙ ap (λ ts. taking ts table) (stored_take w.bits new.key new w.end ends)

    abbrev new_tree : Tree
    new_tree = tree_after_add h.count h.width new t

    tree_after : new_tree ≡ chained later (beyond w.end)
    unfolding tree_after_add
    tree_after =
        rw ends
        (ap (chained w.passed) (sym (linked_stored new w.end))
        ∙ sym (chained_append w.passed (shifted new (last_step w.end)) (beyond w.end)))

    spelled : Spelled (row_at stored_table) h.count new_tree
    spelled =
        rw (tree_after, ← taken)
        (entries_taken h.count places (beyond w.end) table (rows_fit h.count table (has_room H))
        (rw before_whole (rows_once H)) (rw before_whole (shown_spelled H)))

    module _ (small : leb (2 ^ h.width) new.key ≡ false) (there : is_there (lookup new.key S) ≡ true) where
      fitting : Fitting h.width 0 0 new.key
      fitting = (root_fits h.width new.key).0 (leb-false (2 ^ h.width) new.key small)

      new_proper : Proper h.width 0 0 new_tree
      new_proper = grown_proper h.width 0 0 h.count new t fitting (proper H)

      new_entries : entries new_tree ≡ insert new S
      new_entries = grown_entries h.width 0 0 h.count new t fitting (proper H) ∙ ap (insert new) (holds_entries H)

      first : (number_at new_tree ≡ 0) × (exists new_tree ≡ true)
      first =
          let same = first_place places (beyond w.end) in (
            ap number_at tree_after ∙ same.0 ∙ ap number_at before_whole ∙ root_first H,
            ap exists tree_after ∙ same.1 ∙ ap exists before_whole
                ∙ exists_so new.key t (ap (λ es. is_there (lookup new.key es)) (holds_entries H) ∙ there),
          )

      some : h.count ≡ 0 → ⊥
      some none_there = not_empty new.key S there (omega (arith, H.holds.number))

      stored_shows : shown h stored_table ≡ new_tree
      stored_shows = shown_so h stored_table new_tree some new_proper spelled first.1 first.0

      stored_held : Holding h stored_table (insert new S)
      unfolding wrong_header
      stored_held =
          record {
            right_header =
                rw (
                  right_width H,
                  same_capacity stored_table table (taking_length end_take table),
                  le-ltb (capacity table) h.count (has_room H),
                );
            holds =
                held_by_entries h stored_table (ap intact stored_shows ∙ proper_intact h.width 0 0 new_tree new_proper)
                (ap entries stored_shows ∙ new_entries) (insert_length_there new S H.holds.increasing there ∙ H.holds.number);
          }

-- On every table, damaged or not: if the way of a word ends at it, the row there has that word. So only its serial changes.
module _ (h : Header) (table : List ℕ) (new : Entry) where
  own_word : (m : ℕ) (u : Tree) → EachRow (λ i e. e ≡ entry_of (row_at table i)) u
      → is_there (only_if (λ f. eqb new.key (word_in f)) (root_row m u)) ≡ true → (row_at table (number_at u)).entry.key ≡ new.key
  unfolding EachRow
  own_word m none own there = absurd (false≢true there)
  own_word m damaged own there = absurd (false≢true there)
  own_word m (row i e l r) own there = sym (ap (λ x. x.key) own.0) ∙ sym (eqb-true new.key e.key (by_test (eqb new.key e.key) there))
    where
      by_test : (b : Bool) → is_there {A = Found} (if b then such (record { entry = e; bits = m }) else no_such) ≡ true → b ≡ true
      by_test true found = refl
      by_test false found = found

  pub its_own_word : let u : Tree = (way (following new.key) h.width (shown h table)).end in
      way_ends_at new.key (way (following new.key) h.width (shown h table)) ≡ true → (row_at table (number_at u)).entry.key ≡ new.key
  its_own_word ends =
      let u : Way = way (following new.key) h.width (shown h table) in
      own_word u.bits u.end
      (way_each (λ i e. e ≡ entry_of (row_at table i)) (following new.key) h.width (shown h table)
      (shown_each (λ i e. e ≡ entry_of (row_at table i)) h table (λ i used. refl))).1
      ends

  pub only_serial : let i : ℕ = number_at (way (following new.key) h.width (shown h table)).end in
      way_ends_at new.key (way (following new.key) h.width (shown h table)) ≡ true
      → with_entry i new table ≡ with_serial i new.serial table
  only_serial ends =
      own_key (number_at (way (following new.key) h.width (shown h table)).end) new table (sym (its_own_word ends))

-- `add` of the word k
module _ (h : Header) (table : List ℕ) (S : List Entry) (H : Holding h table S) (k serial : ℕ) where
  abbrev new : Entry
  new = entry_for k serial

  pub keeps_add : (buffer : List ℕ) → KeepsDictionary after (Add k serial) h table buffer S
  unfolding after expected kept_after changed number_of key_of serial_of
  keeps_add buffer =
      rw (outcome_so h table S H new)
      (by_width (leb (2 ^ h.width) k) refl (adding h.width new (shown h table)).present (λ small. present_so h table S H new small))
    where
      fields : Bool → Bool → Bool → AnswerFields
      fields wide there full = if wide then only 3 else if there then only 7 else if full then only 5 else only 0

      kept : AnswerFields → Kept
      kept answer = if eqb answer.number 0 || eqb answer.number 7 then record { width = h.width; set = insert new S; buffer = buffer } else kept_by h S buffer

      left_by : Outcome → After
      left_by o = record { reply = o.reply; table = o.table; buffer = buffer }

      by_room : (small : leb (2 ^ h.width) k ≡ false) (there : Bool) → is_there (lookup k S) ≡ there
          → (full : Bool) → eqb h.count (capacity table) ≡ full
          → Keeps (fields false there full) (kept (fields false there full)) table (left_by (outcome h table S H new false there full))
      by_room small true is full how =
          let ends : way_ends_at k (way (following k) h.width (shown h table)) ≡ true = sym (present_is h table S H new) ∙ present_so h table S H new small ∙ is in
          let takes : (adding h.width new (shown h table)).takes ≡ end_take h table S H new = takes_there h table S H new ends in
          record {
            answer = refl;
            width = refl;
            held = rw takes (stored_held h table S H new ends small is);
            written = refl;
            same_length = taking_length (adding h.width new (shown h table)).takes table;
          }
      by_room small false is true how = nothing_changed h table buffer S H (refused h Full) (only 5) refl refl
      by_room small false is false how =
          record {
            answer = refl;
            width = refl;
            held = add_held h table S H new small is how;
            written = refl;
            same_length = same_long h table S H new;
          }

      by_width : (wide : Bool) → leb (2 ^ h.width) k ≡ wide → (there : Bool) → (leb (2 ^ h.width) k ≡ false → there ≡ is_there (lookup k S))
          → let answer : AnswerFields = fields wide (is_there (lookup k S)) (eqb (length S) (capacity table)) in
          Keeps answer (kept answer) table (left_by (outcome h table S H new wide there (eqb h.count (capacity table))))
      by_width true e there so = nothing_changed h table buffer S H (refused h WordTooWide) (only 3) refl refl
      by_width false e there so = rw (so e, H.holds.number) (by_room e (is_there (lookup k S)) refl (eqb h.count (capacity table)) refl)

-- "Sound" looks only at keys and links
met_by_same : {f g : ℕ → List Met} → ((k : ℕ) → f k ≡ g k) → (j : ℕ) → met_by f j ≡ met_by g j
met_by_same same zero = refl
met_by_same same (suc j) = same (suc j)

module _ (i serial : ℕ) (table : List ℕ) where
  abbrev other_rows : ℕ → Row
  other_rows = row_at (with_serial i serial table)

  met_same : (levels depth path j : ℕ) → met other_rows levels depth path j ≡ met (row_at table) levels depth path j
  unfolding met
  met_same zero depth path j = refl
  met_same (suc levels) depth path j =
      rw (key_stays i serial table j, links_stay i serial table j left, links_stay i serial table j right)
      (ap₂ (λ ls rs. record { at = j; key = (row_at table j).entry.key; depth = depth; path = path } ∷ (ls ++ rs))
      (met_by_same (λ k. met_same levels (suc depth) (path * 2 + bit_of left) k) (row_at table j).left)
      (met_by_same (λ k. met_same levels (suc depth) (path * 2 + bit_of right) k) (row_at table j).right))

pub any_serial : AnySerial
unfolding Sound
any_serial h table i serial =
    let same : rows_met h (with_serial i serial table) ≡ rows_met h table =
    met_same i serial table (if eqb h.count 0 then 0 else h.width + 2) 0 0 0 in
    (λ sound. subst (SoundRows h.width h.count) same sound, λ sound. subst (SoundRows h.width h.count) (sym same) sound)
