-- A call writes only rows: "Words past the last whole row, or past that limit, are never changed." Every row that a table shows is in use
-- ("0 to count−1"), also in a damaged table. `add` and `del` write only such rows, and `add` also writes its new row.
use Prim.Native.Nat.{ℕ, suc, ◌+◌, ◌*◌, ◌-◌, ◌≤◌, ◌<◌, pred}
use mathlib.Core.Path.{◌≡◌, refl, ap, ◌∙◌}
use mathlib.Core.Bool.{Bool, true, false, not, ◌&&◌, ◌||◌, false≢true}
use mathlib.Core.List.{List, ◌++◌}
use native.Mathlib.Omega.{arith}
use lib.Dec.{ltb, eqb}
use lib.ListN.{length, get_or, drop, replicate, length-append, length-drop, length-replicate}
use lib.Seq.{get_or-append-add, get_or-drop}
use borrow.Author.Tests.{ltb-false, eqb-false, not-false}
use Rattle.std.specs.Prelude.{if◌then◌else◌}
use Rattle.ordered.specs.Such.{Perhaps, no_such, such, only_if, anything, is_there}
use Rattle.ordered.specs.Word.{Side, left}
use Rattle.ordered.specs.Dictionary.{Entry}
use Rattle.ordered.specs.Tree.{Tree, none, row, damaged, listing}
use Rattle.ordered.specs.Way.{Step, Way, Rule, way, rows, joined, following, pushing, down, broken}
use Rattle.ordered.specs.Reading.{word_in, root_row}
use Rattle.ordered.specs.Change.{Take, pushed, raised, way_ends_at, number_at, entry_at, above_end, Adding, adding_by, adding, Erasing, erasing_by, erasing}
use Rattle.ordered.proofs.Lists.{by_test}
use Rattle.ordered.proofs.Parts.{All, none_all, one_all, all_append, IfSuch, last_such_one}
use Rattle.ordered.proofs.OneTree.{listing_length}
use Rattle.pretree.specs.declared.Header.{Header}
use Rattle.pretree.specs.declared.Row.{Row}
use Rattle.pretree.specs.declared.Answer.TheVariants.{Done, WrongHeader, WordTooWide, Damage, Full, AlreadyThere, NoSuchWord}
use Rattle.pretree.specs.declared.Reply.{Reply}
use Rattle.pretree.specs.Table.{row_words, capacity, row_at, leaf_row, with_entry, with_link, with_row, cleared}
use Rattle.pretree.specs.Unfold.{shown}
use Rattle.pretree.specs.Reply.{wrong_width, wrong_header, too_wide, refused, answered}
use Rattle.pretree.specs.Sound.{is_sound}
use Rattle.pretree.specs.Whole.{new_table, list_buffer}
use Rattle.pretree.specs.Add.{Outcome, taking, hooking, grown, add_outcome}
use Rattle.pretree.specs.Del.{second_way, astray, moving, shrunk, del_outcome}
use Rattle.pretree.proofs.Rows.{entry_length, link_length, row_length, entry_past, link_past, row_past}
use Rattle.pretree.proofs.Checks.{right_header}
use Rattle.demands.specs.Refusals.{SameFrom}
use Rattle.demands.proofs.ShownRows.{EachRow, shown_each, way_each}
use Rattle.demands.proofs.Tested.{test_says}

-- every row number in the tree is below c
abbrev InUse : ℕ → Tree → Type 0
InUse c = EachRow (λ i e. i < c)

abbrev Passed : ℕ → Way → Type 0
Passed c w = All (λ s. s.at < c) w.passed

module _ (c : ℕ) where
  shown_in_use : (h : Header) (table : List ℕ) → h.count ≤ c → InUse c (shown h table)
  shown_in_use h table fits = shown_each (λ i e. i < c) h table (λ i used. omega arith)

  way_in_use : (f : Rule) (m : ℕ) (t : Tree) → InUse c t → Passed c (way f m t) × InUse c (way f m t).end
  way_in_use = way_each (λ i e. i < c)

  -- a way that ends at a key ends at a row
  ended_in_use : (k m : ℕ) (t : Tree) → InUse c t → is_there (only_if (λ f. eqb k (word_in f)) (root_row m t)) ≡ true → 0 < c
  unfolding EachRow
  ended_in_use k m none u there = absurd (false≢true there)
  ended_in_use k m (row i e l r) u there = omega (arith, u.0)
  ended_in_use k m damaged u there = absurd (false≢true there)

  number_in_use : (t : Tree) → 0 < c → InUse c t → number_at t < c
  unfolding EachRow
  number_in_use none some u = some
  number_in_use (row i e l r) some u = u.0
  number_in_use damaged some u = some

  abbrev Taken : List Take → Type 0
  Taken = All (λ t. t.at < c)

  abbrev Hooked : Perhaps Step → Type 0
  Hooked = IfSuch (λ s. s.at < c)

  pushed_in_use : (e : Entry) {ss : List Step} → All (λ s. s.at < c) ss → Taken (pushed e ss)
  unfolding pushed
  pushed_in_use e none_all = none_all
  pushed_in_use e (one_all {x} u us) = one_all u (pushed_in_use x.entry us)

  raised_in_use : (hole : Entry) {ss : List Step} → All (λ s. s.at < c) ss → Taken (raised ss hole)
  unfolding raised
  raised_in_use hole none_all = none_all
  raised_in_use hole (one_all {x} u none_all) = one_all u none_all
  raised_in_use hole (one_all {x} u (one_all {x = y} v us)) = one_all u (raised_in_use hole (one_all {x = y} v us))

  joined_in_use : (w v : Way) → Passed c w → Passed c v → Hooked (above_end (joined w v))
  unfolding joined
  joined_in_use w v us vs = last_such_one anything (all_append us vs)

  adding_in_use : (m : ℕ) (new : Entry) (t : Tree) → InUse c t → Taken (adding m new t).takes × Hooked (adding m new t).hook
  unfolding adding
  adding_in_use m new t u = by_cases (way_ends_at new.key w) refl
    where
      w : Way
      w = way (following new.key) m t

      push : Way
      push = way pushing w.bits w.end

      by_cases : (b : Bool) → way_ends_at new.key w ≡ b
          → Taken (adding_by new w push (joined w push) b).takes × Hooked (adding_by new w push (joined w push) b).hook
      by_cases true there = (one_all (number_in_use w.end (ended_in_use new.key w.bits w.end ends there) ends) none_all, tt)
        where
          ends : InUse c w.end
          ends = (way_in_use (following new.key) m t u).1
      by_cases false absent =
          let us = way_in_use (following new.key) m t u in
          let vs = way_in_use pushing w.bits w.end us.1 in
          (pushed_in_use new vs.0, joined_in_use w push us.0 vs.0)

  -- the rows that an erase writes are below c
  record Erased (e : Erasing) : Type 0 where
    some : 0 < c
    takes : Taken e.takes
    hook : Hooked e.hook
    hole : e.hole < c

  erasing_in_use : (m k : ℕ) (t : Tree) → InUse c t → (erasing m k t).present ≡ true → Erased (erasing m k t)
  unfolding erasing
  erasing_in_use m k t u = by_cases (way_ends_at k w) refl
    where
      w : Way
      w = way (following k) m t

      stretch : Way
      stretch = way (down left) w.bits w.end

      by_cases : (b : Bool) → way_ends_at k w ≡ b → (erasing_by w stretch (joined w stretch) b).present ≡ true
          → Erased (erasing_by w stretch (joined w stretch) b)
      by_cases false absent there = absurd (false≢true there)
      by_cases true ends there =
          let us = way_in_use (following k) m t u in
          let vs = way_in_use (down left) w.bits w.end us.1 in
          let some : 0 < c = ended_in_use k w.bits w.end us.1 ends in
          record {
            some = some;
            takes = raised_in_use (entry_at stretch.end) vs.0;
            hook = joined_in_use w stretch us.0 vs.0;
            hole = number_in_use stretch.end some vs.1;
          }

module _ (n : ℕ) where
  pub same_all : {words : List ℕ} → SameFrom n words words
  same_all = record { same_length = refl; same_words = λ i past. refl }

  same_twice : {a b d : List ℕ} → SameFrom n a b → SameFrom n b d → SameFrom n a d
  same_twice x y =
      record { same_length = y.same_length ∙ x.same_length; same_words = λ i past. y.same_words i past ∙ x.same_words i past }

-- a write to a row below c changes no word past the first c rows
module _ (c : ℕ) where
  abbrev KeptPast : List ℕ → List ℕ → Type 0
  KeptPast = SameFrom (row_words * c)

  entry_kept : (i : ℕ) (e : Entry) (table : List ℕ) → i < c → KeptPast table (with_entry i e table)
  entry_kept i e table owned =
      record { same_length = entry_length i e table; same_words = λ p past. entry_past c p past i owned table e }

  link_kept : (i : ℕ) (s : Side) (j : ℕ) (table : List ℕ) → i < c → KeptPast table (with_link i s j table)
  link_kept i s j table owned =
      record { same_length = link_length i s j table; same_words = λ p past. link_past c p past i owned table s j }

  row_kept : (i : ℕ) (r : Row) (table : List ℕ) → i < c → KeptPast table (with_row i r table)
  row_kept i r table owned =
      record { same_length = row_length i r table; same_words = λ p past. row_past c p past i owned table r }

  taking_kept : {ts : List Take} (table : List ℕ) → Taken c ts → KeptPast table (taking ts table)
  unfolding taking
  taking_kept table none_all = same_all (row_words * c)
  taking_kept table (one_all {x} u us) =
      same_twice (row_words * c) (entry_kept x.at x.entry table u) (taking_kept (with_entry x.at x.entry table) us)

  hooking_kept : (p : Perhaps Step) (i : ℕ) (table : List ℕ) → Hooked c p → KeptPast table (hooking p i table)
  hooking_kept no_such i table u = same_all (row_words * c)
  hooking_kept (such s) i table u = link_kept s.at s.turn i table u

  grown_kept : (count : ℕ) (a : Adding) (table : List ℕ) → count < c → Taken c a.takes → Hooked c a.hook → KeptPast table (grown count a table)
  unfolding grown
  grown_kept count a table room takes hook =
      let taken : List ℕ = taking a.takes table in
      same_twice (row_words * c) (taking_kept table takes)
      (same_twice (row_words * c) (hooking_kept a.hook count taken hook)
      (row_kept count (leaf_row a.new_entry) (hooking a.hook count taken) room))

  shrunk_kept : (last : ℕ) (e : Erasing) (second : Way) (moves : Bool) (table : List ℕ)
      → last < c → Erased c e → Hooked c (above_end second) → KeptPast table (shrunk last e second moves table)
  unfolding shrunk moving
  shrunk_kept last e second moves table owned erased hook =
      same_twice (row_words * c) (taking_kept table erased.takes)
      (same_twice (row_words * c) (hooking_kept e.hook 0 taken erased.hook)
      (same_twice (row_words * c) (by_cases moves) (row_kept last cleared (if moves then moved else unlinked) owned)))
    where
      taken : List ℕ
      taken = taking e.takes table

      unlinked : List ℕ
      unlinked = hooking e.hook 0 taken

      into_hole : List ℕ
      into_hole = with_row e.hole (row_at unlinked last) unlinked

      moved : List ℕ
      moved = hooking (above_end second) e.hole into_hole

      by_cases : (b : Bool) → KeptPast unlinked (if b then moved else unlinked)
      by_cases true =
          same_twice (row_words * c) (row_kept e.hole (row_at unlinked last) unlinked erased.hole)
          (hooking_kept (above_end second) e.hole into_hole hook)
      by_cases false = same_all (row_words * c)

-- an outcome that changes no word past the rows
abbrev RestKept : List ℕ → Outcome → Type 0
RestKept table o = KeptPast (capacity table) table o.table

-- P holds of every outcome with the same header and the same table
abbrev Unchanged : Header → List ℕ → (Outcome → Type 0) → Type 0
Unchanged h table P = (r : Reply) → r.header ≡ h → P (record { reply = r; table = table })

module _ (h : Header) (table : List ℕ) (new : Entry) where
  abbrev a : Adding
  a = adding h.width new (shown h table)

  -- what `add` leaves if it adds a row
  abbrev pub added : Outcome
  added =
      record {
        reply = answered (record { width = h.width; count = suc h.count }) Done (rows a.rows_read);
        table = grown h.count a table;
      }

  -- then no row from number c on changes, if the rows in use and the new one are below c
  pub added_kept : (c : ℕ) → h.count < c → KeptPast c table added.table
  added_kept c room =
      let used = adding_in_use c h.width new (shown h table) (shown_in_use c h table (omega arith)) in
      grown_kept c h.count a table room used.0 used.1

  -- what `add` leaves if the word is there
  abbrev pub stored : Outcome
  stored = record { reply = answered h AlreadyThere (rows a.rows_read); table = taking a.takes table }

  pub stored_kept : (c : ℕ) → h.count ≤ c → KeptPast c table stored.table
  stored_kept c fits = taking_kept c table (adding_in_use c h.width new (shown h table) (shown_in_use c h table fits)).0

  -- what holds if `add` writes nothing, and of the two outcomes above, holds of every outcome
  pub of_add_outcome : (P : Outcome → Type 0) → Unchanged h table P
      → (h.count ≤ capacity table → a.present ≡ true → P stored) → (h.count < capacity table → P added) → P (add_outcome h table new)
  unfolding add_outcome
  of_add_outcome P unchanged there_written written =
      by_test P (wrong_header h table) (λ wrong. unchanged (refused h WrongHeader) refl)
      (λ right. by_test P (too_wide h new.key) (λ wide. unchanged (refused h WordTooWide) refl)
      (λ narrow. by_test P (broken a.rows_read) (λ damage. unchanged (refused h Damage) refl)
      (λ whole. by_test P a.present (λ there. there_written (right_header h table right).has_room there)
      (λ absent. by_test P (eqb h.count (capacity table)) (λ full. unchanged (refused h Full) refl)
      (λ room. written (omega (arith, (right_header h table right).has_room, eqb-false h.count (capacity table) room)))))))

  pub add_kept : RestKept table (add_outcome h table new)
  add_kept =
      of_add_outcome (RestKept table) (λ r same. same_all (row_words * capacity table)) (λ room there. stored_kept (capacity table) room)
      (added_kept (capacity table))

module _ (h : Header) (table : List ℕ) (k : ℕ) where
  abbrev e : Erasing
  e = erasing h.width k (shown h table)

  abbrev last : ℕ
  last = pred h.count

  abbrev moves : Bool
  moves = not (eqb e.hole last)

  abbrev second : Way
  second = second_way h table

  -- what `del` leaves if it removes a row
  abbrev pub removed : Outcome
  removed =
      record {
        reply =
            record {
              header = record { width = h.width; count = last };
              answer = Done;
              rows = rows e.rows_read;
              moved = if moves then rows second else 0;
            };
        table = shrunk last e second moves table;
      }

  pub removed_kept : (c : ℕ) → h.count ≤ c → e.present ≡ true → KeptPast c table removed.table
  unfolding second_way
  removed_kept c fits present =
      let some = (erasing_in_use h.count h.width k (shown h table) (shown_in_use h.count h table (omega arith)) present).some in
      let owned : pred h.count < c = omega arith in
      let used : InUse c (shown h table) = shown_in_use c h table fits in
      let second_used = way_in_use c (following (row_at table last).entry.key) h.width (shown h table) used in
      shrunk_kept c last e second moves table owned (erasing_in_use c h.width k (shown h table) used present)
      (last_such_one anything second_used.0)

  pub of_del_outcome :
      (P : Outcome → Type 0) → Unchanged h table P → (h.count ≤ capacity table → e.present ≡ true → P removed) → P (del_outcome h table k)
  unfolding del_outcome
  of_del_outcome P unchanged written =
      by_test P (wrong_header h table) (λ wrong. unchanged (refused h WrongHeader) refl)
      (λ right. by_test P (too_wide h k) (λ wide. unchanged (refused h WordTooWide) refl)
      (λ narrow. by_test P (broken e.rows_read) (λ damage. unchanged (refused h Damage) refl)
      (λ whole. by_test P (not e.present) (λ absent. unchanged (answered h NoSuchWord (rows e.rows_read)) refl)
      (λ there. by_test P (moves && (broken second || astray h table second)) (λ damage. unchanged (refused h Damage) refl)
      (λ led. written (right_header h table right).has_room (not-false e.present there))))))

  pub del_kept : RestKept table (del_outcome h table k)
  del_kept = of_del_outcome (RestKept table) (λ r same. same_all (row_words * capacity table)) (removed_kept (capacity table))

-- overwriting the first n words changes no word from number n on
front_kept : (n : ℕ) (front words : List ℕ) → length front ≡ n → n ≤ length words → SameFrom n words (front ++ drop n words)
front_kept n front words long room =
    record {
      same_length = length-append front (drop n words) ∙ rw length-drop (omega arith);
      same_words =
          λ i past.
          let at : i ≡ length front + (i - n) = omega arith in
          let back : n + (i - n) ≡ i = omega arith in
          ap (λ j. get_or (front ++ drop n words) j 0) at ∙ get_or-append-add front (drop n words) (i - n) 0 ∙ get_or-drop n words (i - n) 0
          ∙ ap (λ j. get_or words j 0) back;
    }

pub new_kept : (table : List ℕ) (W : ℕ) → SameFrom (row_words * capacity table) table (new_table table W)
unfolding new_table capacity
new_kept table W =
    let words : ℕ = row_words * capacity table in
    by_test (SameFrom words table) (wrong_width W) (λ e. same_all words)
    (λ right. front_kept words (replicate words 0) table (length-replicate words 0) (omega arith))

pub list_kept : (h : Header) (table buffer : List ℕ) → SameFrom h.count buffer (list_buffer h table buffer)
unfolding list_buffer
list_kept h table buffer =
    let P : List ℕ → Type 0 = SameFrom h.count buffer in
    by_test P (wrong_header h table) (λ e. same_all h.count)
    (λ right. by_test P (is_sound h table)
    (λ sound. by_test P (ltb (length buffer) h.count) (λ e. same_all h.count)
    (λ room.
    front_kept h.count (listing (shown h table)) buffer (listing_length (shown h table) ∙ (test_says h table sound).1)
    (ltb-false (length buffer) h.count room)))
    (λ e. same_all h.count))
