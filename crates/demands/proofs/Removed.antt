-- Demand 2 for `del`: its writes do to the table what the erase does to the tree, and the move of the last row changes only row numbers.
-- Document 01: "The order is: keys up, unlink, move, set the link."
use Prim.Native.Nat.{ℕ, suc, pred, ◌+◌, ◌*◌, ◌^◌, ◌<◌, ◌≤◌}
use mathlib.Core.Path.{◌≡◌, refl, sym, ap, ap₂, ◌∙◌}
use mathlib.Core.Bool.{Bool, true, false, not, ◌&&◌, ◌||◌}
use mathlib.Core.List.{List, ◌++◌, map}
use mathlib.Core.List.Memᴰ
use native.Mathlib.Omega.{arith}
use lib.Dec.{leb, eqb}
use lib.ListN.{length}
use borrow.Author.Tests.{leb-false, eqb-true, eqb-false, lt-ltb, le-ltb, eq-eqb}
use Rattle.std.specs.Prelude.{if◌then◌else◌}
use Rattle.ordered.specs.Such.{Perhaps, no_such, such, last_such, anything, is_there}
use Rattle.ordered.specs.Word.{left}
use Rattle.ordered.specs.Dictionary.{Entry, Increasing, delete, lookup}
use Rattle.ordered.specs.Source004.{◌∈◌}
use Rattle.ordered.specs.Tree.{Tree, none, exists, entries, listing, intact}
use Rattle.ordered.specs.Proper.{Fitting, Proper}
use Rattle.ordered.specs.Way.{Step, Way, way, rows, broken, joined, following, down}
use Rattle.ordered.specs.Change.{Erasing, erasing, erasing_by, way_ends_at, above_end, raised, number_at, entry_at}
use Rattle.ordered.specs.Grown.{chained, lifted, popped_tree, tree_after_del}
use Rattle.ordered.proofs.Bits.{on_root_path}
use Rattle.ordered.proofs.OneTree.{root_fits, proper_intact}
use Rattle.ordered.proofs.Dictionary.{lookup_whether}
use Rattle.ordered.proofs.Ways.{chained_again, unbroken}
use Rattle.ordered.proofs.PushPop.{taken_by, lifted_takes, chained_append}
use Rattle.ordered.proofs.Grown.{shrunk_proper, shrunk_entries}
use Rattle.ordered.proofs.Answers.{ends_there, erasing_present}
use Rattle.ordered.proofs.Unbroken.{erasing_unbroken}
use Rattle.pretree.specs.declared.Header.{Header}
use Rattle.pretree.specs.declared.Answer.TheVariants.{Done, WordTooWide, Damage, NoSuchWord}
use Rattle.pretree.specs.Answer.{number_of, key_of, serial_of}
use Rattle.pretree.specs.Table.{row_words, capacity, row_at, link, with_link, with_row, cleared}
use Rattle.pretree.specs.Unfold.{unfolded, shown}
use Rattle.pretree.specs.Reply.{wrong_header, too_wide, refused, answered}
use Rattle.pretree.specs.Add.{Outcome, taking, hooking}
use Rattle.pretree.specs.Del.{second_way, astray, moving, shrunk, del_outcome}
use Rattle.pretree.proofs.Writing.{same_capacity}
use Rattle.pretree.proofs.Rows.{HasRow, linking, has_row, rows_fit, row_written, row_elsewhere, link_written, link_elsewhere, taking_length, hooking_length, row_length}
use Rattle.pretree.specs.declared.Call.TheVariants.{Del}
use Rattle.pretree.specs.Call.{After, after}
use Rattle.demands.specs.Numbers.{numbers, often, renamed}
use Rattle.demands.specs.Expected.{AnswerFields, Kept, only, expected, changed, kept_after}
use Rattle.demands.specs.Demand2.{Holding, Keeps, kept_by, KeepsDictionary}
use Rattle.demands.proofs.Links.{moved_into, LastMoved, last_row_moved}
use Rattle.demands.proofs.SoundIs.{held_by_entries}
use Rattle.demands.proofs.Answered.{undamaged, holds_entries, proper, narrow, nothing_changed}
use Rattle.demands.proofs.Spelled.{Spelled, no_row, spelled_shows, spelled_frame}
use Rattle.demands.proofs.Rewritten.{Once, in_often, often_in, SamePlaces, same_places, lifted_places, joined_places, same_numbers, none_part, entries_taken, end_hooked, unchanged_taken, taking_both, chained_often, end_spelled, HookRow, no_hook, hook_is}
use Rattle.demands.proofs.Added.{shown_spelled, root_first, rows_once, right_width, has_room, shown_so}
use Rattle.demands.proofs.Erasures.{Leaf, LeafRow, key_of_row, spelled_keys, delete_length, end_proper, leaf_end, ends_row, in_map, one_key, taking_link, hooking_link, leaf_row, end_is, hook_names, popped_first, listed_there, root_in, renamed_intact, renamed_entries, root_stays, shown_root, one_more, no_entries}

module _ (h : Header) (table : List ℕ) (S : List Entry) (H : Holding h table S) (k : ℕ) where
  abbrev t : Tree
  t = shown h table

  abbrev w : Way
  w = way (following k) h.width t

  abbrev stretch : Way
  stretch = way (down left) w.bits w.end

  abbrev before : List Step
  before = w.passed ++ stretch.passed

  abbrev later : List Step
  later = w.passed ++ lifted stretch.passed (entry_at stretch.end)

  abbrev e : Erasing
  e = erasing h.width k t

  abbrev last : ℕ
  last = pred h.count

  abbrev less : Header
  less = record { width = h.width; count = last }

  abbrev second : Way
  second = second_way h table

  abbrev hole : ℕ
  hole = number_at stretch.end

  places : SamePlaces before later
  places = joined_places (same_places w.passed) (lifted_places stretch.passed (entry_at stretch.end))

  way_whole : chained w.passed w.end ≡ t
  way_whole = chained_again (following k) h.width t

  before_whole : chained before stretch.end ≡ t
  before_whole =
      chained_append w.passed stretch.passed stretch.end ∙ ap (chained w.passed) (chained_again (down left) w.bits w.end) ∙ way_whole

  taken : taking (raised stretch.passed (entry_at stretch.end)) table ≡ taking (taken_by later) table
  taken =
      ap (λ ts. taking ts table) (sym (lifted_takes stretch.passed (entry_at stretch.end)))
      ∙ ap (taking (taken_by (lifted stretch.passed (entry_at stretch.end))))
      (sym (unchanged_taken h.count w.passed w.end table (rw way_whole (shown_spelled H))))
      ∙ sym (taking_both w.passed (lifted stretch.passed (entry_at stretch.end)) table)

  fit : row_words * h.count ≤ length table
  fit = rows_fit h.count table (has_room H)

  -- the table after "keys up, unlink"
  abbrev raised_table : List ℕ
  raised_table = taking (taken_by later) table

  abbrev unlinked : List ℕ
  unlinked = hooking (last_such anything before) 0 raised_table

  raised_long : length raised_table ≡ length table
  raised_long = taking_length (taken_by later) table

  unlinked_long : length unlinked ≡ length table
  unlinked_long = hooking_length (last_such anything before) 0 raised_table ∙ raised_long

  abbrev new_tree : Tree
  new_tree = chained later none

  once_later : Once (chained later stretch.end)
  once_later j = rw (same_numbers places stretch.end, before_whole) (rows_once H j)

  unlinked_spelled : Spelled (row_at unlinked) h.count new_tree
  unlinked_spelled =
      end_hooked h.count h.count stretch.end none raised_table (row_at unlinked) (omega (arith, fit, raised_long)) (omega arith) no_row
      (λ some. none_part) places once_later
      (entries_taken h.count places stretch.end table fit (rw before_whole (rows_once H)) (rw before_whole (shown_spelled H)))
      (λ j below. refl)

  module _ (present : way_ends_at k w ≡ true) where
    tree_after : tree_after_del h.width k t ≡ new_tree
    unfolding tree_after_del popped_tree
    tree_after = rw present (sym (chained_append w.passed (lifted stretch.passed (entry_at stretch.end)) none))

    end_leaf : Leaf stretch.end
    end_leaf =
        let p = end_proper (following k) h.width t 0 0 (proper H) in
        leaf_end w.bits w.end p.0 p.1 p.2 (ends_row k w.bits w.end present)

    hole_row : LeafRow (row_at table) h.count stretch.end
    hole_row = leaf_row stretch.end end_leaf (end_spelled (row_at table) h.count before stretch.end (rw before_whole (shown_spelled H)))

    one_row : h.count ≡ suc last
    one_row = one_more h.count (omega (arith, hole_row.in_use))

    numbers_same : numbers (chained later stretch.end) ≡ numbers t
    numbers_same = same_numbers places stretch.end ∙ ap numbers before_whole

    hole_out : hole ∈ numbers new_tree → ⊥
    hole_out there = omega (arith, once_later hole, chained_often later stretch.end hole, in_often there, in_often hole_row.inside)

    -- the hole is not row 0, if rows are left
    hole_later : (number_at new_tree ≡ 0) × (exists new_tree ≡ true) → hole ≡ 0 → ⊥
    hole_later first e = hole_out (Memᴰ.cast (e ∙ sym first.0) (root_in new_tree unlinked_spelled first.1))

    still_there : (j : ℕ) → j ∈ numbers t → (j ≡ hole → ⊥) → j ∈ numbers new_tree
    still_there j there apart =
        often_in j (numbers new_tree)
        (omega (arith, chained_often later stretch.end j, ap (often j) numbers_same, in_often there, hole_row.alone j apart))

    abbrev final : Bool → List ℕ
    final moves = with_row last cleared (if moves then moving hole last second unlinked else unlinked)

    table_after : (moves : Bool) → shrunk last e second moves table ≡ final moves
    unfolding shrunk erasing joined
    table_after moves = rw (present, taken)

    hole_same : e.hole ≡ hole
    unfolding erasing
    hole_same = rw present

    module _ (small : leb (2 ^ h.width) k ≡ false) (there : is_there (lookup k S) ≡ true) where
      fitting : Fitting h.width 0 0 k
      fitting = (root_fits h.width k).0 (leb-false (2 ^ h.width) k small)

      new_proper : Proper h.width 0 0 new_tree
      new_proper = rw tree_after at (shrunk_proper h.width k 0 0 t fitting (proper H))

      new_entries : entries new_tree ≡ delete k S
      new_entries = ap entries (sym tree_after) ∙ shrunk_entries h.width k 0 0 t fitting (proper H) ∙ ap (delete k) (holds_entries H)

      new_number : length (delete k S) ≡ last
      new_number = omega (arith, delete_length k S H.holds.increasing there, H.holds.number, one_row)

      new_first : number_at new_tree ≡ 0
      new_first = popped_first places stretch.end (ap number_at before_whole ∙ root_first H)

      abbrev Shows : List ℕ → Type 0
      Shows after = (intact (shown less after) ≡ true) × (entries (shown less after) ≡ delete k S)

      -- `del` of the only word
      none_left : last ≡ 0 → (after : List ℕ) → Shows after
      unfolding shown intact entries
      none_left empty after = rw (eq-eqb last 0 empty) (refl, sym (no_entries (delete k S) (new_number ∙ empty)))

      module _ (some : last ≡ 0 → ⊥) where
        new_there : exists new_tree ≡ true
        new_there = listed_there new_tree (λ e. some (sym new_number ∙ ap length (sym new_entries) ∙ e))

        -- the hole is the last row: nothing moves
        stays : hole ≡ last → Shows (final false)
        stays same =
            let so : shown less (final false) ≡ new_tree =
            shown_so less (final false) new_tree some new_proper
            (spelled_frame new_tree unlinked_spelled (λ j inside below.
            let apart : j ≡ last → ⊥ = λ e. hole_out (Memᴰ.cast (same ∙ sym e) inside) in
            (omega (arith, one_row), row_elsewhere last unlinked j apart cleared)))
            new_there new_first in
            (ap intact so ∙ proper_intact h.width 0 0 new_tree new_proper, ap entries so ∙ new_entries)

    -- the second way: the way of the last row's key ends at the last row
    abbrev last_key : ℕ
    last_key = (row_at table last).entry.key

    last_in : last ∈ numbers t
    last_in =
        often_in last (numbers t)
        (omega (arith, rw (lt-ltb last h.count (omega (arith, one_row))) at (H.holds.each_row_once last)))

    keys_listed : listing t ≡ map (key_of_row (row_at table) h.count) (numbers t)
    keys_listed = spelled_keys (row_at table) h.count t (shown_spelled H)

    key_in : last_key ∈ listing t
    key_in = rw keys_listed (in_map (key_of_row (row_at table) h.count) last_in)

    second_finds : way_ends_at last_key second ≡ true
    unfolding second_way
    second_finds =
        ends_there h.width last_key 0 0 t ((on_root_path h.width last_key).0 (H.holds.below last_key (rw (holds_entries H) at key_in)))
        (proper H)
        ∙ (lookup_whether last_key (entries t)).1 key_in

    second_whole : chained second.passed second.end ≡ t
    unfolding second_way
    second_whole = chained_again (following last_key) h.width t

    second_spelled : Spelled (row_at table) h.count (chained second.passed second.end)
    second_spelled = rw second_whole (shown_spelled H)

    second_row : ((row_at table (number_at second.end)).entry.key ≡ last_key) × (number_at second.end ∈ numbers second.end)
    second_row =
        end_is last_key second.bits second.end (end_spelled (row_at table) h.count second.passed second.end second_spelled) second_finds

    second_often : (j : ℕ) → often j (numbers t) ≡ often j (numbers (chained second.passed none)) + often j (numbers second.end)
    second_often j = ap (λ u. often j (numbers u)) (sym second_whole) ∙ chained_often second.passed second.end j

    second_last : number_at second.end ≡ last
    second_last =
        let rising : Increasing (listing t) = rw (holds_entries H) H.holds.increasing in
        one_key (key_of_row (row_at table) h.count) (numbers t) (rw keys_listed at rising)
        (often_in (number_at second.end) (numbers t) (omega (arith, second_often (number_at second.end), in_often second_row.1)))
        last_in second_row.0

    not_astray : astray h table second ≡ false
    unfolding astray
    not_astray = rw (second_finds, eq-eqb (number_at second.end) last second_last)

    second_unbroken : broken second ≡ false
    unfolding second_way
    second_unbroken = unbroken (following last_key) h.width t (undamaged H)

    module _ (earlier : hole < last) where
      some_left : last ≡ 0 → ⊥
      some_left e = omega arith

      -- p is the row above the last row, with the side of the link
      module _ (p : Step) (is : last_such anything second.passed ≡ such p) where
        abbrev parent : ℕ
        parent = p.at

        parent_link : (parent ∈ numbers (chained second.passed none)) × (parent < h.count) × (link (row_at table parent) p.turn ≡ number_at second.end)
        parent_link = hook_names (rw is at (hook_is (row_at table) h.count second.passed second.end second_spelled))

        names_last : link (row_at table parent) p.turn ≡ last
        names_last = parent_link.2 ∙ second_last

        parent_in : parent ∈ numbers t
        parent_in = often_in parent (numbers t) (omega (arith, second_often parent, in_often parent_link.0))

        parent_other : parent ≡ last → ⊥
        parent_other e =
            let inside : parent ∈ numbers second.end = Memᴰ.cast (e ∙ sym second_last) second_row.1 in
            omega (arith, second_often parent, rows_once H parent, in_often parent_link.0, in_often inside)

        parent_kept : parent ≡ hole → ⊥
        parent_kept e = some_left (sym names_last ∙ ap (λ j. link (row_at table j) p.turn) e ∙ hole_row.no_links p.turn)

        -- unlinking the hole does not change that link
        other_hook : (q : Step) → last_such anything before ≡ such q → HasRow raised_table q.at × (q.at ≡ parent → q.turn ≡ p.turn → ⊥)
        other_hook q is_q =
            let whole : Spelled (row_at table) h.count (chained before stretch.end) = rw before_whole (shown_spelled H) in
            let names = hook_names (rw is_q at (hook_is (row_at table) h.count before stretch.end whole)) in (
              has_row raised_table q.at h.count names.1 (omega (arith, fit, raised_long)),
              λ same_row same_side.
                  let at_hole : link (row_at table parent) p.turn ≡ hole =
                  ap (λ j. link (row_at table j) p.turn) (sym same_row) ∙ ap (link (row_at table q.at)) (sym same_side) ∙ names.2 in
                  omega (arith, names_last),
            )

        still_names : link (row_at unlinked parent) p.turn ≡ last
        still_names =
            hooking_link (last_such anything before) 0 raised_table parent p.turn other_hook
            ∙ taking_link (taken_by later) table parent p.turn ∙ names_last

        abbrev filled : List ℕ
        filled = with_row hole (row_at unlinked last) unlinked

        abbrev relinked : List ℕ
        relinked = with_link parent p.turn hole filled

        final_is : final true ≡ with_row last cleared relinked
        unfolding moving
        final_is = rw is

        long : length filled ≡ length table
        long = row_length hole (row_at unlinked last) unlinked ∙ unlinked_long

        -- what the move leaves
        moved_rows : (number_at new_tree ≡ 0) × (exists new_tree ≡ true) → LastMoved (row_at unlinked) (row_at (with_row last cleared relinked)) hole last parent p.turn new_tree
        moved_rows first =
            record {
              hole_earlier = earlier;
              hole_no_root = hole_later first;
              parent_there = still_there parent parent_in parent_kept;
              parent_other = parent_other;
              parent_names = still_names;
              moved =
                  row_elsewhere last relinked hole (λ e. omega arith) cleared
                  ∙ link_elsewhere parent filled hole (λ e. parent_kept (sym e)) p.turn hole
                  ∙ row_written hole unlinked (has_row unlinked hole h.count hole_row.in_use (omega (arith, fit, unlinked_long))) (row_at unlinked last);
              link_set =
                  row_elsewhere last relinked parent parent_other cleared
                  ∙ link_written parent filled (has_row filled parent h.count parent_link.1 (omega (arith, fit, long))) p.turn hole
                  ∙ ap (linking p.turn hole) (row_elsewhere hole unlinked parent parent_kept (row_at unlinked last));
              others_stay =
                  λ j inside no_last no_parent.
                  row_elsewhere last relinked j no_last cleared ∙ link_elsewhere parent filled j no_parent p.turn hole
                  ∙ row_elsewhere hole unlinked j (λ e. hole_out (Memᴰ.cast (sym e) inside)) (row_at unlinked last);
            }

        moved_shows : (small : leb (2 ^ h.width) k ≡ false) (there : is_there (lookup k S) ≡ true) → Shows small there (final true)
        moved_shows small there =
            let first : (number_at new_tree ≡ 0) × (exists new_tree ≡ true) = (new_first small there, new_there small there some_left) in
            let after : List ℕ = with_row last cleared relinked in
            let before_move : unfolded (row_at unlinked) (suc last) h.width 0 0 0 ≡ new_tree =
            ap₂ (λ n i. unfolded (row_at unlinked) n h.width 0 0 i) (sym one_row) (sym first.0)
            ∙ spelled_shows (row_at unlinked) h.count h.width 0 0 new_tree (new_proper small there) unlinked_spelled first.1 in
            let whole : intact (unfolded (row_at unlinked) (suc last) h.width 0 0 0) ≡ true =
            ap intact before_move ∙ proper_intact h.width 0 0 new_tree (new_proper small there) in
            let moves : unfolded (row_at after) last h.width 0 0 (moved_into hole last 0) ≡ renamed (moved_into hole last) (unfolded (row_at unlinked) (suc last) h.width 0 0 0) =
            last_row_moved (row_at unlinked) (row_at after) hole last parent p.turn h.width 0 0 0 whole (rw before_move (moved_rows first)) in
            let so : shown less after ≡ renamed (moved_into hole last) new_tree =
            shown_root less after some_left ∙ ap (unfolded (row_at after) last h.width 0 0) (sym (root_stays hole last some_left))
            ∙ moves ∙ ap (renamed (moved_into hole last)) before_move in
            rw final_is (
              ap intact so ∙ renamed_intact (moved_into hole last) new_tree ∙ proper_intact h.width 0 0 new_tree (new_proper small there),
              ap entries so ∙ renamed_entries (moved_into hole last) new_tree ∙ new_entries small there,
            )

      -- there is a row above the last row, because the last row is not the root
      has_parent : (q : Perhaps Step) → last_such anything second.passed ≡ q → (p : Step) × (last_such anything second.passed ≡ such p)
      unfolding chained
      has_parent no_such is =
          absurd (some_left (sym second_last ∙ alone (rw is at (hook_is (row_at table) h.count second.passed second.end second_spelled))))
        where
          alone : HookRow (row_at table) h.count second.passed second.end no_such → number_at second.end ≡ 0
          alone (no_hook empty) = sym (ap (λ ss. number_at (chained ss second.end)) empty) ∙ ap number_at second_whole ∙ root_first H
      has_parent (such p) is = (p, is)

    shows_after : (small : leb (2 ^ h.width) k ≡ false) (there : is_there (lookup k S) ≡ true) → Shows small there (final (not (eqb hole last)))
    shows_after small there = by_cases (eqb last 0) refl (eqb hole last) refl
      where
        by_cases : (a : Bool) → eqb last 0 ≡ a → (b : Bool) → eqb hole last ≡ b → Shows small there (final (not b))
        by_cases true empty b same = none_left small there (eqb-true last 0 empty) (final (not b))
        by_cases false some true same = stays small there (eqb-false last 0 some) (eqb-true hole last same)
        by_cases false some false differ =
            let earlier : hole < last = omega (arith, one_row, hole_row.in_use, eqb-false hole last differ) in
            let p = has_parent earlier (last_such anything second.passed) refl in
            moved_shows earlier p.0 p.1 small there

    same_long : (moves : Bool) → length (final moves) ≡ length table
    unfolding moving
    same_long moves = row_length last cleared (if moves then moving hole last second unlinked else unlinked) ∙ by_cases moves
      where
        by_cases : (b : Bool) → length (if b then moving hole last second unlinked else unlinked) ≡ length table
        by_cases true =
            hooking_length (above_end second) hole (with_row hole (row_at unlinked last) unlinked)
            ∙ row_length hole (row_at unlinked last) unlinked ∙ unlinked_long
        by_cases false = unlinked_long

    del_held : (small : leb (2 ^ h.width) k ≡ false) (there : is_there (lookup k S) ≡ true) → Holding less (final (not (eqb hole last))) (delete k S)
    unfolding wrong_header
    del_held small there =
        let moves : Bool = not (eqb hole last) in
        record {
          right_header =
              rw (
                right_width H,
                same_capacity (final moves) table (same_long moves),
                le-ltb (capacity table) last (omega (arith, has_room H, one_row)),
              );
          holds = held_by_entries less (final moves) (shows_after small there).0 (shows_after small there).1 (new_number small there);
        }

  present_is : e.present ≡ way_ends_at k w
  unfolding erasing
  present_is = by_cases (way_ends_at k w)
    where
      by_cases : (b : Bool) → (erasing_by w stretch (joined w stretch) b).present ≡ b
      by_cases true = refl
      by_cases false = refl

  present_so : leb (2 ^ h.width) k ≡ false → e.present ≡ is_there (lookup k S)
  present_so small =
      erasing_present h.width k 0 0 t (narrow h k small) (proper H) ∙ ap (λ es. is_there (lookup k es)) (holds_entries H)

  -- a move needs three rows: the root, the hole and the last row
  pub three_rows : leb (2 ^ h.width) k ≡ false → is_there (lookup k S) ≡ true → (e.hole ≡ last → ⊥) → 3 ≤ h.count
  three_rows small there apart =
      let present : way_ends_at k w ≡ true = sym present_is ∙ present_so small ∙ there in
      let differ : hole ≡ last → ⊥ = λ same. apart (hole_same present ∙ same) in
      let some : last ≡ 0 → ⊥ = λ e. omega (arith, (hole_row present).in_use, one_row present) in
      omega (
        arith,
        (hole_row present).in_use,
        one_row present,
        hole_later present (new_first present small there, new_there present small there some),
      )

  abbrev moves : Bool
  moves = not (eqb e.hole last)

  abbrev outcome : Bool → Bool → Bool → Outcome
  outcome wide there bad =
      if wide then record { reply = refused h WordTooWide; table = table }
      else if not there then record { reply = answered h NoSuchWord (rows e.rows_read); table = table }
      else if bad then record { reply = refused h Damage; table = table }
      else
      record {
        reply = record { header = less; answer = Done; rows = rows e.rows_read; moved = if moves then rows second else 0 };
        table = shrunk last e second moves table;
      }

  abbrev bad : Bool
  bad = moves && (broken second || astray h table second)

  outcome_so : del_outcome h table k ≡ outcome (leb (2 ^ h.width) k) e.present bad
  unfolding del_outcome too_wide
  outcome_so = rw (H.right_header, erasing_unbroken h.width t (undamaged H) k)

  never_bad : way_ends_at k w ≡ true → bad ≡ false
  never_bad present = rw (second_unbroken present, not_astray present) (by_cases moves)
    where
      by_cases : (b : Bool) → (b && false) ≡ false
      by_cases true = refl
      by_cases false = refl

  after_so : (present : way_ends_at k w ≡ true) → shrunk last e second moves table ≡ final present (not (eqb hole last))
  after_so present = table_after present moves ∙ ap (λ i. final present (not (eqb i last))) (hole_same present)

  pub keeps_del : (buffer : List ℕ) → KeepsDictionary after (Del k) h table buffer S
  unfolding after expected kept_after changed number_of key_of serial_of
  keeps_del buffer = rw outcome_so (by_width (leb (2 ^ h.width) k) refl e.present (λ small. present_so small) bad (λ small there. never_bad (sym present_is ∙ present_so small ∙ there)))
    where
      fields : Bool → Bool → AnswerFields
      fields wide there = if wide then only 3 else if there then only 0 else only 8

      kept : AnswerFields → Kept
      kept answer = if eqb answer.number 0 || eqb answer.number 7 then record { width = h.width; set = delete k S; buffer = buffer } else kept_by h S buffer

      left_by : Outcome → After
      left_by o = record { reply = o.reply; table = o.table; buffer = buffer }

      by_lookup : (small : leb (2 ^ h.width) k ≡ false) (there : Bool) → is_there (lookup k S) ≡ there → (wrong : Bool) → (there ≡ true → wrong ≡ false)
          → Keeps (fields false there) (kept (fields false there)) table (left_by (outcome false there wrong))
      by_lookup small true is wrong so =
          let present : way_ends_at k w ≡ true = sym present_is ∙ present_so small ∙ is in
          rw (so refl) (record {
            answer = refl;
            width = refl;
            held = rw (after_so present) (del_held present small is);
            written = refl;
            same_length = ap length (after_so present) ∙ same_long present (not (eqb hole last));
          })
      by_lookup small false is wrong so = nothing_changed h table buffer S H (answered h NoSuchWord (rows e.rows_read)) (only 8) refl refl

      by_width : (wide : Bool) → leb (2 ^ h.width) k ≡ wide → (there : Bool) → (leb (2 ^ h.width) k ≡ false → there ≡ is_there (lookup k S))
          → (wrong : Bool) → (leb (2 ^ h.width) k ≡ false → is_there (lookup k S) ≡ true → wrong ≡ false)
          → Keeps (fields wide (is_there (lookup k S))) (kept (fields wide (is_there (lookup k S)))) table (left_by (outcome wide there wrong))
      by_width true small there so wrong never = nothing_changed h table buffer S H (refused h WordTooWide) (only 3) refl refl
      by_width false small there so wrong never = rw (so small) (by_lookup small (is_there (lookup k S)) refl wrong (never small))
