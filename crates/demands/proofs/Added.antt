-- Demand 2 for `add`: its writes do to the table what the push does to the tree. So the table then shows the tree of the set with the new word.
use Prim.Native.Nat.{ℕ, zero, suc, pred, ◌^◌, ◌<◌, ◌≤◌}
use mathlib.Core.Path.{◌≡◌, refl, sym, ap, ◌∙◌}
use mathlib.Core.Bool.{Bool, true, false, ◌||◌}
use mathlib.Core.List.{List, [], ◌∷◌, ◌++◌}
use mathlib.Core.List.Memᴰ
use native.Mathlib.Omega.{arith}
use lib.Dec.{ltb, leb, eqb}
use lib.ListN.{length}
use borrow.Author.Tests.{ltb-false, leb-false, lt-ltb, le-ltb, eqb-false, ne_eqb}
use Rattle.std.specs.Prelude.{if◌then◌else◌}
use Rattle.ordered.specs.Such.{no_such, such, first_of, first_such, last_such, anything, is_there}
use Rattle.ordered.specs.Dictionary.{Entry, words, insert, lookup}
use Rattle.ordered.specs.Word.{Side, left, right, side}
use Rattle.ordered.specs.Source004.{◌∈◌}
use Rattle.ordered.specs.Tree.{Tree, none, row, damaged, part, exists, entries, listing, intact}
use Rattle.ordered.specs.Proper.{Fitting, Proper}
use Rattle.ordered.specs.Way.{Step, Way, way, rows, joined, following, pushing}
use Rattle.ordered.specs.Change.{Adding, adding, adding_by, way_ends_at, pushed, left_over, number_at}
use Rattle.ordered.specs.Grown.{linking as turned, chained, shifted, pushed_tree, tree_after_add}
use Rattle.ordered.proofs.Parts.{no_lookup, words_append}
use Rattle.ordered.proofs.OneTree.{root_fits, proper_intact}
use Rattle.ordered.proofs.Ways.{chained_again}
use Rattle.ordered.proofs.PushPop.{taken_by, shifted_takes, chained_append}
use Rattle.ordered.proofs.Grown.{grown_proper, grown_entries}
use Rattle.ordered.proofs.Answers.{adding_present}
use Rattle.ordered.proofs.Unbroken.{adding_unbroken}
use Rattle.pretree.specs.declared.Header.{Header}
use Rattle.pretree.specs.declared.Answer.TheVariants.{Done, WordTooWide, Full, AlreadyThere}
use Rattle.pretree.specs.declared.Row.{Row}
use Rattle.pretree.specs.Table.{capacity, row_at, leaf_row, with_row}
use Rattle.pretree.specs.Unfold.{unfolded, shown}
use Rattle.pretree.specs.Reply.{wrong_width, wrong_header, too_wide, refused, answered}
use Rattle.pretree.specs.Add.{Outcome, taking, hooking, grown, add_outcome}
use Rattle.pretree.proofs.Writing.{same_capacity}
use Rattle.pretree.proofs.Rows.{HasRow, has_row, rows_fit, row_written, row_elsewhere, taking_length, hooking_length}
use Rattle.demands.specs.Demand2.{Holding}
use Rattle.demands.proofs.Words.{all_words}
use Rattle.demands.proofs.Tested.{shown_as, shown_once}
use Rattle.demands.proofs.Owned.{added_kept}
use Rattle.demands.proofs.SoundIs.{held_by_entries}
use Rattle.demands.proofs.Answered.{undamaged, holds_entries, proper, narrow}
use Rattle.demands.proofs.Spelled.{RowSpelled, Spelled, no_row, a_row, root_number, unfolded_spelled, spelled_shows}
use Rattle.demands.proofs.Rewritten.{Once, SamePlaces, no_place, one_place, same_places, shifted_places, joined_places, same_numbers, none_part, entries_taken, end_hooked, unchanged_taken, taking_both}

-- inserting a new word makes the set one word longer
insert_length : (e : Entry) (s : List Entry) → is_there (lookup e.key s) ≡ false → length (insert e s) ≡ suc (length s)
unfolding insert lookup first_such
insert_length e [] out = refl
insert_length e (f ∷ s) out = by_cases (ltb e.key f.key) (eqb e.key f.key) out (insert_length e s)
  where
    by_cases : (a b : Bool) → is_there (first_of (if b then such f else no_such) (lookup e.key s)) ≡ false
        → (is_there (lookup e.key s) ≡ false → length (insert e s) ≡ suc (length s))
        → length (if a then e ∷ f ∷ s else if b then e ∷ s else f ∷ insert e s) ≡ suc (suc (length s))
    by_cases true b out rest = refl
    by_cases false true out rest = let never : ◌≡◌ {A = ℕ} 0 1 = cc in omega arith
    by_cases false false out rest = ap suc (rest out)

-- a word greater than all others is not among them
pub greatest_absent : (x : ℕ) (S : List Entry) → ((y : ℕ) → y ∈ words S → y < x) → is_there (lookup x S) ≡ false
greatest_absent x S greatest =
    ap is_there (no_lookup x S (all_words S (λ y there. ne_eqb x y (λ same. omega (arith, greatest y there)))))

in_part : (s : Side) (l r : Tree) {y : ℕ} → y ∈ listing (part s l r) → y ∈ words (entries l ++ entries r)
in_part left l r there = rw (words_append (entries l) (entries r)) (Memᴰ.append_left (listing r) there)
in_part right l r there = rw (words_append (entries l) (entries r)) (Memᴰ.append_right (listing l) there)

-- An `add` of a word greater than all others pushes nothing: its way meets no key that is the word's or more.
nothing_pushed :
    (x m : ℕ) (t : Tree) → ((y : ℕ) → y ∈ listing t → y < x) → let w : Way = way (following x) m t in (way pushing w.bits w.end).passed ≡ []
unfolding way following entries
nothing_pushed x zero t greatest = refl
nothing_pushed x (suc m) none greatest = refl
nothing_pushed x (suc m) damaged greatest = refl
nothing_pushed x (suc m) (row i e l r) greatest =
    rw (lt-ltb e.key x (greatest e.key (Memᴰ.head refl)))
    (nothing_pushed x m (part (side m x) l r) (λ y there. greatest y (Memᴰ.tail (in_part (side m x) l r there))))

-- a table that holds S: its rows spell the tree that it shows, the root is row 0, and no row is in the tree twice
module _ {h : Header} {table : List ℕ} {S : List Entry} (H : Holding h table S) where
  pub shown_spelled : Spelled (row_at table) h.count (shown h table)
  shown_spelled =
      shown_as h table (λ t. intact t ≡ true → Spelled (row_at table) h.count t) (λ u. no_row)
      (unfolded_spelled (row_at table) h.count h.width 0 0 0) (undamaged H)

  pub root_first : number_at (shown h table) ≡ 0
  root_first =
      shown_as h table (λ t. intact t ≡ true → number_at t ≡ 0) (λ u. refl) (root_number (row_at table) h.count h.width 0 0 0) (undamaged H)

  pub rows_once : Once (shown h table)
  rows_once = shown_once h table (undamaged H)

  neither : (a b : Bool) → (a || b) ≡ false → (a ≡ false) × (b ≡ false)
  neither true b e = (e, cc)
  neither false b e = (refl, e)

  pub right_width : wrong_width h.width ≡ false
  unfolding wrong_header
  right_width = (neither (wrong_width h.width) (ltb (capacity table) h.count) H.right_header).0

  pub has_room : h.count ≤ capacity table
  unfolding wrong_header
  has_room = ltb-false (capacity table) h.count (neither (wrong_width h.width) (ltb (capacity table) h.count) H.right_header).1

-- if the rows of a table spell a proper tree from row 0, the table shows that tree
pub shown_so :
    (h : Header) (table : List ℕ) (t : Tree) → (h.count ≡ 0 → ⊥) → Proper h.width 0 0 t → Spelled (row_at table) h.count t → exists t ≡ true → number_at t ≡ 0
    → shown h table ≡ t
unfolding shown
shown_so h table t some p s there root =
    rw (ne_eqb h.count 0 some) (ap (unfolded (row_at table) h.count h.width 0 0) (sym root) ∙ spelled_shows (row_at table) h.count h.width 0 0 t p s there)

-- the root of the tree after a push is row 0
pushed_first :
    {ss us : List Step} → SamePlaces ss us → (n : ℕ) (e : Entry) (u : Tree) → number_at (chained ss u) ≡ 0
    → length (entries (chained us (row n e none none))) ≡ suc n
    → (number_at (chained us (row n e none none)) ≡ 0) × (exists (chained us (row n e none none)) ≡ true)
unfolding chained entries
pushed_first no_place n e u root whole = (omega arith, refl)
pushed_first (one_place {s} {ss} {us} f p) n e u root whole = by_side s.turn root
  where
    by_side : (turn : Side) → number_at (turned s.at s.entry turn s.left_part s.right_part (chained ss u)) ≡ 0
        → (number_at (turned s.at f turn s.left_part s.right_part (chained us (row n e none none))) ≡ 0)
        × (exists (turned s.at f turn s.left_part s.right_part (chained us (row n e none none))) ≡ true)
    by_side left root = (root, refl)
    by_side right root = (root, refl)

module _ (h : Header) (table : List ℕ) (S : List Entry) (H : Holding h table S) (new_entry : Entry) where
  abbrev t : Tree
  t = shown h table

  abbrev k : ℕ
  k = new_entry.key

  abbrev w : Way
  w = way (following k) h.width t

  abbrev push : Way
  push = way pushing w.bits w.end

  abbrev before : List Step
  before = w.passed ++ push.passed

  abbrev later : List Step
  later = w.passed ++ shifted new_entry push.passed

  abbrev a : Adding
  a = adding h.width new_entry t

  abbrev more : Header
  more = record { width = h.width; count = suc h.count }

  abbrev after_add : List ℕ
  after_add = grown h.count a table

  abbrev new_row : Tree
  new_row = row h.count (left_over new_entry push.passed) none none

  places : SamePlaces before later
  places = joined_places (same_places w.passed) (shifted_places new_entry push.passed)

  before_whole : chained before push.end ≡ t
  before_whole =
      chained_append w.passed push.passed push.end ∙ ap (chained w.passed) (chained_again pushing w.bits w.end)
      ∙ chained_again (following k) h.width t

  way_whole : chained w.passed w.end ≡ t
  way_whole = chained_again (following k) h.width t

  taken : taking (pushed new_entry push.passed) table ≡ taking (taken_by later) table
  taken =
      ap (λ ts. taking ts table) (sym (shifted_takes new_entry push.passed))
      ∙ ap (taking (taken_by (shifted new_entry push.passed)))
      (sym (unchanged_taken h.count w.passed w.end table (rw way_whole (shown_spelled H))))
      ∙ sym (taking_both w.passed (shifted new_entry push.passed) table)

  module _ (absent : way_ends_at k w ≡ false) where
    table_after :
        after_add
        ≡ with_row h.count (leaf_row (left_over new_entry push.passed))
        (hooking (last_such anything before) h.count (taking (taken_by later) table))
    unfolding grown adding joined
    table_after = rw (absent, taken)

    tree_after : tree_after_add h.count h.width new_entry t ≡ chained later new_row
    unfolding tree_after_add pushed_tree
    tree_after = rw absent (sym (chained_append w.passed (shifted new_entry push.passed) new_row))

    module _ (room : suc h.count ≤ capacity table) where
      abbrev moved : List ℕ
      moved = taking (taken_by later) table

      abbrev hooked_table : List ℕ
      hooked_table = hooking (last_such anything before) h.count moved

      abbrev last_row : Row
      last_row = leaf_row (left_over new_entry push.passed)

      fits : HasRow hooked_table h.count
      fits =
          has_row hooked_table h.count (suc h.count) (omega arith)
          (omega (
            arith,
            rows_fit (suc h.count) table room,
            taking_length (taken_by later) table,
            hooking_length (last_such anything before) h.count moved,
          ))

      moved_spelled : Spelled (row_at moved) h.count (chained later push.end)
      moved_spelled =
          entries_taken h.count places push.end table (omega (arith, rows_fit (suc h.count) table room))
          (rw before_whole (rows_once H)) (rw before_whole (shown_spelled H))

      once_later : Once (chained later push.end)
      once_later j = rw (same_numbers places push.end, before_whole) (rows_once H j)

      leaf : Spelled (row_at (with_row h.count last_row hooked_table)) (suc h.count) new_row
      leaf =
          let spelled_row : RowSpelled (row_at (with_row h.count last_row hooked_table)) (suc h.count) h.count (left_over new_entry push.passed) none none =
          record {
            in_use = omega arith;
            row_is = row_written h.count hooked_table fits last_row;
            named = elim [ left ↦ none_part | right ↦ none_part ];
          } in
          a_row spelled_row no_row no_row

      grown_spelled : Spelled (row_at after_add) (suc h.count) (tree_after_add h.count h.width new_entry t)
      grown_spelled =
          rw (table_after, tree_after)
          (end_hooked h.count (suc h.count) push.end new_row moved (row_at (with_row h.count last_row hooked_table))
          (omega (arith, rows_fit (suc h.count) table room, taking_length (taken_by later) table)) (omega arith) leaf
          (λ some. record { not_root = λ there e. omega arith }) places once_later moved_spelled
          (λ j below. row_elsewhere h.count hooked_table j (λ e. omega arith) last_row))

    new_row_key : suc h.count ≤ capacity table → (row_at after_add h.count).entry.key ≡ (left_over new_entry push.passed).key
    new_row_key room =
        ap (λ x. (row_at x h.count).entry.key) table_after
        ∙ ap (λ r. r.entry.key) (row_written h.count (hooked_table room) (fits room) (last_row room))

  pub present_is : a.present ≡ way_ends_at k w
  unfolding adding
  present_is = by_cases (way_ends_at k w)
    where
      by_cases : (b : Bool) → (adding_by new_entry w push (joined w push) b).present ≡ b
      by_cases true = refl
      by_cases false = refl

  pub same_long : length after_add ≡ length table
  same_long = (added_kept h table new_entry (suc h.count) (omega arith)).same_length

  module _ (small : leb (2 ^ h.width) k ≡ false) where
    pub present_so : a.present ≡ is_there (lookup k S)
    present_so =
        adding_present h.width 0 0 new_entry t (narrow h k small) (proper H) ∙ ap (λ es. is_there (lookup k es)) (holds_entries H)

    module _ (out : is_there (lookup k S) ≡ false) (not_full : eqb h.count (capacity table) ≡ false) where
      absent : way_ends_at k w ≡ false
      absent = sym present_is ∙ present_so ∙ out

      room_left : suc h.count ≤ capacity table
      room_left = omega (arith, has_room H, eqb-false h.count (capacity table) not_full)

      fitting : Fitting h.width 0 0 k
      fitting = (root_fits h.width k).0 (leb-false (2 ^ h.width) k small)

      abbrev new_tree : Tree
      new_tree = tree_after_add h.count h.width new_entry t

      new_proper : Proper h.width 0 0 new_tree
      new_proper = grown_proper h.width 0 0 h.count new_entry t fitting (proper H)

      new_entries : entries new_tree ≡ insert new_entry S
      new_entries = grown_entries h.width 0 0 h.count new_entry t fitting (proper H) ∙ ap (insert new_entry) (holds_entries H)

      new_number : length (insert new_entry S) ≡ suc h.count
      new_number = insert_length new_entry S out ∙ ap suc H.holds.number

      new_first : (number_at new_tree ≡ 0) × (exists new_tree ≡ true)
      new_first =
          rw (tree_after absent)
          (pushed_first places h.count (left_over new_entry push.passed) push.end (ap number_at before_whole ∙ root_first H)
          (ap (λ u. length (entries u)) (sym (tree_after absent)) ∙ ap length new_entries ∙ new_number))

      -- the table after `add` shows the tree that the push leaves
      add_shows : shown more after_add ≡ new_tree
      add_shows =
          shown_so more after_add new_tree (λ e. omega arith) new_proper (grown_spelled absent room_left) new_first.1 new_first.0

      pub add_held : Holding more after_add (insert new_entry S)
      unfolding wrong_header
      add_held =
          record {
            right_header =
                rw (right_width H, same_capacity after_add table same_long, le-ltb (capacity table) (suc h.count) room_left);
            holds =
                held_by_entries more after_add (ap intact add_shows ∙ proper_intact h.width 0 0 new_tree new_proper)
                (ap entries add_shows ∙ new_entries) new_number;
          }

  abbrev pub outcome : Bool → Bool → Bool → Outcome
  outcome wide there full =
      if wide then record { reply = refused h WordTooWide; table = table }
      else if there then record { reply = answered h AlreadyThere (rows a.rows_read); table = taking a.takes table }
      else if full then record { reply = refused h Full; table = table }
      else record { reply = answered more Done (rows a.rows_read); table = after_add }

  pub outcome_so : add_outcome h table new_entry ≡ outcome (leb (2 ^ h.width) k) a.present (eqb h.count (capacity table))
  unfolding add_outcome too_wide
  outcome_so = rw (H.right_header, adding_unbroken h.width t (undamaged H) new_entry)

  -- if the new word is greater than all others, it goes into the new row, which is the last one
  module _ (small : leb (2 ^ h.width) k ≡ false) (not_full : eqb h.count (capacity table) ≡ false) (greatest : (y : ℕ) → y ∈ words S → y < k) where
    not_there : is_there (lookup k S) ≡ false
    not_there = greatest_absent k S greatest

    done_so : add_outcome h table new_entry ≡ outcome false false false
    done_so = outcome_so ∙ cc (small, present_so small, not_there, not_full)

    pub last_row_takes : let o : Outcome = add_outcome h table new_entry in (row_at o.table (pred o.reply.header.count)).entry.key ≡ k
    unfolding left_over
    last_row_takes =
        ap (λ o. (row_at o.table (pred o.reply.header.count)).entry.key) done_so
        ∙ new_row_key (absent small not_there not_full) (room_left small not_there not_full)
        ∙ ap (λ ss. (left_over new_entry ss).key) (nothing_pushed k h.width t (rw (holds_entries H) greatest))
