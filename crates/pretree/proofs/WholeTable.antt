-- Laws for `audit` and `list`: what the root shows, when the table is sound, and what `list` leaves in the buffer.
use Prim.Native.Nat.{ℕ, zero, suc, ◌+◌, ◌*◌, ◌-◌, ◌/◌, ◌^◌, ◌≤◌}
use mathlib.Core.Path.{◌≡◌, refl, sym, ap, ap₂, ◌∙◌}
use mathlib.Core.Bool.{Bool, true, false, true≢false}
use mathlib.Core.List.{List, ◌++◌}
use native.Mathlib.Nat.{zero-add, le_trans}
use native.Mathlib.Omega.{arith}
use lib.Dec.{ltb, eqb}
use lib.ListN.{length, drop}
use lib.Seq.{sets, sets-eq}
use borrow.Author.Tests.{ltb-true, lt-ltb, le-ltb, eqb-true, eq-eqb, ne_eqb}
use Rattle.ordered.specs.Word.{Side, left, right, bit_of}
use Rattle.ordered.specs.Tree.{Tree, none, row, intact, size, entries, listing}
use Rattle.ordered.proofs.Ways.{and_true}
use Rattle.ordered.proofs.OneTree.{listing_length}
use Rattle.pretree.specs.declared.Header.{Header}
use Rattle.pretree.specs.declared.Answer.TheVariants as Answers
use Rattle.pretree.specs.declared.Row as Rows
use Rattle.pretree.specs.Table.{entry_of, capacity, row_at, link}
use Rattle.pretree.specs.Unfold.{judged, linked, unfolded, shown}
use Rattle.pretree.specs.Sound.{is_sound}
use Rattle.pretree.specs.Reply.{wrong_header, answered}
use Rattle.pretree.specs.Whole.{list_reply, list_buffer}
use Rattle.pretree.specs.Walk.{started, below}
use Rattle.pretree.specs.Seek.{bits_left_by}
use Rattle.pretree.specs.Leg.{root_place, Stands}
use Rattle.pretree.specs.Part.{row_tree, part_at, Standing, Listable}
use Rattle.pretree.proofs.Places.{root_stands}
use Rattle.pretree.proofs.Between.{bits_are}
use Rattle.pretree.proofs.Checks.{right_header}
use Rattle.pretree.proofs.Unfolding.{is_row, damaged_is}
use Rattle.pretree.proofs.Parts.{part_is, whole_row}

-- ---- a part without damage stays the same if more rows are in use

module _ (rows : ℕ → Rows.Row) (n more : ℕ) (fewer : n ≤ more) where
  judged_wider : (m path low i : ℕ) → judged n m path low i (rows i) ≡ true → judged more m path low i (rows i) ≡ true
  judged_wider m path low i h =
      let used = and_true (ltb i n) _ h in
      rw (lt-ltb i more (le_trans (ltb-true i n used.0) fewer)) used.1

  linked_wider : (part wide : ℕ → Tree) → ((i : ℕ) → intact (part i) ≡ true → wide i ≡ part i)
      → (i : ℕ) → intact (linked part i) ≡ true → linked wide i ≡ linked part i
  linked_wider part wide same zero whole = refl
  linked_wider part wide same (suc i) whole = same (suc i) whole

  -- the parts on both sides of a row with m bits left stay the same
  abbrev Same : ℕ → Type 0
  Same m = (i : ℕ) (s : Side) → intact (below rows n m i s) ≡ true → below rows more m i s ≡ below rows n m i s

  row_same : (m : ℕ) → Same m → (i : ℕ) → intact (row_tree rows n m i) ≡ true → row_tree rows more m i ≡ row_tree rows n m i
  unfolding intact
  row_same m same i whole =
      let parts = and_true (intact (below rows n m i left)) (intact (below rows n m i right)) whole in
      ap₂ (row i (entry_of (rows i))) (same i left parts.0) (same i right parts.1)

  unfolded_same : (m : ℕ) → Same m → (path low i : ℕ) → intact (unfolded rows n m path low i) ≡ true → unfolded rows more m path low i ≡ unfolded rows n m path low i
  unfolding intact
  unfolded_same m same path low i whole = go (judged n m path low i (rows i)) refl
    where
      go : (b : Bool) → judged n m path low i (rows i) ≡ b → unfolded rows more m path low i ≡ unfolded rows n m path low i
      go true h =
          is_row rows more m path low i (judged_wider m path low i h)
          ∙ row_same m same i (sym (ap intact (is_row rows n m path low i h)) ∙ whole)
          ∙ sym (is_row rows n m path low i h)
      go false h = absurd (true≢false (sym whole ∙ ap intact (damaged_is rows n m path low i h)))

  below_same : (m : ℕ) → Same m
  below_same zero i s whole = refl
  below_same (suc m) i s whole =
      let path : ℕ = (rows i).entry.key / 2 ^ suc m * 2 + bit_of s in
      let low : ℕ = suc (rows i).entry.key in
      linked_wider (unfolded rows n m path low) (unfolded rows more m path low) (unfolded_same m (λ j t. below_same m j t) path low) (link (rows i) s) whole

  wider : (m i : ℕ) → intact (row_tree rows n m i) ≡ true → row_tree rows more m i ≡ row_tree rows n m i
  wider m i whole = row_same m (below_same m) i whole

-- ---- the root

-- a list that is written from place 0 on leaves the rest of the buffer
written_first : (xs buffer : List ℕ) (n : ℕ) → length xs ≡ n → n ≤ length buffer → sets buffer 0 xs ≡ xs ++ drop n buffer
written_first xs buffer n e h = rw (zero-add, e) at (sets-eq xs buffer 0 (omega arith))

module _ (h : Header) (table : List ℕ) where
  pub none_shown : h.count ≡ 0 → shown h table ≡ none
  unfolding shown
  none_shown empty = rw (eq-eqb h.count 0 empty)

  -- the tree of the root's row, where n rows are in use
  abbrev root_tree : ℕ → Tree
  root_tree n = row_tree (row_at table) n (bits_left_by (2 ^ h.width - 1)) 0

  module _ (right_there : wrong_header h table ≡ false) (some : h.count ≡ 0 → ⊥) where
    root_shown : shown h table ≡ unfolded (row_at table) h.count h.width 0 0 0
    unfolding shown
    root_shown = rw (ne_eqb h.count 0 some)

    pub root_stands_there : Stands (root_place h.width) (started h)
    root_stands_there = root_stands h (right_header h table right_there).at_most_32

    pub root_part : part_at (row_at table) h.count (root_place h.width) ≡ shown h table
    root_part = part_is (row_at table) h.count (root_place h.width) (started h) root_stands_there ∙ sym root_shown

    module _ (sound : is_sound h table ≡ true) where
      sound_parts : (intact (shown h table) ≡ true) × (size (shown h table) ≡ h.count)
      unfolding is_sound
      sound_parts =
          let parts = and_true (intact (shown h table)) (eqb (size (shown h table)) h.count) sound in
          (parts.0, eqb-true _ _ parts.1)

      -- the root's row is undamaged
      root_row : (shown h table ≡ root_tree h.count) × Standing (row_at table) h.count (2 ^ h.width - 1) 0
      root_row =
          let few = (right_header h table right_there).at_most_32 in
          let found = whole_row (row_at table) h.count h.width 0 0 few 0 (sym (ap intact root_shown) ∙ sound_parts.0) in
          (root_shown ∙ found.0 ∙ ap (λ (b : ℕ). row_tree (row_at table) h.count b 0) (sym (bits_are h.width few)), found.1)

      -- `list` reads a sound table as if every row up to capacity were in use
      all_shown : shown h table ≡ root_tree (capacity table)
      all_shown =
          let shows = root_row.0 in
          shows
          ∙ sym (wider (row_at table) h.count (capacity table) (right_header h table right_there).has_room (bits_left_by (2 ^ h.width - 1)) 0 (sym (ap intact shows) ∙ sound_parts.0))

      pub sound_standing : Standing (row_at table) (capacity table) (2 ^ h.width - 1) 0
      sound_standing =
          let g = root_row.1 in
          record {
            bits = g.bits;
            few = g.few;
            mask_is = g.mask_is;
            used = le_trans g.used (right_header h table right_there).has_room;
            ends = g.ends;
          }

      module _ (buffer : List ℕ) (room : h.count ≤ length buffer) where
        pub sound_listable : Listable (root_tree (capacity table)) buffer 0
        sound_listable =
            let all : size (root_tree (capacity table)) ≡ h.count = sym (ap size all_shown) ∙ sound_parts.1 in
            record { whole = sym (ap intact all_shown) ∙ sound_parts.0; room = omega arith }

        -- the listing has `count` words, so the rest of the buffer is what comes after them
        sound_listed : sets buffer 0 (listing (root_tree (capacity table))) ≡ listing (shown h table) ++ drop h.count buffer
        sound_listed =
            ap (λ (t : Tree). sets buffer 0 (listing t)) (sym all_shown)
            ∙ written_first (listing (shown h table)) buffer h.count (listing_length (shown h table) ∙ sound_parts.1) room

-- ---- `list` past its refusals

module _ (h : Header) (table buffer : List ℕ) (right_there : wrong_header h table ≡ false) (sound : is_sound h table ≡ true) (room : h.count ≤ length buffer) where
  -- what it answers, and what it leaves in the buffer
  abbrev Lists : List ℕ → Type 0
  Lists after = (answered h Answers.Done h.count ≡ list_reply h table buffer) × (after ≡ list_buffer h table buffer)

  pub lists_none : h.count ≡ 0 → Lists buffer
  unfolding list_reply list_buffer entries
  lists_none empty = rw (right_there, sound, le-ltb _ _ room) (refl, rw (none_shown h table empty, empty))

  pub lists_all : (h.count ≡ 0 → ⊥) → Lists (sets buffer 0 (listing (root_tree h table (capacity table))))
  unfolding list_reply list_buffer
  lists_all some = rw (right_there, sound, le-ltb _ _ room) (refl, sound_listed h table right_there some sound buffer room)
