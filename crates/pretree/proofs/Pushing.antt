-- The push: the keys of its rows increase, the code computes the entries of the way, it does not end at a row, and a write to one of its rows
-- leaves the rows ahead as they were.
use Prim.Native.Nat.{ℕ, zero, suc, ◌+◌, ◌*◌, ◌/◌, ◌^◌, ◌≤◌, ◌<◌, zero-le}
use mathlib.Core.Path.{◌≡◌, refl, sym, ap, ◌∙◌}
use mathlib.Core.Bool.{Bool, true, false}
use mathlib.Core.List.{List}
use native.Mathlib.Nat.{add-zero, add-suc, le_trans, lt_of_lt_of_le, le_of_lt}
use native.Mathlib.Omega.{arith}
use lib.Dec.{ltb, leb}
use lib.ListN.{length}
use borrow.Author.Tests.{ltb-true, leb-true}
use Rattle.ordered.specs.Word.{Side, left, right, bit_of, side}
use Rattle.ordered.specs.Tree.{Tree, none, part}
use Rattle.ordered.specs.Way.{Way, way, ending, passing, pushing, end_rows}
use Rattle.ordered.specs.Change.{pushed, left_over}
use Rattle.ordered.proofs.Ways.{and_true}
use Rattle.ordered.proofs.Bits.{next_bit, whole_path}
use Rattle.pretree.specs.declared.Entry.{Entry}
use Rattle.pretree.specs.declared.Row.{Row}
use Rattle.pretree.specs.Table.{from_code, entry_of, capacity, row_at, link, with_entry}
use Rattle.pretree.specs.Unfold.{judged, linked, unfolded}
use Rattle.pretree.specs.Walk.{below}
use Rattle.pretree.specs.Add.{taking}
use Rattle.pretree.specs.Push.{onward, takes_from, left_from, Rising}
use Rattle.pretree.proofs.Unfolding.{path_in_key, damaged_is, is_row}
use Rattle.pretree.proofs.Walking.{at_none}
use Rattle.pretree.proofs.Rows.{entry_length, entry_elsewhere}

-- `Rising` still holds with a greater `top` and with 0 for `low`
pub rises_within : (rows : ℕ → Row) (top top' end n i low : ℕ) → top ≤ top' → Rising rows top end n i low → Rising rows top' end n i 0
unfolding Rising
rises_within rows top top' end zero i low more h = tt
rises_within rows top top' end (suc n) i low more h = (lt_of_lt_of_le h.0 more, zero-le, go n _ _ h.2)
  where
    go : (n i low : ℕ) → Rising rows top end n i low → Rising rows top' end n i low
    go zero i low h = tt
    go (suc n) i low h = (lt_of_lt_of_le h.0 more, h.1, go n _ _ h.2)

-- what the way v of a push tells about the rows that it passes from row i on, where m bits are left
pub record Pushed (rows : ℕ → Row) (n m i low : ℕ) (v : Way) : Type 0 where
  pub number : v.bits + length v.passed ≡ m
  pub takes : (e : Entry) → pushed (from_code e) v.passed ≡ takes_from rows v.bits (length v.passed) i e
  pub left_entry : (e : Entry) → left_over (from_code e) v.passed ≡ from_code (left_from rows v.bits (length v.passed) i e)
  pub rising : Rising rows n v.bits (length v.passed) i low

module _ (rows : ℕ → Row) (n : ℕ) where
  -- a push that passes no row
  pub none_pushed : (m i low : ℕ) (t : Tree) → Pushed rows n m i low (ending m t)
  unfolding pushed left_over takes_from left_from Rising
  none_pushed m i low t = record { number = add-zero m; takes = λ e. refl; left_entry = λ e. refl; rising = tt }

  -- a row, and then the push from the row to which its key goes
  one_pushed : (m i low : ℕ) (l r : Tree) (v : Way) → i < n → low ≤ (rows i).entry.key
      → Pushed rows n m (onward rows m i) (suc (rows i).entry.key) v
      → Pushed rows n (suc m) i low
      (passing (record { at = i; entry = entry_of (rows i); turn = side m (rows i).entry.key; left_part = l; right_part = r; below = m }) v)
  unfolding pushed left_over takes_from left_from Rising
  one_pushed m i low l r v used risen p =
      record {
        number = add-suc v.bits (length v.passed) ∙ ap suc p.number;
        takes = λ e. rw (p.number, p.takes (rows i).entry);
        left_entry =
            λ e.
            p.left_entry (rows i).entry
            ∙ ap (λ (b : ℕ). from_code (left_from rows v.bits (length v.passed) (onward rows b i) (rows i).entry)) (sym p.number);
        rising = rw p.number (used, risen, p.rising);
      }

  pub is_pushed : (m path low i : ℕ) → Pushed rows n m i low (way pushing m (unfolded rows n m path low i))
  unfolding way pushing
  is_pushed zero path low i = none_pushed zero i low _
  is_pushed (suc m) path low i = by_row (λ path low j. is_pushed m path low j) (judged n (suc m) path low i (rows i)) refl
    where
      key : ℕ
      key = (rows i).entry.key

      Below : Type 0
      Below = (path low j : ℕ) → Pushed rows n m j low (way pushing m (unfolded rows n m path low j))

      by_link : Below → (path low j : ℕ) → Pushed rows n m j low (way pushing m (linked (unfolded rows n m path low) j))
      by_link rest path low zero = rw (at_none pushing m) (none_pushed m zero low none)
      by_link rest path low (suc j) = rest path low (suc j)

      by_side : Below → (s : Side) → Pushed rows n m (link (rows i) s) (suc key) (way pushing m (part s (below rows n (suc m) i left) (below rows n (suc m) i right)))
      by_side rest left = by_link rest _ (suc key) (rows i).left
      by_side rest right = by_link rest _ (suc key) (rows i).right

      by_row : Below → (b : Bool) → judged n (suc m) path low i (rows i) ≡ b → Pushed rows n (suc m) i low (way pushing (suc m) (unfolded rows n (suc m) path low i))
      by_row rest false h = rw (damaged_is rows n (suc m) path low i h) (none_pushed (suc m) i low _)
      by_row rest true h =
          let used = and_true (ltb i n) _ h in
          let risen = and_true (leb low key) _ used.1 in
          rw (is_row rows n (suc m) path low i h)
          (one_pushed m i low _ _ _ (ltb-true i n used.0) (leb-true low key risen.0) (by_side rest (side m key)))

  -- with no bit left the path is the key above. A key there must be greater, so a row there is damage.
  bottom : (above path i : ℕ) → path ≡ above / 2 ^ 0 → end_rows (unfolded rows n 0 path (suc above) i) ≡ 0
  bottom above path i e = go (judged n 0 path (suc above) i (rows i)) refl
    where
      go : (b : Bool) → judged n 0 path (suc above) i (rows i) ≡ b → end_rows (unfolded rows n 0 path (suc above) i) ≡ 0
      go false h = rw (damaged_is rows n 0 path (suc above) i h)
      go true h =
          let key : ℕ = (rows i).entry.key in
          let risen : suc above ≤ key = leb-true (suc above) key (and_true (leb (suc above) key) _ (and_true (ltb i n) _ h).1).0 in
          let same : key ≡ above = sym (whole_path key) ∙ path_in_key n 0 path (suc above) i (rows i) h ∙ e ∙ whole_path above in
          absurd (omega arith)

  -- a row is passed, and the rest of the push does not end at a row
  past_row : (m path low i : ℕ)
      → ((path j : ℕ) → path ≡ (rows i).entry.key / 2 ^ m → end_rows (way pushing m (unfolded rows n m path (suc (rows i).entry.key) j)).end ≡ 0)
      → end_rows (way pushing (suc m) (unfolded rows n (suc m) path low i)).end ≡ 0
  unfolding way pushing
  past_row m path low i rest = by_row (judged n (suc m) path low i (rows i)) refl
    where
      key : ℕ
      key = (rows i).entry.key

      by_link : (path j : ℕ) → path ≡ key / 2 ^ m → end_rows (way pushing m (linked (unfolded rows n m path (suc key)) j)).end ≡ 0
      by_link path zero e = rw (at_none pushing m)
      by_link path (suc j) e = rest path (suc j) e

      by_side : (s : Side) → key / 2 ^ m ≡ key / 2 ^ suc m * 2 + bit_of s
          → end_rows (way pushing m (part s (below rows n (suc m) i left) (below rows n (suc m) i right))).end ≡ 0
      by_side left e = by_link _ (rows i).left (sym e)
      by_side right e = by_link _ (rows i).right (sym e)

      by_row : (b : Bool) → judged n (suc m) path low i (rows i) ≡ b → end_rows (way pushing (suc m) (unfolded rows n (suc m) path low i)).end ≡ 0
      by_row false h = rw (damaged_is rows n (suc m) path low i h)
      by_row true h = rw (is_row rows n (suc m) path low i h) (by_side (side m key) (next_bit m key))

  -- so a push from a row with bits left ends at an empty link or at damage, never at a row
  pub no_end_row : (m path low i : ℕ) → end_rows (way pushing (suc m) (unfolded rows n (suc m) path low i)).end ≡ 0
  unfolding way
  no_end_row zero path low i = past_row zero path low i (λ path j e. bottom (rows i).entry.key path j e)
  no_end_row (suc m) path low i = past_row (suc m) path low i (λ path j e. no_end_row m path (suc (rows i).entry.key) j)

-- a push that is being written: n rows from row i on are still to take their entries, the first one e, in the table as it is now
pub record Pushes (table₀ : List ℕ) (end n₀ i₀ : ℕ) (e₀ : Entry) (table : List ℕ) (n i : ℕ) (e : Entry) : Type 0 where
  pub low : ℕ
  pub ahead : Rising (row_at table₀) (capacity table₀) end n i low
  -- the keys increase along the rows ahead, so none of them has taken its entry yet
  pub untouched : (j : ℕ) → low ≤ (row_at table₀ j).entry.key → row_at table j ≡ row_at table₀ j
  pub takes : taking (takes_from (row_at table₀) end n i e) table ≡ taking (takes_from (row_at table₀) end n₀ i₀ e₀) table₀
  pub left : left_from (row_at table₀) end n i e ≡ left_from (row_at table₀) end n₀ i₀ e₀
  pub same_length : length table ≡ length table₀

module _ (table₀ : List ℕ) (end n₀ i₀ : ℕ) (e₀ : Entry) where
  pub begins_push : Rising (row_at table₀) (capacity table₀) end n₀ i₀ 0 → Pushes table₀ end n₀ i₀ e₀ table₀ n₀ i₀ e₀
  begins_push h = record { low = 0; ahead = h; untouched = λ j l. refl; takes = refl; left = refl; same_length = refl }

  module _ (table : List ℕ) (n i : ℕ) (e : Entry) (p : Pushes table₀ end n₀ i₀ e₀ table (suc n) i e) where
    -- the row that takes its entry next
    pub next_used : i < capacity table
    unfolding Rising capacity
    next_used = rw p.same_length p.ahead.0

    next_row : row_at table i ≡ row_at table₀ i
    unfolding Rising
    next_row = p.untouched i p.ahead.1

    pub keeps_push : Pushes table₀ end n₀ i₀ e₀ (with_entry i (from_code e) table) n (onward (row_at table) (end + n) i) (row_at table i).entry
    unfolding Rising takes_from left_from taking
    keeps_push =
        rw next_row
        (record {
          low = suc (row_at table₀ i).entry.key;
          ahead = p.ahead.2;
          untouched =
              λ j l.
              let apart : j ≡ i → ⊥ = λ same. omega (arith, ap (λ (x : ℕ). (row_at table₀ x).entry.key) same) in
              entry_elsewhere i table j apart (from_code e) ∙ p.untouched j (le_trans p.ahead.1 (le_of_lt l));
          takes = p.takes;
          left = p.left;
          same_length = entry_length i (from_code e) table ∙ p.same_length;
        })

  -- where no row is left, all have taken their entries
  pub ends_push : (table : List ℕ) (i : ℕ) (e : Entry) → Pushes table₀ end n₀ i₀ e₀ table 0 i e
      → (e ≡ left_from (row_at table₀) end n₀ i₀ e₀) × (table ≡ taking (takes_from (row_at table₀) end n₀ i₀ e₀) table₀)
  unfolding takes_from left_from taking
  ends_push table i e p = (p.left, p.takes)
