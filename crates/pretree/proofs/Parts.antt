-- Laws of parts, for `audit` and `list`: what a place and a row show, how their rows are counted, and how their words are written to the buffer.
use Prim.Native.Nat.{ℕ, zero, suc, pred, ◌+◌, ◌*◌, ◌-◌, ◌/◌, ◌^◌, ◌≤◌, ◌<◌}
use mathlib.Core.Path.{◌≡◌, refl, sym, ap, ◌∙◌, subst}
use mathlib.Core.Bool.{Bool, true, false, not, ◌&&◌, true≢false}
use mathlib.Core.List.{List, [], ◌∷◌, ◌++◌}
use native.Mathlib.Nat.{suc-ne-zero, add-zero, add-suc, suc-add, le_refl, pow-suc}
use native.Mathlib.Numerals.{add-one}
use native.Mathlib.Omega.{arith}
use lib.Dec.{ltb, leb, eqb}
use lib.ListN.{length, set, length-set}
use lib.Pow.{pow_pos, pow-lt, suc_ones, shl-shr}
use lib.Seq.{sets}
use borrow.Author.Tests.{ltb-true, eqb-true, eqb-false}
use Rattle.std.specs.Prelude.{if◌then◌else◌, Result, Ok, Err}
use Rattle.ordered.specs.Word.{Side, left, right, bit_of}
use Rattle.ordered.specs.Dictionary.{Entry}
use Rattle.ordered.specs.Tree.{Tree, none, row, damaged, intact, size, entries, listing}
use Rattle.ordered.proofs.Ways.{and_true}
use Rattle.ordered.proofs.Parts.{words_append}
use Rattle.ordered.proofs.OneTree.{listing_length}
use Rattle.pretree.specs.declared.Row as Rows
use Rattle.pretree.specs.declared.leg.Damaged.{Damaged}
use Rattle.pretree.specs.declared.leg.Place.{Place}
use Rattle.pretree.specs.Table.{entry_of, link}
use Rattle.pretree.specs.Unfold.{ends_there, judged, linked, unfolded}
use Rattle.pretree.specs.Walk.{Walk, passed as passed_by, below}
use Rattle.pretree.specs.Leg.{judges, below_place, row_end, Stands, damage}
use Rattle.pretree.specs.Seek.{bits_left_by}
use Rattle.pretree.specs.Part.{row_tree, part_at, rows_in, SomeWalkStands, Standing, Listable}
use Rattle.pretree.proofs.Between.{bits_are, half_mask}
use Rattle.pretree.proofs.Places.{judges_alike, below_stands, inner, bits_there}
use Rattle.pretree.proofs.Unfolding.{path_in_key, is_row, damaged_is}

-- ---- what counting gives

pub rows_none : rows_in none ≡ Ok 0
unfolding rows_in intact size
rows_none = refl

pub rows_damaged : rows_in damaged ≡ damage
unfolding rows_in intact
rows_damaged = refl

-- with k rows before them
abbrev pub after : ℕ → Result ℕ Damaged → Result ℕ Damaged
after k (Ok n) = Ok (k + n)
after k (Err d) = Err d

-- a row with two parts
abbrev pub both : Result ℕ Damaged → Result ℕ Damaged → Result ℕ Damaged
both (Ok a) q = after (1 + a) q
both (Err d) q = Err d

pub rows_row : (i : ℕ) (e : Entry) (l r : Tree) → rows_in (row i e l r) ≡ both (rows_in l) (rows_in r)
unfolding rows_in intact size
rows_row i e l r = go (intact l) (intact r)
  where
    go : (a b : Bool) → (if a && b then Ok (suc (size l + size r)) else damage) ≡ both (if a then Ok (size l) else damage) (if b then Ok (size r) else damage)
    go false b = refl
    go true false = refl
    go true true = ap Ok (omega arith)

-- as many rows as the tree has
pub rows_size : (t : Tree) (n : ℕ) → rows_in t ≡ Ok n → n ≡ size t
unfolding rows_in
rows_size t n is = go (intact t) is
  where
    go : (a : Bool) → (if a then Ok (size t) else damage) ≡ Ok n → n ≡ size t
    go true e = cc
    go false e = cc

pub linked_row : (part : ℕ → Tree) (i : ℕ) → (i ≡ 0 → ⊥) → linked part i ≡ part i
linked_row part zero e = absurd (e refl)
linked_row part (suc i) e = refl

linked_none : (part : ℕ → Tree) (i : ℕ) → i ≡ 0 → linked part i ≡ none
linked_none part zero e = refl
linked_none part (suc i) e = absurd (suc-ne-zero i e)

-- two lists are written one after the other
sets_append : (xs ys l : List ℕ) (i : ℕ) → sets (sets l i xs) (i + length xs) ys ≡ sets l i (xs ++ ys)
sets_append [] ys l i = rw add-zero
sets_append (x ∷ xs) ys l i = rw (add-suc, ← suc-add) (sets_append xs ys (set l i x) (suc i))

-- a row is written before its parts: its word is at `next`
listed_row : (i : ℕ) (e : Entry) (l r : Tree) (buffer : List ℕ) (next : ℕ)
    → sets (sets (set buffer next e.key) (next + 1) (listing l)) (next + 1 + size l) (listing r) ≡ sets buffer next (listing (row i e l r))
unfolding entries
listed_row i e l r buffer next =
    let length_left : length (listing l) ≡ size l = listing_length l in
    rw (words_append (entries l) (entries r), ← length_left, sets_append (listing l) (listing r) (set buffer next e.key) (next + 1), add-one)

-- ---- a place and the walk that is there

module _ (rows : ℕ → Rows.Row) (n : ℕ) where
  module _ (p : Place) (w : Walk) (st : Stands p w) where
    place_bits : bits_left_by p.mask ≡ w.bits
    place_bits = bits_there p w st

    place_path : p.path / suc p.mask ≡ w.path
    place_path = rw (st.mask, suc_ones w.bits, st.path) (shl-shr w.path w.bits)

    judged_is : (b c : Bool) → ltb p.row n ≡ b → judges p (rows p.row) ≡ c → judged n w.bits w.path w.low p.row (rows p.row) ≡ (b && c)
    judged_is b c used fine = rw (used, sym (judges_alike p w st (rows p.row)) ∙ fine)

  -- a row with a link has bits left
  more_bits : (b : ℕ) (r : Rows.Row) → ends_there b r ≡ true → (s : Side) → (link r s ≡ 0 → ⊥) → (m : ℕ) × (b ≡ suc m)
  more_bits (suc m) r ends s some = (m, refl)
  more_bits zero r ends left some = absurd (some (eqb-true _ _ (and_true (eqb r.left 0) _ ends).0))
  more_bits zero r ends right some = absurd (some (eqb-true _ _ (and_true (eqb r.left 0) _ ends).1))

  -- ---- no part has more rows than its bits allow

  linked_few : (part : ℕ → Tree) (most : ℕ) → 0 < most → ((i : ℕ) → size (part i) < most) → (i : ℕ) → size (linked part i) < most
  unfolding size
  linked_few part most some few zero = some
  linked_few part most some few (suc i) = few (suc i)

  unfolded_few : (m path low i : ℕ) → size (unfolded rows n m path low i) < 2 ^ suc m
  unfolding unfolded size
  unfolded_few zero path low i = go (judged n zero path low i (rows i))
    where
      go : (b : Bool) → size (if b then row i (entry_of (rows i)) none none else damaged) < 2 ^ 1
      go true = omega arith
      go false = omega arith
  unfolded_few (suc m) path low i = go (λ p l j. unfolded_few m p l j) (judged n (suc m) path low i (rows i))
    where
      part : Side → Tree
      part s = linked (unfolded rows n m (path * 2 + bit_of s) (suc (rows i).entry.key)) (link (rows i) s)

      Few : Type 0
      Few = (p l j : ℕ) → size (unfolded rows n m p l j) < 2 ^ suc m

      side_few : Few → (s : Side) → size (part s) < 2 ^ suc m
      side_few few s = linked_few _ (2 ^ suc m) (pow_pos (suc m)) (few (path * 2 + bit_of s) (suc (rows i).entry.key)) (link (rows i) s)

      go : Few → (b : Bool) → size (if b then row i (entry_of (rows i)) (part left) (part right) else damaged) < 2 ^ suc (suc m)
      go few true =
          let twice : 2 ^ suc (suc m) ≡ 2 ^ suc m * 2 = pow-suc 2 (suc m) in
          omega (arith, side_few few left, side_few few right)
      go few false = pow_pos (suc (suc m))

  below_few : (m i : ℕ) (s : Side) → size (below rows n m i s) < 2 ^ m
  unfolding size
  below_few zero i s = omega arith
  below_few (suc m) i s =
      let path : ℕ = (rows i).entry.key / 2 ^ suc m * 2 + bit_of s in
      let low : ℕ = suc (rows i).entry.key in
      linked_few (unfolded rows n m path low) (2 ^ suc m) (pow_pos (suc m)) (λ j. unfolded_few m path low j) (link (rows i) s)

  below_none : (m i : ℕ) (s : Side) → link (rows i) s ≡ 0 → below rows n m i s ≡ none
  below_none zero i s e = refl
  below_none (suc m) i s e =
      linked_none (unfolded rows n m ((rows i).entry.key / 2 ^ suc m * 2 + bit_of s) (suc (rows i).entry.key)) (link (rows i) s) e

  -- ---- the loop of `rows_from`

  -- The total: `passed` rows are counted so far, and the part ahead is that of the row at the place. `reached` counts that row too.
  pub record Counting (total : Result ℕ Damaged) (most : ℕ) (at : Place) (reached : ℕ) : Type 0 where
    pub some : SomeWalkStands at
    pub passed : ℕ
    pub with_row : reached ≡ passed + 1
    pub sum : total ≡ after passed (rows_in (part_at rows n at))
    pub room : passed + 2 ^ suc some.walk.bits ≤ 2 ^ 34
    pub falls : at.mask ≤ most

  pub counting_begins : (at : Place) → SomeWalkStands at → Counting (rows_in (part_at rows n at)) at.mask at 1
  counting_begins at s =
      record {
        some = s;
        passed = 0;
        with_row = refl;
        sum = from_none (rows_in (part_at rows n at));
        room = let few : 2 ^ suc s.walk.bits < 2 ^ 34 = pow-lt {i = suc s.walk.bits} {j = 34} (omega (arith, s.stands.few)) in omega arith;
        falls = le_refl at.mask;
      }
    where
      from_none : (c : Result ℕ Damaged) → c ≡ after 0 c
      from_none (Ok k) = ap Ok (omega arith)
      from_none (Err d) = refl

  module _ (at : Place) (w : Walk) (st : Stands at w) where
    pub part_is : part_at rows n at ≡ unfolded rows n w.bits w.path w.low at.row
    part_is = rw (place_bits at w st, place_path at w st, st.low)

    -- damage at the row
    pub at_damage : row_end rows n at ≡ damage → rows_in (part_at rows n at) ≡ damage
    at_damage is = go (ltb at.row n) (judges at (rows at.row)) refl refl is
      where
        go : (b c : Bool) → ltb at.row n ≡ b → judges at (rows at.row) ≡ c → (if b && c then Ok (rows at.row) else damage) ≡ damage
            → rows_in (part_at rows n at) ≡ damage
        go true true used fine e = cc
        go true false used fine e = rw (part_is, damaged_is rows n w.bits w.path w.low at.row (judged_is at w st true false used fine), rows_damaged)
        go false c used fine e = rw (part_is, damaged_is rows n w.bits w.path w.low at.row (judged_is at w st false c used fine), rows_damaged)

    module _ (r : Rows.Row) (is : row_end rows n at ≡ Ok r) where
      at_row : (r ≡ rows at.row) × (judged n w.bits w.path w.low at.row (rows at.row) ≡ true)
      at_row = go (ltb at.row n) (judges at (rows at.row)) refl refl is
        where
          go : (b c : Bool) → ltb at.row n ≡ b → judges at (rows at.row) ≡ c → (if b && c then Ok (rows at.row) else damage) ≡ Ok r
              → (r ≡ rows at.row) × (judged n w.bits w.path w.low at.row (rows at.row) ≡ true)
          go true true used fine e = (cc, judged_is at w st true true used fine)
          go true false used fine e = cc
          go false c used fine e = cc

      -- the rows of its two parts
      at_parts : rows_in (part_at rows n at) ≡ both (rows_in (below rows n w.bits at.row left)) (rows_in (below rows n w.bits at.row right))
      at_parts = rw (part_is, is_row rows n w.bits w.path w.low at.row at_row.1) (rows_row _ _ _ _)

      -- an empty link
      no_side : (s : Side) → link r s ≡ 0 → rows_in (below rows n w.bits at.row s) ≡ Ok 0
      no_side s e = ap rows_in (below_none w.bits at.row s (rw at_row.0 at e)) ∙ rows_none

      -- a row with a link has bits left
      module _ (s : Side) (some : link r s ≡ 0 → ⊥) where
        deeper_bits : (m : ℕ) × (w.bits ≡ suc m)
        deeper_bits = more_bits w.bits (rows at.row) ends s (rw at_row.0 at some)
          where
            ends : ends_there w.bits (rows at.row) ≡ true
            ends = (and_true (eqb ((rows at.row).entry.key / 2 ^ w.bits) w.path) _ (and_true (leb w.low (rows at.row).entry.key) _ (and_true (ltb at.row n) _ at_row.1).1).1).1

        side_less : (below_place at r s).mask < at.mask
        side_less = omega (arith, inner at w st deeper_bits.0 deeper_bits.1)

        abbrev side_walk : Walk
        side_walk = passed_by w (entry_of r) (bit_of s) (link r s)

        side_stands : Stands (below_place at r s) side_walk
        side_stands = below_stands at w st deeper_bits.0 deeper_bits.1 r s w refl refl

        side_shows : rows_in (part_at rows n (below_place at r s)) ≡ rows_in (below rows n w.bits at.row s)
        side_shows = ap rows_in (go w.bits refl)
          where
            part_there : part_at rows n (below_place at r s) ≡ unfolded rows n (pred w.bits) (w.path * 2 + bit_of s) (suc r.entry.key) (link r s)
            part_there = rw (place_bits (below_place at r s) side_walk side_stands, place_path (below_place at r s) side_walk side_stands)

            go : (b : ℕ) → w.bits ≡ b → part_at rows n (below_place at r s) ≡ below rows n b at.row s
            go zero e = absurd (suc-ne-zero deeper_bits.0 (sym deeper_bits.1 ∙ e))
            go (suc m) e =
                let path : (rows at.row).entry.key / 2 ^ suc m ≡ w.path = rw e at (path_in_key n w.bits w.path w.low at.row (rows at.row) at_row.1) in
                part_there
                ∙ rw (e, path, at_row.0)
                (sym (linked_row (unfolded rows n m (w.path * 2 + bit_of s) (suc (rows at.row).entry.key)) (link (rows at.row) s) (rw at_row.0 at some)))

  module _ {total : Result ℕ Damaged} {most : ℕ} {at : Place} {reached : ℕ} (c : Counting total most at reached) where
    abbrev passed : ℕ
    passed = c.passed

    abbrev w : Walk
    w = c.some.walk

    abbrev st : Stands at w
    st = c.some.stands

    pub counting_damaged : row_end rows n at ≡ damage → total ≡ damage
    counting_damaged e = c.sum ∙ ap (after passed) (at_damage at w st e)

    module _ {r : Rows.Row} (is : row_end rows n at ≡ Ok r) where
      sum_so : total ≡ after passed (both (rows_in (below rows n w.bits at.row left)) (rows_in (below rows n w.bits at.row right)))
      sum_so = c.sum ∙ ap (after passed) (at_parts at w st r is)

      -- below a row with a link some walk is on either side
      pub side_place_stands : not (eqb r.left 0 && eqb r.right 0) ≡ true → (s : Side) → SomeWalkStands (below_place at r s)
      side_place_stands has s = go (eqb r.left 0) (eqb r.right 0) refl refl has
        where
          by : (t : Side) → (link r t ≡ 0 → ⊥) → SomeWalkStands (below_place at r s)
          by t some = let bits = deeper_bits at w st r is t some in
              record { walk = _; stands = below_stands at w st bits.0 bits.1 r s w refl refl }

          go : (a b : Bool) → eqb r.left 0 ≡ a → eqb r.right 0 ≡ b → not (a && b) ≡ true → SomeWalkStands (below_place at r s)
          go false b there other h = by left (eqb-false r.left 0 there)
          go true false empty there h = by right (eqb-false r.right 0 there)
          go true true empty nor h = absurd (true≢false (sym h))

      pub side_some : (s : Side) → (link r s ≡ 0 → ⊥) → SomeWalkStands (below_place at r s)
      side_some s some = record { walk = _; stands = side_stands at w st r is s some }

      pub side_falls : (s : Side) → (link r s ≡ 0 → ⊥) → (below_place at r s).mask < most
      side_falls s some = let less = side_less at w st r is s some in omega (arith, c.falls)

      pub left_damaged : (r.left ≡ 0 → ⊥) → (d : Damaged) → rows_in (part_at rows n (below_place at r left)) ≡ Err d → total ≡ Err d
      left_damaged some d e = sum_so ∙ rw (sym (side_shows at w st r is left some) ∙ e)

      -- the rows of the left part, and the number of rows that are counted after it
      pub record Lefts (counted : ℕ) : Type 0 where
        pub lefts : ℕ
        pub left_is : rows_in (below rows n w.bits at.row left) ≡ Ok lefts
        pub sum : counted ≡ passed + 1 + lefts

      pub lefts_none : r.left ≡ 0 → Lefts reached
      lefts_none e = record { lefts = 0; left_is = no_side at w st r is left e; sum = omega (arith, c.with_row) }

      pub lefts_some : (r.left ≡ 0 → ⊥) → (lefts : ℕ) → rows_in (part_at rows n (below_place at r left)) ≡ Ok lefts → Lefts (reached + lefts)
      lefts_some some lefts e = record { lefts = lefts; left_is = sym (side_shows at w st r is left some) ∙ e; sum = omega (arith, c.with_row) }

      module _ {counted : ℕ} (l : Lefts counted) where
        left_few : l.lefts < 2 ^ w.bits
        left_few = rw (rows_size (below rows n w.bits at.row left) l.lefts l.left_is) (below_few w.bits at.row left)

        twice : 2 ^ suc w.bits ≡ 2 ^ w.bits * 2
        twice = pow-suc 2 w.bits

        -- the sum does not overflow
        pub counted_few : counted ≤ 2 ^ 34
        counted_few = omega (arith, left_few, twice, c.room, l.sum)

        pub counting_ends : r.right ≡ 0 → total ≡ Ok counted
        counting_ends e = sum_so ∙ rw (l.left_is, no_side at w st r is right e) (ap Ok (omega (arith, l.sum)))

        pub counting_goes_on : (r.right ≡ 0 → ⊥) → Counting total most (below_place at r right) (counted + 1)
        counting_goes_on some =
            record {
              some = record { walk = _; stands = side_stands at w st r is right some };
              passed = counted;
              with_row = refl;
              sum = sum_so ∙ rw (l.left_is, sym (side_shows at w st r is right some)) (more (rows_in (part_at rows n (below_place at r right))));
              room = let deeper : (m : ℕ) × (w.bits ≡ suc m) = deeper_bits at w st r is right some in
                  let halves : 2 ^ suc (pred w.bits) ≡ 2 ^ w.bits = ap (λ (b : ℕ). 2 ^ suc (pred b)) deeper.1 ∙ sym (ap (λ (b : ℕ). 2 ^ b) deeper.1) in
                  omega (arith, halves, left_few, twice, c.room, l.sum);
              falls = let less = side_falls right some in omega arith;
            }
          where
            more : (q : Result ℕ Damaged) → after passed (after (1 + l.lefts) q) ≡ after counted q
            more (Ok k) = ap Ok (omega (arith, l.sum))
            more (Err d) = refl

  -- ---- the parts of a row without damage

  -- an undamaged part at a link: the link is empty, or leads to an undamaged row
  module _ (m path low : ℕ) (few : m ≤ 32) where
    pub whole_row : (i : ℕ) → intact (unfolded rows n m path low i) ≡ true
        → (unfolded rows n m path low i ≡ row_tree rows n m i) × Standing rows n (2 ^ m - 1) i
    unfolding intact
    whole_row i whole = go (judged n m path low i (rows i)) refl
      where
        go : (b : Bool) → judged n m path low i (rows i) ≡ b → (unfolded rows n m path low i ≡ row_tree rows n m i) × Standing rows n (2 ^ m - 1) i
        go true h =
            let used = and_true (ltb i n) _ h in
            let past = and_true (leb low (rows i).entry.key) _ used.1 in
            let ends = and_true (eqb ((rows i).entry.key / 2 ^ m) path) _ past.1 in
            (is_row rows n m path low i h, record { bits = m; few = few; mask_is = refl; used = ltb-true _ _ used.0; ends = ends.1 })
        go false h = absurd (false_not_true (rw (damaged_is rows n m path low i h) at whole))
          where
            false_not_true : false ≡ true → ⊥
            false_not_true e = let z : ◌≡◌ {A = ℕ} 0 1 = cc in omega arith

  -- ---- the loop of `row_listed`

  pub record Writing (total : Tree) (first : List ℕ) (start most : ℕ) (buffer : List ℕ) (r : Rows.Row) (mask next : ℕ) : Type 0 where
    pub i : ℕ
    pub at : r ≡ rows i
    pub standing : Standing rows n mask i
    pub whole : intact (row_tree rows n standing.bits i) ≡ true
    -- what is written so far and what is still to be written make the whole listing
    pub to_come : sets buffer next (listing (row_tree rows n standing.bits i)) ≡ sets first start (listing total)
    pub end : next + size (row_tree rows n standing.bits i) ≡ start + size total
    pub room : start + size total ≤ length buffer
    pub falls : mask ≤ most

  pub writing_begins : (mask i : ℕ) (buffer : List ℕ) (start : ℕ) → Standing rows n mask i → Listable (row_tree rows n (bits_left_by mask) i) buffer start
      → Writing (row_tree rows n (bits_left_by mask) i) buffer start mask buffer (rows i) mask start
  writing_begins mask i buffer start g l =
      let bits_so : g.bits ≡ bits_left_by mask = sym (ap bits_left_by g.mask_is ∙ bits_are g.bits g.few) in
      record {
        i = i;
        at = refl;
        standing = record { bits = bits_left_by mask; few = subst (λ (b : ℕ). b ≤ 32) bits_so g.few; mask_is = g.mask_is ∙ ap (λ (b : ℕ). 2 ^ b - 1) bits_so; used = g.used; ends = subst (λ (b : ℕ). ends_there b (rows i) ≡ true) bits_so g.ends };
        whole = l.whole;
        to_come = refl;
        end = refl;
        room = l.room;
        falls = le_refl mask;
      }

  module _ {total : Tree} {first : List ℕ} {start most : ℕ} {buffer : List ℕ} {r : Rows.Row} {mask next : ℕ}
      (c : Writing total first start most buffer r mask next) where
    abbrev here_row : Rows.Row
    here_row = rows c.i

    abbrev side_part : Side → Tree
    side_part s = below rows n c.standing.bits c.i s

    abbrev written : List ℕ
    written = set buffer next r.entry.key

    same_key : r.entry.key ≡ here_row.entry.key
    same_key = ap (λ (x : Rows.Row). x.entry.key) c.at

    sizes : next + suc (size (side_part left) + size (side_part right)) ≡ start + size total
    unfolding size
    sizes = c.end

    pub write_room : next < length buffer
    write_room = omega (arith, sizes, c.room)

    sides_whole : (intact (side_part left) ≡ true) × (intact (side_part right) ≡ true)
    unfolding intact
    sides_whole = and_true (intact (side_part left)) _ c.whole

    side_whole : (s : Side) → intact (side_part s) ≡ true
    side_whole left = sides_whole.0
    side_whole right = sides_whole.1

    side_none : (s : Side) → link r s ≡ 0 → side_part s ≡ none
    side_none s e = below_none c.standing.bits c.i s (rw c.at at e)

    -- the part of a link that is not empty
    module _ (s : Side) (some : link r s ≡ 0 → ⊥) where
      deeper : (m : ℕ) × (c.standing.bits ≡ suc m)
      deeper = more_bits c.standing.bits here_row c.standing.ends s (rw c.at at some)

      half : mask / 2 ≡ 2 ^ deeper.0 - 1
      half = ap (λ (x : ℕ). x / 2) (c.standing.mask_is ∙ ap (λ (b : ℕ). 2 ^ b - 1) deeper.1) ∙ half_mask deeper.0

      half_falls : mask / 2 < mask
      half_falls =
          let full : mask ≡ 2 ^ suc deeper.0 - 1 = c.standing.mask_is ∙ ap (λ (b : ℕ). 2 ^ b - 1) deeper.1 in
          let twice : 2 ^ suc deeper.0 ≡ 2 ^ deeper.0 * 2 = pow-suc 2 deeper.0 in
          let some : 0 < 2 ^ deeper.0 = pow_pos deeper.0 in
          omega (arith, half)

      pub half_less : mask / 2 < most
      half_less = omega (arith, half_falls, c.falls)

      few_bits : deeper.0 ≤ 32
      few_bits = omega (arith, c.standing.few, deeper.1)

      half_bits : bits_left_by (mask / 2) ≡ deeper.0
      half_bits = ap bits_left_by half ∙ bits_are deeper.0 few_bits

      side_so : (side_part s ≡ row_tree rows n (bits_left_by (mask / 2)) (link r s)) × Standing rows n (mask / 2) (link r s)
      side_so =
          let path : ℕ = here_row.entry.key / 2 ^ suc deeper.0 * 2 + bit_of s in
          let part : ℕ → Tree = unfolded rows n deeper.0 path (suc here_row.entry.key) in
          let deep : side_part s ≡ part (link here_row s)
          = ap (λ (b : ℕ). below rows n b c.i s) deeper.1 ∙ linked_row part (link here_row s) (rw c.at at some) in
          let shown = whole_row deeper.0 path (suc here_row.entry.key) few_bits (link here_row s) (rw (← deep) (side_whole s)) in
          rw (c.at, half_bits, half) (deep ∙ shown.0, shown.1)

      pub side_standing : Standing rows n (mask / 2) (link r s)
      side_standing = side_so.1

      pub side_tree : side_part s ≡ row_tree rows n (bits_left_by (mask / 2)) (link r s)
      side_tree = side_so.0

    pub left_listable : (r.left ≡ 0 → ⊥) → Listable (row_tree rows n (bits_left_by (mask / 2)) r.left) written (next + 1)
    left_listable some =
        record {
          whole = rw (← side_tree left some) (side_whole left);
          room =
              let same : length written ≡ length buffer = length-set buffer next r.entry.key in
              let left_size : size (row_tree rows n (bits_left_by (mask / 2)) r.left) ≡ size (side_part left) = ap size (sym (side_tree left some)) in
              omega (arith, sizes, c.room);
        }

    -- the left part is written: it ends at `middle` and leaves `second`
    pub record LeftWritten (middle : ℕ) (second : List ℕ) : Type 0 where
      pub place : middle ≡ next + 1 + size (side_part left)
      pub content : second ≡ sets written (next + 1) (listing (side_part left))

    pub left_none : r.left ≡ 0 → LeftWritten (next + 1) written
    unfolding size entries
    left_none e = record { place = rw (side_none left e) (omega arith); content = rw (side_none left e) }

    pub left_some : (some : r.left ≡ 0 → ⊥) (middle : ℕ) (second : List ℕ)
        → middle ≡ next + 1 + size (row_tree rows n (bits_left_by (mask / 2)) r.left)
        → second ≡ sets written (next + 1) (listing (row_tree rows n (bits_left_by (mask / 2)) r.left))
        → LeftWritten middle second
    left_some some middle second ends leaves = record { place = rw (side_tree left some) ends; content = rw (side_tree left some) leaves }

    module _ {middle : ℕ} {second : List ℕ} (l : LeftWritten middle second) where
      all_written : sets second middle (listing (side_part right)) ≡ sets first start (listing total)
      all_written =
          let second_so : second ≡ sets (set buffer next here_row.entry.key) (next + 1) (listing (side_part left))
          = l.content ∙ ap (λ (k : ℕ). sets (set buffer next k) (next + 1) (listing (side_part left))) same_key in
          rw (second_so, l.place) (listed_row c.i (entry_of here_row) (side_part left) (side_part right) buffer next) ∙ c.to_come

      pub writing_ends : r.right ≡ 0 → (middle ≡ start + size total) × (second ≡ sets first start (listing total))
      unfolding size entries
      writing_ends e =
          let gone : side_part right ≡ none = side_none right e in
          let so : sets second middle (listing (side_part right)) ≡ sets first start (listing total) = all_written in (
            let none_size : size (side_part right) ≡ 0 = ap size gone in
                omega (arith, l.place, sizes),
            rw gone at so,
          )

      pub writing_goes_on : (r.right ≡ 0 → ⊥) → length second ≡ length buffer → Writing total first start most second (rows r.right) (mask / 2) middle
      writing_goes_on some same =
          let g = side_standing right some in
          let bits_so : bits_left_by (mask / 2) ≡ g.bits = ap bits_left_by g.mask_is ∙ bits_are g.bits g.few in
          let tree : side_part right ≡ row_tree rows n g.bits r.right = side_tree right some ∙ ap (λ (b : ℕ). row_tree rows n b r.right) bits_so in
          record {
            i = r.right;
            at = refl;
            standing = g;
            whole = rw (← tree) (side_whole right);
            to_come = rw (← tree) all_written;
            end = let same_size : size (row_tree rows n g.bits r.right) ≡ size (side_part right) = ap size (sym tree) in omega (arith, l.place, sizes);
            room = rw same c.room;
            falls = omega (arith, half_less right some);
          }
