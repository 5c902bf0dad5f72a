-- The walk that goes with a seek: it passes a row if the seek does, and ends where the seek stops.
use Prim.Native.Nat.{ℕ, zero, suc, ◌*◌, ◌-◌, ◌/◌, ◌%◌, ◌^◌, ◌≤◌, ◌<◌}
use mathlib.Core.Path.{◌≡◌, refl, sym, ap, ◌∙◌, subst}
use mathlib.Core.List.{List}
use mathlib.Core.Bool.{Bool, true, false, not, ◌&&◌, true≢false}
use native.Mathlib.Nat.{suc-ne-zero, mod-one, pos_of_ne-zero, le_of_eq, zero-lt-suc, mod-eq_of_lt, mod-lt, div-eq_of_lt, add-zero, ne_of_gt, lt_irrefl}
use native.Mathlib.Omega.{arith}
use lib.Dec.{ltb, leb, eqb}
use lib.Pow.{pow-lt, pow_pos}
use borrow.Author.Tests.{lt-ltb, le-ltb, le-leb, lt-leb, eq-eqb, ne_eqb, ltb-true, ltb-false, eqb-true, eqb-false}
use Rattle.std.specs.Prelude.{if◌then◌else◌, Ok, Some, None}
use Rattle.ordered.specs.Dictionary.{Entry}
use Rattle.ordered.specs.Word.{Side, left, right, bit_of, side}
use Rattle.ordered.specs.Tree.{Tree}
use Rattle.ordered.specs.Way.{way, stop, to}
use Rattle.ordered.proofs.Bits.{next_bit}
use Rattle.pretree.specs.declared.Header.{Header}
use Rattle.pretree.specs.declared.Row as Rows
use Rattle.pretree.specs.declared.seek.Seek.{Seek}
use Rattle.pretree.specs.Table.{row_words, entry_of, row_at, link}
use Rattle.pretree.specs.Unfold.{ends_there, shown}
use Rattle.pretree.specs.Walk.{Walk, Stage, On, AtNone, AtRow, AtDamage}
use Rattle.pretree.specs.Walk.{started, is_on, holds, ended, remembering, passed, turned, stage_at, met, seeking, seek_turn, Walking}
use Rattle.pretree.specs.Leg.{EndsAs, End, damage}
use Rattle.pretree.specs.Seek.{row_of, begun, passes, goes_on, gone, turn, end_of, aside_of, span_of, Shows, OnSeek, SeekEnds}
use Rattle.pretree.specs.Seek as Seeks
use Rattle.pretree.proofs.Writing.{row_back}
use Rattle.pretree.proofs.Between.{below_in, below_few, above_in, above_near, half_mask, turns_so, next_rest}
use Rattle.pretree.proofs.Walking.{keeps, begins_root}
use Rattle.pretree.proofs.SeekTurn.{seek_says}

both : (a b : Bool) → (a && b) ≡ true → (a ≡ true) × (b ≡ true)
both true b e = (refl, e)
both false b e = absurd (true≢false (sym e))

-- a test with the result 0 or 1, which is the bit of a side
tells_left : (b : Bool) → (if b then right else left) ≡ left → b ≡ false
tells_left true e = cc
tells_left false e = refl

tells_right : (b : Bool) → (if b then right else left) ≡ right → b ≡ true
tells_right true e = refl
tells_right false e = cc

-- what the seek's test of a key says
record Passes (s : Seek) (k key : ℕ) : Type 0 where
  pub less : key < k
  pub nearer : k - 1 - key < s.between
  pub in_tail : k - 1 - key < s.tail

passes_so : (s : Seek) (k key : ℕ) → passes s k key ≡ true → Passes s k key
passes_so s k key e =
    let a = both (ltb key k) _ e in
    let b = both (ltb (k - 1 - key) s.between) _ a.1 in
    record { less = ltb-true _ _ a.0; nearer = ltb-true _ _ b.0; in_tail = ltb-true _ _ b.1 }

module _ (rows : ℕ → Rows.Row) (k : ℕ) (s : Seek) (w : Walk) (sh : Shows rows k s w) where
  abbrev here : Rows.Row
  here = rows w.row

  abbrev key : ℕ
  key = here.entry.key

  abbrev past_here : ℕ → Seek
  past_here l = Seeks.passed s k key l here.right

  -- a link of 0 leads to the root, whose key is too small
  on_here : w.row < w.count → w.low ≤ key → w.stage ≡ On
  on_here used high = sh.stage ∙ go (eqb w.low 0) refl
    where
      linked : (w.low ≡ 0 → ⊥) → stage_at w.count w.row ≡ On
      linked moved = rw (ne_eqb w.row 0 not_root, lt-ltb w.row w.count used)
        where
          not_root : w.row ≡ 0 → ⊥
          not_root e =
              let less : key < w.low = rw (← e) at (sh.from_root (pos_of_ne-zero moved)) in
              omega arith

      go : (b : Bool) → eqb w.low 0 ≡ b → (if b then On else stage_at w.count w.row) ≡ On
      go true e = refl
      go false e = linked (eqb-false w.low 0 e)

  holds_so : w.low ≤ key → key / 2 ^ w.bits ≡ k / 2 ^ w.bits → ends_there w.bits here ≡ true → holds w here ≡ true
  holds_so high in_part at_end = rw (le-leb w.low key high, eq-eqb (key / 2 ^ w.bits) w.path (in_part ∙ sym sh.path), at_end)

  -- the walk past a row that the seek passes
  module _ (p : Passes s k key) (m : ℕ) (bits : w.bits ≡ suc m) where
    high : w.low ≤ key
    high = omega (arith, sh.between, p.less, p.nearer)

    root_less : (rows 0).entry.key < suc key
    root_less = go (eqb w.low 0) refl
      where
        go : (b : Bool) → eqb w.low 0 ≡ b → (rows 0).entry.key < suc key
        go true e = rw (sh.at_root (eqb-true w.low 0 e)) (omega arith)
        go false e = omega (arith, sh.from_root (pos_of_ne-zero (eqb-false w.low 0 e)), high)

    turns : turn s ≡ side m k
    turns = rw (sh.mask, sh.tail, bits) (turns_so m k)

    -- past the row by the link l; v is the walk w, and remembers aside what the seek does
    link_shows : (v : Walk) (l : ℕ) → v.row ≡ w.row → v.bits ≡ w.bits → v.path ≡ w.path
        → (past_here l).aside ≡ aside_of rows v.has_aside v.aside
        → (past_here l).span ≡ span_of v.has_aside v.aside_bits
        → Shows rows k (past_here l) (passed v (entry_of here) (bit_of (side m k)) l)
    link_shows v l same_row same_bits same_path same_aside same_span =
        record {
          word = sh.word;
          row = row_back l;
          at = ap (λ i. row_words * i) (sym (row_back l));
          mask = rw (sh.mask, same_bits, bits) (half_mask m);
          tail = rw (sh.tail, sh.mask, same_bits, bits) (next_rest m k);
          between = omega (arith, p.less);
          path = rw (same_path, sh.path, same_bits, bits) (sym (next_bit m k));
          above = sh.row ∙ sym same_row;
          aside = same_aside;
          span = same_span;
          stage = rw (ne_eqb (suc key) 0 (suc-ne-zero key));
          at_root = λ e. absurd (suc-ne-zero key e);
          from_root = λ moved. root_less;
        }

    turned_shows : (t : Side) → side m k ≡ t → Shows rows k (past_here (link here t)) (turned w here (to t))
    unfolding turned
    turned_shows right e =
        let to_right : ltb (s.mask / 2) s.tail ≡ true = tells_right _ (turns ∙ e) in
        rw e at (link_shows w here.right refl refl refl (rw to_right sh.aside) (rw to_right sh.span))
    turned_shows left e = go (eqb here.right 0) refl
      where
        to_left : ltb (s.mask / 2) s.tail ≡ false
        to_left = tells_left _ (turns ∙ e)

        go : (b : Bool) → eqb here.right 0 ≡ b
            → Shows rows k (past_here here.left) (passed (if b then w else remembering w) (entry_of here) 0 here.left)
        go true empty = rw e at (link_shows w here.left refl refl refl (rw (to_left, empty) sh.aside) (rw (to_left, empty) sh.span))
        go false some =
            rw e at
            (link_shows (remembering w) here.left refl refl refl (rw (to_left, some)) (rw (to_left, some, sh.mask, bits) (half_mask m)))

  some_bits : Passes s k key → (m : ℕ) × (w.bits ≡ suc m)
  some_bits p = go w.bits refl
    where
      go : (b : ℕ) → w.bits ≡ b → (m : ℕ) × (w.bits ≡ suc m)
      go zero e = let nothing : s.tail ≡ 0 = sh.tail ∙ rw e (mod-one k) in absurd (omega (arith, p.in_tail))
      go (suc m) e = (m, e)

  abbrev on_walk : Walk
  on_walk = met w here (seek_turn k k key w.bits)

  module _ (h : Header) (tree : Tree) (g : Walking rows (seeking k k) h.width h.count tree w) where
    abbrev Walks : Walk → Type 0
    Walks = Walking rows (seeking k k) h.width h.count tree

    abbrev Ends : End → Type 0
    Ends = SeekEnds rows h tree k s

    -- the walk ends where the seek is
    way_ends_at : (stage : Stage) (last : Entry) → Walks (ended w stage last) → is_on stage ≡ false → (e : End) → EndsAs rows (ended w stage last) e → Ends e
    way_ends_at stage last walks off e so =
        record {
          walk = ended w stage last;
          walked = record { walking = walks; ended = off };
          ends = so;
          word = sh.word;
          row = sh.row;
          mask = sh.mask;
          tail = sh.tail;
          between = sh.between;
          path = sh.path;
          above = sh.above;
          aside = sh.aside;
          span = sh.span;
        }

    linked : (w.low ≡ 0 → ⊥) → w.stage ≡ stage_at w.count w.row
    linked moved = sh.stage ∙ rw (ne_eqb w.low 0 moved)

    -- a link past the rows in use
    pub ends_outside : 0 < h.count → h.count ≤ row_of s → Ends damage
    ends_outside some past =
        let off_root : w.row ≡ 0 → ⊥ = λ e. omega (arith, sh.row) in
        let unused : w.count ≤ w.row = omega (arith, sh.row, g.same_count) in
        let at : w.stage ≡ AtDamage
        = linked (λ e. off_root (sh.at_root e)) ∙ rw (ne_eqb w.row 0 off_root, le-ltb w.row w.count unused) in
        way_ends_at w.stage w.entry g (rw at) damage at

    module _ (used : w.row < h.count) where
      walks_on : w.stage ≡ On → Walks on_walk
      walks_on on =
          keeps rows (seeking k k) h.width h.count (way (seeking k k) h.width tree) w (rw on) g (seek_turn k k key w.bits) (λ m e. seek_says k k w.bits m _ _ _ e)

      in_use : w.row < w.count
      in_use = rw g.same_count used

      passes_on : Passes s k key → Walks on_walk × Shows rows k (past_here (link here (turn s))) on_walk
      unfolding met
      passes_on p = go (some_bits p)
        where
          go : (m : ℕ) × (w.bits ≡ suc m) → Walks on_walk × Shows rows k (past_here (link here (turn s))) on_walk
          go (m, bits) =
              let low : w.low ≤ key = high p m bits in
              let few : k - 1 - key < k % 2 ^ w.bits = rw (← sh.tail) p.in_tail in
              let sound : holds w here ≡ true = holds_so low (below_in k key w.bits p.less few) (rw bits) in
              let moved : on_walk ≡ turned w here (to (side m k))
              = rw (sound, bits, ne_eqb (suc m) 0 (suc-ne-zero m), lt-leb k key p.less) in
              (walks_on (on_here in_use low), rw (moved, turns p m bits) (turned_shows p m bits (side m k) refl))

      damaged_here : w.stage ≡ On → holds w here ≡ false → Ends damage
      unfolding met
      damaged_here on bad =
          let meets : on_walk ≡ ended w AtDamage (entry_of here) = rw bad in
          way_ends_at AtDamage (entry_of here) (subst Walks meets (walks_on on)) refl damage refl

      row_here : w.stage ≡ On → holds w here ≡ true → k ≤ key → Ends (Ok (Some here))
      unfolding met turned
      row_here on fine past =
          let meets : on_walk ≡ ended w AtRow (entry_of here) = rw (fine, le-leb k key past) (go (eqb w.bits 0)) in
          way_ends_at AtRow (entry_of here) (subst Walks meets (walks_on on)) refl (Ok (Some here)) (refl, refl, refl)
        where
          go : (b : Bool) → (if b then ended w AtRow (entry_of here) else turned w here (if b then stop else stop)) ≡ ended w AtRow (entry_of here)
          go true = refl
          go false = refl

      low_small : w.low ≤ k
      low_small = omega (arith, sh.between)

      -- a key less than the word that is not passed: the link was empty, or the row is damage
      below : key < k → passes s k key ≡ false → Ends (if eqb (row_of s) 0 && not (eqb s.between k) then Ok None else damage)
      below less not_passed = go (eqb (row_of s) 0) (eqb s.between k) refl refl
        where
          too_small : s.between ≤ k - 1 - key → holds w here ≡ false
          too_small far = let small : key < w.low = omega (arith, sh.between) in rw (lt-leb w.low key small)

          outside : s.tail ≤ k - 1 - key → holds w here ≡ false
          outside far = rw (ne_eqb (key / 2 ^ w.bits) w.path apart) (and_false (leb w.low key))
            where
              apart : key / 2 ^ w.bits ≡ w.path → ⊥
              apart e =
                  let few : k - 1 - key < k % 2 ^ w.bits = below_few k key w.bits less (e ∙ sh.path) in
                  omega (arith, sh.tail)

              and_false : (a : Bool) → (a && false) ≡ false
              and_false true = refl
              and_false false = refl

          bad : holds w here ≡ false
          bad = by_between (ltb (k - 1 - key) s.between) refl
            where
              by_between : (b : Bool) → ltb (k - 1 - key) s.between ≡ b → holds w here ≡ false
              by_between false e = too_small (ltb-false _ _ e)
              by_between true e = outside (ltb-false _ _ (rw (lt-ltb key k less, e) at not_passed))

          go : (a b : Bool) → eqb (row_of s) 0 ≡ a → eqb s.between k ≡ b → Ends (if a && not b then Ok None else damage)
          go true true at_0 first =
              let unmoved : w.low ≡ 0 = omega (arith, sh.between, eqb-true s.between k first) in
              damaged_here (sh.stage ∙ rw (eq-eqb w.low 0 unmoved)) bad
          go true false at_0 moved =
              let left_root : w.low ≡ 0 → ⊥ = λ e. eqb-false s.between k moved (omega (arith, sh.between)) in
              let nothing : w.stage ≡ AtNone = linked left_root ∙ rw (← sh.row, at_0) in
              way_ends_at w.stage w.entry g (rw nothing) (Ok None) nothing
          go false b not_0 between =
              let off_root : w.row ≡ 0 → ⊥ = λ e. eqb-false (row_of s) 0 not_0 (sh.row ∙ e) in
              let left_root : w.low ≡ 0 → ⊥ = λ e. off_root (sh.at_root e) in
              damaged_here (linked left_root ∙ rw (ne_eqb w.row 0 off_root, lt-ltb w.row w.count in_use)) bad

      -- a key greater than the word: it has the bits of the path if it is near enough
      past : k < key → Ends (if ltb (s.mask - s.tail) (key - k) then damage else Ok (Some here))
      past more = go (ltb (s.mask - s.tail) (key - k)) refl
        where
          on : w.stage ≡ On
          on = on_here in_use (omega (arith, low_small))

          room : s.mask - s.tail ≡ 2 ^ w.bits - 1 - k % 2 ^ w.bits
          room = rw (sh.mask, sh.tail)

          go : (b : Bool) → ltb (s.mask - s.tail) (key - k) ≡ b → Ends (if b then damage else Ok (Some here))
          go true e =
              let far : s.mask - s.tail < key - k = ltb-true _ _ e in
              let apart : key / 2 ^ w.bits ≡ w.path → ⊥ = λ same. omega (arith, room, above_near k key w.bits (omega arith) (same ∙ sh.path)) in
              damaged_here on (rw (le-leb w.low key (omega (arith, low_small)), ne_eqb (key / 2 ^ w.bits) w.path apart))
          go false e =
              let near : key - k ≤ 2 ^ w.bits - 1 - k % 2 ^ w.bits = rw (← room) (ltb-false _ _ e) in
              row_here on (holds_so (omega (arith, low_small)) (above_in k key w.bits (omega arith) near) (not_last w.bits refl near)) (omega arith)
            where
              not_last : (b : ℕ) → w.bits ≡ b → key - k ≤ 2 ^ b - 1 - k % 2 ^ b → ends_there b here ≡ true
              not_last zero e near = absurd (omega arith)
              not_last (suc m) e near = refl

      -- the word itself
      same : key ≡ k → Ends (if eqb s.mask 0 && not (eqb here.left 0 && eqb here.right 0) then damage else Ok (Some here))
      same e = go (eqb here.left 0 && eqb here.right 0) refl w.bits refl
        where
          on : w.stage ≡ On
          on = on_here in_use (omega (arith, low_small))

          at_least : k ≤ key
          at_least = le_of_eq (sym e)

          empty : w.bits ≡ 0 → s.mask ≡ 0
          empty bits = sh.mask ∙ rw bits

          bits_left : {m : ℕ} → w.bits ≡ suc m → 0 < w.bits
          bits_left bits = rw bits (zero-lt-suc _)

          fine : (b : Bool) → ends_there w.bits here ≡ b → holds w here ≡ b
          fine b at_end =
              rw (le-leb w.low key (omega (arith, low_small)), eq-eqb (key / 2 ^ w.bits) w.path (rw e (sym sh.path))) at_end

          go : (both_0 : Bool) → (eqb here.left 0 && eqb here.right 0) ≡ both_0 → (b : ℕ) → w.bits ≡ b
              → Ends (if eqb s.mask 0 && not both_0 then damage else Ok (Some here))
          go true links zero bits = subst Ends (rw (empty bits)) (row_here on (fine true (rw bits links)) at_least)
          go false links zero bits = subst Ends (rw (empty bits)) (damaged_here on (fine false (rw bits links)))
          go both_0 links (suc m) bits =
              let some : s.mask ≡ 0 → ⊥ = λ none. omega (arith, sh.mask, pow-lt {i = 0} (bits_left bits)) in
              rw (ne_eqb s.mask 0 some) (row_here on (fine true (rw bits)) at_least)

      pub ends_here : passes s k key ≡ false → Ends (end_of s k here)
      ends_here not_passed = by_less (ltb key k) refl
        where
          by_more : (b : Bool) → ltb k key ≡ b → k ≤ key → Ends (if b then (if ltb (s.mask - s.tail) (key - k) then damage else Ok (Some here))
              else if eqb s.mask 0 && not (eqb here.left 0 && eqb here.right 0) then damage
              else Ok (Some here))
          by_more true e not_less = past (ltb-true k key e)
          by_more false e not_less = let not_more : key ≤ k = ltb-false k key e in same (omega arith)

          by_less : (b : Bool) → ltb key k ≡ b → Ends (if b then (if eqb (row_of s) 0 && not (eqb s.between k) then Ok None else damage)
              else if ltb k key then (if ltb (s.mask - s.tail) (key - k) then damage else Ok (Some here))
              else if eqb s.mask 0 && not (eqb here.left 0 && eqb here.right 0) then damage
              else Ok (Some here))
          by_less true e = below (ltb-true key k e) not_passed
          by_less false e = by_more (ltb k key) refl (ltb-false key k e)

-- A seek and the walk from the root begin together and continue together.
module _ (table : List ℕ) (h : Header) (k : ℕ) where
  abbrev OnSeekHere : Seek → Type 0
  OnSeekHere = OnSeek (row_at table) h (shown h table) k

  pub begins : 0 < h.count → k < 2 ^ h.width → OnSeekHere (begun h.width k)
  begins some small =
      record {
        walk = started h;
        walking = begins_root h table (seeking k k);
        shows =
            record {
              word = refl;
              row = refl;
              at = refl;
              mask = refl;
              tail = sym (mod-eq_of_lt small);
              between = add-zero k;
              path = sym (div-eq_of_lt small);
              above = refl;
              aside = refl;
              span = refl;
              stage = rw (ne_eqb h.count 0 (ne_of_gt some));
              at_root = λ e. refl;
              from_root = λ moved. absurd (lt_irrefl 0 moved);
            };
      }

  -- what is known if the seek passes its next row: the row is in use, its key is less than k, a walk goes with the seek past the row, and the mask
  -- decreases
  pub record Further (s : Seek) : Type 0 where
    pub used : row_of s < h.count
    pub less : (row_at table (row_of s)).entry.key < k
    pub on_seek : OnSeekHere (gone (row_at table) k s)
    pub falls : s.mask / 2 < s.mask

  pub further : (s : Seek) → OnSeekHere s → goes_on (row_at table) h.count k s ≡ true → Further s
  further s g on = record { used = used; less = passing.less; on_seek = subst Past (sym g.shows.row) past; falls = halves }
    where
      Past : ℕ → Type 0
      Past i = OnSeekHere (Seeks.passed s k (row_at table i).entry.key (link (row_at table i) (turn s)) (row_at table i).right)

      used : row_of s < h.count
      used = ltb-true _ _ (both (ltb (row_of s) h.count) _ on).0

      passing : Passes s k (row_at table (row_of s)).entry.key
      passing = passes_so s k _ (both (ltb (row_of s) h.count) _ on).1

      past : Past g.walk.row
      past =
          let used_there : g.walk.row < h.count = rw (← g.shows.row) used in
          let passing_there : Passes s k (row_at table g.walk.row).entry.key = rw (← g.shows.row) passing in
          let there = passes_on (row_at table) k s g.walk g.shows h (shown h table) g.walking used_there passing_there in
          record { walk = on_walk (row_at table) k s g.walk g.shows; walking = there.0; shows = there.1 }

      halves : s.mask / 2 < s.mask
      halves =
          let some : k % 2 ^ g.walk.bits < 2 ^ g.walk.bits = mod-lt k (pow_pos g.walk.bits) in
          omega (arith, passing.in_tail, g.shows.tail, g.shows.mask)
