-- The reply of `next`, from the seek that has gone the way of k, is that of the definition on every table.
use Prim.Native.Nat.{ℕ, suc, pred, ◌+◌, ◌*◌, ◌-◌, ◌/◌, ◌%◌, ◌^◌, ◌≤◌, ◌<◌}
use mathlib.Core.Path.{◌≡◌, refl, sym, ap, ◌∙◌, subst}
use mathlib.Core.Bool.{Bool, true, false, not, ◌&&◌}
use mathlib.Core.List.{List}
use native.Mathlib.Nat.{suc-ne-zero, pos_of_ne-zero, lt_of_lt_of_le}
use native.Mathlib.Omega.{arith}
use lib.Bits.{bit_and}
use lib.Dec.{ltb, leb, eqb}
use lib.Pow.{pow_mono, ones_lt}
use borrow.Author.Tests.{le-ltb, lt-leb, eq-eqb, ne_eqb, ltb-true, ltb-false, eqb-true, eqb-false}
use Rattle.std.specs.Prelude.{if◌then◌else◌, Ok, Err, Some, None}
use Rattle.ordered.specs.Word.{Side, left, right, bit_of, side}
use Rattle.ordered.specs.Way.{to}
use Rattle.ordered.proofs.Bits.{next_bit}
use Rattle.ordered.proofs.Ways.{and_true}
use Rattle.pretree.specs.declared.Header.{Header}
use Rattle.pretree.specs.declared.Row as Rows
use Rattle.pretree.specs.declared.seek.Seek.{Seek}
use Rattle.pretree.specs.Table.{entry_of, row_words, row_at, link}
use Rattle.pretree.specs.Unfold.{ends_there, shown}
use Rattle.pretree.specs.declared.Answer.{Answer}
use Rattle.pretree.specs.declared.Answer.TheVariants.{Word, Damage}
use Rattle.pretree.specs.Reply.{wrong_header, too_wide, refused, answered}
use Rattle.pretree.specs.Find.{next_reply}
use Rattle.pretree.specs.Found.{next_found_from, aside_from}
use Rattle.pretree.specs.Leg.{EndsAs, End}
use Rattle.pretree.specs.Seek.{row_of, bits_left_by, turn, stepped, aside_of, span_of, SeekEnds, Tells, WayEnds, Refused, by_header, by_word, by_damage}
use Rattle.pretree.specs.Next.{next_from, next_at}
use Rattle.pretree.specs.Walk.{Walk, Stage, AtNone, AtRow, AtDamage, is_on, end_read, stage_at, holds, ended, remembering, passed, turned, met, seeking, seek_turn, Placed, Walking, Walked}
use Rattle.pretree.specs.Resume.{again, resumed}
use Rattle.pretree.proofs.Writing.{row_back}
use Rattle.pretree.proofs.Between.{half_mask, turns_so, next_rest}
use Rattle.pretree.proofs.Checks.{right_header}
use Rattle.pretree.proofs.Neighbours.{next_at_is}
use Rattle.pretree.proofs.NextWord.{ShowsNext, reply_by, aside_reply, from_link}
use Rattle.pretree.proofs.PassingEqual.{passes_on, stops_past, takes_on}
use Rattle.pretree.proofs.Sought.{bits_are}
use Rattle.pretree.proofs.WordWay.{by_way}

-- Where the walk w ended at a row with key k and m + 1 bits left, the seek s goes one row further down with it.
module _ (rows : ℕ → Rows.Row) (k : ℕ) (s : Seek) (w : Walk) (m : ℕ) (bits : w.bits ≡ suc m) (mask : s.mask ≡ 2 ^ w.bits - 1)
    (tail : s.tail ≡ k % 2 ^ w.bits) (path : w.path ≡ k / 2 ^ w.bits) (aside : s.aside ≡ aside_of rows w.has_aside w.aside)
    (span : s.span ≡ span_of w.has_aside w.aside_bits) (equal : (rows w.row).entry.key ≡ k) where
  abbrev here : Rows.Row
  here = rows w.row

  -- the seek one row further down, to side σ; `leaves` says whether it remembers the right link
  abbrev stepped_to : Bool → Side → Seek
  stepped_to leaves σ =
      record {
        word = s.word;
        at = row_words * link here σ;
        mask = s.mask / 2;
        tail = bit_and s.tail (s.mask / 2);
        between = s.between;
        above = s.at;
        aside = if leaves then here.right else s.aside;
        span = if leaves then s.mask / 2 else s.span;
      }

  -- the numbers of the seek there
  half : s.mask / 2 ≡ 2 ^ m - 1
  half = rw (mask, bits) (half_mask m)

  last_bits : bit_and s.tail (s.mask / 2) ≡ k % 2 ^ m
  last_bits = rw (mask, tail, bits) (next_rest m k)

  path_on : (σ : Side) → side m k ≡ σ → w.path * 2 + bit_of σ ≡ k / 2 ^ m
  path_on σ e = rw (path, bits) (sym (rw e at (next_bit m k)))

  -- the walk past the row goes with the seek, whatever it remembers
  shows_past : (v : Walk) (σ : Side) (t : Seek) → side m k ≡ σ → v.bits ≡ suc m → v.path ≡ w.path
      → row_of t ≡ link here σ → t.mask ≡ s.mask / 2 → t.tail ≡ bit_and s.tail (s.mask / 2)
      → t.aside ≡ aside_of rows v.has_aside v.aside → t.span ≡ span_of v.has_aside v.aside_bits
      → ShowsNext rows k t (passed v (entry_of here) (bit_of σ) (link here σ))
  shows_past v σ t e v_bits v_path t_row t_mask t_tail t_aside t_span =
      let less : pred v.bits ≡ m = rw v_bits in
      record {
        row = t_row;
        mask = rw (less, t_mask) half;
        tail = rw (less, t_tail) last_bits;
        path = rw (less, v_path) (path_on σ e);
        aside = t_aside;
        span = t_span;
        stage = refl;
        low = λ some. ap suc equal;
      }

  -- to the side of k's next bit
  shows_stepped : ShowsNext rows k (stepped s (link here (turn s)) here.right) (turned (resumed w) here (to (side m k)))
  unfolding turned
  shows_stepped = go (ltb (s.mask / 2) s.tail) (side m k) turns refl
    where
      turns : turn s ≡ side m k
      turns = rw (mask, tail, bits) (turns_so m k)

      to_left : (c : Bool) → eqb here.right 0 ≡ c → side m k ≡ left
          → ShowsNext rows k (stepped_to (not c) left) (passed (if c then resumed w else remembering (resumed w)) (entry_of here) 0 here.left)
      to_left true none_right e = shows_past (resumed w) left (stepped_to false left) e bits refl (row_back _) refl refl aside span
      to_left false some_right e = shows_past (remembering (resumed w)) left (stepped_to true left) e bits refl (row_back _) refl refl refl (rw bits half)

      go : (b : Bool) (σ : Side) → (if b then right else left) ≡ σ → side m k ≡ σ
          → ShowsNext rows k (stepped_to (not b && not (eqb here.right 0)) (if b then right else left)) (turned (resumed w) here (to σ))
      go true right t e = shows_past (resumed w) right (stepped_to false right) e bits refl (row_back _) refl refl aside span
      go true left t e = cc
      go false right t e = cc
      go false left t e = to_left (eqb here.right 0) refl e

-- at a row without a right link nothing new is remembered
as_before : (b c : Bool) (x y : ℕ) → c ≡ true → (if not b && not c then x else y) ≡ y
as_before true c x y e = refl
as_before false c x y e = rw e

-- past a row one bit fewer is left
turned_bits : (w : Walk) (r : Rows.Row) (σ : Side) → (turned w r (to σ)).bits ≡ pred w.bits
unfolding turned
turned_bits w r right = refl
turned_bits w r left = go (eqb r.right 0)
  where
    go : (b : Bool) → (passed (if b then w else remembering w) (entry_of r) 0 r.left).bits ≡ pred w.bits
    go true = refl
    go false = refl

module _ (h : Header) (table : List ℕ) (k : ℕ) (fine : wrong_header h table ≡ false) (small : too_wide h k ≡ false) (s : Seek) where
  abbrev rows : ℕ → Rows.Row
  rows = row_at table

  module _ (e : End) (g : SeekEnds rows h (shown h table) k s e) where
    abbrev w : Walk
    w = g.walk

    -- the number of rows that the way passed
    passed_so_far : h.width - bits_left_by s.mask ≡ h.width - w.bits
    passed_so_far = rw (bits_are table h k fine small s e g)

    -- the walk is on the way that passes rows equal to k
    onward : Walking rows (seeking (suc k) k) h.width h.count (shown h table) (resumed w)
    onward = passes_on rows k h.width h.count (shown h table) w g.walked

    at_damage : w.stage ≡ AtDamage → next_reply h table k ≡ refused h Damage
    at_damage at =
        next_at_is h table k (resumed w) fine small (record { walking = onward; ended = ap (λ (st : Stage). is_on (again st)) at })
        ∙ ap (λ (st : Stage). next_found_from h rows k (again st) w.entry.key (h.width - w.bits + end_read (again st)) w.has_aside w.aside_bits w.aside) at

    at_none : w.stage ≡ AtNone → row_of s ≡ 0 → next_reply h table k ≡ next_at h rows k s None
    at_none at nowhere =
        let no_row : w.row ≡ 0 = sym g.row ∙ nowhere in
        rw passed_so_far
        (from_link h table k fine small (resumed w) onward s
        (record {
          row = g.row;
          mask = g.mask;
          tail = g.tail;
          path = g.path;
          aside = g.aside;
          span = g.span;
          stage = ap again at ∙ sym (ap (stage_at w.count) no_row);
          low = λ some. absurd (some no_row);
        }))

    -- the way of k ended at a row, whose key is k or more
    module _ (at : w.stage ≡ AtRow) (past : k ≤ (rows w.row).entry.key) where
      abbrev key : ℕ
      key = (rows w.row).entry.key

      on : is_on (resumed w).stage ≡ true
      on = ap (λ (st : Stage). is_on (again st)) at

      judged : holds (resumed w) (rows w.row) ≡ true
      judged = (subst (Placed rows w) at g.walked.walking.placed).1

      abbrev met_row : Walk
      met_row = met (resumed w) (rows w.row) (seek_turn (suc k) k key w.bits)

      walks : Walking rows (seeking (suc k) k) h.width h.count (shown h table) met_row
      walks = takes_on rows (suc k) k h.width h.count (shown h table) (resumed w) on onward

      abbrev ended_here : Walk
      ended_here = ended (resumed w) AtRow (entry_of (rows w.row))

      -- the walk ends there if the key is greater than k, or no bit is left
      stops_greater : k < key → met_row ≡ ended_here
      stops_greater greater = stops_past k (resumed w) (rows w.row) judged greater

      stops_below : w.bits ≡ 0 → met_row ≡ ended_here
      unfolding met
      stops_below none_left = rw (judged, eq-eqb w.bits 0 none_left)

      -- so the reply is from this row
      reply_here : met_row ≡ ended_here → next_reply h table k ≡ reply_by h table k fine small ended_here
      reply_here stops =
          next_at_is h table k met_row fine small (record { walking = walks; ended = ap (λ (v : Walk). is_on v.stage) stops })
          ∙ ap (reply_by h table k fine small) stops

      -- else the walk goes one row further down, as the seek does
      goes_down : (m : ℕ) → w.bits ≡ suc m → key ≡ k → met_row ≡ turned (resumed w) (rows w.row) (to (side m k))
      unfolding met
      goes_down m bits equal =
          let some : eqb w.bits 0 ≡ false = ne_eqb _ _ (λ z. suc-ne-zero m (sym bits ∙ z)) in
          let not_past : leb (suc k) key ≡ false = lt-leb (suc k) key (omega arith) in
          rw (judged, some, not_past) (ap (λ (b : ℕ). turned (resumed w) (rows w.row) (to (side (pred b) k))) bits)

      abbrev stepped_on : Seek
      stepped_on = stepped s (link (rows w.row) (turn s)) (rows w.row).right

      abbrev rows_read : ℕ
      rows_read = h.width - w.bits + 1

      -- at depth W the row has no links,
      no_links : w.bits ≡ 0 → ((rows w.row).left ≡ 0) × ((rows w.row).right ≡ 0)
      no_links none_left =
          let on_path = (and_true (leb w.low key) _ judged).1 in
          let ends : ends_there w.bits (rows w.row) ≡ true = (and_true (eqb (key / 2 ^ w.bits) w.path) _ on_path).1 in
          let both = and_true (eqb (rows w.row).left 0) _ (subst (λ (b : ℕ). ends_there b (rows w.row) ≡ true) none_left ends) in
          (eqb-true _ _ both.0, eqb-true _ _ both.1)

      -- and the answer is at the right link that was remembered before
      by_bottom : w.bits ≡ 0 → key ≡ k → next_reply h table k ≡ next_from h rows k stepped_on rows_read
      by_bottom none_left equal =
          let none_right : eqb (rows w.row).right 0 ≡ true = eq-eqb _ _ (no_links none_left).1 in
          let walked : Walked rows (seeking (suc k) k) h.width h.count (shown h table) ended_here
          = record { walking = subst (Walking rows (seeking (suc k) k) h.width h.count (shown h table)) (stops_below none_left) walks; ended = refl } in
          reply_here (stops_below none_left) ∙ not_greater
          ∙ aside_reply h table k fine small ended_here walked stepped_on (row_back _ ∙ no_link none_left (turn s)) rows_read
          (as_before (ltb (s.mask / 2) s.tail) _ _ _ none_right ∙ g.aside)
          (as_before (ltb (s.mask / 2) s.tail) _ _ _ none_right ∙ g.span)
        where
          no_link : w.bits ≡ 0 → (σ : Side) → link (rows w.row) σ ≡ 0
          no_link z left = (no_links z).0
          no_link z right = (no_links z).1

          not_greater : reply_by h table k fine small ended_here ≡ aside_from h rows rows_read w.has_aside w.aside_bits w.aside
          not_greater = rw (le-ltb k key (omega arith))

      -- with bits left the answer is where the link led, or at the right link that is remembered
      by_turn : (m : ℕ) → w.bits ≡ suc m → key ≡ k → next_reply h table k ≡ next_from h rows k stepped_on rows_read
      by_turn m bits equal =
          let v : Walk = turned (resumed w) (rows w.row) (to (side m k)) in
          let down : Walking rows (seeking (suc k) k) h.width h.count (shown h table) v
          = subst (Walking rows (seeking (suc k) k) h.width h.count (shown h table)) (goes_down m bits equal) walks in
          let one_less : h.width - v.bits ≡ rows_read = rw (turned_bits (resumed w) (rows w.row) (side m k)) (omega (arith, bits, g.walked.walking.fits)) in
          from_link h table k fine small v down stepped_on (shows_stepped rows k s w m bits g.mask g.tail g.path g.aside g.span equal)
          ∙ ap (next_from h rows k stepped_on) one_less

      at_row : next_reply h table k ≡ next_at h rows k s (Some (rows w.row))
      at_row = rw passed_so_far (by_key (ltb k key) refl)
        where
          by_bits : (b : Bool) → eqb w.bits 0 ≡ b → key ≡ k → next_reply h table k ≡ next_from h rows k stepped_on rows_read
          by_bits true z equal = by_bottom (eqb-true _ _ z) equal
          by_bits false z equal = by_turn (pred w.bits) (omega (arith, pos_of_ne-zero (eqb-false w.bits 0 z))) equal

          by_key : (b : Bool) → ltb k key ≡ b
              → next_reply h table k ≡ (if b then answered h (Word key) rows_read else next_from h rows k stepped_on rows_read)
          by_key true c = reply_here (stops_greater (ltb-true k key c)) ∙ rw c
          by_key false c = by_bits (eqb w.bits 0) refl (omega (arith, ltb-false k key c, past))

    by_end : EndsAs rows w e → Tells rows k s e → next_reply h table k ≡ by_way h (next_at h rows k s) e
    by_end = go e
      where
        go : (e : End) → EndsAs rows w e → Tells rows k s e → next_reply h table k ≡ by_way h (next_at h rows k s) e
        go (Ok None) at tells = at_none at tells
        go (Ok (Some r)) at tells =
            let past : k ≤ (rows w.row).entry.key = rw g.row at tells in
            at_row at.0 past ∙ ap (λ (r : Rows.Row). next_at h rows k s (Some r)) (sym at.1)
        go (Err d) at tells = at_damage at

-- the reply of `next`, by the way of its word, and where it is refused
module _ {h : Header} {table : List ℕ} {k : ℕ} {s : Seek} {e : End} (q : WayEnds h table k s e) where
  pub next_way : by_way h (next_at h (row_at table) k s) e ≡ next_reply h table k
  next_way = sym (by_end h table k q.fine q.small s e q.ends q.ends.ends q.tells)

  -- at the remembered right link fewer than 32 bits are left
  pub span_few : s.span < 2 ^ 31
  span_few = rw q.ends.span (go q.ends.walk.has_aside q.ends.walked.walking.memory.aside_used)
    where
      go : {i n m : ℕ} (has_aside : Bool) → (has_aside ≡ true → (i < n) × (m < h.width)) → span_of has_aside m < 2 ^ 31
      go false used = omega arith
      go {m} true used =
          let few : m ≤ 31 = omega (arith, (used refl).1, (right_header h table q.fine).at_most_32) in
          lt_of_lt_of_le (ones_lt m) (pow_mono few)

pub next_refused : {h : Header} {table : List ℕ} {k : ℕ} {a : Answer} → Refused h table k a → refused h a ≡ next_reply h table k
unfolding next_reply
next_refused (by_header e) = rw e
next_refused (by_word e f) = rw (e, f)
next_refused (by_damage q) = next_way q
