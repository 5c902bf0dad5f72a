-- The next greater word, as the code finds it: its place is where the definition looks for it, and the code judges the row there as the definition
-- does.
use Prim.Native.Nat.{ℕ, zero, suc, ◌+◌, ◌*◌, ◌-◌, ◌/◌, ◌%◌, ◌^◌, ◌≤◌, ◌<◌}
use mathlib.Core.Path.{◌≡◌, refl, sym, ap, ◌∙◌}
use mathlib.Core.Bool.{Bool, true, false, ◌&&◌}
use mathlib.Core.List.{List}
use native.Mathlib.Nat.{suc-ne-zero, add-zero, pow-suc, mul_assoc, mul_comm, suc-mul, lt-suc_self, le_trans, le_of_lt, lt_of_lt_of_le}
use native.Mathlib.Numerals.{add-one}
use native.Mathlib.Omega.{arith}
use lib.Bits.{bit_and, bit_or, and_mask, or_shifted}
use lib.Dec.{ltb, leb, eqb}
use lib.Pow.{split, pow-lt, pow_mono, suc_ones}
use borrow.Author.Tests.{lt-ltb, le-leb, ne_eqb, leb-true, eqb-true, eqb-false}
use Rattle.std.specs.Prelude.{if◌then◌else◌, Ok, None}
use Rattle.ordered.specs.Word.{left, side}
use Rattle.ordered.specs.Tree.{none}
use Rattle.ordered.specs.Way.{way, broken, staying}
use Rattle.ordered.proofs.Bits.{next_bit, by_paths}
use Rattle.ordered.proofs.Parts.{IfSuch}
use Rattle.ordered.proofs.Ways.{and_true}
use Rattle.pretree.specs.declared.Header.{Header}
use Rattle.pretree.specs.declared.Row.{Row}
use Rattle.pretree.specs.declared.Reply.{Reply}
use Rattle.pretree.specs.declared.leg.Place.{Place}
use Rattle.pretree.specs.declared.seek.Seek.{Seek}
use Rattle.pretree.specs.Table.{entry_of, row_at}
use Rattle.pretree.specs.Unfold.{ends_there, judged, linked, unfolded, shown}
use Rattle.pretree.specs.Reply.{wrong_header, too_wide}
use Rattle.pretree.specs.Find.{next_reply}
use Rattle.pretree.specs.Found.{word_by, then_by, aside_from, next_found_from}
use Rattle.pretree.specs.Leg.{judges, row_end, link_end, Stands, damage, as_end}
use Rattle.pretree.specs.Seek.{row_of, aside_of, span_of}
use Rattle.pretree.specs.Next.{next_place, next_from}
use Rattle.pretree.specs.Walk.{Walk, On, AtNone, AtRow, AtDamage, is_on, rows_read_by, stage_at, started_at, holds, ended, met, step_at, remembered, seeking, seek_turn, Walking, Walked}
use Rattle.pretree.proofs.Checks.{right_header, narrow}
use Rattle.pretree.proofs.Found.{stays, row_read}
use Rattle.pretree.proofs.Neighbours.{next_at_is}
use Rattle.pretree.proofs.PassingEqual.{PassedFor, aside_passed, stops_past, takes_on}
use Rattle.pretree.proofs.Places.{judges_alike}
use Rattle.pretree.proofs.Sought.{last_small}

-- if place and definition judge a row alike, what the code finds at a link gives the reply of a second way that stays there
module _ (h : Header) (rows : ℕ → Row) (n m path low : ℕ) (p : Place)
    (alike : judges p (rows p.row) ≡ holds (started_at h.count p.row m path low) (rows p.row)) where
  reads_link : then_by h n (way staying m (linked (unfolded rows h.count m path low) p.row)) ≡ word_by h n (link_end rows h.count p)
  unfolding broken Rattle.ordered.specs.Way.rows
  reads_link = by_row p.row refl
    where
      by_row : (i : ℕ) → p.row ≡ i
          → then_by h n (way staying m (linked (unfolded rows h.count m path low) i))
          ≡ word_by h n (if eqb i 0 then Ok None else as_end (row_end rows h.count p))
      by_row zero e = rw (stays m none, add-zero n)
      by_row (suc i) e = rw (ne_eqb (suc i) 0 (suc-ne-zero i), ← e) (row_read h n rows h.count m path low p alike)

-- the path of the right part of a row with this key and m bits left below it
abbrev right_path : ℕ → ℕ → ℕ
right_path key m = key / 2 ^ suc m * 2 + 1

-- the place of its right link l, as the code computes it
abbrev aside_place : ℕ → ℕ → ℕ → Place
aside_place k m l = record { row = l; mask = 2 ^ m - 1; path = bit_or (k - bit_and k (2 ^ m - 1)) (suc (2 ^ m - 1)); low = suc k }

-- The row was passed on the way of k, to the left. The words of its right part have k's bits down to one that is 0 in k and 1 in them.
module _ (k key m : ℕ) (least : key ≤ k) (on_path : key / 2 ^ suc m ≡ k / 2 ^ suc m) (GoesLeft : side m k ≡ left) where
  k_path : k / 2 ^ m ≡ key / 2 ^ suc m * 2 + 0
  k_path = rw on_path (rw GoesLeft at (next_bit m k))

  -- so they are greater than k
  greater : (x : ℕ) → x / 2 ^ m ≡ right_path key m → k < x
  greater x e = by_paths m k x (omega (arith, k_path))

  -- so it makes no difference whether their keys must exceed k or the row's key
  same_bound : (count i : ℕ) (r : Row) → holds (started_at count i m (right_path key m) (suc k)) r ≡ holds (started_at count i m (right_path key m) (suc key)) r
  same_bound count i r = go (eqb (r.entry.key / 2 ^ m) (right_path key m)) refl
    where
      x : ℕ
      x = r.entry.key

      neither : (a b : Bool) → (a && false) ≡ (b && false)
      neither true true = refl
      neither true false = refl
      neither false true = refl
      neither false false = refl

      go : (c : Bool) → eqb (x / 2 ^ m) (right_path key m) ≡ c
          → (leb (suc k) x && (c && ends_there m r)) ≡ (leb (suc key) x && (c && ends_there m r))
      go true e =
          let above : k < x = greater x (eqb-true _ _ e) in
          let above_key : key < x = omega arith in
          rw (le-leb (suc k) x above, le-leb (suc key) x above_key)
      go false e = neither (leb (suc k) x) (leb (suc key) x)

  -- the least of them
  start : right_path key m * 2 ^ m ≡ key / 2 ^ suc m * 2 ^ suc m + 2 ^ m
  start = rw (add-one (key / 2 ^ suc m * 2), suc-mul (key / 2 ^ suc m * 2) (2 ^ m), pow-suc 2 m, mul_assoc, mul_comm 2 (2 ^ m))

  -- the code computes the least of them
  start_is : bit_or (k - bit_and k (2 ^ m - 1)) (suc (2 ^ m - 1)) ≡ right_path key m * 2 ^ m
  start_is =
      let some : 2 ^ m < 2 ^ suc m = pow-lt (lt-suc_self m) in
      let k_start : k / 2 ^ m * 2 ^ m ≡ key / 2 ^ suc m * 2 ^ suc m
      = rw (k_path, add-zero (key / 2 ^ suc m * 2), pow-suc 2 m, mul_assoc, mul_comm 2 (2 ^ m)) in
      let rest : k - k % 2 ^ m ≡ key / 2 ^ suc m * 2 ^ suc m = omega (arith, split k m, k_start) in
      rw (and_mask k m, suc_ones m, rest, or_shifted (key / 2 ^ suc m) (suc m) (2 ^ m) some) (sym start)

  -- the place of their row
  module _ (small : k < 2 ^ 32) (few : suc m ≤ 32) (count l : ℕ) where
    aside_stands : Stands (aside_place k m l) (started_at count l m (right_path key m) (suc k))
    aside_stands =
        let room : k / 2 ^ suc m * 2 ^ suc m + (2 ^ suc m - 1) < 2 ^ 32 = last_small k (suc m) 32 few small in
        let room_here : key / 2 ^ suc m * 2 ^ suc m + 2 ^ m + (2 ^ m - 1) < 2 ^ 32 = rw on_path (omega (arith, room, pow-suc 2 m)) in
        record { row = refl; mask = refl; path = start_is; low = refl; few = le_of_lt few; room = rw (start_is, start) room_here }

    -- the place judges a row as the definition does
    aside_alike : (r : Row) → judges (aside_place k m l) r ≡ holds (started_at count l m (right_path key m) (suc key)) r
    aside_alike r = judges_alike (aside_place k m l) (started_at count l m (right_path key m) (suc k)) aside_stands r ∙ same_bound count l r

-- a link led the walk w here, and the seek s is where w is; if there is a row here, the key above is k
pub record ShowsNext (rows : ℕ → Row) (k : ℕ) (s : Seek) (w : Walk) : Type 0 where
  pub row : row_of s ≡ w.row
  pub mask : s.mask ≡ 2 ^ w.bits - 1
  pub tail : s.tail ≡ k % 2 ^ w.bits
  pub path : w.path ≡ k / 2 ^ w.bits
  pub aside : s.aside ≡ aside_of rows w.has_aside w.aside
  pub span : s.span ≡ span_of w.has_aside w.aside_bits
  pub stage : w.stage ≡ stage_at w.count w.row
  pub low : (w.row ≡ 0 → ⊥) → w.low ≡ suc k

module _ (h : Header) (table : List ℕ) (k : ℕ) (fine : wrong_header h table ≡ false) (small : too_wide h k ≡ false) where
  abbrev at_most : h.width ≤ 32
  at_most = (right_header h table fine).at_most_32

  word_small : k < 2 ^ 32
  word_small = lt_of_lt_of_le (narrow h k small) (pow_mono at_most)

  -- the reply by a walk that has gone the whole way
  abbrev pub reply_by : Walk → Reply
  reply_by w = next_found_from h (row_at table) k w.stage w.entry.key (rows_read_by w h.width) w.has_aside w.aside_bits w.aside

  -- the seek has no next row: the answer is at the right link that it remembers
  module _ (w : Walk) (gone : Walked (row_at table) (seeking (suc k) k) h.width h.count (shown h table) w) (s : Seek) (nowhere : row_of s ≡ 0) (n : ℕ) where
    aside_by : (has_aside : Bool) → IfSuch (PassedFor k) (remembered (row_at table) w.count has_aside w.aside_bits w.aside left)
        → (has_aside ≡ true → (w.aside < w.count) × (w.aside_bits < h.width))
        → s.aside ≡ aside_of (row_at table) has_aside w.aside → s.span ≡ span_of has_aside w.aside_bits
        → aside_from h (row_at table) n has_aside w.aside_bits w.aside ≡ next_from h (row_at table) k s n
    unfolding step_at
    aside_by false on used aside span = rw (nowhere, aside)
    aside_by true on used aside span =
        let key : ℕ = (row_at table w.aside).entry.key in
        let few : suc w.aside_bits ≤ 32 = le_trans (used refl).1 at_most in
        let alike = aside_alike k key w.aside_bits on.least on.on_path on.turned word_small few h.count (row_at table w.aside).right (row_at table (row_at table w.aside).right) in
        rw (nowhere, aside, span) (reads_link h (row_at table) n w.aside_bits (right_path key w.aside_bits) (suc key) (aside_place k w.aside_bits (row_at table w.aside).right) alike)

    pub aside_reply : s.aside ≡ aside_of (row_at table) w.has_aside w.aside → s.span ≡ span_of w.has_aside w.aside_bits
        → aside_from h (row_at table) n w.has_aside w.aside_bits w.aside ≡ next_from h (row_at table) k s n
    aside_reply = aside_by w.has_aside (aside_passed h table k w small gone) gone.walking.memory.aside_used

  -- a link led to a next row: the answer is there
  module _ (v : Walk) (walking : Walking (row_at table) (seeking (suc k) k) h.width h.count (shown h table) v) (s : Seek) (shows : ShowsNext (row_at table) k s v) where
    abbrev n : ℕ
    n = h.width - v.bits

    abbrev r : Row
    r = row_at table v.row

    -- an undamaged row there has a key greater than k
    above_k : (v.row ≡ 0 → ⊥) → holds v r ≡ true → k < r.entry.key
    above_k some judged = leb-true _ _ (rw (shows.low some) at (and_true (leb v.low r.entry.key) _ judged).0)

    abbrev ends_with : Bool → Walk
    ends_with b = if b then ended v AtRow (entry_of r) else ended v AtDamage (entry_of r)

    met_there : (v.row ≡ 0 → ⊥) → (b : Bool) → holds v r ≡ b → met v r (seek_turn (suc k) k r.entry.key v.bits) ≡ ends_with b
    unfolding met
    met_there some false judged = rw judged
    met_there some true judged = stops_past k v r judged (above_k some judged)

    abbrev child_place : Place
    child_place = record { row = v.row; mask = s.mask; path = k - s.tail; low = suc k }

    child_stands : (v.row ≡ 0 → ⊥) → Stands child_place v
    child_stands some =
        let few : v.bits ≤ 32 = le_trans walking.fits at_most in
        let path : k - s.tail ≡ k / 2 ^ v.bits * 2 ^ v.bits = rw shows.tail (omega (arith, split k v.bits)) in
        record {
          row = refl;
          mask = shows.mask;
          path = rw shows.path path;
          low = sym (shows.low some);
          few = few;
          room = rw (path, shows.mask) (last_small k v.bits 32 few word_small);
        }

    -- what the code finds at the row
    found_there : (v.row ≡ 0 → ⊥)
        → next_from h (row_at table) k s n ≡ word_by h n (as_end (if ltb v.row h.count && holds v r then Ok r else damage))
    found_there some =
        let there : next_place s k ≡ child_place = rw (shows.row, ne_eqb v.row 0 some) in
        ap (λ (p : Place). word_by h n (link_end (row_at table) h.count p)) there
        ∙ rw (ne_eqb v.row 0 some, judges_alike child_place v (child_stands some) r)

    -- and what the walk does
    by_child : (v.row ≡ 0 → ⊥) → is_on v.stage ≡ true → (b : Bool) → holds v r ≡ b
        → next_reply h table k ≡ word_by h n (as_end (if b then Ok r else damage))
    by_child some on b judged =
        let onward = takes_on (row_at table) (suc k) k h.width h.count (shown h table) v on walking in
        next_at_is h table k _ fine small (record { walking = onward; ended = rw (met_there some b judged) (off b) })
        ∙ ap reply_by (met_there some b judged)
        ∙ said b judged
      where
        off : (b : Bool) → is_on (ends_with b).stage ≡ false
        off true = refl
        off false = refl

        said : (b : Bool) → holds v r ≡ b → reply_by (ends_with b) ≡ word_by h n (as_end (if b then Ok r else damage))
        said false judged = refl
        said true judged = rw (lt-ltb k r.entry.key (above_k some judged))

    -- the reply, where a link led the walk and the seek here
    pub from_link : next_reply h table k ≡ next_from h (row_at table) k s n
    from_link = by_row (eqb v.row 0) (ltb v.row h.count) refl refl
      where
        count_is : v.count ≡ h.count
        count_is = walking.same_count

        stage_is : (b c : Bool) → eqb v.row 0 ≡ b → ltb v.row h.count ≡ c → v.stage ≡ (if b then AtNone else if c then On else AtDamage)
        stage_is b c e f = shows.stage ∙ rw (count_is, e, f)

        gone : is_on v.stage ≡ false → Walked (row_at table) (seeking (suc k) k) h.width h.count (shown h table) v
        gone off = record { walking = walking; ended = off }

        by_row : (b c : Bool) → eqb v.row 0 ≡ b → ltb v.row h.count ≡ c → next_reply h table k ≡ next_from h (row_at table) k s n
        by_row true c e f =
            let at : v.stage ≡ AtNone = stage_is true c e f in
            let off : is_on v.stage ≡ false = rw at in
            let zero_row : row_of s ≡ 0 = shows.row ∙ eqb-true _ _ e in
            next_at_is h table k v fine small (gone off) ∙ rw (at, add-zero n) (aside_reply v (gone off) s zero_row n shows.aside shows.span)
        by_row false false e f =
            let at : v.stage ≡ AtDamage = stage_is false false e f in
            next_at_is h table k v fine small (gone (rw at)) ∙ rw at (sym (found_there (eqb-false _ _ e) ∙ rw f))
        by_row false true e f =
            let at : v.stage ≡ On = stage_is false true e f in
            by_child (eqb-false _ _ e) (rw at) (holds v r) refl ∙ sym (found_there (eqb-false _ _ e) ∙ rw f)
