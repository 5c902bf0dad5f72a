-- The reply of `prev`, from where the seek of the word stopped: by the last row that the way passed, and by the left part of that row.
use Prim.Native.Nat.{ℕ, zero, suc, ◌+◌, ◌*◌, ◌-◌, ◌/◌, ◌%◌, ◌^◌, ◌≤◌, ◌<◌}
use mathlib.Core.Path.{◌≡◌, refl, sym, ap, ◌∙◌, subst}
use mathlib.Core.Bool.{Bool, true, false, not, ◌&&◌}
use mathlib.Core.List.{List}
use native.Mathlib.Nat.{add-zero, le_of_lt, le_of_sub-eq-zero, suc-ne-zero, pos_of_ne-zero, suc-mul, mul_assoc, mul_comm, mul-le-mul_right, pow-suc}
use native.Mathlib.Omega.{arith}
use lib.Bits.{bit_and, and_mask}
use lib.Dec.{ltb, eqb}
use mir.Val.{bool_byte}
use lib.Pow.{split, pow_pos, pow_mono, pow-add, shr_lt}
use borrow.Author.Tests.{lt-ltb, le-ltb, eq-eqb, ne_eqb}
use Rattle.std.specs.Prelude.{if◌then◌else◌, is_some, is_err, Ok, Some, None, Option}
use Rattle.ordered.specs.Word.{left, right, bit_of, side_of, is_side}
use Rattle.ordered.specs.Tree.{Tree}
use Rattle.ordered.specs.Way.{way, down}
use Rattle.pretree.specs.declared.Header.{Header}
use Rattle.pretree.specs.declared.Answer.{Answer}
use Rattle.pretree.specs.declared.Answer.TheVariants.{Word, Damage, NoSuchWord}
use Rattle.pretree.specs.declared.Reply.{Reply}
use Rattle.pretree.specs.declared.Row.{Row}
use Rattle.pretree.specs.declared.seek.Seek.{Seek}
use Rattle.pretree.specs.Table.{capacity, row_at}
use Rattle.pretree.specs.Unfold.{linked, unfolded, shown}
use Rattle.pretree.specs.Reply.{wrong_header, too_wide, refused, answered}
use Rattle.pretree.specs.Find.{prev_reply}
use Rattle.pretree.specs.Found.{then_by, above_by, above_from, prev_from, greatest_by}
use Rattle.pretree.specs.Walk.{Walk, AtNone, AtRow, AtDamage, started_at, tree_at, below, rows_read_by}
use Rattle.pretree.specs.Leg.{Stands, End, damage}
use Rattle.pretree.specs.Seek.{row_of, above_of, bits_left_by, SeekEnds, Tells, WayEnds, Refused, by_header, by_word, by_damage}
use Rattle.pretree.specs.Prev.{rows_to, left_if_right, left_place}
use Rattle.pretree.proofs.Checks.{right_header}
use Rattle.pretree.proofs.Damaged.{not_damage}
use Rattle.pretree.proofs.Neighbours.{prev_at}
use Rattle.pretree.proofs.Sought.{bits_are}

-- the ends that are left where the code has tested for damage
pub spared : (e : End) → is_err e ≡ false → e ≡ damage → ⊥
spared e = not_damage e

-- the end of a way is at most one row more than it passed
pub rows_to_few : (row : Option Row) (n : ℕ) → n ≤ 32 → rows_to row n ≤ 33
rows_to_few None n few = omega arith
rows_to_few (Some r) n few = omega arith

-- as the code counts
pub rows_to_is : (row : Option Row) (n : ℕ) → n + bool_byte (is_some row) ≡ rows_to row n
rows_to_is None n = add-zero n
rows_to_is (Some r) n = refl

-- the walk that begins at the left part of a row, with m bits left there
abbrev pub left_start : ℕ → Row → ℕ → Walk
left_start count r m = started_at count r.left m (r.entry.key / 2 ^ suc m * 2 + 0) (suc r.entry.key)

-- and its place, as the code computes it
module _ (count m : ℕ) (r : Row) (few : m < 32) (narrow : r.entry.key < 2 ^ 32) where
  abbrev key : ℕ
  key = r.entry.key

  ones : 2 * (2 ^ m - 1) + 1 ≡ 2 ^ suc m - 1
  ones = omega (arith, pow-suc 2 m, pow_pos m)

  least : key - bit_and key (2 * (2 ^ m - 1) + 1) ≡ key / 2 ^ suc m * 2 ^ suc m
  least = rw (ones, and_mask key (suc m)) (omega (arith, split key (suc m)))

  as_path : key / 2 ^ suc m * 2 ^ suc m ≡ (key / 2 ^ suc m * 2 + 0) * 2 ^ m
  as_path = rw (add-zero (key / 2 ^ suc m * 2), mul_assoc (key / 2 ^ suc m) 2 (2 ^ m), mul_comm 2 (2 ^ m), ← pow-suc 2 m)

  fits : key / 2 ^ suc m * 2 ^ suc m + (2 ^ m - 1) < 2 ^ 32
  fits =
      let whole : 31 - m + suc m ≡ 32 = omega arith in
      let few_paths : key / 2 ^ suc m < 2 ^ (31 - m) = shr_lt (31 - m) (suc m) (rw whole narrow) in
      let most : suc (key / 2 ^ suc m) * 2 ^ suc m ≤ 2 ^ (31 - m) * 2 ^ suc m = mul-le-mul_right (2 ^ suc m) few_paths in
      let all : 2 ^ (31 - m) * 2 ^ suc m ≡ 2 ^ 32 = sym (pow-add 2 (31 - m) (suc m)) ∙ ap (λ (x : ℕ). 2 ^ x) whole in
      omega (arith, suc-mul (key / 2 ^ suc m) (2 ^ suc m), pow-suc 2 m, pow_pos m)

  left_stands : Stands (left_place r (2 ^ m - 1)) (left_start count r m)
  left_stands =
      record { row = refl; mask = refl; path = least ∙ as_path; low = refl; few = le_of_lt few; room = rw least fits }

-- a link that is not 0 is followed
followed : (part : ℕ → Tree) (i : ℕ) → (i ≡ 0 → ⊥) → linked part i ≡ part i
followed part zero some = absurd (some refl)
followed part (suc i) some = refl

-- the way turned right at the row, and its left link is there
turned_right : (bit l : ℕ) → (is_side right (side_of bit) && not (eqb l 0)) ≡ not (eqb (if eqb bit 0 then 0 else l) 0)
turned_right zero l = refl
turned_right (suc b) l = rw (ne_eqb (suc b) 0 (suc-ne-zero b))

no_left : (b : Bool) (l : ℕ) → l ≡ 0 → (if b then 0 else l) ≡ 0
no_left true l none = refl
no_left false l none = none

module _ (table : List ℕ) (h : Header) (k : ℕ) (fine : wrong_header h table ≡ false) (small : too_wide h k ≡ false) where
  module _ (s : Seek) where
    abbrev bits : ℕ
    bits = bits_left_by s.mask

    abbrev EndsAt : End → Type 0
    EndsAt e = SeekEnds (row_at table) h (shown h table) k s e

    -- the reply from the last row that the way passed, after n rows: as the seek has it, and as the walk has it
    abbrev from_last : ℕ → Reply
    from_last n = above_from h (row_at table) n bits (k / 2 ^ bits) (above_of s)

    abbrev by_walk : Walk → ℕ → Reply
    by_walk w n = above_from h (row_at table) n w.bits w.path w.above

    -- the reply by a walk that has gone the way of k
    abbrev reply_by : Walk → Reply
    reply_by w = prev_from h (row_at table) k w.stage w.entry.key (rows_read_by w h.width) w.bits w.path w.above

    module _ (e : End) (g : EndsAt e) where
      same_bits : bits ≡ g.walk.bits
      same_bits = bits_are table h k fine small s e g

      same_last : (n : ℕ) → by_walk g.walk n ≡ from_last n
      same_last n = rw (g.path, ← g.above, ← same_bits)

      replied : (n : ℕ) → n ≡ rows_read_by g.walk h.width → reply_by g.walk ≡ by_walk g.walk (rows_read_by g.walk h.width) → from_last n ≡ prev_reply h table k
      replied n read so =
          ap from_last read
          ∙ sym (same_last (rows_read_by g.walk h.width))
          ∙ sym (prev_at h table k g.walk fine small g.walked ∙ so)

    at_none : EndsAt (Ok None) → from_last (h.width - bits) ≡ prev_reply h table k
    at_none g =
        let at : g.walk.stage ≡ AtNone = g.ends in
        let read : h.width - bits ≡ rows_read_by g.walk h.width
        = rw (at, same_bits (Ok None) g) (sym (add-zero (h.width - g.walk.bits))) in
        let so : reply_by g.walk ≡ by_walk g.walk (rows_read_by g.walk h.width) = rw at in
        replied (Ok None) g (h.width - bits) read so

    at_row : (r : Row) → EndsAt (Ok (Some r)) → k ≤ (row_at table (row_of s)).entry.key → from_last (h.width - bits + 1) ≡ prev_reply h table k
    at_row r g past =
        let at : g.walk.stage ≡ AtRow = g.ends.0 in
        let key_is : g.walk.entry.key ≡ (row_at table (row_of s)).entry.key
        = ap (λ e. e.key) g.ends.2 ∙ ap (λ (q : Row). q.entry.key) (g.ends.1 ∙ ap (row_at table) (sym g.row)) in
        let large : ltb g.walk.entry.key k ≡ false = rw key_is (le-ltb (row_at table (row_of s)).entry.key k past) in
        let read : h.width - bits + 1 ≡ rows_read_by g.walk h.width = rw (at, same_bits (Ok (Some r)) g) in
        let so : reply_by g.walk ≡ by_walk g.walk (rows_read_by g.walk h.width) = rw (at, large) in
        replied (Ok (Some r)) g (h.width - bits + 1) read so

    at_damage : EndsAt damage → refused h Damage ≡ prev_reply h table k
    at_damage g =
        let at : g.walk.stage ≡ AtDamage = g.ends in
        let so : reply_by g.walk ≡ refused h Damage = rw at in
        sym (prev_at h table k g.walk fine small g.walked ∙ so)

    at_end : (row : Option Row) → EndsAt (Ok row) → Tells (row_at table) k s (Ok row) → from_last (rows_to row (h.width - bits)) ≡ prev_reply h table k
    at_end None g tells = at_none g
    at_end (Some r) g tells = at_row r g tells

-- where a call is refused
pub prev_refused : {h : Header} {table : List ℕ} {k : ℕ} {a : Answer} → Refused h table k a → refused h a ≡ prev_reply h table k
unfolding prev_reply
prev_refused (by_header e) = rw e
prev_refused (by_word e f) = rw (e, f)
prev_refused {h} {table} {k} (by_damage {s} q) = at_damage table h k q.fine q.small s q.ends

-- where the way of k ended without damage
module _ {h : Header} {table : List ℕ} {k : ℕ} {s : Seek} {row : Option Row} (g : WayEnds h table k s (Ok row)) where
  abbrev left_bits : ℕ
  left_bits = bits_left_by s.mask

  abbrev read : ℕ
  read = rows_to row (h.width - left_bits)

  abbrev last : Row
  last = row_at table (above_of s)

  bits_so : left_bits ≡ g.ends.walk.bits
  bits_so = same_bits table h k g.fine g.small s (Ok row) g.ends

  abbrev reply_last : ℕ → Reply
  reply_last = from_last table h k g.fine g.small s

  -- the last row that was passed gives the reply
  ended_whole : reply_last read ≡ prev_reply h table k
  ended_whole = at_end table h k g.fine g.small s row g.ends g.tells

  -- where no row was passed
  pub none_less : h.width - left_bits ≡ 0 → answered h NoSuchWord read ≡ prev_reply h table k
  none_less none =
      let so : reply_last read ≡ answered h NoSuchWord read = rw (le-ltb left_bits h.width (le_of_sub-eq-zero none)) in
      sym so ∙ ended_whole

  mask_is : s.mask ≡ 2 ^ left_bits - 1
  mask_is = g.ends.mask ∙ ap (λ (x : ℕ). 2 ^ x - 1) (sym bits_so)

  -- where rows were passed: the last of them
  module _ (passed : h.width - left_bits ≡ 0 → ⊥) where
    less : left_bits < h.width
    less = omega (arith, pos_of_ne-zero passed)

    pub few_bits : left_bits < 32
    few_bits = omega (arith, less, (right_header h table g.fine).at_most_32)

    pub small_mask : s.mask < 2 ^ 31
    small_mask =
        let most : left_bits ≤ 31 = omega (arith, few_bits) in
        omega (arith, mask_is, pow_mono most, pow_pos left_bits)

    pub last_used : above_of s < capacity table
    last_used =
        let fewer : g.ends.walk.bits < h.width = rw (← bits_so) less in
        let used : g.ends.walk.above < g.ends.walk.count = g.ends.walked.walking.memory.above_used fewer in
        omega (arith, g.ends.above, g.ends.walked.walking.same_count, (right_header h table g.fine).has_room)

    -- the place of its left part
    pub part_stands : last.entry.key < 2 ^ 32 → Stands (left_place last s.mask) (left_start h.count last left_bits)
    part_stands narrow =
        subst (λ (x : ℕ). Stands (left_place last x) (left_start h.count last left_bits)) (sym mask_is)
        (left_stands h.count left_bits last few_bits narrow)

    -- its key is the answer, or the greatest word of its left part is
    abbrev aside : Bool
    aside = is_side right (side_of (k / 2 ^ left_bits % 2)) && not (eqb last.left 0)

    by_side : (b : Bool) → aside ≡ b → reply_last read ≡ above_by h (row_at table) read left_bits (above_of s) b
    by_side b side_is = rw (lt-ltb left_bits h.width less, side_is)

    aside_is : (b : Bool) → eqb (left_if_right k left_bits last) 0 ≡ b → aside ≡ not b
    aside_is b so = turned_right (k / 2 ^ left_bits % 2) last.left ∙ ap not so

    pub last_is : left_if_right k left_bits last ≡ 0 → answered h (Word last.entry.key) read ≡ prev_reply h table k
    last_is none = sym (by_side false (aside_is true (eq-eqb _ 0 none))) ∙ ended_whole

    pub left_of_last : (left_if_right k left_bits last ≡ 0 → ⊥)
        → greatest_by h (row_at table) read (left_start h.count last left_bits) ≡ prev_reply h table k
    left_of_last there =
        let part_is : below (row_at table) h.count (suc left_bits) (above_of s) left ≡ tree_at (row_at table) (left_start h.count last left_bits)
        = followed (unfolded (row_at table) h.count left_bits (last.entry.key / 2 ^ suc left_bits * 2 + bit_of left) (suc last.entry.key)) last.left (λ none. there (no_left (eqb (k / 2 ^ left_bits % 2) 0) last.left none)) in
        ap (λ (t : Tree). then_by h read (way (down right) left_bits t)) (sym part_is)
        ∙ sym (by_side true (aside_is false (ne_eqb _ 0 there)))
        ∙ ended_whole
