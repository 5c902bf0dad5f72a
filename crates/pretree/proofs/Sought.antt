-- Where a seek stopped, the walk of the word's way has ended: how it ended, and the place there.
use Prim.Native.Nat.{ℕ, ◌+◌, ◌*◌, ◌-◌, ◌/◌, ◌%◌, ◌^◌, ◌≤◌, ◌<◌}
use mathlib.Core.Path.{◌≡◌, refl, sym, ap, ◌∙◌, subst}
use mathlib.Core.Bool.{Bool, true, false}
use mathlib.Core.List.{List}
use native.Mathlib.Nat.{le_trans, lt_of_lt_of_le, mod-lt, mod-le, mul-le-mul_right}
use native.Mathlib.Omega.{arith}
use lib.Dec.{ltb}
use lib.Pow.{split, pow_pos, pow_mono, shr_lt, le_ones, ones_split}
use borrow.Author.Tests.{lt-ltb, ltb-true, ltb-false}
use Rattle.std.specs.Prelude.{if◌then◌else◌}
use Rattle.pretree.specs.declared.Header.{Header}
use Rattle.pretree.specs.declared.seek.Seek.{Seek}
use Rattle.pretree.specs.Table.{row_at}
use Rattle.pretree.specs.Unfold.{shown}
use Rattle.pretree.specs.Reply.{wrong_header, too_wide}
use Rattle.pretree.specs.Walk.{Walk}
use Rattle.pretree.specs.Leg.{Stands, End, damage}
use Rattle.pretree.specs.Seek.{row_of, bits_left_by, passes, end_of, end_at, place_of, Shows, Sought, SeekEnds}
use Rattle.pretree.proofs.Checks.{right_header, narrow}
use Rattle.pretree.proofs.Between as Between
use Rattle.pretree.proofs.SeekWalk.{ends_here, ends_outside}

-- the last word with the bits of k's path, where b bits are left, is less than 2 ^ width if k is
pub last_small : (k b width : ℕ) → b ≤ width → k < 2 ^ width → k / 2 ^ b * 2 ^ b + (2 ^ b - 1) < 2 ^ width
last_small k b width fits small =
    let whole : width - b + b ≡ width = omega arith in
    let quotient : k / 2 ^ b ≤ 2 ^ (width - b) - 1 = le_ones (width - b) (shr_lt (width - b) b (rw whole small)) in
    let product : k / 2 ^ b * 2 ^ b ≤ (2 ^ (width - b) - 1) * 2 ^ b = mul-le-mul_right (2 ^ b) quotient in
    let ones : 2 ^ width - 1 ≡ (2 ^ (width - b) - 1) * 2 ^ b + (2 ^ b - 1) = rw whole at (ones_split (width - b) b) in
    omega (arith, product, ones, pow_pos width)

module _ (table : List ℕ) (h : Header) (k : ℕ) (fine : wrong_header h table ≡ false) (small : too_wide h k ≡ false) where
  width_few : h.width ≤ 32
  width_few = (right_header h table fine).at_most_32

  module _ (s : Seek) (g : Sought (row_at table) h (shown h table) k s) where
    abbrev w : Walk
    w = g.on.walk

    abbrev shows : Shows (row_at table) k s w
    shows = g.on.shows

    -- where the seek stops, the walk of the way of k ends
    pub seek_ends : 0 < h.count → SeekEnds (row_at table) h (shown h table) k s (end_at (row_at table) h.count k s)
    seek_ends some = go (ltb (row_of s) h.count) refl
      where
        EndsAt : ℕ → Type 0
        EndsAt i = SeekEnds (row_at table) h (shown h table) k s (end_of s k (row_at table i))

        not_passed : row_of s < h.count → passes s k (row_at table (row_of s)).entry.key ≡ false
        not_passed used = rw (lt-ltb (row_of s) h.count used) at g.stopped

        there : row_of s < h.count → EndsAt w.row
        there used =
            ends_here (row_at table) k s w shows h (shown h table) g.on.walking (rw (← shows.row) used)
            (subst (λ (i : ℕ). passes s k (row_at table i).entry.key ≡ false) shows.row (not_passed used))

        go : (b : Bool) → ltb (row_of s) h.count ≡ b
            → SeekEnds (row_at table) h (shown h table) k s (if b then end_of s k (row_at table (row_of s)) else damage)
        go true e = subst EndsAt (sym shows.row) (there (ltb-true _ _ e))
        go false e = ends_outside (row_at table) k s w shows h (shown h table) g.on.walking some (ltb-false _ _ e)

    pub tail_few : s.tail ≤ s.mask
    tail_few = omega (arith, shows.tail, shows.mask, mod-lt k (pow_pos w.bits))

    pub mask_few : bits_left_by s.mask ≤ h.width
    mask_few =
        let bits_so : bits_left_by s.mask ≡ w.bits
        = ap bits_left_by shows.mask ∙ Between.bits_are w.bits (le_trans g.on.walking.fits width_few) in
        rw bits_so g.on.walking.fits

    pub between_few : s.between ≤ s.word
    between_few = omega (arith, shows.between, shows.word)

    pub tail_less : s.tail ≤ s.word
    tail_less = rw (shows.word, shows.tail) (mod-le k (2 ^ w.bits))

  module _ (s : Seek) (e : End) (g : SeekEnds (row_at table) h (shown h table) k s e) where
    few : g.walk.bits ≤ 32
    few = le_trans g.walked.walking.fits width_few

    pub bits_are : bits_left_by s.mask ≡ g.walk.bits
    bits_are = ap bits_left_by g.mask ∙ Between.bits_are g.walk.bits few

    -- the place of the seek's next row is where the walk is
    pub place_stands : Stands (place_of s k) g.walk
    place_stands =
        let parts : k / 2 ^ g.walk.bits * 2 ^ g.walk.bits + k % 2 ^ g.walk.bits ≡ k = split k g.walk.bits in
        let path_is : k - s.tail ≡ k / 2 ^ g.walk.bits * 2 ^ g.walk.bits = omega (arith, g.tail) in
        record {
          row = g.row;
          mask = g.mask;
          path = rw g.path path_is;
          low = omega (arith, g.between);
          few = few;
          room =
              rw (path_is, g.mask)
              (lt_of_lt_of_le (last_small k g.walk.bits h.width g.walked.walking.fits (narrow h k small)) (pow_mono width_few));
        }
