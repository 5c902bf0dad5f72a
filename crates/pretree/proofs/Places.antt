-- A place judges a row as the definitions do, and leads on to the place below.
use Prim.Native.Nat.{ℕ, zero, suc, ◌+◌, ◌*◌, ◌-◌, ◌/◌, ◌^◌, ◌≤◌, ◌<◌}
use mathlib.Core.Path.{◌≡◌, refl, sym, ap, ◌∙◌}
use mathlib.Core.Bool.{Bool, true, false, not, ◌&&◌, ◌||◌}
use native.Mathlib.Nat.{div-eq_of_lt, pow-suc, zero-mul}
use native.Mathlib.Omega.{arith}
use lib.Bits.{bit_xor, xor_shr, xor_self, xor_add_and, and_le_l, and_le_r}
use lib.Dec.{leb, eqb}
use lib.Pow.{pow_pos, pow_mono, shl-shr, suc_ones, le_ones, lt_of_le_ones}
use borrow.Author.Tests.{le-leb, lt-leb, ne_eqb, eqb-true, eqb-false}
use Rattle.ordered.specs.Word.{Side, left, right, bit_of}
use Rattle.ordered.proofs.Bits.{on_root_path}
use Rattle.pretree.specs.declared.Header.{Header}
use Rattle.pretree.specs.declared.Row.{Row}
use Rattle.pretree.specs.declared.leg.Place.{Place}
use Rattle.pretree.specs.Table.{entry_of, link}
use Rattle.pretree.specs.Unfold.{ends_there}
use Rattle.pretree.specs.Walk.{Walk, started, holds, passed}
use Rattle.pretree.specs.Leg.{root_place, judges, below_place, Stands}
use Rattle.pretree.specs.Seek.{bits_left_by}
use Rattle.pretree.proofs.Between.{half_mask, bits_are}

-- words that differ in no bit are the same
no_difference : (a b : ℕ) → bit_xor a b ≡ 0 → a ≡ b
no_difference a b e = omega (arith, xor_add_and a b, and_le_l a b, and_le_r a b)

module _ (key path b : ℕ) where
  abbrev differing : ℕ
  differing = bit_xor key (path * 2 ^ b)

  -- the bits above the last b
  above : differing / 2 ^ b ≡ bit_xor (key / 2 ^ b) path
  above = rw (xor_shr key (path * 2 ^ b) b, shl-shr path b)

  -- a key has the bits of a path if and only if it differs from the least word with these bits in its last b bits only
  has_path : leb differing (2 ^ b - 1) ≡ eqb (key / 2 ^ b) path
  has_path = go (eqb (key / 2 ^ b) path) refl
    where
      go : (t : Bool) → eqb (key / 2 ^ b) path ≡ t → leb differing (2 ^ b - 1) ≡ t
      go true e =
          let none : differing / 2 ^ b ≡ 0 = rw (above, eqb-true (key / 2 ^ b) path e, xor_self path) in
          le-leb differing (2 ^ b - 1) (le_ones b ((on_root_path b differing).1 none))
      go false e = lt-leb differing (2 ^ b - 1) (omega (arith, astray))
        where
          astray : differing ≤ 2 ^ b - 1 → ⊥
          astray few =
              let none : bit_xor (key / 2 ^ b) path ≡ 0 = rw (← above) (div-eq_of_lt (lt_of_le_ones b few)) in
              eqb-false (key / 2 ^ b) path e (no_difference (key / 2 ^ b) path none)

-- above depth W the mask is not 0
some_ones : (m : ℕ) → 0 < 2 ^ suc m - 1
some_ones m =
    let some : 0 < 2 ^ m = pow_pos m in
    let double : 2 ^ suc m ≡ 2 ^ m * 2 = pow-suc 2 m in
    omega arith

ends_so : (b : ℕ) (r : Row) → (not (eqb (2 ^ b - 1) 0) || (eqb r.left 0 && eqb r.right 0)) ≡ ends_there b r
ends_so zero r = refl
ends_so (suc m) r = rw (ne_eqb (2 ^ suc m - 1) 0 (λ e. omega (arith, some_ones m)))

module _ (p : Place) (w : Walk) (st : Stands p w) where
  -- the one test of a row
  pub judges_alike : (r : Row) → judges p r ≡ holds w r
  judges_alike r = rw (st.low, st.path, st.mask, has_path r.entry.key w.path w.bits, ends_so w.bits r)

  module _ (m : ℕ) (bits : w.bits ≡ suc m) where
    ones : p.mask ≡ 2 ^ suc m - 1
    ones = rw bits at st.mask

    half : p.mask / 2 ≡ 2 ^ m - 1
    half = rw ones (half_mask m)

    -- the place below the row on side s is where the walk past the row is; v is the walk w, whatever it remembers
    pub below_stands : (r : Row) (s : Side) (v : Walk) → v.bits ≡ w.bits → v.path ≡ w.path
        → Stands (below_place p r s) (passed v (entry_of r) (bit_of s) (link r s))
    below_stands r s v same_bits same_path =
        record {
          row = refl;
          mask = rw (same_bits, bits) half;
          path = rw (same_bits, same_path, bits) path_below;
          low = refl;
          few = rw (same_bits, bits) fewer;
          room = room_below s;
        }
      where
        fewer : m ≤ 32
        fewer = omega (arith, bits, st.few)

        from_here : p.path ≡ w.path * 2 ^ suc m
        from_here = rw bits at st.path

        path_below : p.path + bit_of s * suc (p.mask / 2) ≡ (w.path * 2 + bit_of s) * 2 ^ m
        path_below = rw (from_here, half, suc_ones m, pow-suc 2 m) (omega arith)

        room_below : (t : Side) → p.path + bit_of t * suc (p.mask / 2) + p.mask / 2 < 2 ^ 32
        room_below left = omega (arith, st.room)
        room_below right =
            let double : 2 ^ suc m ≡ 2 ^ m * 2 = pow-suc 2 m in
            let some : 0 < 2 ^ m = pow_pos m in
            omega (arith, st.room, ones, half)

    pub inner : 0 < p.mask
    inner = rw ones (some_ones m)

-- the bits left at a place
pub bits_there : (p : Place) (w : Walk) → Stands p w → bits_left_by p.mask ≡ w.bits
bits_there p w at = ap bits_left_by at.mask ∙ bits_are w.bits at.few

-- a walk begins at the place of the root
pub root_stands : (h : Header) → h.width ≤ 32 → Stands (root_place h.width) (started h)
root_stands h few =
    record {
      row = refl;
      mask = refl;
      path = sym (zero-mul (2 ^ h.width));
      low = refl;
      few = few;
      room = omega (arith, pow_pos h.width, pow_mono few);
    }
