-- What is known once the checks that every call makes first are passed.
use Prim.Native.Nat.{ℕ, ◌*◌, ◌%◌, ◌^◌, ◌≤◌, ◌<◌}
use mathlib.Core.Path.{◌≡◌, refl}
use mathlib.Core.Bool.{Bool, true, false, ◌||◌}
use mathlib.Core.List.{List}
use native.Mathlib.Nat.{pos_of_ne-zero, one-mul, mod-eq_of_lt}
use native.Mathlib.Omega.{arith}
use lib.Dec.{ltb, eqb}
use lib.Pow.{pow-lt}
use borrow.Author.Tests.{ltb-false, leb-false, eqb-false}
use Rattle.pretree.specs.declared.Header.{Header}
use Rattle.pretree.specs.Table.{capacity}
use Rattle.pretree.specs.Reply.{wrong_header, too_wide}

neither : (a b : Bool) → (a || b) ≡ false → (a ≡ false) × (b ≡ false)
neither true b e = (e, cc)
neither false b e = (refl, e)

-- a header that is not refused
pub record RightHeader (h : Header) (table : List ℕ) : Type 0 where
  pub some_bits : 0 < h.width
  pub at_most_32 : h.width ≤ 32
  pub has_room : h.count ≤ capacity table

pub right_header : (h : Header) (table : List ℕ) → wrong_header h table ≡ false → RightHeader h table
unfolding wrong_header
right_header h table e =
    let a = neither (eqb h.width 0 || ltb 32 h.width) (ltb (capacity table) h.count) e in
    let b = neither (eqb h.width 0) (ltb 32 h.width) a.0 in
    record {
      some_bits = pos_of_ne-zero (eqb-false h.width 0 b.0);
      at_most_32 = ltb-false 32 h.width b.1;
      has_room = ltb-false (capacity table) h.count a.1;
    }

-- shifting a one by the width loses no bit
pub shifted : (h : Header) (table : List ℕ) → wrong_header h table ≡ false → 1 * 2 ^ h.width % 2 ^ 64 ≡ 2 ^ h.width
shifted h table e =
    let few : h.width ≤ 32 = (right_header h table e).at_most_32 in
    let less : h.width < 64 = omega arith in
    let fits : 2 ^ h.width < 2 ^ 64 = pow-lt less in
    rw (one-mul, mod-eq_of_lt)

-- a word that is not refused
pub narrow : (h : Header) (k : ℕ) → too_wide h k ≡ false → k < 2 ^ h.width
unfolding too_wide
narrow h k e = leb-false (2 ^ h.width) k e
