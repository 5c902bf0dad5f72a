-- Laws of words and their bits: the bits of a path, the next bit, and the order of words by their paths.
use Prim.Native.Nat.{ℕ, zero, suc, ◌+◌, ◌*◌, ◌/◌, ◌%◌, ◌^◌, ◌≤◌, ◌<◌}
use mathlib.Core.Path.{◌≡◌, refl}
use mathlib.Core.Logic.{◌↔◌}
use native.Mathlib.Nat.{div-one, div-eq_of_lt, lt_of_not-le, div-lt_iff_lt-mul, one-mul}
use native.Mathlib.Numerals.{add-one}
use native.Mathlib.Omega.{arith}
use lib.Pow.{pow_pos, shr-shr, shr_mono}
use Rattle.ordered.specs.Word.{Side, left, right, side_of, bit_of, side}

bit_of_side : (b : ℕ) → b < 2 → bit_of (side_of b) ≡ b
bit_of_side zero h = refl
bit_of_side (suc b) h = omega arith

same_bit : (s t : Side) → bit_of s ≡ bit_of t → s ≡ t
same_bit left left e = refl
same_bit left right e = cc
same_bit right left e = cc
same_bit right right e = refl

bit_small : (s : Side) → bit_of s < 2
bit_small left = omega arith
bit_small right = omega arith

-- the path one bit shorter
shorter : (m k : ℕ) → k / 2 ^ m / 2 ≡ k / 2 ^ suc m
shorter m k = rw (← add-one m) (shr-shr k m 1)

-- the path of a word is its path one row above, followed by its deciding bit there
pub next_bit : (m k : ℕ) → k / 2 ^ m ≡ (k / 2 ^ suc m) * 2 + bit_of (side m k)
unfolding side
next_bit m k =
    let small : k / 2 ^ m % 2 < 2 = omega arith in
    rw (bit_of_side, ← shorter m k) (omega arith)

module _ (m k path : ℕ) (s : Side) where
  -- a word is on the path of a part if it is on the path of the row and its deciding bit goes to that side
  pub to_part : k / 2 ^ suc m ≡ path → side m k ≡ s → k / 2 ^ m ≡ path * 2 + bit_of s
  to_part above turn = cc (next_bit m k)

  -- and only then
  pub from_part : k / 2 ^ m ≡ path * 2 + bit_of s → k / 2 ^ suc m ≡ path
  from_part on = omega (arith, next_bit m k, bit_small s, bit_small (side m k))

  pub side_of_part : k / 2 ^ m ≡ path * 2 + bit_of s → side m k ≡ s
  side_of_part on = same_bit (side m k) s (omega (arith, next_bit m k, bit_small s, bit_small (side m k)))

-- words are ordered by their paths
pub by_paths : (m j k : ℕ) → j / 2 ^ m < k / 2 ^ m → j < k
by_paths m j k h = lt_of_not-le (λ (over : k ≤ j). omega (arith, shr_mono m over))

-- words on the path of a row's left part are less than words on the path of its right part
pub left_below_right : (m path j k : ℕ) → j / 2 ^ m ≡ path * 2 + bit_of left → k / 2 ^ m ≡ path * 2 + bit_of right → j < k
left_below_right m path j k on_left on_right = by_paths m j k (omega arith)

-- of two words on the path of a row, the one that goes left is less than the one that goes right
pub by_sides : (m j k : ℕ) → j / 2 ^ suc m ≡ k / 2 ^ suc m → side m j ≡ left → side m k ≡ right → j < k
by_sides m j k same GoesLeft goes_right =
    let path : ℕ = k / 2 ^ suc m in
    left_below_right m path j k (to_part m j path left same GoesLeft) (to_part m k path right refl goes_right)

-- with no bit left the path is the whole word
pub whole_path : (k : ℕ) → k / 2 ^ 0 ≡ k
whole_path k = div-one k

-- a word has W bits if and only if it is on the root's path
pub on_root_path : (W k : ℕ) → k < 2 ^ W ↔ k / 2 ^ W ≡ 0
on_root_path W k = (λ small. div-eq_of_lt small, λ on. small on)
  where
    small : k / 2 ^ W ≡ 0 → k < 2 ^ W
    small on =
        let few : k / 2 ^ W < 1 = omega arith in
        rw one-mul at ((div-lt_iff_lt-mul (pow_pos W)).0 few)
