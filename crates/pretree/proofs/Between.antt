-- The numbers of a seek. The distance of a key from a word tells whether the key has the bits of the word's path.
use Prim.Native.Nat.{ℕ, suc, ◌+◌, ◌*◌, ◌-◌, ◌/◌, ◌%◌, ◌^◌, ◌≤◌, ◌<◌}
use mathlib.Core.Path.{◌≡◌}
use native.Mathlib.Nat.{suc-mul, mod-lt, div-eq_of_lt-le, add_comm, pow-suc}
use native.Mathlib.Numerals.{add-one}
use native.Mathlib.Omega.{arith}
use lib.Bits.{bit_and, and_mask}
use lib.Count.{count_leading_zeros, leading_unique}
use lib.Dec.{ltb}
use lib.Pow.{split, pow_pos, ones_lt, mod-pow-add, mod-mod-pow}
use borrow.Author.Tests.{lt-ltb, le-ltb}
use Rattle.std.specs.Prelude.{if◌then◌else◌}
use Rattle.ordered.specs.Word.{Side, left, right, bit_of, side}
use Rattle.ordered.proofs.Bits.{next_bit}
use Rattle.pretree.specs.Seek.{bits_left_by}

-- The words with the bits of k's path, where b bits are left, are 2 ^ b words from k / 2 ^ b * 2 ^ b on. k itself comes after k % 2 ^ b of them.
module _ (k key b : ℕ) where
  of_part : k / 2 ^ b * 2 ^ b ≤ key → key < k / 2 ^ b * 2 ^ b + 2 ^ b → key / 2 ^ b ≡ k / 2 ^ b
  of_part from to = div-eq_of_lt-le (2 ^ b) from (rw (add-one (k / 2 ^ b), suc-mul (k / 2 ^ b) (2 ^ b)) to)

  in_part : key / 2 ^ b ≡ k / 2 ^ b → (k / 2 ^ b * 2 ^ b ≤ key) × (key < k / 2 ^ b * 2 ^ b + 2 ^ b)
  in_part e =
      let whole : k / 2 ^ b * 2 ^ b + key % 2 ^ b ≡ key = rw e at (split key b) in
      let rest : key % 2 ^ b < 2 ^ b = mod-lt key (pow_pos b) in
      (omega arith, omega arith)

  -- a key less than k is one of them if and only if fewer than k % 2 ^ b words are between it and k
  pub below_in : key < k → k - 1 - key < k % 2 ^ b → key / 2 ^ b ≡ k / 2 ^ b
  below_in less few =
      let whole : k / 2 ^ b * 2 ^ b + k % 2 ^ b ≡ k = split k b in
      let rest : k % 2 ^ b < 2 ^ b = mod-lt k (pow_pos b) in
      of_part (omega arith) (omega arith)

  pub below_few : key < k → key / 2 ^ b ≡ k / 2 ^ b → k - 1 - key < k % 2 ^ b
  below_few less e =
      let whole : k / 2 ^ b * 2 ^ b + k % 2 ^ b ≡ k = split k b in
      let from : k / 2 ^ b * 2 ^ b ≤ key = (in_part e).0 in
      omega arith

  -- a key of k or more is one of them if and only if it is not past the last of them
  pub above_in : k ≤ key → key - k ≤ 2 ^ b - 1 - k % 2 ^ b → key / 2 ^ b ≡ k / 2 ^ b
  above_in past near =
      let whole : k / 2 ^ b * 2 ^ b + k % 2 ^ b ≡ k = split k b in
      let rest : k % 2 ^ b < 2 ^ b = mod-lt k (pow_pos b) in
      of_part (omega arith) (omega arith)

  pub above_near : k ≤ key → key / 2 ^ b ≡ k / 2 ^ b → key - k ≤ 2 ^ b - 1 - k % 2 ^ b
  above_near past e =
      let whole : k / 2 ^ b * 2 ^ b + k % 2 ^ b ≡ k = split k b in
      let to : key < k / 2 ^ b * 2 ^ b + 2 ^ b = (in_part e).1 in
      omega arith

-- half a mask has one bit less
pub half_mask : (m : ℕ) → (2 ^ suc m - 1) / 2 ≡ 2 ^ m - 1
half_mask m =
    let one_more : 2 ^ suc m ≡ 2 ^ m * 2 = pow-suc 2 m in
    let some : 0 < 2 ^ m = pow_pos m in
    omega arith

rest_is : (m k : ℕ) → k % 2 ^ suc m ≡ bit_of (side m k) * 2 ^ m + k % 2 ^ m
rest_is m k = rw (← go (side m k) (next_bit m k)) (rw (add_comm 1 m, add-one m) at (mod-pow-add k 1 m))
  where
    go : (s : Side) → k / 2 ^ m ≡ (k / 2 ^ suc m) * 2 + bit_of s → k / 2 ^ m % 2 ≡ bit_of s
    go left e = omega arith
    go right e = omega arith

-- the top bit of the remaining bits says the turn
pub turns_so : (m k : ℕ) → (if ltb ((2 ^ suc m - 1) / 2) (k % 2 ^ suc m) then right else left) ≡ side m k
turns_so m k = rw (half_mask m, rest_is m k) (go (side m k))
  where
    low : k % 2 ^ m < 2 ^ m
    low = mod-lt k (pow_pos m)

    go : (s : Side) → (if ltb (2 ^ m - 1) (bit_of s * 2 ^ m + k % 2 ^ m) then right else left) ≡ s
    go left = let small : 0 * 2 ^ m + k % 2 ^ m ≤ 2 ^ m - 1 = omega (arith, low) in rw (le-ltb _ _ small)
    go right = let large : 2 ^ m - 1 < 1 * 2 ^ m + k % 2 ^ m = omega (arith, pow_pos m) in rw (lt-ltb _ _ large)

-- without the top bit these are the remaining bits one row further down
pub next_rest : (m k : ℕ) → bit_and (k % 2 ^ suc m) ((2 ^ suc m - 1) / 2) ≡ k % 2 ^ m
next_rest m k = rw (half_mask m, and_mask (k % 2 ^ suc m) m) (rw (add_comm 1 m, add-one m) at (mod-mod-pow k 1 m))

-- the bits left are the ones of the mask
pub bits_are : (b : ℕ) → b ≤ 32 → bits_left_by (2 ^ b - 1) ≡ b
bits_are b few =
    let some : 0 < 2 ^ b = pow_pos b in
    let zeros : 32 - b ≡ count_leading_zeros 32 (2 ^ b - 1) = leading_unique 32 (2 ^ b - 1) (32 - b) b (omega arith) (ones_lt b) (omega arith) in
    rw (← zeros) (omega arith)
