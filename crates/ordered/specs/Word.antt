-- Words and their bits, for every width W.
-- Document 01: "At depth d, d below W, the bit that decides is bit W−1−d of the key, the highest first. 0 goes left, 1 goes right."
-- We count the bits left, m = W − d, instead of the depth, because recursion can then go down on m.
use Rattle.std.specs.Prelude.{ℕ, zero, suc, ◌/◌, ◌%◌, ◌^◌, Bool, true, false}

pub data Side : Type 0 where
  left right : Side

-- "0 goes left, 1 goes right"
abbrev pub side_of : ℕ → Side
side_of zero = left
side_of (suc b) = right

abbrev pub bit_of : Side → ℕ
bit_of left = 0
bit_of right = 1

-- the side to which k goes at a row with m + 1 bits left. The bit that decides is bit m: bit W−1−d, where m + 1 = W − d.
unfoldable pub side : ℕ → ℕ → Side
side m k = side_of (k / 2 ^ m % 2)

abbrev pub other : Side → Side
other left = right
other right = left

abbrev pub is_side : Side → Side → Bool
is_side left left = true
is_side left right = false
is_side right left = false
is_side right right = true
