-- The bits of a block. Document 02 §9: "Input is 2,500 bytes, highest bit first."
use Rattle.std.specs.Prelude.{ℕ, ◌/◌, ◌%◌, List, [], ◌∷◌, ◌++◌}

-- the eight bits of a byte
abbrev pub byte_bits : ℕ → List ℕ
byte_bits b = b / 128 % 2 ∷ b / 64 % 2 ∷ b / 32 % 2 ∷ b / 16 % 2 ∷ b / 8 % 2 ∷ b / 4 % 2 ∷ b / 2 % 2 ∷ b % 2 ∷ []

-- the bits of a list of bytes, in order
unfoldable pub bits : List ℕ → List ℕ
bits [] = []
bits (b ∷ bytes) = byte_bits b ++ bits bytes
