-- How many of the first bytes of two words agree, read from the bits in which the words differ.
use Rattle.std.proofs.Common.{◌≡◌, ℕ, zero, suc, ◌+◌, ◌*◌, ◌/◌, ◌%◌, ◌<◌, cond, List, [], ◌∷◌, refl, sym, ap, ◌∙◌, arith, length, get_or, inl, inr}
use Rattle.std.specs.Prelude.{bit_xor}
use Rattle.std.specs.Int.{w64, from_le_bytes}
use mathlib.Core.Logic.{◌⊎◌, ◌≢◌}
use Rattle.std.specs.Int.Count.{count_trailing_zeros, under}
use Rattle.std.specs.Int.Bits.{xor_self, xor_add_and}
use Rattle.std.proofs.lemmas.Nat.{xor_block, xor_lt, and_le_l, and_le_r}
use Rattle.std.proofs.lemmas.Bool.{cases_eq, eq-eqb, ne_eqb}
use lib.Dec.{eqb}
use Rattle.capture.specs.Capture.{agreeing}

-- the number whose digits to the base 256 are the bytes, the first the lowest
abbrev value : List ℕ → ℕ
value [] = 0
value (b ∷ bytes) = value bytes * 256 + b

-- how many bits they have
abbrev bits_of : List ℕ → ℕ
bits_of [] = zero
bits_of (b ∷ bytes) = suc (suc (suc (suc (suc (suc (suc (suc (bits_of bytes))))))))

-- a digit that is 0
even : (k n half : ℕ) → n ≡ half * 2 → count_trailing_zeros (suc k) n ≡ suc (count_trailing_zeros k half)
unfolding count_trailing_zeros
even k n half twice =
    let low : n % 2 ≡ 0 = omega arith in
    let high : n / 2 ≡ half = omega arith in
    rw (low, high) refl

-- a byte that is 0
same_byte : (k n : ℕ) → count_trailing_zeros (suc (suc (suc (suc (suc (suc (suc (suc k)))))))) (n * 256) ≡ 8 + count_trailing_zeros k n
same_byte k n =
    omega (
      arith,
      even (suc (suc (suc (suc (suc (suc (suc k))))))) (n * 256) (n * 128) (omega arith),
      even (suc (suc (suc (suc (suc (suc k)))))) (n * 128) (n * 64) (omega arith),
      even (suc (suc (suc (suc (suc k))))) (n * 64) (n * 32) (omega arith),
      even (suc (suc (suc (suc k)))) (n * 32) (n * 16) (omega arith),
      even (suc (suc (suc k))) (n * 16) (n * 8) (omega arith),
      even (suc (suc k)) (n * 8) (n * 4) (omega arith),
      even (suc k) (n * 4) (n * 2) (omega arith),
      even k (n * 2) n (omega arith),
    )

-- a digit, and the rest where it is 0
below : (j k n : ℕ) → (n % 2 ≡ 0 → count_trailing_zeros k (n / 2) < j) → count_trailing_zeros (suc k) n < suc j
unfolding count_trailing_zeros
below j k n rest = at (n % 2) rest
  where
    at : (d : ℕ) → (d ≡ 0 → count_trailing_zeros k (n / 2) < j) → under d (count_trailing_zeros k (n / 2)) < suc j
    at zero rest = omega (arith, rest refl)
    at (suc d) rest = omega arith

-- a byte that is not 0
other_byte : (k n : ℕ) → 0 < n % 256 → count_trailing_zeros (suc (suc (suc (suc (suc (suc (suc (suc k)))))))) n < 8
other_byte k n some =
    below _ _ n (λ a. below _ _ (n / 2) (λ b. below _ _ (n / 2 / 2) (λ c. below _ _ (n / 2 / 2 / 2) (λ d. below _ _ (n / 2 / 2 / 2 / 2) (λ e.
    below _ _ (n / 2 / 2 / 2 / 2 / 2) (λ f. below _ _ (n / 2 / 2 / 2 / 2 / 2 / 2) (λ g. below _ _ (n / 2 / 2 / 2 / 2 / 2 / 2 / 2) (λ h. absurd (omega arith)))))))))

-- Bytes that are not the same differ in a bit.
differ : (b e : ℕ) → b ≢ e → 0 < bit_xor b e
differ b e other = elim (cases_eq (bit_xor b e) 0) [
  | inl none ↦ absurd (other (omega (arith, xor_add_and b e, and_le_l b e, and_le_r b e)))
  | inr some ↦ omega arith
]

abbrev pub Bytes : List ℕ → Type 0
Bytes l = (i : ℕ) → get_or l i 0 < 256

-- Each byte that agrees gives eight zeros at the low end, and the first that differs ends them.
by_bits : (new earlier : List ℕ) → length new ≡ length earlier → Bytes new → Bytes earlier
    → count_trailing_zeros (bits_of new) (bit_xor (value new) (value earlier)) / 8 ≡ agreeing new earlier
unfolding agreeing count_trailing_zeros
by_bits [] [] long n e = refl
by_bits [] (c ∷ earlier) long n e = absurd (omega arith)
by_bits (b ∷ new) [] long n e = absurd (omega arith)
by_bits (b ∷ new) (c ∷ earlier) long n e =
    let rest = by_bits new earlier (omega arith) (λ i. n (suc i)) (λ i. e (suc i)) in
    let digits = xor_block 8 (value new) (value earlier) b c (n 0) (e 0) in
    at (cases_eq b c) rest digits
  where
    at : (b ≡ c) ⊎ (b ≢ c) → count_trailing_zeros (bits_of new) (bit_xor (value new) (value earlier)) / 8 ≡ agreeing new earlier
        → bit_xor (value new * 256 + b) (value earlier * 256 + c) ≡ bit_xor (value new) (value earlier) * 256 + bit_xor b c
        → count_trailing_zeros (bits_of (b ∷ new)) (bit_xor (value new * 256 + b) (value earlier * 256 + c)) / 8 ≡ cond (eqb b c) (suc (agreeing new earlier)) 0
    at (inl same) rest digits =
        let none : bit_xor b c ≡ 0 = ap (λ x. bit_xor x c) same ∙ xor_self c in
        let low : bit_xor (value new * 256 + b) (value earlier * 256 + c) ≡ bit_xor (value new) (value earlier) * 256 = omega (arith, digits, none) in
        rw (eq-eqb b c same, low) (omega (arith, same_byte (bits_of new) (bit_xor (value new) (value earlier)), rest))
    at (inr other) rest digits =
        let some : 0 < (bit_xor (value new * 256 + b) (value earlier * 256 + c)) % 256 = omega (arith, digits, differ b c other, xor_lt 8 b c (n 0) (e 0)) in
        rw (ne_eqb b c other) (omega (arith, other_byte (bits_of new) (bit_xor (value new * 256 + b) (value earlier * 256 + c)) some))

-- `from_le_bytes` of eight bytes, and their bits
word_is : (bytes : List ℕ) → length bytes ≡ 8 → from_le_bytes w64 bytes ≡ value bytes
word_is (a ∷ b ∷ c ∷ d ∷ e ∷ f ∷ g ∷ h ∷ []) long =
    let digits : from_le_bytes w64 (a ∷ b ∷ c ∷ d ∷ e ∷ f ∷ g ∷ h ∷ []) ≡ a + b * 256 + c * 65536 + d * 16777216 + e * 4294967296 + f * 1099511627776 + g * 281474976710656 + h * 72057594037927936 = refl in
    omega (arith, digits)
word_is bytes long = absurd (omega arith)

word_bits : (bytes : List ℕ) → length bytes ≡ 8 → bits_of bytes ≡ 64
word_bits (a ∷ b ∷ c ∷ d ∷ e ∷ f ∷ g ∷ h ∷ []) long = refl
word_bits bytes long = absurd (omega arith)

-- The lowest bit in which two words differ stands in the first byte that differs; where none does, all 64 bits are 0.
pub agreeing_in_word : (new earlier : List ℕ) (n e : ℕ) → length new ≡ 8 → length earlier ≡ 8 → Bytes new → Bytes earlier
    → n ≡ from_le_bytes w64 new → e ≡ from_le_bytes w64 earlier → count_trailing_zeros 64 (bit_xor n e) / 8 ≡ agreeing new earlier
agreeing_in_word new earlier n e long long' bytes bytes' is_new is_earlier =
    rw (is_new ∙ word_is new long, is_earlier ∙ word_is earlier long', sym (word_bits new long)) (by_bits new earlier (omega arith) bytes bytes')
