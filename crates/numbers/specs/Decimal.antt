-- A decimal number in a text, from the bytes of the text.
-- Document 01: "A number is 1 to 10 digits, no leading zero but for 0 itself, at most 4,294,967,295."
use Rattle.std.specs.Prelude.{ℕ, ◌+◌, ◌*◌, ◌-◌, ◌≤◌, ◌≡◌, Bool, true, false, cond, not, ◌&&◌, List, [], ◌∷◌, leb, eqb, length, Option, Some, None}

-- the digits `0` to `9`
abbrev pub is_digit : ℕ → Bool
is_digit b = leb 48 b && leb b 57

unfoldable pub are_digits : List ℕ → Bool
are_digits [] = true
are_digits (d ∷ ds) = is_digit d && are_digits ds

-- the number that digits spell after digits that spell n
unfoldable pub spelt : ℕ → List ℕ → ℕ
spelt n [] = n
spelt n (d ∷ ds) = spelt (n * 10 + (d - 48)) ds

-- a 0 with more after it
abbrev pub leads_with_zero : List ℕ → Bool
leads_with_zero [] = false
leads_with_zero (d ∷ []) = false
leads_with_zero (d ∷ e ∷ ds) = eqb d 48

unfoldable pub is_number : List ℕ → Bool
is_number ds =
    leb 1 (length ds) && (leb (length ds) 10 && (not (leads_with_zero ds) && (are_digits ds && leb (spelt 0 ds) 4294967295)))

-- what a text reads as
unfoldable pub read_number : List ℕ → Option ℕ
read_number ds = cond (is_number ds) (Some (spelt 0 ds)) None

-- The rule as a proposition, a field for each clause. A text reads as n exactly when it spells n: `read_spells` and `spells_read`, proofs/Laws.
pub record SpellsNumber (n : ℕ) (ds : List ℕ) : Type 0 where
  pub some : 1 ≤ length ds
  pub few : length ds ≤ 10
  pub digits : are_digits ds ≡ true
  pub plain : leads_with_zero ds ≡ false
  pub value : spelt 0 ds ≡ n
  pub most : n ≤ 4294967295
