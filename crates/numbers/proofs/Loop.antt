-- The loop of `read_number`, digit by digit.
use Prim.Native.Nat.{ℕ, suc, ◌+◌, ◌*◌, ◌-◌, ◌^◌, ◌≤◌, ◌<◌}
use mathlib.Core.Path.{◌≡◌, refl, sym, ◌∙◌}
use mathlib.Core.Bool.{true, false, ◌&&◌}
use mathlib.Core.List.{List, []}
use native.Mathlib.Nat.{pow-suc, pow-le-pow_right, zero-lt-suc}
use native.Mathlib.Omega.{arith}
use borrow.Author.Tests.{le-leb, lt-leb}
use Rattle.std.proofs.Math.Nat.{lt_of_not-le}
use Rattle.std.specs.Result.{OkIff, result_ok}
use Rattle.std.specs.Prelude.{Result, Ok, Err}
use native.Mathlib.Numerals.{add-one}
use lib.ListN.{length, get_or, drop, drop_of_length-le}
use lib.Seq.{drop-cons}
use Rattle.std.specs.Prelude.{Some, None, cond, leb}
use Rattle.numbers.specs.Decimal.{is_digit, are_digits, spelt, leads_with_zero, is_number, read_number}
use Rattle.numbers.proofs.Laws.{digit_is, other_bytes}

-- the digit at i, and those after it
module _ (ds : List ℕ) (i : ℕ) (within : i < length ds) where
  pub digits_on : are_digits (drop i ds) ≡ (is_digit (get_or ds i 0) && are_digits (drop (suc i) ds))
  unfolding are_digits
  digits_on = rw (drop-cons ds i 0 within)

  pub spelt_on : (v : ℕ) → spelt v (drop i ds) ≡ spelt (v * 10 + (get_or ds i 0 - 48)) (drop (suc i) ds)
  unfolding spelt
  spelt_on v = rw (drop-cons ds i 0 within)

-- i digits spell a number below 10 ^ i
pub below_next : (v d i : ℕ) → v < 10 ^ i → d ≤ 57 → v * 10 + (d - 48) < 10 ^ suc i
below_next v d i h l = rw (pow-suc 10 i) (omega arith)

-- the invariant: the first i digits spell v, and nothing so far says that the text is no number
pub record ReadLoop (ds : List ℕ) (v i : ℕ) : Type 0 where
  pub some : 1 ≤ length ds
  pub few : length ds ≤ 10
  pub plain : leads_with_zero ds ≡ false
  pub within : i ≤ length ds
  pub small : v < 10 ^ i
  pub value : spelt v (drop i ds) ≡ spelt 0 ds
  pub digits : are_digits (drop i ds) ≡ are_digits ds

pub at_start : (ds : List ℕ) → 1 ≤ length ds → length ds ≤ 10 → leads_with_zero ds ≡ false → ReadLoop ds 0 0
at_start ds some few plain =
    record { some = some; few = few; plain = plain; within = omega arith; small = omega arith; value = refl; digits = refl }

module _ {ds : List ℕ} {v i : ℕ} (s : ReadLoop ds v i) where
  module _ (more : i < length ds) where
    -- at a byte that is no digit
    pub at_other_byte : is_digit (get_or ds i 0) ≡ false → read_number ds ≡ None
    at_other_byte f =
        let e : are_digits ds ≡ false = sym s.digits ∙ digits_on ds i (omega arith) ∙ rw f in
        other_bytes ds s.some s.few s.plain e

    -- at a digit
    pub after_digit : 48 ≤ get_or ds i 0 → get_or ds i 0 ≤ 57 → ReadLoop ds (v * 10 + (get_or ds i 0 - 48)) (i + 1)
    after_digit l h =
        let inside : i < length ds = omega arith in
        rw add-one
        (record {
          some = s.some;
          few = s.few;
          plain = s.plain;
          within = omega arith;
          small = below_next v (get_or ds i 0) i s.small h;
          value = sym (spelt_on ds i inside v) ∙ s.value;
          digits = rw (digit_is (get_or ds i 0) l h) at (sym (digits_on ds i inside)) ∙ s.digits;
        })

    pub next_fits : v < 1000000000
    next_fits =
        let l : i ≤ 9 = omega arith in
        let p : 10 ^ i ≤ 10 ^ 9 = pow-le-pow_right (zero-lt-suc 9) l in
        omega arith

  -- after the last digit
  module _ (end : length ds ≤ i) where
    done : drop i ds ≡ []
    done = let h : length ds ≤ i = omega arith in drop_of_length-le ds h

    all_digits : are_digits ds ≡ true
    unfolding are_digits
    all_digits = rw done at (sym s.digits)

    all_spelt : spelt 0 ds ≡ v
    unfolding spelt
    all_spelt = rw done at (sym s.value)

    -- what is left is whether the number is small enough
    pub ends : read_number ds ≡ cond (leb v 4294967295) (Some v) None
    unfolding read_number is_number
    ends =
        rw (all_spelt, all_digits)
        (simp (le-leb 1 (length ds) s.some, le-leb (length ds) 10 s.few, s.plain))

-- what `u32::try_from` gives
pub narrowed : {E : Type 0} (v : ℕ) (r : Result ℕ E) → OkIff r (v < 4294967296) v → result_ok r ≡ cond (leb v 4294967295) (Some v) None
narrowed v (Ok x) (small, same) = simp (same, le-leb v 4294967295 (omega arith))
narrowed v (Err e) large = simp (lt-leb v 4294967295 (lt_of_not-le (λ few. large (omega (arith, few)))))
