-- When a text reads as a number, test by test and as a whole.
use Prim.Native.Nat.{ℕ, ◌≤◌, ◌<◌}
use mathlib.Core.Path.{◌≡◌, refl, ap, ◌∙◌}
use mathlib.Core.Bool.{Bool, true, false, not, ◌&&◌, false≢true}
use mathlib.Core.List.{List, [], ◌∷◌}
use native.Mathlib.Omega.{arith}
use borrow.Author.Tests.{le-leb, lt-leb, leb-true}
use lib.Dec.{leb, eqb}
use lib.ListN.{length, get_or}
use Rattle.std.specs.Prelude.{Some, None}
use Rattle.numbers.specs.Decimal.{is_digit, are_digits, spelt, leads_with_zero, is_number, read_number, SpellsNumber}

pub digit_is : (d : ℕ) → 48 ≤ d → d ≤ 57 → is_digit d ≡ true
digit_is d l h = simp (le-leb 48 d l, le-leb d 57 h)

pub none_given : (ds : List ℕ) → length ds ≡ 0 → read_number ds ≡ None
unfolding read_number is_number
none_given ds h = simp (lt-leb 1 (length ds) (omega arith))

pub too_many : (ds : List ℕ) → 10 < length ds → read_number ds ≡ None
unfolding read_number is_number
too_many ds h = simp (le-leb 1 (length ds) (omega arith), lt-leb (length ds) 10 h)

pub one_digit : (ds : List ℕ) → length ds ≤ 1 → leads_with_zero ds ≡ false
one_digit [] h = refl
one_digit (d ∷ []) h = refl
one_digit (d ∷ e ∷ ds) h = absurd (omega arith)

pub digits_more : (ds : List ℕ) → 1 < length ds → leads_with_zero ds ≡ eqb (get_or ds 0 0) 48
digits_more [] h = absurd (omega arith)
digits_more (d ∷ []) h = absurd (omega arith)
digits_more (d ∷ e ∷ ds) h = refl

module _ (ds : List ℕ) (some : 1 ≤ length ds) (few : length ds ≤ 10) where
  pub zero_leads : leads_with_zero ds ≡ true → read_number ds ≡ None
  unfolding read_number is_number
  zero_leads z = simp (le-leb 1 (length ds) some, le-leb (length ds) 10 few, z)

  module _ (plain : leads_with_zero ds ≡ false) where
    pub other_bytes : are_digits ds ≡ false → read_number ds ≡ None
    unfolding read_number is_number
    other_bytes f = simp (le-leb 1 (length ds) some, le-leb (length ds) 10 few, plain, f)

    pub number_is : are_digits ds ≡ true → spelt 0 ds ≤ 4294967295 → read_number ds ≡ Some (spelt 0 ds)
    unfolding read_number is_number
    number_is t l = simp (le-leb 1 (length ds) some, le-leb (length ds) 10 few, plain, t, le-leb (spelt 0 ds) 4294967295 l)

both_true : (a b : Bool) → (a && b) ≡ true → (a ≡ true) × (b ≡ true)
both_true true b e = (refl, e)
both_true false b e = absurd (false≢true e)

not_true : (a : Bool) → not a ≡ true → a ≡ false
not_true true e = absurd (false≢true e)
not_true false e = refl

number_parts : (ds : List ℕ) → is_number ds ≡ true → SpellsNumber (spelt 0 ds) ds
unfolding is_number
number_parts ds e =
    let below = leb (spelt 0 ds) 4294967295 in
    let a = both_true (leb 1 (length ds)) (leb (length ds) 10 && (not (leads_with_zero ds) && (are_digits ds && below))) e in
    let b = both_true (leb (length ds) 10) (not (leads_with_zero ds) && (are_digits ds && below)) a.1 in
    let c = both_true (not (leads_with_zero ds)) (are_digits ds && below) b.1 in
    let d = both_true (are_digits ds) below c.1 in
    record {
      some = leb-true 1 (length ds) a.0;
      few = leb-true (length ds) 10 b.0;
      digits = d.0;
      plain = not_true (leads_with_zero ds) c.0;
      value = refl;
      most = leb-true (spelt 0 ds) 4294967295 d.1;
    }

-- a text that reads as n spells n
pub read_spells : (ds : List ℕ) {n : ℕ} → read_number ds ≡ Some n → SpellsNumber n ds
unfolding read_number
read_spells ds {n} e = by_cases (is_number ds) refl
  where
    by_cases : (t : Bool) → is_number ds ≡ t → SpellsNumber n ds
    by_cases true t = let same : spelt 0 ds ≡ n = cc (rw t at e) in rw same at (number_parts ds t)
    by_cases false f = let none : None ≡ Some n = rw f at e in let z : ◌≡◌ {A = ℕ} 0 1 = cc in absurd (omega arith)

-- a text that spells n reads as n
pub spells_read : (ds : List ℕ) {n : ℕ} → SpellsNumber n ds → read_number ds ≡ Some n
spells_read ds {n} s = number_is ds s.some s.few s.plain s.digits (rw s.value s.most) ∙ ap Some s.value
