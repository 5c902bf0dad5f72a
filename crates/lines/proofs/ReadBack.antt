-- A number that is written reads back as itself.
use Prim.Native.Nat.{ℕ, ◌+◌, ◌*◌, ◌-◌, ◌/◌, ◌%◌, ◌≤◌}
use mathlib.Core.Path.{◌≡◌, refl, ◌∙◌}
use mathlib.Core.Bool.{true, false}
use mathlib.Core.List.{List, [], ◌∷◌, ◌++◌}
use mathlib.Core.Logic.{⊎_elim}
use native.Mathlib.Omega.{arith}
use borrow.Author.Tests.{ne_eqb, ltb-true, ltb-false}
use lib.Dec.{ltb}
use lib.ListN.{get_or, get_or-append}
use Rattle.std.specs.Prelude.{Some}
use Rattle.numbers.specs.Decimal.{is_digit, are_digits, spelt, leads_with_zero, read_number}
use Rattle.numbers.proofs.Laws.{digit_is, one_digit, digits_more, number_is}
use Rattle.lines.specs.Render.{digit, digits}
use Rattle.std.proofs.lemmas.Bool.{cases_Bool}
use Rattle.lines.proofs.Digits.{last_digit, more_digits, by_digits, last_places, more_places, some_places, word_places}

spelt_last : (v : ℕ) (ds : List ℕ) (d : ℕ) → spelt v (ds ++ d ∷ []) ≡ spelt v ds * 10 + (d - 48)
unfolding spelt
spelt_last v [] d = refl
spelt_last v (e ∷ ds) d = spelt_last (v * 10 + (e - 48)) ds d

digits_last : (ds : List ℕ) (d : ℕ) → are_digits ds ≡ true → is_digit d ≡ true → are_digits (ds ++ d ∷ []) ≡ true
unfolding are_digits
digits_last [] d a h = simp h
digits_last (e ∷ ds) d a h =
    ⊎_elim
    (λ (t : is_digit e ≡ true). rw t (digits_last ds d (rw t at a) h))
    (λ (f : is_digit e ≡ false). rw f (rw f at a))
    (cases_Bool (is_digit e))

pub all_spelt : (n : ℕ) → spelt 0 (digits n) ≡ n
unfolding spelt
all_spelt =
    by_digits (λ n. spelt 0 (digits n) ≡ n)
    (λ n h. rw (last_digit n h) (omega arith))
    (λ n h e. rw (more_digits n h, spelt_last 0 (digits (n / 10)) (digit (n % 10)), e) (omega arith))

pub all_digits : (n : ℕ) → are_digits (digits n) ≡ true
unfolding are_digits
all_digits =
    by_digits (λ n. are_digits (digits n) ≡ true)
    (λ n h. rw (last_digit n h) (simp (digit_is (digit n) (omega arith) (omega arith))))
    (λ n h a. rw (more_digits n h) (digits_last (digits (n / 10)) (digit (n % 10)) a (digit_is (digit (n % 10)) (omega arith) (omega arith))))

first_digit : (n : ℕ) → 1 ≤ n → 49 ≤ get_or (digits n) 0 0
first_digit =
    by_digits (λ n. 1 ≤ n → 49 ≤ get_or (digits n) 0 0)
    (λ n h l. rw (last_digit n h) (omega arith))
    (λ n h f l. rw (more_digits n h, get_or-append (digits (n / 10)) (digit (n % 10) ∷ []) 0 0 (some_places (n / 10))) (f (omega arith)))

no_leading_zero : (n : ℕ) → leads_with_zero (digits n) ≡ false
no_leading_zero n =
    ⊎_elim
    (λ (t : ltb n 10 ≡ true). one_digit (digits n) (omega (arith, last_places n (ltb-true n 10 t))))
    (λ (f : ltb n 10 ≡ false).
    let m : 10 ≤ n = ltb-false n 10 f in
    digits_more (digits n) (omega (arith, more_places n m, some_places (n / 10)))
    ∙ ne_eqb (get_or (digits n) 0 0) 48 (λ e. omega (arith, first_digit n (omega arith))))
    (cases_Bool (ltb n 10))

pub reads_back : (n : ℕ) → n ≤ 4294967295 → read_number (digits n) ≡ Some n
reads_back n h =
    let r = number_is (digits n) (some_places n) (word_places n (omega arith)) (no_leading_zero n) (all_digits n) (rw (all_spelt n) h) in
    rw (all_spelt n) at r
