-- The digits of a number, one by one, and how many there are.
use Prim.Native.Nat.{ℕ, zero, suc, ◌/◌, ◌%◌, ◌^◌, ◌≤◌, ◌<◌}
use mathlib.Core.Path.{◌≡◌, sym, ◌∙◌}
use mathlib.Core.Bool.{true, false}
use mathlib.Core.List.{[], ◌∷◌, ◌++◌}
use mathlib.Core.Logic.{⊎_elim}
use native.Mathlib.Omega.{arith}
use borrow.Author.Tests.{lt-ltb, le-ltb, ltb-true, ltb-false}
use lib.Dec.{ltb}
use lib.ListN.{length, length-append}
use native.Mathlib.Numerals.{add-one}
use Rattle.std.specs.Fmt.{decimal}
use Rattle.std.proofs.lemmas.Fmt.{decimal_from_appends, length-decimal-le, length-decimal-le_succ}
use Rattle.lines.specs.Render.{digit, digits_within, digits}
use Rattle.std.proofs.lemmas.Bool.{cases_Bool}

-- the last digit, and the digits before it
last_within : (k n : ℕ) → n < 10 → digits_within (suc k) n ≡ digit n ∷ []
unfolding digits_within
last_within k n h = simp (lt-ltb n 10 h)

more_within : (k n : ℕ) → 10 ≤ n → digits_within (suc k) n ≡ digits_within k (n / 10) ++ digit (n % 10) ∷ []
unfolding digits_within
more_within k n h = simp (le-ltb n 10 h)

-- more places than the number itself give all its digits
enough : (k j n : ℕ) → n < k → n < j → digits_within k n ≡ digits_within j n
enough zero j n h l = absurd (omega arith)
enough (suc k) zero n h l = absurd (omega arith)
enough (suc k) (suc j) n h l =
    ⊎_elim
    (λ (t : ltb n 10 ≡ true). last_within k n (ltb-true n 10 t) ∙ sym (last_within j n (ltb-true n 10 t)))
    (λ (f : ltb n 10 ≡ false).
    let m : 10 ≤ n = ltb-false n 10 f in
    more_within k n m ∙ rw (enough k j (n / 10) (omega arith) (omega arith)) (sym (more_within j n m)))
    (cases_Bool (ltb n 10))

pub last_digit : (n : ℕ) → n < 10 → digits n ≡ digit n ∷ []
unfolding digits
last_digit n h = last_within n n h

pub more_digits : (n : ℕ) → 10 ≤ n → digits n ≡ digits (n / 10) ++ digit (n % 10) ∷ []
unfolding digits
more_digits n h = more_within n n h ∙ rw (enough n (suc (n / 10)) (n / 10) (omega arith) (omega arith))

-- induction over the digits of a number
pub by_digits : (P : ℕ → Type 0) → ((n : ℕ) → n < 10 → P n) → ((n : ℕ) → 10 ≤ n → P (n / 10) → P n) → (n : ℕ) → P n
by_digits P last more n = go (suc n) n (omega arith)
  where
    go : (k n : ℕ) → n < k → P n
    go zero n h = absurd (omega arith)
    go (suc k) n h =
        ⊎_elim
        (λ (t : ltb n 10 ≡ true). last n (ltb-true n 10 t))
        (λ (f : ltb n 10 ≡ false). more n (ltb-false n 10 f) (go k (n / 10) (omega (arith, ltb-false n 10 f))))
        (cases_Bool (ltb n 10))

pub last_places : (n : ℕ) → n < 10 → length (digits n) ≡ 1
last_places n h = rw (last_digit n h)

pub more_places : (n : ℕ) → 10 ≤ n → length (digits n) ≡ suc (length (digits (n / 10)))
more_places n h = rw (more_digits n h) (omega (arith, length-append (digits (n / 10)) (digit (n % 10) ∷ [])))

pub some_places : (n : ℕ) → 1 ≤ length (digits n)
some_places = by_digits (λ n. 1 ≤ length (digits n)) (λ n h. omega (arith, last_places n h)) (λ n h l. omega (arith, more_places n h))

-- they are what the library writes
pub digits_are : (n : ℕ) → n < 2 ^ 64 → digits n ≡ decimal n
unfolding digits
digits_are n h =
    decimal_from_appends digits_within (record { one = last_within; more = more_within }) (suc n) n h (rw add-one at (length-decimal-le_succ n h))

-- a word has at most 10 digits, and the number of a line at most 20
pub word_places : (n : ℕ) → n < 2 ^ 32 → length (digits n) ≤ 10
word_places n h = rw (digits_are n (omega arith)) (length-decimal-le 10 n (omega arith) (omega arith) (omega arith))

pub line_places : (n : ℕ) → n < 2 ^ 64 → length (digits n) ≤ 20
line_places n h = rw (digits_are n h) (length-decimal-le 20 n (omega arith) (omega arith) h)
