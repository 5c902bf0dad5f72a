-- Two numbers, parted by one tab.
use Prim.Native.Nat.{ℕ, suc, ◌+◌, ◌-◌, ◌<◌}
use mathlib.Core.Path.{◌≡◌, refl, sym, ap, ◌∙◌}
use mathlib.Core.Bool.{true, false, false≢true}
use mathlib.Core.List.{List, [], ◌∷◌, ◌++◌}
use mathlib.Core.Logic.{⊎_elim}
use native.Mathlib.Omega.{arith}
use borrow.Author.Tests.{eqb-true}
use lib.Dec.{eqb}
use lib.ListN.{length, take, drop, drop_of_length-le}
use lib.Seq.{take_at, drop_at}
use Rattle.std.specs.Prelude.{None, position}
use Rattle.pretree.specs.declared.Call.{Call}
use Rattle.numbers.specs.Decimal.{is_digit, are_digits, read_number}
use Rattle.lines.specs.Text.{until_byte}
use Rattle.lines.specs.Line.{after_word, two_called, read_two}
use Rattle.std.proofs.lemmas.Bool.{cases_Bool}
use Rattle.std.proofs.lemmas.List.{take_rest}
use Rattle.lines.proofs.Finding.{is_first, until_first, until_later, until_stands}

module _ (of : ℕ → ℕ → Call) where
  -- with no tab there is no second number
  pub no_second : (rest : List ℕ) → position (λ b. eqb b 9) rest ≡ None → read_two of rest ≡ None
  unfolding read_two after_word
  no_second rest none =
      let at_end : until_byte 9 rest ≡ length rest = is_first 9 rest (sym none) in
      rw (drop_of_length-le rest {i = until_byte 9 rest} (omega arith))

  -- the numbers before and after the first tab, as the code takes its slices
  pub two_parted :
      (rest : List ℕ) (tab : ℕ) → tab ≡ until_byte 9 rest → tab < length rest
      → read_two of rest ≡ two_called of (read_number (take tab rest)) (read_number (take (length rest - (tab + 1)) (drop (tab + 1) rest)))
  unfolding read_two after_word
  two_parted rest tab found more =
      let place : suc tab ≡ tab + 1 = omega arith in
      rw (until_stands 9 rest (omega arith), ← found, place, take_rest rest (tab + 1))

no_tab : (d : ℕ) → is_digit d ≡ true → eqb d 9 ≡ false
no_tab d h =
    ⊎_elim
    (λ (t : eqb d 9 ≡ true). let same : d ≡ 9 = eqb-true d 9 t in absurd (false≢true (rw same at h)))
    (λ (f : eqb d 9 ≡ false). f)
    (cases_Bool (eqb d 9))

-- a tab after digits is the first
pub until_tab : (ds rest : List ℕ) → are_digits ds ≡ true → until_byte 9 (ds ++ 9 ∷ rest) ≡ length ds
unfolding are_digits
until_tab [] rest h = until_first 9 9 rest refl
until_tab (d ∷ ds) rest h =
    ⊎_elim
    (λ (t : is_digit d ≡ true). until_later 9 d (ds ++ 9 ∷ rest) (no_tab d t) ∙ ap suc (until_tab ds rest (rw t at h)))
    (λ (f : is_digit d ≡ false). absurd (false≢true (rw f at h)))
    (cases_Bool (is_digit d))

-- digits, a tab and a text read as the two numbers
pub reads_two :
    (of : ℕ → ℕ → Call) (ks ss : List ℕ) → are_digits ks ≡ true → read_two of (ks ++ 9 ∷ ss) ≡ two_called of (read_number ks) (read_number ss)
unfolding read_two after_word
reads_two of ks ss h =
    rw (until_tab ks ss h, take_at ks (9 ∷ ss) (length ks) refl, drop_at ks (9 ∷ ss) (length ks) refl)
