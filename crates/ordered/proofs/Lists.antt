-- Laws of tests, of the elements of lists, and of increasing lists.
use Prim.Native.Nat.{ℕ, ◌≤◌, ◌<◌}
use mathlib.Core.Path.{◌≡◌, refl}
use mathlib.Core.Logic.{◌↔◌, ◌⊎◌, ⊎_elim}
use mathlib.Core.Bool.{Bool, true, false}
use mathlib.Core.List.{List, [], ◌∷◌, ◌++◌}
use mathlib.Core.List.Memᴰ
use native.Mathlib.Nat.{le_of_lt, lt_of_le_of_lt}
use native.Mathlib.Omega.{arith}
use lib.Dec.{ltb, eqb}
use borrow.Author.Tests.{ltb-true, ltb-false, eqb-true, eqb-false}
use Rattle.std.specs.Prelude.{if◌then◌else◌}
use Rattle.ordered.specs.Dictionary.{Above, none_above, one_above, Increasing, none_increasing, one_increasing}
use Rattle.ordered.specs.Source004.{◌∈◌}

module _ {A : Type 0} (P : A → Type 0) where
  -- to prove P of the one that a test picks, prove P of a if the test passes, and P of b if it fails
  pub by_test : (t : Bool) {a b : A} → (t ≡ true → P a) → (t ≡ false → P b) → P (if t then a else b)
  by_test true passed failed = passed refl
  by_test false passed failed = failed refl

  -- the same, for the three-way comparison of x with y
  pub by_order :
      (x y : ℕ) {a b c : A} → (x < y → P a) → (x ≡ y → P b) → (y < x → P c)
      → P (if ltb x y then a else if eqb x y then b else c)
  by_order x y less equal greater =
      by_test (ltb x y)
      (λ l. less (ltb-true x y l))
      (λ n. by_test (eqb x y) (λ e. equal (eqb-true x y e)) (λ d. greater (omega (arith, ltb-false, eqb-false))))

-- the elements of a list are its head and those of its tail
pub cons_elements : {A : Type 0} {x y : A} {s : List A} → y ∈ x ∷ s ↔ ((y ≡ x) ⊎ (y ∈ s))
cons_elements = (λ m. Memᴰ.cases_cons m, ⊎_elim (λ e. Memᴰ.head e) (λ m. Memᴰ.tail m))

-- the elements of two lists joined are those of both
pub append_elements : {A : Type 0} {y : A} (s t : List A) → y ∈ s ++ t ↔ ((y ∈ s) ⊎ (y ∈ t))
append_elements s t = (Memᴰ.append_cases s, ⊎_elim (Memᴰ.append_left t) (Memᴰ.append_right s))

pub above_less : {x y : ℕ} {s : List ℕ} → Above x s → y ∈ s → x < y
above_less none_above m = elim m [ ]
above_less (one_above h a) (Memᴰ.head e) = omega arith
above_less (one_above h a) (Memᴰ.tail m) = above_less a m

pub less_above : {x : ℕ} (s : List ℕ) → ((y : ℕ) → y ∈ s → x < y) → Above x s
less_above [] h = none_above
less_above (y ∷ ys) h = one_above (h y (Memᴰ.head refl)) (less_above ys (λ z m. h z (Memᴰ.tail m)))

-- a list above y is above every smaller x
pub above_smaller : {x y : ℕ} {s : List ℕ} → x ≤ y → Above y s → Above x s
above_smaller {s} l a = less_above s (λ z m. lt_of_le_of_lt l (above_less a m))

-- the head of an increasing list is its least element
pub head_least : {x y : ℕ} {s : List ℕ} → Above x s → y ∈ x ∷ s → x ≤ y
head_least a m = ⊎_elim (λ e. omega arith) (λ n. le_of_lt (above_less a n)) (Memᴰ.cases_cons m)

-- two increasing lists joined are increasing, if every element of the first is less than every element of the second
append_increasing :
    {s t : List ℕ} → Increasing s → Increasing t → ((x y : ℕ) → x ∈ s → y ∈ t → x < y) → Increasing (s ++ t)
append_increasing none_increasing k across = k
append_increasing {t} (one_increasing {x} {xs} a h) k across =
    one_increasing above (append_increasing h k (λ y z m n. across y z (Memᴰ.tail m) n))
  where
    above : Above x (xs ++ t)
    above = less_above (xs ++ t) (λ y m. ⊎_elim (above_less a) (across x y (Memᴰ.head refl)) (Memᴰ.append_cases xs m))

-- the converse
pub increasing_parts : (s t : List ℕ) → Increasing (s ++ t) → Increasing s × Increasing t × ((x y : ℕ) → x ∈ s → y ∈ t → x < y)
increasing_parts [] t h = (none_increasing, h, λ x y m n. absurd (Memᴰ.not-nil m))
increasing_parts (x ∷ xs) t (one_increasing a h) =
    let parts = increasing_parts xs t h in
    let above : Above x xs = less_above xs (λ y m. above_less a (Memᴰ.append_left t m)) in
    let below : (z : ℕ) → z ∈ t → x < z = λ z n. above_less a (Memᴰ.append_right xs n) in (
      one_increasing above parts.0,
      parts.1,
      λ y z m n. ⊎_elim (λ e. rw e (below z n)) (λ k. parts.2 y z k n) (Memᴰ.cases_cons m),
    )
