-- The ordered dictionary in the words of source 004: what the source says of each operation, as a proposition about the elements of S.
-- proofs/Dictionary.antt proves that the operations of specs/Dictionary.antt do this.
use Rattle.std.specs.Prelude.{ℕ, ◌+◌, ◌-◌, ◌≤◌, ◌≡◌, ◌↔◌, ◌⊎◌, Bool, true}
use mathlib.Core.List.{List, Memᴰ}
use Rattle.ordered.specs.Such.{Perhaps, no_such, such}

infix 4 ◌∈◌
abbrev pub ◌∈◌ : {A : Type 0} → A → List A → Type 0
x ∈ s = Memᴰ x s

-- "insert(x), which adds x to S": the elements of t are x and those of s
abbrev pub Adds : ℕ → List ℕ → List ℕ → Type 0
Adds x s t = (y : ℕ) → y ∈ t ↔ ((y ≡ x) ⊎ (y ∈ s))

-- "is-empty(), which returns whether S = ∅": `Whether (s ≡ [])`.
-- "lookup(x), which returns whether x ∈ S": `Whether (x ∈ s)`
abbrev pub Whether : Type 0 → Bool → Type 0
Whether P b = (b ≡ true) ↔ P

-- "delete(x), which removes x from S": the elements of t are those of s other than x
abbrev pub Removes : ℕ → List ℕ → List ℕ → Type 0
Removes x s t = (y : ℕ) → y ∈ t ↔ ((y ∈ s) × (y ≡ x → ⊥))

-- the first, in the order `before`, of the elements of s that pass the test p; or no_such, if none passes
pub data Foremost (before : ℕ → ℕ → Type 0) (p : ℕ → Bool) (s : List ℕ) : Perhaps ℕ → Type 0 where
  it_is : {y : ℕ} → y ∈ s → p y ≡ true → ((z : ℕ) → z ∈ s → p z ≡ true → before y z) → Foremost before p s (such y)
  none_is : ((z : ℕ) → z ∈ s → p z ≡ true → ⊥) → Foremost before p s no_such

-- "min(), which returns the [..] minimum element of S": `Least anything s`.
-- "successor(x), which returns the smallest element of S greater than x": `Least (ltb x) s`
abbrev pub Least : (ℕ → Bool) → List ℕ → Perhaps ℕ → Type 0
Least = Foremost ◌≤◌

-- "max() [..], which returns the maximum [..] element of S": `Greatest anything s`.
-- "predecessor(x), which returns the largest element of S smaller than x": `Greatest (λ y. ltb y x) s`
abbrev pub Greatest : (ℕ → Bool) → List ℕ → Perhaps ℕ → Type 0
Greatest = Foremost (λ y z. z ≤ y)

-- the distance of two words. One of the two differences is 0.
abbrev pub apart : ℕ → ℕ → ℕ
apart x y = (x - y) + (y - x)

-- the distance to the nearest word, or no_such if there is no word. This is what document 01's `gap` amounts to: "distance 0 if k is present [..]
-- Else the smaller of the distances to `prev` and `next`".
pub data Nearest (k : ℕ) (s : List ℕ) : Perhaps ℕ → Type 0 where
  nearest_is : {y d : ℕ} → y ∈ s → d ≡ apart k y → ((z : ℕ) → z ∈ s → d ≤ apart k z) → Nearest k s (such d)
  no_nearest : ((z : ℕ) → z ∈ s → ⊥) → Nearest k s no_such
