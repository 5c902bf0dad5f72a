-- The ordered dictionary of source 004, its operations in the source's order. A set is a list of entries whose words strictly increase.
-- The operations are recursive functions. Nobody has to trust the recursion: proofs/Dictionary.antt proves that each does what the source says.
use Rattle.std.specs.Prelude.{ℕ, ◌<◌, Bool, true, false, List, [], ◌∷◌, ltb, eqb, if◌then◌else◌}
use Rattle.ordered.specs.Such.{Perhaps, its, first_such, last_such, anything}

-- What the set stores for a word: the word and the latest serial handed in with it. A push or an erase moves entries from row to row.
-- Document 02 §1: "Each row gets a fourth word, the serial handed in with `add`, any 32-bit number."
pub record Entry : Type 0 where
  pub key : ℕ
  pub serial : ℕ

-- a stand-in where there is no entry
abbrev pub no_entry : Entry
no_entry = record { key = 0; serial = 0 }

abbrev pub words : List Entry → List ℕ
words [] = []
words (e ∷ s) = e.key ∷ words s

abbrev pub word_of : Perhaps Entry → Perhaps ℕ
word_of = its (λ e. e.key)

-- every word of the list is greater than x
pub data Above (x : ℕ) : List ℕ → Type 0 where
  none_above : Above x []
  one_above : {y : ℕ} {ys : List ℕ} → x < y → Above x ys → Above x (y ∷ ys)

pub data Increasing : List ℕ → Type 0 where
  none_increasing : Increasing []
  one_increasing : {x : ℕ} {xs : List ℕ} → Above x xs → Increasing xs → Increasing (x ∷ xs)

-- "insert(x), which adds x to S". Here x comes with its serial. An entry for the same word is replaced: `add` "now stores the new serial".
unfoldable pub insert : Entry → List Entry → List Entry
insert e [] = e ∷ []
insert e (f ∷ s) =
    if ltb e.key f.key then e ∷ f ∷ s
    else if eqb e.key f.key then e ∷ s
    else f ∷ insert e s

-- "is-empty(), which returns whether S = ∅"
unfoldable pub is_empty : List Entry → Bool
is_empty [] = true
is_empty (e ∷ s) = false

-- "lookup(x), which returns whether x ∈ S". Here it also returns the entry of x.
unfoldable pub lookup : ℕ → List Entry → Perhaps Entry
lookup x s = first_such (λ e. eqb x e.key) s

-- "delete(x), which removes x from S"
unfoldable pub delete : ℕ → List Entry → List Entry
delete x [] = []
delete x (e ∷ s) =
    if eqb x e.key then delete x s
    else e ∷ delete x s

-- "max() / min(), which returns the maximum or minimum element of S"
unfoldable pub max : List Entry → Perhaps Entry
max s = last_such anything s

unfoldable pub min : List Entry → Perhaps Entry
min s = first_such anything s

-- "successor(x), which returns the smallest element of S greater than x"
unfoldable pub successor : ℕ → List Entry → Perhaps Entry
successor x s = first_such (λ e. ltb x e.key) s

-- "predecessor(x), which returns the largest element of S smaller than x"
unfoldable pub predecessor : ℕ → List Entry → Perhaps Entry
predecessor x s = last_such (λ e. ltb e.key x) s
