-- When a table is sound, in document 01's words; and the test that `audit` makes.
use Rattle.std.specs.Prelude.{ℕ, zero, suc, ◌+◌, ◌*◌, ◌-◌, ◌/◌, ◌^◌, ◌<◌, ◌≤◌, ◌≡◌, Bool, ◌&&◌, List, [], ◌∷◌, ◌++◌, ltb, eqb, if◌then◌else◌}
use Rattle.ordered.specs.Word.{left, right, bit_of}
use Rattle.ordered.specs.Dictionary.{Increasing}
use Rattle.ordered.specs.Tree.{intact, size}
use Rattle.pretree.specs.declared.Header.{Header}
use Rattle.pretree.specs.declared.Row.{Row}
use Rattle.pretree.specs.Table.{row_at}
use Rattle.pretree.specs.Unfold.{shown}

-- a row that is met: its number, its key, its depth, and the bits of the path to it as a number
pub record Met : Type 0 where
  pub at : ℕ
  pub key : ℕ
  pub depth : ℕ
  pub path : ℕ

abbrev pub met_by : (ℕ → List Met) → ℕ → List Met
met_by from zero = []
met_by from (suc i) = from (suc i)

-- "the rows met from row 0 in the order row, left part, right part", for this number of levels
unfoldable pub met : (ℕ → Row) → ℕ → ℕ → ℕ → ℕ → List Met
met rows zero depth path i = []
met rows (suc levels) depth path i =
    record { at = i; key = (rows i).entry.key; depth = depth; path = path }
    ∷ (met_by (met rows levels (suc depth) (path * 2 + bit_of left)) (rows i).left
    ++ met_by (met rows levels (suc depth) (path * 2 + bit_of right)) (rows i).right)

-- how often row i is met
unfoldable pub times : ℕ → List Met → ℕ
times i [] = 0
times i (x ∷ xs) = (if eqb i x.at then 1 else 0) + times i xs

unfoldable pub keys_of : List Met → List ℕ
keys_of [] = []
keys_of (x ∷ xs) = x.key ∷ keys_of xs

pub data Each (P : Met → Type 0) : List Met → Type 0 where
  none_met : Each P []
  one_met : {x : Met} {xs : List Met} → P x → Each P xs → Each P (x ∷ xs)

-- "each key has the bits of the path to its row, and no row is deeper than W", and the keys "are below 2^W"
pub record InPlace (width : ℕ) (x : Met) : Type 0 where
  pub below : x.key < 2 ^ width
  pub bits : x.key / 2 ^ (width - x.depth) ≡ x.path
  pub shallow : x.depth ≤ width

-- "the rows met from row 0 [..] are the rows 0 to count−1, each once, their keys strictly increase in that order".
pub record SoundRows (width count : ℕ) (xs : List Met) : Type 0 where
  pub each_once : (i : ℕ) → times i xs ≡ (if ltb i count then 1 else 0)
  pub increase : Increasing (keys_of xs)
  pub in_place : Each (InPlace width) xs

-- "A count of 0 is sound." Levels 0 to W are allowed. One more is looked at, so that a row that is too deep is met.
abbrev pub rows_met : Header → List ℕ → List Met
rows_met h table = met (row_at table) (if eqb h.count 0 then 0 else h.width + 2) 0 0 0

unfoldable pub Sound : Header → List ℕ → Type 0
Sound h table = SoundRows h.width h.count (rows_met h table)

-- The test: the tree that is shown has no damage, and as many rows as are in use. In a tree without damage the keys increase in the order row,
-- left part, right part, so no row is in it twice.
unfoldable pub is_sound : Header → List ℕ → Bool
is_sound h table = intact (shown h table) && eqb (size (shown h table)) h.count
