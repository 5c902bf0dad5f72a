-- A tree is proper if it has no damage: the key of each row is greater than the key of the row above, and has the bits of the row's path.
use Rattle.std.specs.Prelude.{ℕ, zero, suc, ◌+◌, ◌*◌, ◌/◌, ◌^◌, ◌≤◌, ◌≡◌}
use Rattle.ordered.specs.Word.{Side, bit_of}
use Rattle.ordered.specs.Tree.{Tree, none, row, damaged, part}

-- a word that is allowed in a part with m bits left: it is `low` or more, and it has "the bits of the path". The path is a number here.
pub record Fitting (m path low word : ℕ) : Type 0 where
  pub not_below : low ≤ word
  pub on_path : word / 2 ^ m ≡ path

-- a row whose key fits, and whose part on each side s meets `Part s`
pub record ProperRow (m path low key : ℕ) (Part : Side → Type 0) : Type 0 where
  pub key_fits : Fitting m path low key
  pub parts : (s : Side) → Part s

-- "no row is deeper than W": with no bit left both parts are none. Otherwise the path of a part is the row's path with one more bit, and
-- its keys are greater than the row's key. The whole tree of a table is proper with W bits left, path 0 and low 0.
unfoldable pub Proper : (m path low : ℕ) → Tree → Type 0
Proper zero path low none = Unit {0}
Proper zero path low (row i e l r) = ProperRow zero path low e.key (λ s. part s l r ≡ none)
Proper zero path low damaged = ⊥
Proper (suc m) path low none = Unit {0}
Proper (suc m) path low (row i e l r) =
    ProperRow (suc m) path low e.key (λ s. Proper m (path * 2 + bit_of s) (suc e.key) (part s l r))
Proper (suc m) path low damaged = ⊥
