-- The row numbers of a tree: which rows are in it, how often, and the same tree with other numbers.
use Rattle.std.specs.Prelude.{ℕ, ◌+◌, List, [], ◌∷◌, ◌++◌, eqb, if◌then◌else◌}
use Rattle.ordered.specs.Tree.{Tree, none, row, damaged}

-- the rows of a tree, "in the order row, left part, right part"
unfoldable pub numbers : Tree → List ℕ
numbers none = []
numbers (row i e l r) = i ∷ (numbers l ++ numbers r)
numbers damaged = []

-- how often i is in a list
unfoldable pub often : ℕ → List ℕ → ℕ
often i [] = 0
often i (x ∷ xs) = (if eqb i x then 1 else 0) + often i xs

-- the tree in which row i has the number σ i
unfoldable pub renamed : (ℕ → ℕ) → Tree → Tree
renamed σ none = none
renamed σ (row i e l r) = row (σ i) e (renamed σ l) (renamed σ r)
renamed σ damaged = damaged
