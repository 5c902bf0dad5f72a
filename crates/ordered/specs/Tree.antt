-- One type for the PreTree of a set and for the tree that a table shows, which may have damage.
-- Document 01: "The sound tree of a set is: its least word at the root, the rest parted by the next bit, and so on down."
use Rattle.std.specs.Prelude.{ℕ, zero, suc, ◌+◌, Bool, true, false, ◌&&◌, List, [], ◌∷◌, ◌++◌, if◌then◌else◌}
use Rattle.ordered.specs.Word.{Side, left, right, side, is_side}
use Rattle.ordered.specs.Dictionary.{Entry, words}

-- none: an empty link; row: a row with its number, entry, left part and right part; damaged: what no way may read
pub data Tree : Type 0 where
  none : Tree
  row : ℕ → Entry → Tree → Tree → Tree
  damaged : Tree

abbrev pub part : Side → Tree → Tree → Tree
part left l r = l
part right l r = r

-- whether a link is other than none
abbrev pub exists : Tree → Bool
exists none = false
exists (row i e l r) = true
exists damaged = true

-- "The listing of a row's part is its key, then its left part, then its right part"
unfoldable pub entries : Tree → List Entry
entries none = []
entries (row i e l r) = e ∷ (entries l ++ entries r)
entries damaged = []

abbrev pub listing : Tree → List ℕ
listing t = words (entries t)

unfoldable pub size : Tree → ℕ
size none = 0
size (row i e l r) = suc (size l + size r)
size damaged = 0

-- whether there is no damage
unfoldable pub intact : Tree → Bool
intact none = true
intact (row i e l r) = intact l && intact r
intact damaged = false

-- the same tree "row numbers apart": every number is 0
unfoldable pub unnumbered : Tree → Tree
unnumbered none = none
unnumbered (row i e l r) = row 0 e (unnumbered l) (unnumbered r)
unnumbered damaged = damaged

-- the entries whose words go to side s at a row with m + 1 bits left
unfoldable pub going : Side → ℕ → List Entry → List Entry
going s m [] = []
going s m (e ∷ es) =
    if is_side s (side m e.key) then e ∷ going s m es
    else going s m es

-- The PreTree of a set whose words differ only in their last m bits: "its least word at the root, the rest parted by
-- the next bit". With no bit left there is no rest.
unfoldable pub tree_of : ℕ → List Entry → Tree
tree_of zero [] = none
tree_of zero (e ∷ es) = row 0 e none none
tree_of (suc m) [] = none
tree_of (suc m) (e ∷ es) = row 0 e (tree_of m (going left m es)) (tree_of m (going right m es))
