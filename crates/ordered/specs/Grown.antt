-- The trees that `add` and `del` leave: the rows on their ways with their new entries, linked as before. Where the way ends, `add` links
-- a new row and `del` links none.
use Rattle.std.specs.Prelude.{ℕ, List, [], ◌∷◌, if◌then◌else◌}
use Rattle.ordered.specs.Word.{Side, left, right}
use Rattle.ordered.specs.Dictionary.{Entry}
use Rattle.ordered.specs.Tree.{Tree, none, row, damaged}
use Rattle.ordered.specs.Way.{Way, Step, way, following, pushing, down}
use Rattle.ordered.specs.Change.{way_ends_at, left_over, entry_at}

-- a row whose part on one side is replaced by t
abbrev pub linking : ℕ → Entry → Side → Tree → Tree → Tree → Tree
linking i e left l r t = row i e t r
linking i e right l r t = row i e l t

-- the tree made of the rows of a way, with t where the way ended
unfoldable pub chained : List Step → Tree → Tree
chained [] t = t
chained (s ∷ ss) t = linking s.at s.entry s.turn s.left_part s.right_part (chained ss t)

abbrev pub step_with_entry : Entry → Step → Step
step_with_entry e s =
    record { at = s.at; entry = e; turn = s.turn; left_part = s.left_part; right_part = s.right_part; below = s.below }

-- the rows that a push passes, after the push: the first takes the entry e, each row after it the entry of the row before
unfoldable pub shifted : Entry → List Step → List Step
shifted e [] = []
shifted e (s ∷ ss) = step_with_entry e s ∷ shifted s.entry ss

-- the rows above the hole, after an erase: each takes the entry of the row below it
abbrev pub entry_below : List Step → Entry → Entry
entry_below [] hole = hole
entry_below (s ∷ ss) hole = s.entry

unfoldable pub lifted : List Step → Entry → List Step
lifted [] hole = []
lifted (s ∷ ss) hole = step_with_entry (entry_below ss hole) s ∷ lifted ss hole

-- a part with m bits left, after a push of the entry e; n is the number of the new row
unfoldable pub pushed_tree : (n m : ℕ) → Entry → Tree → Tree
pushed_tree n m e t =
    let push : Way = way pushing m t in
    chained (shifted e push.passed) (row n (left_over e push.passed) none none)

-- a part with m bits left, after its root's entry is erased
unfoldable pub popped_tree : ℕ → Tree → Tree
popped_tree m t =
    let stretch : Way = way (down left) m t in
    chained (lifted stretch.passed (entry_at stretch.end)) none

-- a part whose root takes the entry e
abbrev pub storing : Entry → Tree → Tree
storing e none = none
storing e (row i f l r) = row i e l r
storing e damaged = damaged

-- the tree after `add` of the entry e; n is the number of the new row, if there is one
unfoldable pub tree_after_add : (n m : ℕ) → Entry → Tree → Tree
tree_after_add n m e t =
    let w : Way = way (following e.key) m t in
    if way_ends_at e.key w then chained w.passed (storing e w.end)
    else chained w.passed (pushed_tree n w.bits e w.end)

-- the tree after `del` k
unfoldable pub tree_after_del : (m k : ℕ) → Tree → Tree
tree_after_del m k t =
    let w : Way = way (following k) m t in
    if way_ends_at k w then chained w.passed (popped_tree w.bits w.end)
    else t
