-- A way: the rows that are read going down a tree, and where it ends. Each way of document 01 is `way` with a different rule.
use Rattle.std.specs.Prelude.{ℕ, zero, suc, ◌+◌, Bool, true, false, List, [], ◌∷◌, ◌++◌, map, ltb, leb, length, if◌then◌else◌}
use Rattle.ordered.specs.Word.{Side, other, side}
use Rattle.ordered.specs.Dictionary.{Entry}
use Rattle.ordered.specs.Tree.{Tree, none, row, damaged, part, exists}

-- a row that a way passes: its number, entry and parts, the side to which the way turns, and the number of bits left below
pub record Step : Type 0 where
  pub at : ℕ
  pub entry : Entry
  pub turn : Side
  pub left_part : Tree
  pub right_part : Tree
  pub below : ℕ

-- the rows passed, from the root down, the number of bits left at the end, and the part at which the way ends. That part is an empty
-- link, damage, or a row; such a row is read, and there is no turn at it.
pub record Way : Type 0 where
  pub passed : List Step
  pub bits : ℕ
  pub end : Tree

-- "A row is read when its key is looked at; each row on a way counts once."
abbrev pub end_rows : Tree → ℕ
end_rows none = 0
end_rows (row i e l r) = 1
end_rows damaged = 0

unfoldable pub rows : Way → ℕ
rows w = length w.passed + end_rows w.end

-- the numbers of the rows that are read
abbrev pub end_number : Tree → List ℕ
end_number none = []
end_number (row i e l r) = i ∷ []
end_number damaged = []

unfoldable pub read_on : Way → List ℕ
read_on w = map (λ s. s.at) w.passed ++ end_number w.end

abbrev pub is_damaged : Tree → Bool
is_damaged none = false
is_damaged (row i e l r) = false
is_damaged damaged = true

-- whether the way meets damage
unfoldable pub broken : Way → Bool
broken w = is_damaged w.end

-- what a way does at a row: it stops, or it turns to a side
pub data Turn : Type 0 where
  stop : Turn
  to : Side → Turn

-- what a way does at a row with m + 1 bits left, given m, the row's entry and its two parts
abbrev pub Rule : Type 0
Rule = ℕ → Entry → Tree → Tree → Turn

abbrev pub ending : ℕ → Tree → Way
ending m t = record { passed = []; bits = m; end = t }

abbrev pub passing : Step → Way → Way
passing s w = record { passed = s ∷ w.passed; bits = w.bits; end = w.end }

abbrev pub turning : (Tree → Way) → ℕ → ℕ → Entry → Tree → Tree → Turn → Way
turning onward m i e l r stop = ending (suc m) (row i e l r)
turning onward m i e l r (to s) =
    passing (record { at = i; entry = e; turn = s; left_part = l; right_part = r; below = m }) (onward (part s l r))

-- The way by the rule f from the root of t, with m bits left. "A way turns left or right at a row by the deciding bit, also where the link on
-- that side is empty; at depth W, and at a row where it stops for its key, there is no turn."
unfoldable pub way : Rule → ℕ → Tree → Way
way f zero t = ending zero t
way f (suc m) none = ending (suc m) none
way f (suc m) damaged = ending (suc m) damaged
way f (suc m) (row i e l r) = turning (way f m) m i e l r (f m e l r)

-- the way w, continued from its end by the way v
unfoldable pub joined : Way → Way → Way
joined w v = record { passed = w.passed ++ v.passed; bits = v.bits; end = v.end }

-- "from the root, follow k's bits; stop at an empty link, at depth W, or at the first row whose key is k or more"
unfoldable pub following : ℕ → Rule
following k m e l r =
    if ltb e.key k then to (side m k)
    else stop

-- "as the way of k, but rows equal to k are passed through"
unfoldable pub passing_equal : ℕ → Rule
passing_equal k m e l r =
    if leb e.key k then to (side m k)
    else stop

-- "its old key is pushed down by its own bits, taking each next row's place in turn, until a link is none"
unfoldable pub pushing : Rule
pushing m e l r = to (side m e.key)

-- down by the link on side s, else the other, "until both are none"
unfoldable pub down : Side → Rule
down s m e l r =
    if exists (part s l r) then to s
    else if exists (part (other s) l r) then to (other s)
    else stop

-- reads only the root
unfoldable pub staying : Rule
staying m e l r = stop
