-- The parts of rows, as `src/whole.rt` reads them: what a row shows, what counting its rows gives, and when they can be listed.
use Rattle.std.specs.Prelude.{ℕ, suc, ◌+◌, ◌-◌, ◌/◌, ◌^◌, ◌≤◌, ◌<◌, ◌≡◌, true, List, length, if◌then◌else◌, Result, Ok}
use Rattle.ordered.specs.Word.{left, right}
use Rattle.ordered.specs.Tree.{Tree, row, intact, size}
use Rattle.pretree.specs.declared.Row.{Row}
use Rattle.pretree.specs.declared.leg.Place.{Place}
use Rattle.pretree.specs.Table.{entry_of}
use Rattle.pretree.specs.Unfold.{ends_there, unfolded}
use Rattle.pretree.specs.Walk.{Walk, below}
use Rattle.pretree.specs.declared.leg.Damaged.{Damaged}
use Rattle.pretree.specs.Leg.{damage, Stands}
use Rattle.pretree.specs.Seek.{bits_left_by}

-- what row i shows, if it is undamaged and m bits are left there
abbrev pub row_tree : (ℕ → Row) → ℕ → ℕ → ℕ → Tree
row_tree rows n m i = row i (entry_of (rows i)) (below rows n m i left) (below rows n m i right)

-- what the row at a place shows
abbrev pub part_at : (ℕ → Row) → ℕ → Place → Tree
part_at rows n p = unfolded rows n (bits_left_by p.mask) (p.path / suc p.mask) p.low p.row

-- the number of rows of a part, if it has no damage
unfoldable pub rows_in : Tree → Result ℕ Damaged
rows_in t = if intact t then Ok (size t) else damage

-- some walk is at the place
pub record SomeWalkStands (p : Place) : Type 0 where
  pub walk : Walk
  pub stands : Stands p walk

-- row i is one of the first n, and has no link if it is at depth W; the mask is that of the bits left there
pub record Standing (rows : ℕ → Row) (n mask i : ℕ) : Type 0 where
  pub bits : ℕ
  pub few : bits ≤ 32
  pub mask_is : mask ≡ 2 ^ bits - 1
  pub used : i < n
  pub ends : ends_there bits (rows i) ≡ true

-- a part without damage that has room in the buffer from `next` on
pub record Listable (t : Tree) (buffer : List ℕ) (next : ℕ) : Type 0 where
  pub whole : intact t ≡ true
  pub room : next + size t ≤ length buffer
