-- A walk goes down a table row by row. The proofs follow each leg of a call by a walk; no code holds a `Walk`.
-- This file defines the step of a walk at a row (`met`), and the relation of a walk to the way that it follows: what is still ahead, and which
-- of the passed rows it remembers.
use Rattle.std.specs.Prelude.{ℕ, zero, suc, pred, ◌+◌, ◌*◌, ◌-◌, ◌/◌, ◌%◌, ◌^◌, ◌≤◌, ◌<◌, ◌≡◌, Bool, true, false, not, ◌&&◌, ltb, leb, eqb, length, if◌then◌else◌}
use Rattle.ordered.specs.Such.{Perhaps, no_such, such, first_of, last_such, anything}
use Rattle.ordered.specs.Word.{Side, left, right, other, side_of, bit_of, side}
use Rattle.ordered.specs.Dictionary.{Entry, no_entry}
use Rattle.ordered.specs.Tree.{Tree, none, damaged}
use Rattle.ordered.specs.Way.{Way, Step, Rule, Turn, way, ending, stop, to}
use Rattle.ordered.specs.Reading.{skipped_right}
use Rattle.pretree.specs.declared.Header.{Header}
use Rattle.pretree.specs.declared.Row.{Row}
use Rattle.pretree.specs.Table.{entry_of, link}
use Rattle.pretree.specs.Unfold.{ends_there, linked, unfolded}

-- where a walk is: at its next row, which it has not read yet; or at its end, which is an empty link, a row or damage
pub data Stage : Type 0 where
  On AtNone AtRow AtDamage : Stage

pub record Walk : Type 0 where
  pub count : ℕ
  -- the next row, or the row at which it ended; the bits left there; the path to it, as a number; the least key that is allowed there
  pub row : ℕ
  pub bits : ℕ
  pub path : ℕ
  pub low : ℕ
  -- the entry of the last row that it read
  pub entry : Entry
  -- the last row that it passed
  pub above : ℕ
  -- the deepest passed row where it went left and a right link exists; the bits left below that row; and whether there is such a row
  pub aside : ℕ
  pub aside_bits : ℕ
  pub has_aside : Bool
  pub stage : Stage

abbrev pub started : Header → Walk
started h =
    record {
      count = h.count;
      row = 0;
      bits = h.width;
      path = 0;
      low = 0;
      entry = no_entry;
      above = 0;
      aside = 0;
      aside_bits = 0;
      has_aside = false;
      stage = if eqb h.count 0 then AtNone else On;
    }

abbrev pub is_on : Stage → Bool
is_on On = true
is_on AtNone = false
is_on AtRow = false
is_on AtDamage = false

abbrev pub end_read : Stage → ℕ
end_read On = 0
end_read AtNone = 0
end_read AtRow = 1
end_read AtDamage = 0

-- the number of rows that a walk has read since the root, where `width` bits were left
abbrev pub rows_read_by : Walk → ℕ → ℕ
rows_read_by w width = width - w.bits + end_read w.stage

-- the row r passes every damage rule at the walk's next row, except the rule for its number: `stage_at` has that one
abbrev pub holds : Walk → Row → Bool
holds w r = leb w.low r.entry.key && (eqb (r.entry.key / 2 ^ w.bits) w.path && ends_there w.bits r)

abbrev pub ended : Walk → Stage → Entry → Walk
ended w stage entry =
    record {
      count = w.count;
      row = w.row;
      bits = w.bits;
      path = w.path;
      low = w.low;
      entry = entry;
      above = w.above;
      aside = w.aside;
      aside_bits = w.aside_bits;
      has_aside = w.has_aside;
      stage = stage;
    }

-- what the link i leads to
abbrev pub stage_at : ℕ → ℕ → Stage
stage_at count i = if eqb i 0 then AtNone else if ltb i count then On else AtDamage

abbrev pub started_at : ℕ → ℕ → ℕ → ℕ → ℕ → Walk
started_at count i bits path low =
    record {
      count = count;
      row = i;
      bits = bits;
      path = path;
      low = low;
      entry = no_entry;
      above = 0;
      aside = 0;
      aside_bits = 0;
      has_aside = false;
      stage = stage_at count i;
    }

-- the walk, with its row as the one remembered aside
abbrev pub remembering : Walk → Walk
remembering w =
    record {
      count = w.count;
      row = w.row;
      bits = w.bits;
      path = w.path;
      low = w.low;
      entry = w.entry;
      above = w.above;
      aside = w.row;
      aside_bits = pred w.bits;
      has_aside = true;
      stage = w.stage;
    }

-- the walk past a row with the entry e, by the link l. The bit is the side of the link: 0 is left, 1 is right.
abbrev pub passed : Walk → Entry → ℕ → ℕ → Walk
passed w e bit l =
    record {
      count = w.count;
      row = l;
      bits = pred w.bits;
      path = w.path * 2 + bit;
      low = suc e.key;
      entry = e;
      above = w.row;
      aside = w.aside;
      aside_bits = w.aside_bits;
      has_aside = w.has_aside;
      stage = stage_at w.count l;
    }

-- a left turn is remembered if the row has a right link
unfoldable pub turned : Walk → Row → Turn → Walk
turned w r stop = ended w AtRow (entry_of r)
turned w r (to left) = passed (if eqb r.right 0 then w else remembering w) (entry_of r) 0 r.left
turned w r (to right) = passed w (entry_of r) 1 r.right

unfoldable pub met : Walk → Row → Turn → Walk
met w r turn =
    if not (holds w r) then ended w AtDamage (entry_of r)
    else if eqb w.bits 0 then ended w AtRow (entry_of r)
    else turned w r turn

-- the tree from the walk's row down
abbrev pub tree_at : (ℕ → Row) → Walk → Tree
tree_at rows w = unfolded rows w.count w.bits w.path w.low w.row

-- the part of the way by the rule f that is still to come
abbrev pub to_come : (ℕ → Row) → Rule → Walk → Stage → Way
to_come rows f w On = way f w.bits (tree_at rows w)
to_come rows f w AtNone = ending w.bits none
to_come rows f w AtRow = ending w.bits (tree_at rows w)
to_come rows f w AtDamage = ending w.bits damaged

abbrev pub way_to_come : (ℕ → Row) → Rule → Walk → Way
way_to_come rows f w = to_come rows f w w.stage

-- the part on side s of row i, which has m bits left: what its link shows. The path is read from the row's key: an undamaged row has it there.
abbrev pub below : (ℕ → Row) → ℕ → ℕ → ℕ → Side → Tree
below rows n zero i s = none
below rows n (suc m) i s =
    linked (unfolded rows n m ((rows i).entry.key / 2 ^ suc m * 2 + bit_of s) (suc (rows i).entry.key)) (link (rows i) s)

-- the step of a way that passed row i to side s, with m bits left below the row
unfoldable pub step_at : (ℕ → Row) → ℕ → ℕ → ℕ → Side → Step
step_at rows n m i s =
    record {
      at = i;
      entry = entry_of (rows i);
      turn = s;
      left_part = below rows n (suc m) i left;
      right_part = below rows n (suc m) i right;
      below = m;
    }

-- that step, if there is one
abbrev pub remembered : (ℕ → Row) → ℕ → Bool → ℕ → ℕ → Side → Perhaps Step
remembered rows n true m i s = such (step_at rows n m i s)
remembered rows n false m i s = no_such

-- The walk w is on the way `whole`, and `coming` is the part of it that is still ahead. At the root `width` bits were left.
-- The last step of the whole way is the last one ahead, or else the one that the walk remembers.
pub record Ahead (rows : ℕ → Row) (width : ℕ) (whole : Way) (w : Walk) (coming : Way) : Type 0 where
  pub end : coming.end ≡ whole.end
  pub bits : coming.bits ≡ whole.bits
  pub number : length coming.passed + (width - w.bits) ≡ length whole.passed
  pub above : first_of (last_such anything coming.passed) (remembered rows w.count (ltb w.bits width) w.bits w.above (side_of (w.path % 2)))
      ≡ last_such anything whole.passed
  pub aside : first_of (last_such skipped_right coming.passed) (remembered rows w.count w.has_aside w.aside_bits w.aside left)
      ≡ last_such skipped_right whole.passed

-- what is known of the walk's row: a next row is in use; a row at which it ended was read and is undamaged
abbrev pub Placed : (ℕ → Row) → Walk → Stage → Type 0
Placed rows w On = w.row < w.count
Placed rows w AtNone = Unit {0}
Placed rows w AtRow = (w.row < w.count) × (holds w (rows w.row) ≡ true) × (w.entry ≡ entry_of (rows w.row))
Placed rows w AtDamage = Unit {0}

-- the rows that the walk remembers are in use
pub record Memory (width : ℕ) (w : Walk) : Type 0 where
  pub above_used : w.bits < width → w.above < w.count
  pub aside_used : w.has_aside ≡ true → (w.aside < w.count) × (w.aside_bits < width)

-- The walk w is on the way `whole`, and follows it by the rule f from here on. Its rule on the rows before does not matter.
pub record OnWay (rows : ℕ → Row) (f : Rule) (width count : ℕ) (whole : Way) (w : Walk) : Type 0 where
  pub ahead : Ahead rows width whole w (way_to_come rows f w)
  pub placed : Placed rows w w.stage
  pub memory : Memory width w
  pub fits : w.bits ≤ width
  pub same_count : w.count ≡ count

-- the walk is on the way by the rule f from the root of a tree
abbrev pub Walking : (ℕ → Row) → Rule → ℕ → ℕ → Tree → Walk → Type 0
Walking rows f width count tree = OnWay rows f width count (way f width tree)

-- the walk has gone that whole way
pub record Walked (rows : ℕ → Row) (f : Rule) (width count : ℕ) (tree : Tree) (w : Walk) : Type 0 where
  pub walking : Walking rows f width count tree w
  pub ended : is_on w.stage ≡ false

-- The rule that follows the bits of k and stops at a key of `limit` or more. The limit k gives the way of k. With the limit k + 1 "rows
-- equal to k are passed through".
unfoldable pub seeking : ℕ → ℕ → Rule
seeking limit k m e l r =
    if ltb e.key limit then to (side m k)
    else stop

-- the turn of that rule at a row with this key and this number of bits left
abbrev pub seek_turn : ℕ → ℕ → ℕ → ℕ → Turn
seek_turn limit k key bits =
    if eqb bits 0 then stop
    else if leb limit key then stop
    else to (side (pred bits) k)

-- the link on side s first, else the other
abbrev pub down_turn : Side → Row → Turn
down_turn s r =
    if not (eqb (link r s) 0) then to s
    else if not (eqb (link r (other s)) 0) then to (other s)
    else stop
