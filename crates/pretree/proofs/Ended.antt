-- What a walk that has ended tells about its way: where the way ends, how many rows it has, and its last steps.
use Prim.Native.Nat.{ℕ, ◌+◌, ◌-◌, ◌%◌}
use mathlib.Core.Path.{◌≡◌, refl, sym, ◌∙◌}
use mathlib.Core.Bool.{false, true≢false}
use native.Mathlib.Nat.{zero-add}
use lib.Dec.{ltb}
use lib.ListN.{length}
use borrow.Author.Tests.{lt-ltb}
use Rattle.ordered.specs.Such.{last_such, anything}
use Rattle.ordered.specs.Word.{left, right, side_of}
use Rattle.ordered.specs.Tree.{Tree, none, row, damaged}
use Rattle.ordered.specs.Way.{Way, Rule, way, ending, end_rows}
use Rattle.ordered.specs.Way as Ways
use Rattle.ordered.specs.Reading.{skipped_right}
use Rattle.pretree.specs.declared.Row.{Row}
use Rattle.pretree.specs.Walk.{Stage}
use Rattle.pretree.specs.Walk.{On, AtNone, AtRow, AtDamage}
use Rattle.pretree.specs.Walk.{Walk}
use Rattle.pretree.specs.Walk.{is_on, rows_read_by, end_read, tree_at, to_come, below, remembered, Ahead, Placed, Walked}
use Rattle.pretree.proofs.Unfolding.{is_row}

-- the part at which a walk ended
abbrev pub ends_in : (ℕ → Row) → Walk → Stage → Tree
ends_in rows w On = none
ends_in rows w AtNone = none
ends_in rows w AtRow =
    row w.row w.entry (below rows w.count w.bits w.row left) (below rows w.count w.bits w.row right)
ends_in rows w AtDamage = damaged

module _ (rows : ℕ → Row) (f : Rule) (width count : ℕ) (tree : Tree) (w : Walk) (k : Walked rows f width count tree w) where
  abbrev walked_way : Way
  walked_way = way f width tree

  abbrev pub end_part : Stage → Tree
  end_part = ends_in rows w

  -- where the way ends, the bits left there, the number of rows passed, the last step, and the last left turn past a right link
  pub record WayEnd (stage : Stage) : Type 0 where
    pub end : walked_way.end ≡ end_part stage
    pub bits : walked_way.bits ≡ w.bits
    pub number : length walked_way.passed ≡ width - w.bits
    pub above : last_such anything walked_way.passed ≡ remembered rows w.count (ltb w.bits width) w.bits w.above (side_of (w.path % 2))
    pub aside : last_such skipped_right walked_way.passed ≡ remembered rows w.count w.has_aside w.aside_bits w.aside left

  shows_row : Placed rows w AtRow → tree_at rows w ≡ end_part AtRow
  shows_row p = rw p.2 (is_row rows w.count w.bits w.path w.low w.row (rw (lt-ltb w.row w.count p.0) p.1))

  ended_at : (stage : Stage) (t : Tree) → t ≡ end_part stage → Ahead rows width walked_way w (ending w.bits t) → WayEnd stage
  unfolding last_such
  ended_at stage t e g =
      record {
        end = sym g.end ∙ e;
        bits = sym g.bits;
        number = sym g.number ∙ zero-add _;
        above = sym g.above;
        aside = sym g.aside;
      }

  end_by : (stage : Stage) → is_on stage ≡ false → Placed rows w stage → Ahead rows width walked_way w (to_come rows f w stage) → WayEnd stage
  end_by On off p g = absurd (true≢false off)
  end_by AtNone off p g = ended_at AtNone none refl g
  end_by AtDamage off p g = ended_at AtDamage damaged refl g
  end_by AtRow off p g = ended_at AtRow (tree_at rows w) (shows_row p) g

  pub way_end : WayEnd w.stage
  way_end = end_by w.stage k.ended k.walking.placed k.walking.ahead

  -- so the rows of the way are those that the walk read
  pub way_rows : Ways.rows walked_way ≡ rows_read_by w width
  unfolding Ways.rows
  way_rows = rw (way_end.number, way_end.end) (by_end w.stage)
    where
      by_end : (stage : Stage) → width - w.bits + end_rows (end_part stage) ≡ width - w.bits + end_read stage
      by_end On = refl
      by_end AtNone = refl
      by_end AtRow = refl
      by_end AtDamage = refl
