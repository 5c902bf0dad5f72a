use Prim.Native.Nat.{suc, ◌+◌, ◌-◌}
use mathlib.Core.Path.{◌≡◌}
use native.Mathlib.Omega.{arith}
use Rattle.pretree.specs.Erased.{raising}
use Rattle.pretree.specs.Add.{taking}
use Rattle.pretree.proofs.Raising.{raises_first, raises_more, at_same, at_used, next_used, next_same}
use Rattle.pretree.proofs.erase.raise.Goals as goal
use Rattle.pretree.proofs.erase.raise.Goals.{In-loop}

-- a step is left
more : (c : In-loop) → c.args.steps - c.loop.counter ≡ suc (c.args.steps - (c.loop.counter + 1))
more c = omega arith

pub loop-init : goal.loop-init
loop-init c =
    let all : c.args.steps - 0 ≡ c.args.steps = omega arith in
    rw all (raises_first _ _ _ c.requires)

pub row_at-row-requires : goal.row_at-row-requires
row_at-row-requires c =
    at_used _ _ _ _ _ _ _ (more (goal.at.row_at-row-requires c).In-loop) c.loop.invariant

pub row_at-requires : goal.row_at-requires
row_at-requires c =
    let l = c.loop in
    rw (c.link-below.ensures, c.first_side.ensures, c.row_at-row.ensures, at_same _ _ _ _ _ _ _ (more (goal.at.row_at-requires c).In-loop) l.invariant)
    (next_used _ _ _ _ _ _ _ (more (goal.at.row_at-requires c).In-loop) l.invariant)

pub put_entry-requires : goal.put_entry-requires
put_entry-requires c =
    at_used _ _ _ _ _ _ _ (more (goal.at.put_entry-requires c).In-loop) c.loop.invariant

pub loop-preserved : goal.loop-preserved
loop-preserved c =
    let l = c.loop in
    rw (
      c.put_entry.ensures,
      c.row_at.ensures,
      c.link-below.ensures,
      c.first_side.ensures,
      c.row_at-row.ensures,
      at_same _ _ _ _ _ _ _ (more (goal.at.loop-preserved c).In-loop) l.invariant,
      next_same _ _ _ _ _ _ _ (more (goal.at.loop-preserved c).In-loop) l.invariant,
    )
    (raises_more _ _ _ _ _ _ _ (more (goal.at.loop-preserved c).In-loop) l.invariant)

pub shape_of-table : goal.shape_of-table
shape_of-table c = c.loop.invariant.long

pub returns : goal.returns
unfolding raising taking
returns c =
    let none : c.args.steps - c.loop.counter ≡ 0 = omega arith in
    rw none at c.loop.invariant.rest
