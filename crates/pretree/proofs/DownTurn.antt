-- `down_turn` is the turn that the rule `down` says.
use Prim.Native.Nat.{ℕ, suc}
use mathlib.Core.Path.{◌≡◌}
use mathlib.Core.Bool.{not}
use lib.Dec.{eqb}
use Rattle.ordered.specs.Word.{Side, left, right, other}
use Rattle.ordered.specs.Dictionary.{Entry}
use Rattle.ordered.specs.Tree.{part, exists}
use Rattle.ordered.specs.Way.{down}
use Rattle.pretree.specs.declared.Row.{Row}
use Rattle.pretree.specs.Table.{link}
use Rattle.pretree.specs.Walk.{below, down_turn}
use Rattle.pretree.proofs.Unfolding.{there}

module _ (rows : ℕ → Row) (n m i : ℕ) (e : Entry) where
  side_there : (s : Side) → exists (part s (below rows n (suc m) i left) (below rows n (suc m) i right)) ≡ not (eqb (link (rows i) s) 0)
  side_there left = there rows n m _ _ (rows i).left
  side_there right = there rows n m _ _ (rows i).right

  pub down_says : (s : Side) → down s m e (below rows n (suc m) i left) (below rows n (suc m) i right) ≡ (down_turn s (rows i))
  unfolding down
  down_says s = rw (side_there s, side_there (other s))
