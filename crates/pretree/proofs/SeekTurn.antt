-- `seek_turn` is the turn that the rule `seeking` says. The rules of document 01's two ways by a word are `seeking` with two limits.
use Prim.Native.Nat.{ℕ, suc}
use mathlib.Core.Path.{◌≡◌, refl, sym}
use mathlib.Core.Bool.{Bool, true, false}
use native.Mathlib.Nat.{suc-ne-zero}
use lib.Dec.{ltb, leb, leb-suc-suc}
use borrow.Author.Tests.{ne_eqb, lt-ltb, le-ltb, leb-true, leb-false}
use Rattle.std.specs.Prelude.{if◌then◌else◌}
use Rattle.ordered.specs.Word.{side}
use Rattle.ordered.specs.Dictionary.{Entry}
use Rattle.ordered.specs.Tree.{Tree}
use Rattle.ordered.specs.Way.{following, passing_equal, to, stop}
use Rattle.pretree.specs.Walk.{seeking, seek_turn}

pub seek_says : (limit k bits m : ℕ) (e : Entry) (l r : Tree) → bits ≡ suc m → seeking limit k m e l r ≡ (seek_turn limit k e.key bits)
unfolding seeking
seek_says limit k bits m e l r bits_are = rw (bits_are, ne_eqb (suc m) 0 (suc-ne-zero m)) (go (leb limit e.key) refl)
  where
    go : (b : Bool) → leb limit e.key ≡ b
        → (if ltb e.key limit then to (side m k) else stop) ≡ (if b then stop else to (side m k))
    go true h = rw (le-ltb e.key limit (leb-true limit e.key h))
    go false h = rw (lt-ltb e.key limit (leb-false limit e.key h))

pub following_is : (k : ℕ) → following k ≡ seeking k k
unfolding following seeking
following_is k = refl

pub passing_equal_is : (k : ℕ) → passing_equal k ≡ seeking (suc k) k
unfolding passing_equal seeking
passing_equal_is k = λ i m e l r. if sym (leb-suc-suc e.key k) i then to (side m k) else stop
