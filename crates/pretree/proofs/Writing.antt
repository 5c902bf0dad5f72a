-- Where a row's words are in a table.
use Prim.Native.Nat.{ℕ, ◌+◌, ◌*◌, ◌/◌, ◌≤◌, ◌<◌}
use mathlib.Core.Path.{◌≡◌, refl}
use mathlib.Core.List.{List}
use native.Mathlib.Omega.{arith}
use lib.ListN.{length}
use Rattle.ordered.specs.Word.{Side, left, right, bit_of}
use denote.Enum.Declared.{tag_of}
use Rattle.pretree.specs.contracts.leg.Side.{the_type}
use Rattle.pretree.specs.declared.leg.Side as Sides
use Rattle.pretree.specs.declared.leg.Side.TheVariants.{Left, Right}
use Rattle.pretree.specs.Table.{row_words, capacity, to_side}

-- the number that the code casts a side to
pub cast_side : (n : Sides.Side) → tag_of the_type n ≡ bit_of (to_side n)
cast_side Left = refl
cast_side Right = refl

pub bit_small : (s : Side) → bit_of s < 2
bit_small left = omega arith
bit_small right = omega arith

-- the words of a row below the capacity are in the table, and their numbers are small
pub record RowWords (table : List ℕ) (i : ℕ) : Type 0 where
  pub within : row_words * i + row_words ≤ length table
  pub few : i < 65535

pub row_words_of : (table : List ℕ) (i : ℕ) → i < capacity table → RowWords table i
unfolding capacity
row_words_of table i h = record { within = omega arith; few = omega arith }

-- tables of one length have one capacity
pub same_capacity : (a b : List ℕ) → length a ≡ length b → capacity a ≡ capacity b
unfolding capacity
same_capacity a b e = rw e

-- the row that begins at a table word
pub row_back : (i : ℕ) → row_words * i / row_words ≡ i
row_back i = omega arith
