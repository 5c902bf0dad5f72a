-- How the reading calls turn the end of a way into a reply: the contracts of their small functions.
use Rattle.std.specs.Prelude.{ℕ, suc, ◌+◌, ◌%◌, ◌≡◌, Bool, true, false, not, ◌&&◌, ltb, eqb, if◌then◌else◌, Option, Some, None, Ok, Err}
use Rattle.ordered.specs.Word.{left, right, side_of, is_side}
use Rattle.ordered.specs.Way.{Way, way, rows, broken, staying, down}
use Rattle.ordered.specs.Reading.{end_row}
use Rattle.pretree.specs.declared.Header.{Header}
use Rattle.pretree.specs.declared.Answer.TheVariants.{Serial, Word, Damage, NoSuchWord}
use Rattle.pretree.specs.declared.Reply.{Reply}
use Rattle.pretree.specs.declared.Row.{Row}
use Rattle.pretree.specs.declared.leg.Place.{Place}
use Rattle.pretree.specs.Walk.{Walk, Stage, On, AtNone, AtRow, AtDamage, tree_at, below}
use Rattle.pretree.specs.Leg.{End, Stands}
use Rattle.pretree.specs.Reply.{refused, answered}
use Rattle.pretree.specs.Find.{saying, word}

-- `has` of k, by the row at the end of its way: n rows were passed, and a row at the end counts as one more
abbrev pub found_by : Header → ℕ → ℕ → Option Row → Reply
found_by h k n None = answered h NoSuchWord n
found_by h k n (Some r) = if eqb k r.entry.key then answered h (Serial r.entry.serial) (n + 1) else answered h NoSuchWord (n + 1)

-- the reply with the word at which a leg ended: n rows were read before that one
abbrev pub word_by : Header → ℕ → End → Reply
word_by h n (Ok None) = answered h NoSuchWord n
word_by h n (Ok (Some r)) = answered h (Word r.entry.key) (n + 1)
word_by h n (Err d) = refused h Damage

-- the reply of a call whose last way is w: the row at its end is the answer. n rows were read before w.
abbrev pub then_by : Header → ℕ → Way → Reply
then_by h n w =
    if broken w then refused h Damage
    else answered h (saying word (end_row w)) (n + rows w)

-- the leg down to the greatest word may begin at the place p: some walk is there
pub record GreatestFrom (h : Header) (p : Place) : Type 0 where
  pub walk : Walk
  pub stands : Stands p walk
  pub same_count : walk.count ≡ h.count

-- the reply of that leg; n rows were read before it
abbrev pub greatest_by : Header → (ℕ → Row) → ℕ → Walk → Reply
greatest_by h rows n w = then_by h n (way (down right) w.bits (tree_at rows w))

-- the reply with the right child of row i, which the walk remembers aside with m bits left below it; n rows were read before
abbrev pub aside_from : Header → (ℕ → Row) → ℕ → Bool → ℕ → ℕ → Reply
aside_from h rows n false m i = answered h NoSuchWord n
aside_from h rows n true m i = then_by h n (way staying m (below rows h.count (suc m) i right))

-- `next` of k where its way ended at this stage, n rows were read, and `key` is the last key read
abbrev pub next_found_from : Header → (ℕ → Row) → ℕ → Stage → ℕ → ℕ → Bool → ℕ → ℕ → Reply
next_found_from h rows k On key n has_aside m i = aside_from h rows n has_aside m i
next_found_from h rows k AtNone key n has_aside m i = aside_from h rows n has_aside m i
next_found_from h rows k AtRow key n has_aside m i = if ltb k key then answered h (Word key) n else aside_from h rows n has_aside m i
next_found_from h rows k AtDamage key n has_aside m i = refused h Damage

-- `prev` from row i, the last row that the way passed, with m bits left below it. If the way turned right there and row i has a left part, the answer
-- is the greatest word of that part, else the key of row i.
abbrev pub above_by : Header → (ℕ → Row) → ℕ → ℕ → ℕ → Bool → Reply
above_by h rows n m i true = then_by h n (way (down right) m (below rows h.count (suc m) i left))
above_by h rows n m i false = answered h (Word (rows i).entry.key) n

abbrev pub above_from : Header → (ℕ → Row) → ℕ → ℕ → ℕ → ℕ → Reply
above_from h rows n m path i =
    if ltb m h.width then above_by h rows n m i (is_side right (side_of (path % 2)) && not (eqb (rows i).left 0))
    else answered h NoSuchWord n

-- `prev` of k where its way ended at this stage, n rows were read, and `key` is the last key read
abbrev pub prev_from : Header → (ℕ → Row) → ℕ → Stage → ℕ → ℕ → ℕ → ℕ → ℕ → Reply
prev_from h rows k On key n m path i = above_from h rows n m path i
prev_from h rows k AtNone key n m path i = above_from h rows n m path i
prev_from h rows k AtRow key n m path i = if ltb key k then answered h (Word key) n else above_from h rows n m path i
prev_from h rows k AtDamage key n m path i = refused h Damage
