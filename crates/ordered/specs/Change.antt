-- What `add` and `del` do to a tree with m bits left: which rows they read, and which rows take another entry.
use Rattle.std.specs.Prelude.{ℕ, Bool, true, false, List, [], ◌∷◌, eqb}
use Rattle.ordered.specs.Such.{Perhaps, no_such, last_such, anything, is_there}
use Rattle.ordered.specs.Word.{left}
use Rattle.ordered.specs.Dictionary.{Entry, no_entry}
use Rattle.ordered.specs.Tree.{Tree, none, row, damaged}
use Rattle.ordered.specs.Way.{Way, Step, way, joined, following, pushing, down}
use Rattle.ordered.specs.Reading.{end_if}

-- a row that takes an entry
pub record Take : Type 0 where
  pub at : ℕ
  pub entry : Entry

-- "the way of k ends at k"
abbrev pub way_ends_at : ℕ → Way → Bool
way_ends_at k w = is_there (end_if (eqb k) w)

-- the last row that a way passes, if it passes any. Its link on the side of the turn leads to the end of the way.
abbrev pub above_end : Way → Perhaps Step
above_end w = last_such anything w.passed

-- a push: the first row takes the entry e, and each row after it takes the entry of the row before
unfoldable pub pushed : Entry → List Step → List Take
pushed e [] = []
pushed e (s ∷ ss) = record { at = s.at; entry = e } ∷ pushed s.entry ss

-- the entry that is left over after a push. It goes into the new row.
unfoldable pub left_over : Entry → List Step → Entry
left_over e [] = e
left_over e (s ∷ ss) = left_over s.entry ss

-- the number of the root row; 0 if there is none
abbrev pub number_at : Tree → ℕ
number_at none = 0
number_at (row i e l r) = i
number_at damaged = 0

-- "`add` k: the way of k. If it ends at a key greater than k, that row takes k and its old key is pushed down by its own bits, taking
-- each next row's place in turn, until a link is none. The new row is [..] linked where the way or the push ended".
-- Document 02 §1: "An `add` of a word already there still answers 7, but now stores the new serial."
pub record Adding : Type 0 where
  -- all rows that are read: those on the way of k, then those that the push passes
  pub rows_read : Way
  -- the word is already there
  pub present : Bool
  pub takes : List Take
  -- the entry of the new row, and the row and side where it is linked. In an empty tree it is linked nowhere.
  pub new_entry : Entry
  pub hook : Perhaps Step

abbrev pub adding_by : Entry → Way → Way → Way → Bool → Adding
adding_by e w push whole true = record { rows_read = w; present = true; takes = record { at = number_at w.end; entry = e } ∷ []; new_entry = e; hook = no_such }
adding_by e w push whole false =
    record {
      rows_read = whole;
      present = false;
      takes = pushed e push.passed;
      new_entry = left_over e push.passed;
      hook = above_end whole;
    }

unfoldable pub adding : ℕ → Entry → Tree → Adding
adding m e t =
    let w : Way = way (following e.key) m t in
    let push : Way = way pushing w.bits w.end in
    adding_by e w push (joined w push) (way_ends_at e.key w)

-- an erase: each row of the stretch takes the entry of the row below it. The last one takes the entry of the hole.
unfoldable pub raised : List Step → Entry → List Take
raised [] hole = []
raised (s ∷ []) hole = record { at = s.at; entry = hole } ∷ []
raised (s ∷ (t ∷ ss)) hole = record { at = s.at; entry = t.entry } ∷ raised (t ∷ ss) hole

-- "`del` k: the way of k, then from k's row down by left link, else right link, each row taking the key below; the last row of this
-- stretch, the hole, is unlinked."
pub record Erasing : Type 0 where
  -- all rows that are read: those on the way of k, then those of the stretch below
  pub rows_read : Way
  pub present : Bool
  pub takes : List Take
  -- the row at which the stretch ends, and the row and side where it is linked. The root is linked nowhere.
  pub hole : ℕ
  pub hook : Perhaps Step

abbrev pub entry_at : Tree → Entry
entry_at none = no_entry
entry_at (row i e l r) = e
entry_at damaged = no_entry

abbrev pub erasing_by : Way → Way → Way → Bool → Erasing
erasing_by w stretch whole false =
    record { rows_read = w; present = false; takes = []; hole = 0; hook = no_such }
erasing_by w stretch whole true =
    record {
      rows_read = whole;
      present = true;
      takes = raised stretch.passed (entry_at stretch.end);
      hole = number_at stretch.end;
      hook = above_end whole;
    }

unfoldable pub erasing : ℕ → ℕ → Tree → Erasing
erasing m k t =
    let w : Way = way (following k) m t in
    let stretch : Way = way (down left) w.bits w.end in
    erasing_by w stretch (joined w stretch) (way_ends_at k w)
