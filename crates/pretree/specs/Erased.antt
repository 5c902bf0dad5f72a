-- What the small functions of `src/erase.rt` do, and what `del` has judged before it writes.
-- Document 01: "All of it is judged before anything is written."
use Rattle.std.specs.Prelude.{ℕ, zero, suc, pred, ◌<◌, ◌≡◌, ◌≢◌, Bool, true, false, ◌||◌, Option, Some, None, Result, Ok, Err, List, [], ◌∷◌}
use Rattle.ordered.specs.Such.{Perhaps}
use Rattle.ordered.specs.Word.{left}
use Rattle.ordered.specs.Way.{Step, rows, broken}
use Rattle.ordered.specs.Change.{Take, Erasing, above_end}
use Rattle.pretree.specs.declared.Header.{Header}
use Rattle.pretree.specs.declared.Row.{Row}
use Rattle.pretree.specs.declared.leg.Place.{Place}
use Rattle.pretree.specs.declared.leg.Damaged.{Damaged}
use Rattle.pretree.specs.declared.leg.Hook.{Hook}
use Rattle.pretree.specs.declared.erase.Hole.{Hole}
use Rattle.pretree.specs.declared.erase.Move.{Move}
use Rattle.pretree.specs.Table.{capacity, row_at, entry_of, link, hooked, with_row, cleared}
use Rattle.pretree.specs.Unfold.{shown}
use Rattle.pretree.specs.Walk.{Walk, seeking, Walked}
use Rattle.pretree.specs.Resume.{ends_at}
use Rattle.pretree.specs.Leg.{Stands, first_side}
use Rattle.pretree.specs.Add.{taking, hooking}
use Rattle.pretree.specs.Del.{second_way, astray}
use Rattle.pretree.specs.Push.{HookInTable}

-- the key in row i
abbrev pub key_in : List ℕ → ℕ → ℕ
key_in table i = (row_at table i).entry.key

-- the way of k ended at k's row: the walk that has gone this way is at the place `at`, below `row_above`
pub record RowOfKey (h : Header) (table : List ℕ) (k : ℕ) (at : Place) (row_above : ℕ) : Type 0 where
  pub walk : Walk
  pub walked : Walked (row_at table) (seeking k k) h.width h.count (shown h table) walk
  pub there : ends_at k walk.entry.key walk.stage ≡ true
  pub stands : Stands at walk
  pub above : row_above ≡ walk.above

-- a link set at the hook is a link set where the step p was made
abbrev pub SameHook : Perhaps Step → Option Hook → Type 0
SameHook p k = (i : ℕ) (table : List ℕ) → hooking p i table ≡ hooked k i table

-- "down by left link, else right link"
abbrev pub row_below : Row → ℕ
row_below r = link r (first_side left r)

-- "each row taking the key below": the first s rows of the stretch from row i
unfoldable pub raising : (ℕ → Row) → ℕ → ℕ → List Take
raising rows zero i = []
raising rows (suc s) i =
    let below : ℕ = row_below (rows i) in
    record { at = i; entry = entry_of (rows below) } ∷ raising rows s below

-- the rows of that stretch are among the first n, and their keys increase
unfoldable pub Rises : (ℕ → Row) → ℕ → ℕ → ℕ → Type 0
Rises rows n zero i = i < n
Rises rows n (suc s) i =
    (i < n) × ((rows i).entry.key < (rows (row_below (rows i))).entry.key) × Rises rows n s (row_below (rows i))

-- `hole` describes the stretch of the erase e, which was judged to be without damage
pub record JudgedStretch (e : Erasing) (table : List ℕ) (hole : Hole) : Type 0 where
  pub whole : broken e.rows_read ≡ false
  pub present : e.present ≡ true
  pub rows : rows e.rows_read ≡ hole.rows
  pub takes : e.takes ≡ raising (row_at table) hole.steps hole.from
  pub row : e.hole ≡ hole.row
  pub hook : SameHook e.hook hole.hook

-- the second way is broken or astray
abbrev pub strays : Header → List ℕ → Bool
strays h table = broken (second_way h table) || astray h table (second_way h table)

-- m describes the move of the last row, whose way is whole
pub record WholeMove (h : Header) (table : List ℕ) (m : Move) : Type 0 where
  pub whole : strays h table ≡ false
  pub rows : rows (second_way h table) ≡ m.rows
  pub hook : SameHook (above_end (second_way h table)) m.hook

-- what was judged of the move of the last row into the hole: none is needed, or the second way is whole and the move is so, or that way is damaged
abbrev pub JudgedMove : Header → List ℕ → ℕ → Result (Option Move) Damaged → Type 0
JudgedMove h table hole (Ok None) = hole ≡ pred h.count
JudgedMove h table hole (Ok (Some m)) = (hole ≢ pred h.count) × WholeMove h table m
JudgedMove h table hole (Err e) = (hole ≢ pred h.count) × (strays h table ≡ true)

-- the row above the moved row is one of the first n, if a move is needed
abbrev pub MoveInTable : ℕ → Option Move → Type 0
MoveInTable n None = Unit {0}
MoveInTable n (Some m) = HookInTable n m.hook

-- the moving count
abbrev pub moved_rows : Option Move → ℕ
moved_rows None = 0
moved_rows (Some m) = m.rows

-- all rows that will be written are in the table
pub record Within (table : List ℕ) (hole : Hole) : Type 0 where
  pub rises : Rises (row_at table) (capacity table) hole.steps hole.from
  pub hook_in_table : HookInTable (capacity table) hole.hook
  pub used : hole.row < capacity table

-- the last row moved into the hole and linked there, if a move is needed
unfoldable pub filled : ℕ → ℕ → Option Move → List ℕ → List ℕ
filled hole last None table = table
filled hole last (Some m) table = hooked m.hook hole (with_row hole (row_at table last) table)

-- keys up, unlink, move, set the link, clear
unfoldable pub emptied : ℕ → Hole → Option Move → List ℕ → List ℕ
emptied last hole m table =
    with_row last cleared
    (filled hole.row last m (hooked hole.hook 0 (taking (raising (row_at table) hole.steps hole.from) table)))
