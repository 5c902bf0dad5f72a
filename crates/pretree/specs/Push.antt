-- The steps of `src/add.rt`: the push down to where `end` bits are left, the link to the new row, and the outcome.
-- Document 01: "that row takes k and its old key is pushed down by its own bits, taking each next row's place in turn".
use Rattle.std.specs.Prelude.{ℕ, zero, suc, ◌+◌, ◌-◌, ◌/◌, ◌^◌, ◌≤◌, ◌<◌, ◌≡◌, Option, Some, None, List, [], ◌∷◌, ltb, eqb, if◌then◌else◌, Ok}
use Rattle.ordered.specs.Word.{Side, left, right, side}
use Rattle.ordered.specs.Change.{Take}
use Rattle.pretree.specs.declared.Header.{Header}
use Rattle.pretree.specs.declared.Entry.{Entry}
use Rattle.pretree.specs.declared.Row as Rows
use Rattle.pretree.specs.declared.Answer.TheVariants.{Done, Full}
use Rattle.pretree.specs.declared.leg.Place.{Place}
use Rattle.pretree.specs.declared.leg.Leg.{Leg}
use Rattle.pretree.specs.declared.leg.Side as Sides
use Rattle.pretree.specs.declared.leg.Side.TheVariants.{Left, Right}
use Rattle.pretree.specs.declared.leg.Hook.{Hook}
use Rattle.pretree.specs.Table.{capacity, row_at, from_code, link, with_row, hooked}
use Rattle.pretree.specs.Unfold.{shown}
use Rattle.pretree.specs.Reply.{refused, answered}
use Rattle.pretree.specs.Walk.{Walk, seeking, Walked}
use Rattle.pretree.specs.Leg.{EndsAs, Stands}
use Rattle.pretree.specs.Seek.{bits_left_by}
use Rattle.pretree.specs.Add.{taking, Outcome}

-- the row to which the key of row i is pushed, with m bits left below row i
abbrev pub onward : (ℕ → Rows.Row) → ℕ → ℕ → ℕ
onward rows m i = link (rows i) (side m (rows i).entry.key)

-- the n rows that a push passes from row i on, each with the entry that it takes
unfoldable pub takes_from : (ℕ → Rows.Row) → ℕ → ℕ → ℕ → Entry → List Take
takes_from rows end zero i e = []
takes_from rows end (suc n) i e =
    record { at = i; entry = from_code e } ∷ takes_from rows end n (onward rows (end + n) i) (rows i).entry

-- the entry that is left over after these rows
unfoldable pub left_from : (ℕ → Rows.Row) → ℕ → ℕ → ℕ → Entry → Entry
left_from rows end zero i e = e
left_from rows end (suc n) i e = left_from rows end n (onward rows (end + n) i) (rows i).entry

-- the numbers of these rows are below `top`, and their keys increase, from `low` on
unfoldable pub Rising : (ℕ → Rows.Row) → ℕ → ℕ → ℕ → ℕ → ℕ → Type 0
Rising rows top end zero i low = Unit {0}
Rising rows top end (suc n) i low =
    (i < top) × (low ≤ (rows i).entry.key) × Rising rows top end n (onward rows (end + n) i) (suc (rows i).entry.key)

-- the bits left where a leg is
abbrev pub end_bits : Leg → ℕ
end_bits l = bits_left_by l.at.mask

-- the code's name for a side
abbrev pub from_side : Side → Sides.Side
from_side left = Left
from_side right = Right

-- Where the row at a leg's place is linked: at the row above, on the side that the last bit of the path says. The root, with `width` bits left, is
-- linked nowhere.
abbrev pub hook_of : Leg → ℕ → Option Hook
hook_of l width =
    if ltb (end_bits l) width then Some (record { above = l.above; side = from_side (side (end_bits l) l.at.path) })
    else None

-- the hook's row is one of the first n, if there is one
abbrev pub HookInTable : ℕ → Option Hook → Type 0
HookInTable n None = Unit {0}
HookInTable n (Some k) = k.above < n

-- the table after the push of the entry e from row `from`, where `bits` bits are left, and after the new row was linked at the hook k
unfoldable pub grown_at : Header → List ℕ → Entry → ℕ → ℕ → ℕ → Option Hook → List ℕ
grown_at h table e from bits end k =
    let n : ℕ = bits - end in
    with_row h.count (record { entry = left_from (row_at table) end n from e; left = 0; right = 0 })
    (hooked k h.count (taking (takes_from (row_at table) end n from e) table))

-- what those writes require
pub record Growable (h : Header) (table : List ℕ) (from bits end : ℕ) (k : Option Hook) : Type 0 where
  pub within : bits ≤ h.width
  pub fits : end ≤ bits
  pub rising : Rising (row_at table) (capacity table) end (bits - end) from 0
  pub hook_in_table : HookInTable (capacity table) k

-- the outcome where the word is absent and no damage was met
unfoldable pub grown_outcome : Header → List ℕ → Entry → ℕ → ℕ → ℕ → Option Hook → Outcome
grown_outcome h table e from bits end k =
    let more : Header = record { width = h.width; count = suc h.count } in
    if eqb h.count (capacity table) then record { reply = refused h Full; table = table }
    else record { reply = answered more Done (h.width - end); table = grown_at h table e from bits end k }

-- the way of the word k ended at the row r, which is at this place and has another key
pub record Displaces (h : Header) (table : List ℕ) (k : ℕ) (at : Place) (r : Rows.Row) : Type 0 where
  pub walk : Walk
  pub walked : Walked (row_at table) (seeking k k) h.width h.count (shown h table) walk
  pub stands : Stands at walk
  pub path : walk.path ≡ k / 2 ^ walk.bits
  pub ends : EndsAs (row_at table) walk (Ok (Some r))
  pub another : r.entry.key ≡ k → ⊥
