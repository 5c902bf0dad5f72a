-- The legs of `src/leg.rt`, which do not follow a word's bits: where a leg is, how it judges a row, and the walk that goes with it.
use Rattle.std.specs.Prelude.{ℕ, suc, ◌+◌, ◌*◌, ◌-◌, ◌/◌, ◌^◌, ◌≤◌, ◌<◌, ◌≡◌, Bool, false, not, ◌&&◌, ◌||◌, ltb, leb, eqb, if◌then◌else◌, Option, Some, None, Result, Ok, Err}
use Rattle.std.specs.Int.Bits.{bit_xor, bit_and}
use Rattle.ordered.specs.Word.{Side, left, right, other, bit_of}
use Rattle.ordered.specs.Way.{Way, Rule}
use Rattle.pretree.specs.declared.Row as Rows
use Rattle.pretree.specs.declared.leg.Damaged.{Damaged}
use Rattle.pretree.specs.declared.leg.Place.{Place}
use Rattle.pretree.specs.declared.leg.Leg.{Leg}
use Rattle.pretree.specs.Table.{entry_of, link}
use Rattle.pretree.specs.Walk.{Walk, Stage, On, AtNone, AtRow, AtDamage, OnWay}

abbrev pub root_place : ℕ → Place
root_place width = record { row = 0; mask = 2 ^ width - 1; path = 0; low = 0 }

-- every damage rule for a row at the place, except the rule for its number: the key is `low` or more and has the bits of the path, and at depth W
-- both links are 0
abbrev pub judges : Place → Rows.Row → Bool
judges p r =
    leb p.low r.entry.key
    && (leb (bit_xor r.entry.key p.path) p.mask && (not (eqb p.mask 0) || (eqb r.left 0 && eqb r.right 0)))

-- the place to which the link on side s of the row r leads
abbrev pub below_place : Place → Rows.Row → Side → Place
below_place p r s =
    record { row = link r s; mask = p.mask / 2; path = p.path + bit_of s * suc (p.mask / 2); low = suc r.entry.key }

-- how a leg ends: at an empty link, at a row or at damage
abbrev pub End : Type 0
End = Result (Option Rows.Row) Damaged

abbrev pub damage : {A : Type 0} → Result A Damaged
damage = Err (record {})

-- what a leg finds at its row; and at a link, which may be empty
abbrev pub row_end : (ℕ → Rows.Row) → ℕ → Place → Result Rows.Row Damaged
row_end rows count p = if ltb p.row count && judges p (rows p.row) then Ok (rows p.row) else damage

abbrev pub as_end : Result Rows.Row Damaged → End
as_end (Ok r) = Ok (Some r)
as_end (Err d) = Err d

abbrev pub link_end : (ℕ → Rows.Row) → ℕ → Place → End
link_end rows count p = if eqb p.row 0 then Ok None else as_end (row_end rows count p)

-- the walk ended as a leg did
abbrev pub EndsAs : (ℕ → Rows.Row) → Walk → End → Type 0
EndsAs rows w (Ok None) = w.stage ≡ AtNone
EndsAs rows w (Ok (Some r)) = (w.stage ≡ AtRow) × (r ≡ rows w.row) × (w.entry ≡ entry_of r)
EndsAs rows w (Err d) = w.stage ≡ AtDamage

-- The place is where the walk is. The path of a place is a word: the least one with the bits of the walk's path.
pub record Stands (p : Place) (w : Walk) : Type 0 where
  pub row : p.row ≡ w.row
  pub mask : p.mask ≡ 2 ^ w.bits - 1
  pub path : p.path ≡ w.path * 2 ^ w.bits
  pub low : p.low ≡ w.low
  -- words have at most 32 bits
  pub few : w.bits ≤ 32
  pub room : p.path + p.mask < 2 ^ 32

-- the leg is where the walk is
pub record OnLeg (count : ℕ) (l : Leg) (w : Walk) : Type 0 where
  pub stands : Stands l.at w
  pub above : l.above ≡ w.above
  pub same_count : w.count ≡ count

-- the walk v has continued the walk w by the rule f: v is on every way that w was on
abbrev pub StaysOnWay : (ℕ → Rows.Row) → Rule → ℕ → Walk → Walk → Type 0
StaysOnWay rows f count w v = (width : ℕ) (whole : Way) → OnWay rows f width count whole w → OnWay rows f width count whole v

-- a leg down by the links passes an undamaged row that has a link
abbrev pub passes_down : (ℕ → Rows.Row) → ℕ → Place → Bool
passes_down rows count p =
    ltb p.row count && (judges p (rows p.row) && not (eqb (rows p.row).left 0 && eqb (rows p.row).right 0))

-- the side s if the row has a link there, else the other side
abbrev pub first_side : Side → Rows.Row → Side
first_side s r = if eqb (link r s) 0 then other s else s

-- a push passes an undamaged row if bits are left there
abbrev pub passes_push : (ℕ → Rows.Row) → ℕ → Place → Bool
passes_push rows count p =
    not (eqb p.row 0) && (ltb p.row count && (judges p (rows p.row) && not (eqb p.mask 0)))

-- the side to which a key's own bits push it
abbrev pub own_side : ℕ → ℕ → Side
own_side mask key = if ltb (mask / 2) (bit_and key mask) then right else left

-- the leg past a row, by its link on a side
abbrev pub leg_past : Leg → Rows.Row → Side → Leg
leg_past l r s = record { at = below_place l.at r s; above = l.at.row }

-- the leg past its row, if it passes the row
abbrev pub past_linked : (ℕ → Rows.Row) → ℕ → Side → Leg → Option Leg
past_linked rows count s l =
    if passes_down rows count l.at then Some (leg_past l (rows l.at.row) (first_side s (rows l.at.row))) else None

abbrev pub past_pushed : (ℕ → Rows.Row) → ℕ → Leg → Option Leg
past_pushed rows count l =
    if passes_push rows count l.at then Some (leg_past l (rows l.at.row) (own_side l.at.mask (rows l.at.row).entry.key)) else None

-- the leg has gone on from l, by the steps that R allows
pub data Led (R : Leg → Option Leg → Type 0) (l : Leg) : Leg → Type 0 where
  began : Led R l l
  further : {m n : Leg} → Led R l m → R m (Some n) → Led R l n

-- like `stage_at`, for a row to which no link led: here 0 is the root, not an empty link
abbrev pub stage_here : ℕ → ℕ → Stage
stage_here count i = if ltb i count then On else AtDamage

-- a leg that may begin: some walk is where it is
pub record BegunLeg (count : ℕ) (stage_of : ℕ → ℕ → Stage) (l : Leg) : Type 0 where
  pub walk : Walk
  pub on : OnLeg count l walk
  pub stage : walk.stage ≡ stage_of count walk.row

-- a walk that has continued the walk w, by the rule f, to where the leg r is
pub record LegWalk (rows : ℕ → Rows.Row) (f : Rule) (count : ℕ) (stage_of : ℕ → ℕ → Stage) (w : Walk) (r : Leg) : Type 0 where
  pub walk : Walk
  pub on : OnLeg count r walk
  pub stays_on_way : StaysOnWay rows f count w walk
  pub stage : walk.stage ≡ stage_of count walk.row

-- The leg r began as l and has stopped: `passes` says that its row is not passed. Each walk that was where l was has continued to where r is.
pub record LegStopped (rows : ℕ → Rows.Row) (f : Rule) (count : ℕ) (stage_of : ℕ → ℕ → Stage) (passes : Place → Bool) (l r : Leg) : Type 0 where
  pub stopped : passes r.at ≡ false
  pub walks : (w : Walk) → OnLeg count l w → w.stage ≡ stage_of count w.row → LegWalk rows f count stage_of w r

-- the walk that has continued the walk w to the end of the leg, which r reached and which is e
pub record LegEnds (rows : ℕ → Rows.Row) (f : Rule) (count : ℕ) (w : Walk) (r : Leg) (e : End) : Type 0 where
  pub walk : Walk
  pub on : OnLeg count r walk
  pub stays_on_way : StaysOnWay rows f count w walk
  pub ends : EndsAs rows walk e
