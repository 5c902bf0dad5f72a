-- A walk goes with a leg, by the leg's rule: the walk passes a row if the leg does, and ends where the leg stops.
use Prim.Native.Nat.{ℕ, zero, suc, pred, ◌+◌, ◌-◌, ◌/◌, ◌^◌, ◌<◌}
use mathlib.Core.Path.{◌≡◌, refl, sym, ap, ◌∙◌, subst}
use mathlib.Core.Bool.{Bool, true, false, not, ◌&&◌, ◌||◌, true≢false}
use native.Mathlib.Nat.{suc-ne-zero, pos_of_ne-zero}
use native.Mathlib.Omega.{arith}
use lib.Bits.{bit_xor, and_mask}
use lib.Dec.{ltb, leb, eqb}
use borrow.Author.Tests.{lt-ltb, ne_eqb, ltb-true, eqb-true, eqb-false}
use Rattle.std.specs.Prelude.{if◌then◌else◌, Option, Ok, Some, None}
use Rattle.ordered.specs.Word.{Side, left, right, other, bit_of, side}
use Rattle.ordered.specs.Way.{Rule, Turn, stop, to, down, pushing}
use Rattle.ordered.proofs.Ways.{and_true}
use Rattle.pretree.specs.declared.Row as Rows
use Rattle.pretree.specs.declared.leg.Place.{Place}
use Rattle.pretree.specs.declared.leg.Leg.{Leg}
use Rattle.pretree.specs.Table.{entry_of, link}
use Rattle.pretree.specs.Walk.{Walk, Stage, On, AtRow, AtDamage, is_on, holds, ended, remembering, passed, turned, stage_at, met, below, down_turn}
use Rattle.pretree.specs.Leg.{judges, row_end, link_end, EndsAs, Stands, OnLeg, StaysOnWay, passes_down, first_side, passes_push, own_side, leg_past, past_linked, past_pushed, Led, began, further, stage_here, BegunLeg, LegWalk, LegStopped, LegEnds, End, damage, as_end}
use Rattle.pretree.proofs.Between.{turns_so}
use Rattle.pretree.proofs.Places.{judges_alike, below_stands, inner}
use Rattle.pretree.proofs.Walking.{keeps}
use Rattle.pretree.proofs.DownTurn.{down_says}

-- every walk that was where the leg l was has continued to where the leg r is
abbrev pub Follows : (ℕ → Rows.Row) → Rule → ℕ → (ℕ → ℕ → Stage) → Leg → Leg → Type 0
Follows rows f count stage_of l r = (w : Walk) → OnLeg count l w → w.stage ≡ stage_of count w.row → LegWalk rows f count stage_of w r

module _ (rows : ℕ → Rows.Row) (f : Rule) (count : ℕ) (stage_of : ℕ → ℕ → Stage) where
  -- a leg that has not moved
  pub follows_itself : (l : Leg) → Follows rows f count stage_of l l
  follows_itself l w on stage = record { walk = w; on = on; stays_on_way = λ width whole g. g; stage = stage }

  pub follows_further : (l r s : Leg) → Follows rows f count stage_of l r → Follows rows f count stage_of r s → Follows rows f count stage_of l s
  follows_further l r s first next w on stage =
      let v : LegWalk rows f count stage_of w r = first w on stage in
      let u : LegWalk rows f count stage_of v.walk s = next v.walk v.on v.stage in
      record { walk = u.walk; on = u.on; stays_on_way = λ width whole g. u.stays_on_way width whole (v.stays_on_way width whole g); stage = u.stage }

-- a leg that has continued from one that may begin: the last word with the bits of its path has at most 32 bits
pub has_room : (rows : ℕ → Rows.Row) (f : Rule) (count : ℕ) (stage_of : ℕ → ℕ → Stage) (l r : Leg) → BegunLeg count stage_of l → Follows rows f count stage_of l r
    → r.at.path + r.at.mask < 2 ^ 32
has_room rows f count stage_of l r b follows = (follows b.walk b.on b.stage).on.stands.room

-- a row that a leg passes is in use and undamaged, and bits are left there
pub record Passing (rows : ℕ → Rows.Row) (count : ℕ) (p : Place) : Type 0 where
  pub used : p.row < count
  pub judged : judges p (rows p.row) ≡ true
  pub bits_left : 0 < p.mask

-- so the mask below is smaller
pub halves : (rows : ℕ → Rows.Row) (count : ℕ) (p : Place) → Passing rows count p → p.mask / 2 < p.mask
halves rows count p passing = omega (arith, passing.bits_left)

-- what a walk does at a row
module _ (w : Walk) (r : Rows.Row) where
  meets_damage : (t : Turn) → holds w r ≡ false → met w r t ≡ ended w AtDamage (entry_of r)
  unfolding met
  meets_damage t bad = rw bad

  stops_there : holds w r ≡ true → met w r stop ≡ ended w AtRow (entry_of r)
  unfolding met turned
  stops_there fine = rw fine (go (eqb w.bits 0))
    where
      go : (b : Bool) → (if b then ended w AtRow (entry_of r) else ended w AtRow (entry_of r)) ≡ ended w AtRow (entry_of r)
      go true = refl
      go false = refl

  stops_at_depth : (t : Turn) → holds w r ≡ true → w.bits ≡ 0 → met w r t ≡ ended w AtRow (entry_of r)
  unfolding met
  stops_at_depth t fine none_left = rw (fine, none_left)

  turns_there : (t : Turn) (m : ℕ) → holds w r ≡ true → w.bits ≡ suc m → met w r t ≡ turned w r t
  unfolding met
  turns_there t m fine bits = rw (fine, bits, ne_eqb (suc m) 0 (suc-ne-zero m))

-- a leg at the next row of its walk
module _ (rows : ℕ → Rows.Row) (f : Rule) (count : ℕ) (l : Leg) (w : Walk) (on : OnLeg count l w) (wants : w.stage ≡ On) where
  abbrev here : Rows.Row
  here = rows l.at.row

  -- the rule says the turn t there
  abbrev Says : Turn → Type 0
  Says t =
      (m : ℕ) → w.bits ≡ suc m
      → f m (entry_of here) (below rows count (suc m) l.at.row left) (below rows count (suc m) l.at.row right) ≡ t

  meets_row : (t : Turn) → Says t → StaysOnWay rows f count w (met w here t)
  meets_row t says =
      subst (λ (i : ℕ). StaysOnWay rows f count w (met w (rows i) t)) (sym on.stands.row)
      (λ width whole g. keeps rows f width count whole w (ap is_on wants) g t (λ m e. rw (← on.stands.row) (says m e)))

  ended_with : (t : Turn) (stage : Stage) (e : End) → Says t → met w here t ≡ ended w stage (entry_of here)
      → EndsAs rows (ended w stage (entry_of here)) e → LegEnds rows f count w l e
  ended_with t stage e says ends so =
      record {
        walk = ended w stage (entry_of here);
        on =
            record {
              stands =
                  record {
                    row = on.stands.row;
                    mask = on.stands.mask;
                    path = on.stands.path;
                    low = on.stands.low;
                    few = on.stands.few;
                    room = on.stands.room;
                  };
              above = on.above;
              same_count = on.same_count;
            };
        stays_on_way = rw ends at (meets_row t says);
        ends = so;
      }

  -- if the leg passes the row, the walk does
  module _ (m : ℕ) (bits : w.bits ≡ suc m) (fine : holds w here ≡ true) (s : Side) (says : Says (to s)) where
    past_link : (v : Walk) (i : Side) → v.bits ≡ w.bits → v.path ≡ w.path → v.row ≡ w.row → v.count ≡ w.count
        → OnLeg count (leg_past l here i) (passed v (entry_of here) (bit_of i) (link here i))
    past_link v i same_bits same_path same_row same_count =
        record {
          stands = below_stands l.at w on.stands m bits here i v same_bits same_path;
          above = on.stands.row ∙ sym same_row;
          same_count = same_count ∙ on.same_count;
        }

    past_row : (i : Side) → OnLeg count (leg_past l here i) (turned w here (to i))
    unfolding turned
    past_row right = past_link w right refl refl refl refl
    past_row left = go (eqb here.right 0)
      where
        go : (b : Bool) → OnLeg count (leg_past l here left) (passed (if b then w else remembering w) (entry_of here) 0 here.left)
        go true = past_link w left refl refl refl refl
        go false = past_link (remembering w) left refl refl refl refl

    row_past : (i : Side) → (turned w here (to i)).row ≡ link here i
    unfolding turned
    row_past right = refl
    row_past left = refl

    stage_past : (i : Side) → (turned w here (to i)).stage ≡ stage_at count (link here i)
    unfolding turned
    stage_past right = rw on.same_count
    stage_past left = go (eqb here.right 0)
      where
        go : (b : Bool) → (passed (if b then w else remembering w) (entry_of here) 0 here.left).stage ≡ stage_at count here.left
        go true = rw on.same_count
        go false = rw on.same_count

    pub goes_past : (stage_of : ℕ → ℕ → Stage) → stage_at count (link here s) ≡ stage_of count (link here s) → LegWalk rows f count stage_of w (leg_past l here s)
    goes_past stage_of led =
        record {
          walk = turned w here (to s);
          on = past_row s;
          stays_on_way = rw (turns_there w here (to s) m fine bits) at (meets_row (to s) says);
          stage = stage_past s ∙ led ∙ sym (ap (stage_of count) (row_past s));
        }

  -- if the leg stops at the row, the walk ends there
  ends_here : (t : Turn) → Says t → (holds w here ≡ true → met w here t ≡ ended w AtRow (entry_of here))
      → LegEnds rows f count w l (as_end (if judges l.at here then Ok here else damage))
  ends_here t says last = rw (judges_alike l.at w on.stands here) (go (holds w here) refl)
    where
      go : (b : Bool) → holds w here ≡ b → LegEnds rows f count w l (as_end (if b then Ok here else damage))
      go true fine = ended_with t AtRow (Ok (Some here)) says (last fine) (refl, ap rows on.stands.row, refl)
      go false bad = ended_with t AtDamage damage says (meets_damage w here t bad) refl

-- a walk that ended at the last link of its leg
ends_at_link : (rows : ℕ → Rows.Row) (f : Rule) (count : ℕ) (l : Leg) (w : Walk) (e : End) → OnLeg count l w → EndsAs rows w e → LegEnds rows f count w l e
ends_at_link rows f count l w e on so = record { walk = w; on = on; stays_on_way = λ width whole g. g; ends = so }

-- the end after the second of two legs is the end after both
ends_after : (rows : ℕ → Rows.Row) (f : Rule) (count : ℕ) (stage_of : ℕ → ℕ → Stage) (w : Walk) (r : Leg) (e : End) (v : LegWalk rows f count stage_of w r)
    → LegEnds rows f count v.walk r e → LegEnds rows f count w r e
ends_after rows f count stage_of w r e v u =
    record { walk = u.walk; on = u.on; stays_on_way = λ width whole g. u.stays_on_way width whole (v.stays_on_way width whole g); ends = u.ends }

-- no bit is left if the mask is 0
module _ (p : Place) (w : Walk) (st : Stands p w) where
  some_bits : 0 < p.mask → (m : ℕ) × (w.bits ≡ suc m)
  some_bits some = go w.bits refl
    where
      go : (b : ℕ) → w.bits ≡ b → (m : ℕ) × (w.bits ≡ suc m)
      go zero e = let nothing : p.mask ≡ 0 = st.mask ∙ rw e in absurd (omega arith)
      go (suc m) e = (m, e)

  no_bits : p.mask ≡ 0 → w.bits ≡ 0
  no_bits nothing = go w.bits refl
    where
      go : (b : ℕ) → w.bits ≡ b → w.bits ≡ 0
      go zero e = e
      go (suc m) e = absurd (omega (arith, inner p w st m e))

-- The step of both loops: the leg passes a row, to the side that the rule says.
passes_row : (rows : ℕ → Rows.Row) (f : Rule) (count : ℕ) (stage_of : ℕ → ℕ → Stage) (l : Leg) (s : Side) → Passing rows count l.at
    → stage_of count l.at.row ≡ On
    → stage_at count (link (rows l.at.row) s) ≡ stage_of count (link (rows l.at.row) s)
    → ((w : Walk) → OnLeg count l w → (m : ℕ) → w.bits ≡ suc m
    → f m (entry_of (rows l.at.row)) (below rows count (suc m) l.at.row left) (below rows count (suc m) l.at.row right)
    ≡ to s)
    → Follows rows f count stage_of l (leg_past l (rows l.at.row) s)
passes_row rows f count stage_of l s p wants led says w on stage =
    let some = some_bits l.at w on.stands p.bits_left in
    let fine : holds w (rows l.at.row) ≡ true = sym (judges_alike l.at w on.stands (rows l.at.row)) ∙ p.judged in
    goes_past rows f count l w on (stage ∙ rw (← on.stands.row) wants) some.0 some.1 fine s (says w on) stage_of led

not_true : (b : Bool) → not b ≡ true → b ≡ false
not_true true h = sym h
not_true false h = refl

not_false : (b : Bool) → not b ≡ false → b ≡ true
not_false true h = refl
not_false false h = sym h

-- what it tells that there is a leg past a row, or none
past_true : {A : Type 0} (b : Bool) (l m : A) → (if b then Some l else None) ≡ Some m → (b ≡ true) × (m ≡ l)
past_true true l m e = (refl, cc)
past_true false l m e = cc

past_false : {A : Type 0} (b : Bool) (l : A) → (if b then Some l else None) ≡ None → b ≡ false
past_false true l e = cc
past_false false l e = refl

-- a leg that goes on by steps that follow the walk
pub led_follows : (rows : ℕ → Rows.Row) (f : Rule) (count : ℕ) (stage_of : ℕ → ℕ → Stage) (R : Leg → Option Leg → Type 0)
    → ((m n : Leg) → R m (Some n) → Follows rows f count stage_of m n)
    → (l r : Leg) → Led R l r → Follows rows f count stage_of l r
led_follows rows f count stage_of R step l r began = follows_itself rows f count stage_of l
led_follows rows f count stage_of R step l r (further {m} led goes) =
    follows_further rows f count stage_of l m r (led_follows rows f count stage_of R step l m led) (step m r goes)

-- down by the links: a row is passed to the side that the rule says, by a link other than 0
abbrev no_links : Rows.Row → Bool
no_links r = eqb r.left 0 && eqb r.right 0

stops_without : (s : Side) (r : Rows.Row) → no_links r ≡ true → down_turn s r ≡ stop
stops_without left r h = let both = and_true (eqb r.left 0) _ h in rw (both.0, both.1)
stops_without right r h = let both = and_true (eqb r.left 0) _ h in rw (both.1, both.0)

module _ (r : Rows.Row) (links : no_links r ≡ false) where
  other_linked : (s : Side) → eqb (link r s) 0 ≡ true → eqb (link r (other s)) 0 ≡ false
  other_linked left e = rw e at links
  other_linked right e = go (eqb r.left 0) (rw e at links)
    where
      go : (b : Bool) → (b && true) ≡ false → b ≡ false
      go true h = h
      go false h = refl

  first_turn : (s : Side) → (down_turn s r ≡ to (first_side s r)) × (link r (first_side s r) ≡ 0 → ⊥)
  first_turn s = go (eqb (link r s) 0) refl
    where
      go : (b : Bool) → eqb (link r s) 0 ≡ b
          → ((if not b then to s else if not (eqb (link r (other s)) 0) then to (other s) else stop) ≡ to (if b then other s else s))
          × (link r (if b then other s else s) ≡ 0 → ⊥)
      go false there = (refl, eqb-false _ 0 there)
      go true none =
          let there : eqb (link r (other s)) 0 ≡ false = other_linked s none in
          rw there (refl, eqb-false _ 0 there)

module _ (rows : ℕ → Rows.Row) (count : ℕ) (p : Place) (goes : passes_down rows count p ≡ true) where
  down_links : no_links (rows p.row) ≡ false
  down_links = not_true _ (and_true (judges p (rows p.row)) _ (and_true (ltb p.row count) _ goes).1).1

  pub down_passing : Passing rows count p
  down_passing =
      let used = and_true (ltb p.row count) _ goes in
      let fine = and_true (judges p (rows p.row)) _ used.1 in
      let high = and_true (leb p.low (rows p.row).entry.key) _ fine.0 in
      let near = and_true (leb (bit_xor (rows p.row).entry.key p.path) p.mask) _ high.1 in
      record { used = ltb-true p.row count used.0; judged = fine.0; bits_left = inside (eqb p.mask 0) refl (rw down_links at near.1) }
    where
      inside : (b : Bool) → eqb p.mask 0 ≡ b → (not b || false) ≡ true → 0 < p.mask
      inside true e h = absurd (true≢false (sym h))
      inside false e h = pos_of_ne-zero (eqb-false p.mask 0 e)

pub passes_down_is : (rows : ℕ → Rows.Row) (count : ℕ) (side : Side) (l : Leg) → passes_down rows count l.at ≡ true
    → Follows rows (down side) count stage_here l (leg_past l (rows l.at.row) (first_side side (rows l.at.row)))
passes_down_is rows count side l goes =
    let p : Passing rows count l.at = down_passing rows count l.at goes in
    let turns = first_turn (rows l.at.row) (down_links rows count l.at goes) side in
    passes_row rows (down side) count stage_here l _ p (rw (lt-ltb _ _ p.used)) (rw (ne_eqb _ 0 turns.1))
    (λ w on m e. down_says rows count m l.at.row _ side ∙ turns.0)

pub linked_follows : (rows : ℕ → Rows.Row) (count : ℕ) (side : Side) (l m : Leg) → past_linked rows count side l ≡ Some m
    → Follows rows (down side) count stage_here l m
linked_follows rows count side l m e =
    let goes = past_true _ _ m e in
    rw goes.1 (passes_down_is rows count side l goes.0)

pub linked_stops : (rows : ℕ → Rows.Row) (count : ℕ) (side : Side) (l : Leg) → past_linked rows count side l ≡ None → passes_down rows count l.at ≡ false
linked_stops rows count side l e = past_false _ _ e

-- the walk ends where a leg down by the links stops
pub down_ends : (rows : ℕ → Rows.Row) (count : ℕ) (side : Side) (l r : Leg)
    → LegStopped rows (down side) count stage_here (passes_down rows count) l r
    → (w : Walk) → OnLeg count l w → w.stage ≡ stage_here count w.row
    → LegEnds rows (down side) count w r (as_end (row_end rows count r.at))
down_ends rows count side l r g w on at = ends_after rows (down side) count stage_here w r _ v (by_used (ltb r.at.row count) refl)
  where
    v : LegWalk rows (down side) count stage_here w r
    v = g.walks w on at

    here : Rows.Row
    here = rows r.at.row

    -- an undamaged row in use that is not passed has no link
    last : ltb r.at.row count ≡ true → holds v.walk here ≡ true → no_links here ≡ true
    last used fine =
        let judged : judges r.at here ≡ true = judges_alike r.at v.walk v.on.stands here ∙ fine in
        not_false _ (rw (used, judged) at g.stopped)

    by_used : (b : Bool) → ltb r.at.row count ≡ b
        → LegEnds rows (down side) count v.walk r (as_end (if b && judges r.at here then Ok here else damage))
    by_used true used =
        ends_here rows (down side) count r v.walk v.on (v.stage ∙ rw (← v.on.stands.row, used)) (down_turn side here)
        (λ m e. down_says rows count m r.at.row _ side)
        (λ fine. rw (stops_without side here (last used fine)) (stops_there v.walk here fine))
    by_used false unused =
        ends_at_link rows (down side) count r v.walk damage v.on (v.stage ∙ rw (← v.on.stands.row, unused))

-- The push: the turn by a key's own bits is the turn that the rule says.
pub own_turn : (mask m key : ℕ) → mask ≡ 2 ^ suc m - 1 → own_side mask key ≡ side m key
own_turn mask m key e = rw (e, and_mask key (suc m), turns_so m key)

module _ (rows : ℕ → Rows.Row) (count : ℕ) (p : Place) (goes : passes_push rows count p ≡ true) where
  push_linked : p.row ≡ 0 → ⊥
  push_linked = eqb-false p.row 0 (not_true _ (and_true (not (eqb p.row 0)) _ goes).0)

  pub push_passing : Passing rows count p
  push_passing =
      let used = and_true (ltb p.row count) _ (and_true (not (eqb p.row 0)) _ goes).1 in
      let fine = and_true (judges p (rows p.row)) _ used.1 in
      record {
        used = ltb-true p.row count used.0;
        judged = fine.0;
        bits_left = pos_of_ne-zero (eqb-false p.mask 0 (not_true _ fine.1));
      }

pub passes_push_is : (rows : ℕ → Rows.Row) (count : ℕ) (l : Leg) → passes_push rows count l.at ≡ true
    → Follows rows pushing count stage_at l (leg_past l (rows l.at.row) (own_side l.at.mask (rows l.at.row).entry.key))
unfolding pushing
passes_push_is rows count l goes =
    let p : Passing rows count l.at = push_passing rows count l.at goes in
    passes_row rows pushing count stage_at l _ p (rw (ne_eqb _ 0 (push_linked rows count l.at goes), lt-ltb _ _ p.used)) refl
    (λ w on m e. ap to (sym (own_turn l.at.mask m _ (on.stands.mask ∙ rw e))))

pub pushed_follows : (rows : ℕ → Rows.Row) (count : ℕ) (l m : Leg) → past_pushed rows count l ≡ Some m
    → Follows rows pushing count stage_at l m
pushed_follows rows count l m e =
    let goes = past_true _ _ m e in
    rw goes.1 (passes_push_is rows count l goes.0)

pub pushed_stops : (rows : ℕ → Rows.Row) (count : ℕ) (l : Leg) → past_pushed rows count l ≡ None → passes_push rows count l.at ≡ false
pushed_stops rows count l e = past_false _ _ e

-- the walk ends where a push stops
pub push_ends : (rows : ℕ → Rows.Row) (count : ℕ) (l r : Leg)
    → LegStopped rows pushing count stage_at (passes_push rows count) l r
    → (w : Walk) → OnLeg count l w → w.stage ≡ stage_at count w.row
    → LegEnds rows pushing count w r (link_end rows count r.at)
unfolding pushing
push_ends rows count l r g w on at =
    ends_after rows pushing count stage_at w r _ v (by_row (eqb r.at.row 0) (ltb r.at.row count) refl refl)
  where
    v : LegWalk rows pushing count stage_at w r
    v = g.walks w on at

    here : Rows.Row
    here = rows r.at.row

    -- at an undamaged row in use that is not passed no bit is left
    last : eqb r.at.row 0 ≡ false → ltb r.at.row count ≡ true → holds v.walk here ≡ true → v.walk.bits ≡ 0
    last there used fine =
        let judged : judges r.at here ≡ true = judges_alike r.at v.walk v.on.stands here ∙ fine in
        no_bits r.at v.walk v.on.stands (eqb-true r.at.mask 0 (not_false _ (rw (there, used, judged) at g.stopped)))

    by_row : (a b : Bool) → eqb r.at.row 0 ≡ a → ltb r.at.row count ≡ b
        → LegEnds rows pushing count v.walk r (if a then Ok None else as_end (if b && judges r.at here then Ok here else damage))
    by_row true b none used = ends_at_link rows pushing count r v.walk (Ok None) v.on (v.stage ∙ rw (← v.on.stands.row, none))
    by_row false false there unused =
        ends_at_link rows pushing count r v.walk damage v.on (v.stage ∙ rw (← v.on.stands.row, there, unused))
    by_row false true there used =
        ends_here rows pushing count r v.walk v.on (v.stage ∙ rw (← v.on.stands.row, there, used))
        (to (side (pred v.walk.bits) here.entry.key)) (λ m e. rw e)
        (λ fine. stops_at_depth v.walk here _ fine (last there used fine))
