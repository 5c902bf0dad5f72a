-- A key is displaced: its row is passed, to the side that the key's own bits say, and the push continues below it.
use Rattle.std.specs.Prelude.{Ok, Err, Some, None}
use Prim.Native.Nat.{ℕ, zero, suc, ◌-◌, ◌/◌, ◌^◌, ◌<◌}
use mathlib.Core.Path.{◌≡◌, refl, sym, ap, ◌∙◌, subst}
use mathlib.Core.Bool.{true, false}
use mathlib.Core.List.{List}
use lib.Dec.{leb, eqb}
use borrow.Author.Tests.{ne_eqb, eqb-true}
use Rattle.ordered.specs.Way.{pushing, to}
use Rattle.ordered.proofs.Ways.{and_true}
use Rattle.ordered.proofs.Bits.{whole_path}
use Rattle.pretree.specs.declared.Entry.{Entry}
use Rattle.pretree.specs.declared.Header.{Header}
use Rattle.pretree.specs.declared.Row as Rows
use Rattle.pretree.specs.declared.Answer.TheVariants as Answers
use Rattle.pretree.specs.declared.leg.Place.{Place}
use Rattle.pretree.specs.declared.leg.Leg.{Leg}
use Rattle.pretree.specs.Table.{from_code, row_at}
use Rattle.pretree.specs.Reply.{wrong_header, too_wide, refused}
use Rattle.pretree.specs.Walk.{Walk, AtNone, AtRow, AtDamage, stage_at, is_on, holds, Placed}
use Rattle.pretree.specs.Resume.{ends_at, again, resumed}
use Rattle.pretree.specs.Leg.{link_end, EndsAs, Stands, OnLeg, StaysOnWay, passes_push, own_side, BegunLeg, LegWalk, LegStopped, LegEnds, End, damage, leg_past}
use Rattle.pretree.specs.Seek.{bits_left_by}
use Rattle.pretree.specs.Add.{add_outcome}
use Rattle.pretree.specs.Push.{end_bits, hook_of, Growable, grown_outcome, Displaces}
use Rattle.pretree.proofs.Places.{inner, bits_there}
use Rattle.pretree.proofs.Legs.{goes_past, own_turn, push_ends}
use Rattle.pretree.proofs.Adding.{not_at_row, damage_outcome, growable, grown_outcome_is}

module _ (h : Header) (table : List ℕ) (x : Entry) (at : Place) (r : Rows.Row) (fine : wrong_header h table ≡ false)
    (small : too_wide h x.key ≡ false) (d : Displaces h table x.key at r) where
  abbrev k : ℕ
  k = x.key

  abbrev w : Walk
  w = d.walk

  abbrev rows : ℕ → Rows.Row
  rows = row_at table

  abbrev key : ℕ
  key = r.entry.key

  placed : Placed rows w AtRow
  placed = subst (Placed rows w) d.ends.0 d.walked.walking.placed

  -- with no bit left the row's key would be the word itself
  some_bits : (m : ℕ) × (w.bits ≡ suc m)
  some_bits = go w.bits refl
    where
      path_there : key / 2 ^ w.bits ≡ k / 2 ^ w.bits
      path_there =
          let row_holds : holds w r ≡ true = subst (λ (y : Rows.Row). holds w y ≡ true) (sym d.ends.1) placed.1 in
          let low = and_true (leb w.low key) _ row_holds in
          eqb-true (key / 2 ^ w.bits) w.path (and_true (eqb (key / 2 ^ w.bits) w.path) _ low.1).0 ∙ d.path

      go : (b : ℕ) → w.bits ≡ b → (m : ℕ) × (w.bits ≡ suc m)
      go zero e = absurd (d.another (sym (whole_path key) ∙ subst (λ (b : ℕ). key / 2 ^ b ≡ k / 2 ^ b) e path_there ∙ whole_path k))
      go (suc m) e = (m, e)

  abbrev m : ℕ
  m = some_bits.0

  abbrev bits : w.bits ≡ suc m
  bits = some_bits.1

  pub inner_place : 0 < at.mask
  inner_place = inner at w d.stands m bits

  -- the row is the walk's next row again, and a leg is where the walk is
  abbrev row_leg : Leg
  row_leg = record { at = at; above = w.above }

  wants_again : OnLeg h.count row_leg (resumed w)
  wants_again =
      let st : Stands at w = d.stands in
      record {
        stands = record { row = st.row; mask = st.mask; path = st.path; low = st.low; few = st.few; room = st.room };
        above = refl;
        same_count = d.walked.walking.same_count;
      }

  -- past the row, to the side that its key's own bits say
  abbrev past : Rows.Row → Leg
  past y = leg_past row_leg y (own_side at.mask y.entry.key)

  passes_first : LegWalk rows pushing h.count stage_at (resumed w) (past r)
  unfolding pushing
  passes_first =
      let row_holds : holds w (rows at.row) ≡ true = subst (λ (i : ℕ). holds w (rows i) ≡ true) (sym d.stands.row) placed.1 in
      subst (λ (y : Rows.Row). LegWalk rows pushing h.count stage_at (resumed w) (past y)) (ap rows d.stands.row ∙ sym d.ends.1)
      (goes_past rows pushing h.count row_leg (resumed w) wants_again (ap again d.ends.0) m bits row_holds _
      (λ n e. ap to (sym (own_turn at.mask n _ (d.stands.mask ∙ ap (λ (b : ℕ). 2 ^ b - 1) e)))) stage_at refl)

  pub begun_push : BegunLeg h.count stage_at (past r)
  begun_push = record { walk = passes_first.walk; on = passes_first.on; stage = passes_first.stage }

  -- where the push stops
  module _ (leg : Leg) (gone : LegStopped rows pushing h.count stage_at (passes_push rows h.count) (past r) leg) where
    abbrev end : End
    end = link_end rows h.count leg.at

    ends_push : LegEnds rows pushing h.count passes_first.walk leg end
    ends_push = push_ends rows h.count (past r) leg gone passes_first.walk passes_first.on passes_first.stage

    abbrev p : Walk
    p = ends_push.walk

    stays : StaysOnWay rows pushing h.count (resumed w) p
    stays width whole g = ends_push.stays_on_way width whole (passes_first.stays_on_way width whole g)

    absent : ends_at k w.entry.key w.stage ≡ false
    absent = ap (ends_at k w.entry.key) d.ends.0 ∙ ap (λ e. eqb k e.key) d.ends.2 ∙ ne_eqb k key (λ same. d.another (sym same))

    pub push_damaged : end ≡ damage → add_outcome h table (from_code x) ≡ record { reply = refused h Answers.Damage; table = table }
    push_damaged e =
        let at_damage : p.stage ≡ AtDamage = subst (EndsAs rows p) e ends_push.ends in
        damage_outcome h table x w fine d.walked p stays (ap is_on at_damage) small absent at_damage

    at_link : (end ≡ damage → ⊥) → p.stage ≡ AtNone
    at_link whole = go end refl ends_push.ends
      where
        off : (r : Rows.Row) → EndsAs rows p (Ok (Some r)) → p.stage ≡ AtNone
        off r at_row = absurd (not_at_row h table x w fine d.walked p stays (ap is_on at_row.0) m d.ends.0 bits at_row.0)

        go : (e : End) → end ≡ e → EndsAs rows p e → p.stage ≡ AtNone
        go (Ok None) is ends = ends
        go (Ok (Some r)) is ends = off r ends
        go (Err e) is ends = absurd (whole is)

    module _ (whole : end ≡ damage → ⊥) where
      pub push_growable : Growable h table at.row (bits_left_by at.mask) (end_bits leg) (hook_of leg h.width)
      push_growable =
          growable h table x w fine d.walked p stays (ap is_on (at_link whole)) at.row (bits_left_by at.mask) leg d.stands.row (bits_there at w d.stands) ends_push.on

      pub push_outcome : add_outcome h table (from_code x) ≡ grown_outcome h table x at.row (bits_left_by at.mask) (end_bits leg) (hook_of leg h.width)
      push_outcome =
          grown_outcome_is h table x w fine d.walked p stays (ap is_on (at_link whole)) at.row (bits_left_by at.mask) leg d.stands.row (bits_there at w d.stands) ends_push.on small
          absent (at_link whole)
