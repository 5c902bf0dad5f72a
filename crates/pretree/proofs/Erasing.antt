-- From the legs of `del` to what it answers and leaves: the stretch below k's row, the way of the last row, and the outcome.
-- Document 01: "the way of k, then from k's row down by left link, else right link"; "For this a second way, the way of the last row's key".
use Rattle.pretree.specs.declared.leg.Damaged.{Damaged}
use Prim.Native.Nat.{ℕ, zero, suc, pred, ◌+◌, ◌-◌, ◌%◌, ◌≤◌, ◌<◌}
use mathlib.Core.Path.{◌≡◌, refl, sym, ap, ◌∙◌, subst}
use mathlib.Core.Bool.{Bool, true, false, not, ◌&&◌, ◌||◌, or-true, true≢false}
use mathlib.Core.List.{List}
use native.Mathlib.Nat.{pos_of_ne-zero, le_trans, le_of_eq, lt_of_lt_of_le}
use native.Mathlib.Omega.{arith}
use native.Mathlib.Numerals.{sub-one}
use lib.Dec.{ltb, eqb}
use lib.ListN.{length, length-append}
use borrow.Author.Tests.{lt-ltb, eq-eqb, ne_eqb, eqb-true}
use Rattle.std.specs.Prelude.{IsErr, ◌≢◌, Option, Some, None, Ok, Err, if◌then◌else◌, Result}
use Rattle.ordered.specs.Such.{anything}
use Rattle.ordered.specs.Word.{left, side_of}
use Rattle.ordered.specs.Tree.{Tree, none}
use Rattle.ordered.specs.Way.{Way, Step, way, joined, broken, is_damaged, following, down}
use Rattle.ordered.specs.Way as Ways
use Rattle.ordered.specs.Change.{Erasing, erasing, erasing_by, way_ends_at, number_at, above_end}
use Rattle.ordered.proofs.Parts.{All, all_append, last_such_one}
use Rattle.pretree.specs.declared.Header.{Header}
use Rattle.pretree.specs.declared.Row as Rows
use Rattle.pretree.specs.declared.Answer.{Answer}
use Rattle.pretree.specs.declared.Answer.TheVariants.{Done, Damage, NoSuchWord}
use Rattle.pretree.specs.declared.leg.Place.{Place}
use Rattle.pretree.specs.declared.leg.Leg.{Leg}
use Rattle.pretree.specs.declared.seek.Seek.{Seek}
use Rattle.pretree.specs.declared.leg.Damaged.{Damaged}
use Rattle.pretree.specs.declared.leg.Hook.{Hook}
use Rattle.pretree.specs.declared.erase.Hole.{Hole}
use Rattle.pretree.specs.declared.erase.Move.{Move}
use Rattle.pretree.specs.Table.{capacity, row_at}
use Rattle.pretree.specs.Unfold.{shown}
use Rattle.pretree.specs.Reply.{wrong_header, too_wide, refused, answered}
use Rattle.pretree.specs.Walk.{Walk, Stage, On, AtNone, AtRow, AtDamage}
use Rattle.pretree.specs.Walk.{is_on, rows_read_by, tree_at, to_come, remembered, seeking, Ahead, Placed, OnWay, Walked}
use Rattle.pretree.specs.Seek.{row_of, above_of, bits_left_by, place_of, leg_of, WayEnds, Refused, by_header, by_word, by_damage}
use Rattle.pretree.specs.Leg.{judges, row_end, EndsAs, Stands, OnLeg, StaysOnWay, passes_down, stage_here, BegunLeg, LegStopped, LegEnds, End, damage, as_end}
use Rattle.pretree.specs.Del.{second_way, astray, moving, shrunk, del_outcome}
use Rattle.pretree.specs.Resume.{is_damage, ends_at, again, resumed}
use Rattle.pretree.specs.Push.{hook_of, HookInTable}
use Rattle.pretree.specs.Erased.{RowOfKey, SameHook, JudgedStretch, strays, WholeMove, JudgedMove, moved_rows, Within, filled, emptied}
use Rattle.pretree.proofs.Places.{bits_there}
use Rattle.pretree.proofs.Unfolding.{is_row}
use Rattle.pretree.proofs.Ended.{end_part, WayEnd, way_end, way_rows}
use Rattle.pretree.proofs.SeekTurn.{following_is}
use Rattle.pretree.proofs.Resuming.{resumes, WholeWayEnd, whole_way_end, rows_used, shown_used}
use Rattle.pretree.proofs.Sought.{place_stands}
use Rattle.pretree.proofs.Legs.{down_ends}
use Rattle.pretree.proofs.Hooks.{hook_at, hook_is, hook_by, hook_in_table_by}
use Rattle.pretree.proofs.Adding.{there, in_table}
use Rattle.pretree.proofs.Raising.{Stretch, stretch}
use Rattle.pretree.proofs.EndKeys.{no_such_end}
use Rattle.pretree.proofs.WholeTable.{none_shown}

-- the walk of that seek is at the seek's place
module _ {h : Header} {table : List ℕ} {k : ℕ} {s : Seek} {end : End} (q : WayEnds h table k s end) where
  stands_there : Stands (place_of s k) q.ends.walk
  stands_there = place_stands table h k q.fine q.small s end q.ends

  bits_left : bits_left_by s.mask ≡ q.ends.walk.bits
  bits_left = bits_there (place_of s k) q.ends.walk stands_there

  hook_there : hook_of (leg_of s k) h.width ≡ hook_at q.ends.walk h.width
  hook_there = hook_is _ q.ends.walk h.width stands_there q.ends.above

-- at a place further down no more bits are left
fewer : (p q : Place) (w v : Walk) → Stands p w → Stands q v → v.bits ≤ w.bits → bits_left_by q.mask ≤ bits_left_by p.mask
fewer p q w v at_w at_v h = rw (bits_there p w at_w, bits_there q v at_v) h

-- the stretch from one walk's row to another's; and the stretch from a place to the end of a leg, as the code computes it
abbrev hole_at : Walk → Walk → ℕ → Hole
hole_at w s width =
    record { from = w.row; steps = w.bits - s.bits; row = s.row; hook = hook_at s width; rows = width - s.bits + 1 }

abbrev hole_of : Place → Leg → ℕ → Hole
hole_of at r width =
    record {
      from = at.row;
      steps = bits_left_by at.mask - bits_left_by r.at.mask;
      row = r.at.row;
      hook = hook_of r width;
      rows = width - bits_left_by r.at.mask + 1;
    }

hole_stands : (at : Place) (r : Leg) (w s : Walk) (width : ℕ) → Stands at w → Stands r.at s → r.above ≡ s.above → hole_of at r width ≡ hole_at w s width
hole_stands at r w s width at_w at_s a =
    rw (hook_is r s width at_s a, bits_there r.at s at_s, bits_there at w at_w, at_w.row, at_s.row)

-- the way of k, as the walk that has gone it tells
module _ (h : Header) (table : List ℕ) (fine : wrong_header h table ≡ false) (k : ℕ) (w : Walk)
    (gone : Walked (row_at table) (seeking k k) h.width h.count (shown h table) w) where
  abbrev rows : ℕ → Rows.Row
  rows = row_at table

  abbrev whole : Way
  whole = way (following k) h.width (shown h table)

  abbrev at_end : WayEnd rows (seeking k k) h.width h.count (shown h table) w gone w.stage
  at_end = way_end rows (seeking k k) h.width h.count (shown h table) w gone

  abbrev end_part_at : Stage → Tree
  end_part_at = end_part rows (seeking k k) h.width h.count (shown h table) w gone

  room : w.count ≤ capacity table
  room = in_table h table (record { key = k; serial = 0 }) w fine gone

  broken_is : broken whole ≡ is_damage w.stage
  unfolding broken
  broken_is = rw (following_is k, at_end.end) (by_stage w.stage)
    where
      by_stage : (stage : Stage) → is_damaged (end_part_at stage) ≡ is_damage stage
      by_stage On = refl
      by_stage AtNone = refl
      by_stage AtRow = refl
      by_stage AtDamage = refl

  ends_is : way_ends_at k whole ≡ ends_at k w.entry.key w.stage
  ends_is = rw (following_is k) (there h table (record { key = k; serial = 0 }) w fine gone)

  rows_are : Ways.rows whole ≡ rows_read_by w h.width
  rows_are = rw (following_is k) (way_rows rows (seeking k k) h.width h.count (shown h table) w gone)

  above_is : above_end whole ≡ remembered rows w.count (ltb w.bits h.width) w.bits w.above (side_of (w.path % 2))
  above_is = rw (following_is k) at_end.above

  hooks_whole : SameHook (above_end whole) (hook_at w h.width)
  hooks_whole = hook_by rows w.count (capacity table) w.bits w.above w.path room (ltb w.bits h.width) (above_end whole) above_is

  whole_used : All (λ s. s.at < w.count) whole.passed
  whole_used = rw gone.walking.same_count (shown_used (following k) h table)

  hook_in_table_whole : HookInTable (capacity table) (hook_at w h.width)
  hook_in_table_whole =
      hook_in_table_by rows w.count (capacity table) w.bits w.above w.path room (ltb w.bits h.width) (above_end whole) above_is (last_such_one anything whole_used)

  -- the walk ended at k's row and continues from there
  module _ (at_k : ends_at k w.entry.key w.stage ≡ true) where
    at_row : w.stage ≡ AtRow
    at_row = go w.stage at_k
      where
        go : (stage : Stage) → ends_at k w.entry.key stage ≡ true → stage ≡ AtRow
        go On e = cc
        go AtNone e = cc
        go AtRow e = refl
        go AtDamage e = cc

    placed : Placed rows w AtRow
    placed = subst (Placed rows w) at_row gone.walking.placed

    used : w.row < h.count
    used = rw (← gone.walking.same_count) placed.0

    stage_here_is : again w.stage ≡ stage_here h.count w.row
    stage_here_is = rw (at_row, lt-ltb w.row h.count used)

    ahead : Ahead rows h.width (way (seeking k k) h.width (shown h table)) w (to_come rows (seeking k k) w AtRow)
    ahead =
        subst (λ (s : Stage). Ahead rows h.width (way (seeking k k) h.width (shown h table)) w (to_come rows (seeking k k) w s)) at_row
        gone.walking.ahead

    -- the stretch, and both ways joined
    abbrev below_way : Way
    below_way = way (down left) whole.bits whole.end

    abbrev both : Way
    both = joined whole below_way

    below_is : below_way ≡ way (down left) w.bits (tree_at rows w)
    below_is = rw (following_is k, ← ahead.end, ← ahead.bits)

    abbrev e : Erasing
    e = erasing h.width k (shown h table)

    is_erasing : e ≡ erasing_by whole below_way both true
    unfolding erasing
    is_erasing = rw (ends_is ∙ at_k)

    both_used : All (λ t. t.at < w.count) both.passed
    unfolding joined
    both_used = all_append whole_used (rw below_is (rows_used rows (down left) w.count w.bits w.path w.low w.row))

    first_length : length whole.passed ≡ h.width - w.bits
    first_length = rw (following_is k) at_end.number

    module _ (s : Walk) (went : StaysOnWay rows (down left) h.count (resumed w) s) where
      -- s is the walk that has continued along the stretch
      abbrev sought_way : Way
      sought_way = way (seeking k k) h.width (shown h table)

      abbrev sought_both : Way
      sought_both = joined sought_way (way (down left) sought_way.bits sought_way.end)

      on_both : OnWay rows (down left) h.width h.count both s
      on_both =
          rw (following_is k)
          (went h.width sought_both
          (subst (λ (n : ℕ). OnWay rows (down left) h.width n sought_both (resumed w)) gone.walking.same_count
          (resumes rows (seeking k k) (down left) h.width h.count (shown h table) w gone)))

      same_counts : s.count ≡ w.count
      same_counts = on_both.same_count ∙ sym gone.walking.same_count

      module _ (off : is_on s.stage ≡ false) where
        abbrev whole_end : WholeWayEnd rows (down left) h.width h.count both s off on_both s.stage
        whole_end = whole_way_end rows (down left) h.width h.count both s off on_both

        broken_below : broken e.rows_read ≡ is_damage s.stage
        unfolding broken
        broken_below = rw is_erasing whole_end.damage

        both_length : length whole.passed + length below_way.passed ≡ h.width - s.bits
        unfolding joined
        both_length = sym (length-append whole.passed below_way.passed) ∙ whole_end.number

        bits_fall : s.bits ≤ w.bits
        bits_fall = omega (arith, first_length, both_length, gone.walking.fits, on_both.fits)

        stretch_length : length (way (down left) w.bits (tree_at rows w)).passed ≡ w.bits - s.bits
        stretch_length = rw (← below_is) (omega (arith, first_length, both_length, gone.walking.fits, on_both.fits))

      module _ (ends_row : s.stage ≡ AtRow) where
        not_on : is_on s.stage ≡ false
        not_on = rw ends_row

        placed_below : Placed rows s AtRow
        placed_below = subst (Placed rows s) ends_row on_both.placed

        end_below : both.end ≡ tree_at rows s
        end_below = sym (subst (λ (t : Stage). Ahead rows h.width both s (to_come rows (down left) s t)) ends_row on_both.ahead).end

        hole_number : number_at both.end ≡ s.row
        hole_number =
            rw (end_below, is_row rows s.count s.bits s.path s.low s.row (rw (lt-ltb s.row s.count placed_below.0) placed_below.1))

        whole_below : is_damaged (way (down left) w.bits (tree_at rows w)).end ≡ false
        unfolding joined
        whole_below =
            let so : is_damaged below_way.end ≡ is_damage s.stage = (whole_end not_on).damage in
            rw (← below_is, so, ends_row)

        abbrev stretch_is : Stretch rows w.count (capacity table) room w.low w.row (way (down left) w.bits (tree_at rows w))
        stretch_is = stretch rows w.count (capacity table) room w.bits w.path w.low w.row whole_below

        above_below : above_end both ≡ remembered rows w.count (ltb s.bits h.width) s.bits s.above (side_of (s.path % 2))
        above_below = (whole_end not_on).above ∙ rw same_counts

        rows_below : Ways.rows both ≡ h.width - s.bits + 1
        unfolding Ways.rows
        rows_below = rw ((whole_end not_on).number, (whole_end not_on).end_rows_are, ends_row)

        -- so what the code judged about the stretch holds, and all rows that it will write are in the table
        judged_so : JudgedStretch e table (hole_at w s h.width)
        unfolding joined
        judged_so =
            record {
              whole = broken_below not_on ∙ rw ends_row;
              present = rw is_erasing;
              rows = rw is_erasing rows_below;
              takes = rw (is_erasing, below_is, ← stretch_length not_on) stretch_is.takes;
              row = rw is_erasing hole_number;
              hook =
                  rw is_erasing
                  (hook_by rows w.count (capacity table) s.bits s.above s.path room (ltb s.bits h.width) (above_end both) above_below);
            }

        within_so : Within table (hole_at w s h.width)
        within_so =
            record {
              rises = rw (← stretch_length not_on) stretch_is.rises;
              hook_in_table =
                  hook_in_table_by rows w.count (capacity table) s.bits s.above s.path room (ltb s.bits h.width) (above_end both) above_below
                  (last_such_one anything both_used);
              used = lt_of_lt_of_le (rw same_counts at placed_below.0) room;
            }

-- a leg that ended at a row, and not at damage
row_there : (rows : ℕ → Rows.Row) (count : ℕ) (p : Place) (w : Walk) → EndsAs rows w (as_end (row_end rows count p)) → (row_end rows count p ≡ damage → ⊥) → w.stage ≡ AtRow
row_there rows count p w = go (ltb p.row count && judges p (rows p.row))
  where
    go : (b : Bool) → EndsAs rows w (as_end (if b then Ok (rows p.row) else damage))
        → ((if b then Ok (rows p.row) else damage) ≡ damage → ⊥) → w.stage ≡ AtRow
    go true so not_damage = so.0
    go false so not_damage = absurd (not_damage refl)

-- the leg down from k's row
module _ {h : Header} {table : List ℕ} {k : ℕ} {at : Place} {above : ℕ} (fine : wrong_header h table ≡ false) (found : RowOfKey h table k at above) where
  abbrev start : Leg
  start = record { at = at; above = above }

  on_leg : OnLeg h.count start (resumed found.walk)
  on_leg =
      let st = found.stands in
      record {
        stands =
            record { row = st.row; mask = st.mask; path = st.path; low = st.low; few = st.few; room = st.room };
        above = found.above;
        same_count = found.walked.walking.same_count;
      }

  wants_row : (resumed found.walk).stage ≡ stage_here h.count found.walk.row
  wants_row = stage_here_is h table fine k found.walk found.walked found.there

  pub begun : BegunLeg h.count stage_here start
  begun = record { walk = resumed found.walk; on = on_leg; stage = wants_row }

  module _ {r : Leg} (g : LegStopped (row_at table) (down left) h.count stage_here (passes_down (row_at table) h.count) start r) where
    leg_ends : LegEnds (row_at table) (down left) h.count (resumed found.walk) r (as_end (row_end (row_at table) h.count r.at))
    leg_ends = down_ends (row_at table) h.count left start r g (resumed found.walk) on_leg wants_row

    pub few_bits : bits_left_by r.at.mask ≤ h.width
    few_bits =
        le_trans (le_of_eq (bits_there r.at leg_ends.walk leg_ends.on.stands))
        (on_both h table fine k found.walk found.walked found.there leg_ends.walk leg_ends.stays_on_way).fits

    pub damaged_below : row_end (row_at table) h.count r.at ≡ damage → broken (erasing h.width k (shown h table)).rows_read ≡ true
    damaged_below d =
        let so : leg_ends.walk.stage ≡ AtDamage = subst (λ (x : Result Rows.Row Damaged). EndsAs (row_at table) leg_ends.walk (as_end x)) d leg_ends.ends in
        let off : is_on leg_ends.walk.stage ≡ false = ap is_on so in
        broken_below h table fine k found.walk found.walked found.there leg_ends.walk leg_ends.stays_on_way off ∙ ap is_damage so

    module _ (there : row_end (row_at table) h.count r.at ≡ damage → ⊥) where
      row_end_is : leg_ends.walk.stage ≡ AtRow
      row_end_is = row_there (row_at table) h.count r.at leg_ends.walk leg_ends.ends there

      same_hole : hole_of at r h.width ≡ hole_at found.walk leg_ends.walk h.width
      same_hole = hole_stands at r found.walk leg_ends.walk h.width found.stands leg_ends.on.stands leg_ends.on.above

      pub judged_stretch : JudgedStretch (erasing h.width k (shown h table)) table (hole_of at r h.width)
      judged_stretch =
          subst (JudgedStretch (erasing h.width k (shown h table)) table) (sym same_hole)
          (judged_so h table fine k found.walk found.walked found.there leg_ends.walk leg_ends.stays_on_way row_end_is)

      pub within : Within table (hole_of at r h.width)
      within =
          subst (Within table) (sym same_hole)
          (within_so h table fine k found.walk found.walked found.there leg_ends.walk leg_ends.stays_on_way row_end_is)

      pub falls : bits_left_by r.at.mask ≤ bits_left_by at.mask
      falls =
          fewer at r.at found.walk leg_ends.walk found.stands leg_ends.on.stands
          (bits_fall h table fine k found.walk found.walked found.there leg_ends.walk leg_ends.stays_on_way (ap is_on row_end_is))

-- whether a way that ended at row i, as the `End` says, ended at the last row
abbrev pub ends_last : ℕ → ℕ → End → Bool
ends_last i last (Ok None) = false
ends_last i last (Ok (Some r)) = eqb i last
ends_last i last (Err d) = false

pub no_last : (i last : ℕ) (e : End) → ((r : Rows.Row) → e ≡ Ok (Some r) → ⊥) → ends_last i last e ≡ false
no_last i last (Ok None) other = refl
no_last i last (Ok (Some r)) other = absurd (other r refl)
no_last i last (Err d) other = refl

-- if the second test implies the first, the second alone decides whether both hold
only_second : (a b : Bool) → (b ≡ true → a ≡ true) → not (a && b) ≡ not b
only_second true b own = refl
only_second false true own = absurd (true≢false (sym (own refl)))
only_second false false own = refl

-- the way of the last row's key, and whether it is astray
module _ (h : Header) (table : List ℕ) (fine : wrong_header h table ≡ false) where
  abbrev last : ℕ
  last = pred h.count

  abbrev last_key : ℕ
  last_key = (row_at table last).entry.key

  -- the way of a key that is no word is astray
  pub wide_strays : (x : ℕ) → x ≡ last_key → too_wide h x ≡ true → strays h table ≡ true
  unfolding second_way astray
  wide_strays x own wide = rw (no_such_end (following last_key) h table last_key (rw own at wide)) (or-true (broken (second_way h table)))

  module _ (w : Walk) (gone : Walked (row_at table) (seeking last_key last_key) h.width h.count (shown h table) w) where
    astray_is : strays h table ≡ not (ends_at last_key w.entry.key w.stage && eqb w.row last)
    unfolding second_way astray
    astray_is =
        rw (broken_is h table fine last_key w gone, ends_is h table fine last_key w gone)
        (rw (following_is last_key, (at_end h table fine last_key w gone).end) (by_stage w.stage))
      where
        by_stage : (stage : Stage)
            → (is_damage stage || not (ends_at last_key w.entry.key stage && eqb (number_at (end_part_at h table fine last_key w gone stage)) last))
            ≡ not (ends_at last_key w.entry.key stage && eqb w.row last)
        by_stage On = refl
        by_stage AtNone = refl
        by_stage AtRow = refl
        by_stage AtDamage = refl

    -- if the way ended at the last row, the key there is the last row's key
    astray_by : (e : End) → EndsAs (row_at table) w e → not (ends_at last_key w.entry.key w.stage && eqb w.row last) ≡ not (ends_last w.row last e)
    astray_by (Ok None) so = rw so
    astray_by (Err d) so = rw so
    astray_by (Ok (Some r)) so = rw so.0 (only_second (eqb last_key w.entry.key) (eqb w.row last) own)
      where
        own : eqb w.row last ≡ true → eqb last_key w.entry.key ≡ true
        own same = eq-eqb last_key w.entry.key (rw (so.2, so.1, eqb-true w.row last same))

    at_last : (e : End) → EndsAs (row_at table) w e → not (ends_last w.row last e) ≡ false → w.stage ≡ AtRow
    at_last (Ok None) so good = absurd (true≢false good)
    at_last (Err d) so good = absurd (true≢false good)
    at_last (Ok (Some r)) so good = so.0

    strays_by : (e : End) → EndsAs (row_at table) w e → strays h table ≡ not (ends_last w.row last e)
    strays_by e so = astray_is ∙ astray_by e so

    last_moves : (e : End) → EndsAs (row_at table) w e → ends_last w.row last e ≡ true
        → WholeMove h table (record { hook = hook_at w h.width; rows = h.width - w.bits + 1 })
    unfolding second_way
    last_moves e so is =
        record {
          whole = strays_by e so ∙ rw is;
          rows = rw (rows_are h table fine last_key w gone, at_last e so (rw is));
          hook = hooks_whole h table fine last_key w gone;
        }

-- the move of the last row, from the seek of its key x
module _ {h : Header} {table : List ℕ} {x : ℕ} {s : Seek} {end : End} (q : WayEnds h table x s end) (own : x ≡ (row_at table (pred h.count)).entry.key) where
  abbrev own_key : ℕ
  own_key = (row_at table (pred h.count)).entry.key

  last_walked : Walked (row_at table) (seeking own_key own_key) h.width h.count (shown h table) q.ends.walk
  last_walked =
      subst (λ (k : ℕ). Walked (row_at table) (seeking k k) h.width h.count (shown h table) q.ends.walk) own q.ends.walked

  its_end : (b : Bool) → ends_last (row_of s) (h.count - 1) end ≡ b → ends_last q.ends.walk.row (pred h.count) end ≡ b
  its_end b is = rw (q.ends.row, sub-one h.count) at is

  pub seek_strays : ends_last (row_of s) (h.count - 1) end ≡ false → strays h table ≡ true
  seek_strays is = strays_by h table q.fine q.ends.walk last_walked end q.ends.ends ∙ rw (its_end false is)

  module _ {l : Leg} {bits : ℕ} {k : Option Hook} (at : l ≡ leg_of s x) (left_there : bits ≡ bits_left_by s.mask)
      (hooked : k ≡ hook_of l h.width) where
    its_hook : k ≡ hook_at q.ends.walk h.width
    its_hook = hooked ∙ rw at (hook_there q)

    pub seek_moves : ends_last (row_of s) (h.count - 1) end ≡ true → WholeMove h table (record { hook = k; rows = h.width - bits + 1 })
    seek_moves is =
        rw (its_hook, left_there, bits_left q) (last_moves h table q.fine q.ends.walk last_walked end q.ends.ends (its_end true is))

    pub seek_hook_in_table : HookInTable (capacity table) k
    seek_hook_in_table = subst (HookInTable (capacity table)) (sym its_hook) (hook_in_table_whole h table q.fine own_key q.ends.walk last_walked)

-- a set without rows has no word
no_word : (m k : ℕ) → (erasing m k none).present ≡ false
unfolding erasing way
no_word zero k = refl
no_word (suc m) k = refl

pub some_rows : (h : Header) (table : List ℕ) (k : ℕ) (hole : Hole) → JudgedStretch (erasing h.width k (shown h table)) table hole → 0 < h.count
some_rows h table k hole e =
    pos_of_ne-zero (λ empty. true≢false (sym e.present ∙ ap (λ (t : Tree). (erasing h.width k t).present) (none_shown h table empty) ∙ no_word h.width k))

-- the outcome, in the order of document 01's refusals
module _ (h : Header) (table : List ℕ) (k : ℕ) (fine : wrong_header h table ≡ false) (small : too_wide h k ≡ false) where
  abbrev change : Erasing
  change = erasing h.width k (shown h table)

  pub on_damage : broken change.rows_read ≡ true → del_outcome h table k ≡ record { reply = refused h Damage; table = table }
  unfolding del_outcome
  on_damage b = rw (fine, small, b)

  module _ (w : Walk) (gone : Walked (row_at table) (seeking k k) h.width h.count (shown h table) w) (absent : ends_at k w.entry.key w.stage ≡ false) where
    broken_above : broken change.rows_read ≡ is_damage w.stage
    unfolding erasing
    broken_above = rw (ends_is h table fine k w gone ∙ absent) (broken_is h table fine k w gone)

    not_there : is_damage w.stage ≡ false
        → del_outcome h table k ≡ record { reply = answered h NoSuchWord (rows_read_by w h.width); table = table }
    unfolding del_outcome erasing
    not_there ok =
        rw (fine, small, ends_is h table fine k w gone ∙ absent, broken_is h table fine k w gone ∙ ok, rows_are h table fine k w gone)

  module _ (hole : Hole) (e : JudgedStretch change table hole) where
    pub on_straying : (d : Damaged) → JudgedMove h table hole.row (Err d) → del_outcome h table k ≡ record { reply = refused h Damage; table = table }
    unfolding del_outcome
    on_straying d v = rw (fine, small, e.whole, e.present, e.row, ne_eqb hole.row (pred h.count) v.0, v.1)

    pub on_done : (m : Option Move) → JudgedMove h table hole.row (Ok m)
        → del_outcome h table k
        ≡ record {
          reply =
              record { header = record { width = h.width; count = pred h.count }; answer = Done; rows = hole.rows; moved = moved_rows m };
          table = emptied (pred h.count) hole m table;
        }
    unfolding del_outcome shrunk moving emptied filled
    on_done None v = rw (fine, small, e.whole, e.present, e.rows, e.row, eq-eqb hole.row (pred h.count) v, e.takes, e.hook)
    on_done (Some m) v =
        rw (fine, small, e.whole, e.present, e.rows, e.row, ne_eqb hole.row (pred h.count) v.0, v.1.whole, v.1.rows, e.takes, e.hook, v.1.hook)

-- the outcome, by how the seek of k ended
module _ {h : Header} {table : List ℕ} {k : ℕ} where
  pub del_refused : {a : Answer} → Refused h table k a → del_outcome h table k ≡ record { reply = refused h a; table = table }
  unfolding del_outcome
  del_refused (by_header e) = rw e
  del_refused (by_word e f) = rw (e, f)
  del_refused (by_damage q) =
      let so : q.ends.walk.stage ≡ AtDamage = q.ends.ends in
      on_damage h table k q.fine q.small (broken_above h table k q.fine q.small q.ends.walk q.ends.walked (rw so) ∙ rw so)

  pub seek_none : {s : Seek} → WayEnds h table k s (Ok None)
      → del_outcome h table k ≡ record { reply = answered h NoSuchWord (h.width - bits_left_by s.mask); table = table }
  seek_none {s} q =
      let so : q.ends.walk.stage ≡ AtNone = q.ends.ends in
      let read : rows_read_by q.ends.walk h.width ≡ h.width - bits_left_by s.mask = rw (so, bits_left q) (omega arith) in
      rw (← read) (not_there h table k q.fine q.small q.ends.walk q.ends.walked (rw so) (rw so))

  module _ {s : Seek} {r : Rows.Row} (q : WayEnds h table k s (Ok (Some r))) where
    pub seek_other : (r.entry.key ≡ k → ⊥)
        → del_outcome h table k ≡ record { reply = answered h NoSuchWord (h.width - bits_left_by s.mask + 1); table = table }
    seek_other apart =
        let absent : ends_at k q.ends.walk.entry.key q.ends.walk.stage ≡ false
        = rw q.ends.ends.0 (ne_eqb k q.ends.walk.entry.key (λ same. apart (sym (same ∙ ap (λ e. e.key) q.ends.ends.2)))) in
        let read : rows_read_by q.ends.walk h.width ≡ h.width - bits_left_by s.mask + 1 = rw (q.ends.ends.0, bits_left q) in
        rw (← read) (not_there h table k q.fine q.small q.ends.walk q.ends.walked absent (rw q.ends.ends.0))

    module _ (same : r.entry.key ≡ k) where
      pub row_of_key : RowOfKey h table k (place_of s k) (above_of s)
      row_of_key =
          record {
            walk = q.ends.walk;
            walked = q.ends.walked;
            there = rw q.ends.ends.0 (eq-eqb k q.ends.walk.entry.key (sym (ap (λ e. e.key) q.ends.ends.2 ∙ same)));
            stands = stands_there q;
            above = q.ends.above;
          }

      pub key_there : (row_at table (row_of s)).entry.key ≡ k
      key_there = rw (q.ends.row, ← q.ends.ends.1) same

-- an error of the second way is handed on
pub strays_on_error : (h : Header) (table : List ℕ) {hole : ℕ} (r : Result (Option Move) Damaged) → IsErr r → (hole ≢ pred h.count) → strays h table ≡ true → JudgedMove h table hole r
strays_on_error h table (Ok m) err apart is = absurd (true≢false (sym err))
strays_on_error h table (Err d) err apart is = (apart, is)
