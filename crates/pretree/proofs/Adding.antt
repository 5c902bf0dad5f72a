-- The outcome of `add`, from the walk of the word's way and the walk that continues it along the push.
use Prim.Native.Nat.{ℕ, suc, ◌+◌, ◌-◌, ◌≤◌, ◌<◌}
use mathlib.Core.Path.{◌≡◌, refl, sym, ap, ◌∙◌, subst}
use mathlib.Core.Bool.{Bool, true, false, true≢false}
use mathlib.Core.List.{List, ◌++◌}
use native.Mathlib.Nat.{add-zero, le_refl}
use native.Mathlib.Omega.{arith}
use lib.Dec.{ltb, eqb}
use lib.ListN.{length}
use borrow.Author.Tests.{eqb-true, eq-eqb, ne_eqb}
use Rattle.std.specs.Prelude.{Option, if◌then◌else◌, Ok, Some, None}
use Rattle.ordered.specs.Such.{is_there, such, no_such, anything}
use Rattle.ordered.specs.Tree.{Tree, none, damaged}
use Rattle.ordered.specs.Way.{Way, way, joined, broken, is_damaged, end_rows, pushing}
use Rattle.ordered.specs.Way as Ways
use Rattle.ordered.specs.Change.{way_ends_at, adding, adding_by}
use Rattle.ordered.proofs.Parts.{All, none_all, all_append, last_such_one}
use Rattle.ordered.specs.Reading.{Found}
use Rattle.pretree.specs.declared.Header.{Header}
use Rattle.pretree.specs.declared.Entry.{Entry}
use Rattle.pretree.specs.declared.Row as Rows
use Rattle.pretree.specs.declared.Answer.{Answer}
use Rattle.pretree.specs.declared.Answer.TheVariants.{Done, Full, AlreadyThere}
use Rattle.pretree.specs.declared.Answer.TheVariants as Answers
use Rattle.pretree.specs.declared.leg.Leg.{Leg}
use Rattle.pretree.specs.declared.seek.Seek.{Seek}
use Rattle.pretree.specs.Table.{from_code, capacity, row_at, with_serial, with_row, hooked}
use Rattle.pretree.specs.declared.leg.Hook.{Hook}
use Rattle.pretree.specs.Unfold.{shown}
use Rattle.pretree.specs.Reply.{wrong_header, too_wide, refused, answered}
use Rattle.pretree.specs.Walk.{Walk, Stage, On, AtNone, AtRow, AtDamage, is_on, end_read, rows_read_by, ended, tree_at, to_come, step_at, seeking, Ahead, Placed, OnWay, Walked}
use Rattle.pretree.specs.Resume.{is_damage, ends_at, again, resumed}
use Rattle.pretree.specs.Leg.{OnLeg, StaysOnWay, damage}
use Rattle.pretree.specs.Seek.{row_of, bits_left_by, place_of, leg_of, SeekEnds, Refused, by_header, by_word, by_damage}
use Rattle.pretree.specs.Add.{taking, grown, add_outcome}
use Rattle.pretree.specs.Push.{takes_from, left_from, end_bits, hook_of, grown_at, Growable, grown_outcome, Displaces}
use Rattle.pretree.proofs.Rows.{own_key}
use Rattle.pretree.proofs.Checks.{right_header}
use Rattle.pretree.proofs.Walking.{at_none, at_damage}
use Rattle.pretree.proofs.SeekTurn.{following_is}
use Rattle.pretree.proofs.Sought as Sought
use Rattle.pretree.proofs.Places.{bits_there}
use Rattle.pretree.proofs.Hooks.{hook_at, hook_is, hook_by, hook_in_table_by}
use Rattle.pretree.proofs.Ended.{end_part, way_end, way_rows}
use Rattle.pretree.proofs.Resuming.{resumes, WholeWayEnd, whole_way_end, rows_used, shown_used}
use Rattle.pretree.proofs.Pushing.{rises_within, Pushed, none_pushed, is_pushed, no_end_row}

-- an absent word: the writes one after the other, and the outcome
module _ (h : Header) (table : List ℕ) (e : Entry) (from bits end : ℕ) (k : Option Hook) where
  pub writes_grow : {entry : Entry} {pushed linked after : List ℕ}
      → entry ≡ left_from (row_at table) end (bits - end) from e
      → pushed ≡ taking (takes_from (row_at table) end (bits - end) from e) table
      → linked ≡ hooked k h.count pushed
      → after ≡ with_row h.count (record { entry = entry; left = 0; right = 0 }) linked
      → after ≡ grown_at h table e from bits end k
  unfolding grown_at
  writes_grow x t l a = rw (a, l, t, x)

  pub on_full : h.count ≡ capacity table → grown_outcome h table e from bits end k ≡ record { reply = refused h Full; table = table }
  unfolding grown_outcome
  on_full full = rw (eq-eqb _ _ full)

  pub on_done : (h.count ≡ capacity table → ⊥)
      → grown_outcome h table e from bits end k
      ≡ record {
        reply = answered (record { width = h.width; count = suc h.count }) Done (h.width - end);
        table = grown_at h table e from bits end k;
      }
  unfolding grown_outcome
  on_done room = rw (ne_eqb _ _ room)

module _ (h : Header) (table : List ℕ) (e : Entry) (w : Walk) (fine : wrong_header h table ≡ false)
    (gone : Walked (row_at table) (seeking e.key e.key) h.width h.count (shown h table) w) where
  abbrev k : ℕ
  k = e.key

  abbrev rows : ℕ → Rows.Row
  rows = row_at table

  -- the way of the word, the push from where it ends, and both joined
  abbrev first : Way
  first = way (seeking k k) h.width (shown h table)

  abbrev push : Way
  push = way pushing first.bits first.end

  abbrev whole : Way
  whole = joined first push

  on_whole : OnWay rows pushing h.width h.count whole (resumed w)
  on_whole =
      subst (λ (n : ℕ). OnWay rows pushing h.width n whole (resumed w)) gone.walking.same_count
      (resumes rows (seeking k k) pushing h.width h.count (shown h table) w gone)

  pub in_table : w.count ≤ capacity table
  in_table = rw gone.walking.same_count (right_header h table fine).has_room

  -- the keys of the push increase, and its rows are in use
  record Known (v : Way) : Type 0 where
    by_numbers : Pushed rows w.count w.bits w.row w.low v
    used : All (λ s. s.at < w.count) v.passed

  from_end : (P : Way → Type 0) (t : Tree) → t ≡ first.end → w.bits ≡ first.bits → P (way pushing w.bits t) → P push
  from_end P t e b p = rw (← e, ← b) p

  known : Known push
  known = by_stage w.stage gone.ended gone.walking.ahead
    where
      ended_there : (t : Tree) → Known (Ways.ending w.bits t)
      ended_there t = record { by_numbers = none_pushed rows w.count w.bits w.row w.low t; used = none_all }

      by_stage : (stage : Stage) → is_on stage ≡ false → Ahead rows h.width first w (to_come rows (seeking k k) w stage) → Known push
      by_stage On off g = absurd (true≢false off)
      by_stage AtNone off g = from_end Known none g.end g.bits (rw (at_none pushing w.bits) (ended_there none))
      by_stage AtDamage off g = from_end Known damaged g.end g.bits (rw (at_damage pushing w.bits) (ended_there damaged))
      by_stage AtRow off g =
          from_end Known (tree_at rows w) g.end g.bits
          (record {
            by_numbers = is_pushed rows w.count w.bits w.path w.low w.row;
            used = rows_used rows pushing w.count w.bits w.path w.low w.row;
          })

  -- a push from a row with bits left does not end at a row
  ends_free : (m : ℕ) → w.stage ≡ AtRow → w.bits ≡ suc m → end_rows push.end ≡ 0
  ends_free m at bits =
      let g : Ahead rows h.width first w (to_come rows (seeking k k) w AtRow)
      = subst (λ (s : Stage). Ahead rows h.width first w (to_come rows (seeking k k) w s)) at gone.walking.ahead in
      from_end (λ (v : Way). end_rows v.end ≡ 0) (tree_at rows w) g.end g.bits (rw bits (no_end_row rows w.count m w.path w.low w.row))

  pub there : way_ends_at k first ≡ ends_at k w.entry.key w.stage
  there = rw (way_end rows _ _ _ _ w gone).end (by_stage w.stage)
    where
      by_key : (b : Bool) → is_there {A = Found} (if b then such (record { entry = w.entry; bits = first.bits }) else no_such) ≡ b
      by_key true = refl
      by_key false = refl

      by_stage : (stage : Stage) → way_ends_at k (Ways.ending first.bits (end_part rows _ _ _ _ w gone stage)) ≡ ends_at k w.entry.key stage
      by_stage On = refl
      by_stage AtNone = refl
      by_stage AtRow = by_key (eqb k w.entry.key)
      by_stage AtDamage = refl

  -- a way that ends at the word is not broken
  whole_there : ends_at k w.entry.key w.stage ≡ true → broken first ≡ false
  unfolding broken
  whole_there is = rw (way_end rows _ _ _ _ w gone).end (by_stage w.stage is)
    where
      by_stage : (stage : Stage) → ends_at k w.entry.key stage ≡ true → is_damaged (end_part rows _ _ _ _ w gone stage) ≡ false
      by_stage On e = refl
      by_stage AtNone e = refl
      by_stage AtRow e = refl
      by_stage AtDamage e = sym e

  -- the row of the word takes the new serial, and nothing else changes
  own_key_there : w.stage ≡ AtRow → k ≡ w.entry.key → k ≡ (row_at table w.row).entry.key
  own_key_there at same = same ∙ ap (λ x. x.key) (subst (Placed rows w) at gone.walking.placed).2

  present_outcome : too_wide h k ≡ false → ends_at k w.entry.key w.stage ≡ true → w.stage ≡ AtRow
      → add_outcome h table (from_code e)
      ≡ record { reply = answered h AlreadyThere (rows_read_by w h.width); table = with_serial w.row e.serial table }
  unfolding add_outcome adding taking
  present_outcome small is at =
      rw (fine, small, following_is k, there, is, whole_there is, way_rows rows _ _ _ _ w gone, (way_end rows _ _ _ _ w gone).end, at)
      (ap (λ t. record { reply = answered h AlreadyThere (h.width - w.bits + 1); table = t })
      (own_key w.row (from_code e) table (own_key_there at (at_key at))))
    where
      at_key : w.stage ≡ AtRow → k ≡ w.entry.key
      at_key at = eqb-true k w.entry.key (subst (λ (stage : Stage). ends_at k w.entry.key stage ≡ true) at is)

  -- the walk p has gone on to the end of the push
  module _ (p : Walk) (StaysOn : StaysOnWay rows pushing h.count (resumed w) p) (off : is_on p.stage ≡ false) where
    abbrev on_way : OnWay rows pushing h.width h.count whole p
    on_way = StaysOn h.width whole on_whole

    whole_end : WholeWayEnd rows pushing h.width h.count whole p off on_way p.stage
    whole_end = whole_way_end rows pushing h.width h.count whole p off on_way

    -- the bits, the length and the entries of the push, from the walk
    end_is : push.bits ≡ p.bits
    unfolding joined
    end_is = whole_end.bits

    passed_is : length push.passed ≡ w.bits - p.bits
    passed_is = omega (arith, known.by_numbers.number, end_is)

    grows : Growable h table w.row w.bits p.bits (hook_at p h.width)
    unfolding joined step_at
    grows =
        let right = right_header h table fine in
        record {
          within = gone.walking.fits;
          fits = omega (arith, known.by_numbers.number, end_is);
          rising =
              rises_within rows w.count (capacity table) p.bits (w.bits - p.bits) w.row w.low in_table
              (rw (end_is, passed_is) at known.by_numbers.rising);
          hook_in_table =
              let all : All (λ s. s.at < h.count) (first.passed ++ push.passed)
              = all_append (shown_used (seeking k k) h table) (rw gone.walking.same_count at known.used) in
              hook_in_table_by rows p.count (capacity table) p.bits p.above p.path (rw on_way.same_count right.has_room) (ltb p.bits h.width) _ whole_end.above
              (rw on_way.same_count (last_such_one anything all));
        }

    grown_is : grown h.count (adding_by (from_code e) first push whole false) table
        ≡ grown_at h table e w.row w.bits p.bits (hook_at p h.width)
    unfolding grown grown_at joined
    grown_is =
        rw (
          known.by_numbers.takes e,
          known.by_numbers.left_entry e,
          end_is,
          passed_is,
          hook_by rows p.count p.count p.bits p.above p.path (le_refl _) (ltb p.bits h.width) _ whole_end.above h.count _,
        )

    whole_broken : broken whole ≡ is_damage p.stage
    unfolding broken
    whole_broken = whole_end.damage

    whole_rows : Ways.rows whole ≡ rows_read_by p h.width
    unfolding Ways.rows
    whole_rows = rw (whole_end.number, whole_end.end_rows_are)

    -- a push from a row with bits left did not end at a row
    pub not_at_row : (m : ℕ) → w.stage ≡ AtRow → w.bits ≡ suc m → p.stage ≡ AtRow → ⊥
    unfolding joined
    not_at_row m at bits ends =
        let one : end_rows push.end ≡ 1 = whole_end.end_rows_are ∙ ap end_read ends in
        let no_row : end_rows push.end ≡ 0 = ends_free m at bits in
        omega arith

    module _ (small : too_wide h k ≡ false) (absent : ends_at k w.entry.key w.stage ≡ false) where
      pub damage_outcome : p.stage ≡ AtDamage → add_outcome h table (from_code e) ≡ record { reply = refused h Answers.Damage; table = table }
      unfolding add_outcome adding
      damage_outcome ends = rw (fine, small, following_is k, there, absent, whole_broken, ends)

      free_outcome : p.stage ≡ AtNone
          → add_outcome h table (from_code e) ≡ grown_outcome h table e w.row w.bits p.bits (hook_at p h.width)
      unfolding add_outcome adding grown_outcome
      free_outcome ends =
          rw (fine, small, following_is k, there, absent, whole_broken, whole_rows, grown_is, ends, add-zero (h.width - p.bits))

    -- the outcome in terms of the leg l, which is where p is
    module _ (from bits : ℕ) (l : Leg) (row : from ≡ w.row) (left : bits ≡ w.bits) (on : OnLeg h.count l p) where
      abbrev ends_at_walk : end_bits l ≡ p.bits
      ends_at_walk = bits_there l.at p on.stands

      pub growable : Growable h table from bits (end_bits l) (hook_of l h.width)
      growable = rw (row, left, hook_is l p h.width on.stands on.above, ends_at_walk) grows

      pub grown_outcome_is : too_wide h k ≡ false → ends_at k w.entry.key w.stage ≡ false → p.stage ≡ AtNone
          → add_outcome h table (from_code e) ≡ grown_outcome h table e from bits (end_bits l) (hook_of l h.width)
      grown_outcome_is small absent ends =
          rw (row, left, hook_is l p h.width on.stands on.above, ends_at_walk) (free_outcome small absent ends)

  -- if the way did not end at a row, `resumed` leaves the walk as it is
  stays : (stage : Stage) → w.stage ≡ stage → again stage ≡ stage → StaysOnWay rows pushing h.count (resumed w) w
  stays stage at same width v g =
      let is : resumed w ≡ w = ap (λ (s : Stage). ended w s w.entry) (ap again at ∙ same ∙ sym at) in
      subst (λ (u : Walk). OnWay rows pushing width h.count v u) is g

-- where the seek of the word ended
module _ (h : Header) (table : List ℕ) (e : Entry) (fine : wrong_header h table ≡ false) (small : too_wide h e.key ≡ false) (s : Seek) where
  abbrev sought_word : ℕ
  sought_word = e.key

  abbrev rows_there : ℕ → Rows.Row
  rows_there = row_at table

  module _ (g : SeekEnds rows_there h (shown h table) sought_word s (Ok None)) where
    abbrev w : Walk
    w = g.walk

    abbrev link_leg : Leg
    link_leg = leg_of s sought_word

    link_on : OnLeg h.count link_leg w
    link_on =
        record {
          stands = Sought.place_stands table h sought_word fine small s (Ok None) g;
          above = g.above;
          same_count = g.walked.walking.same_count;
        }

    pub link_growable : Growable h table (row_of s) (bits_left_by s.mask) (end_bits link_leg) (hook_of link_leg h.width)
    link_growable =
        growable h table e w fine g.walked w (stays h table e w fine g.walked AtNone g.ends refl) g.walked.ended (row_of s) (bits_left_by s.mask) link_leg
        g.row (Sought.bits_are table h sought_word fine small s (Ok None) g) link_on

    pub link_outcome : add_outcome h table (from_code e) ≡ grown_outcome h table e (row_of s) (bits_left_by s.mask) (end_bits link_leg) (hook_of link_leg h.width)
    link_outcome =
        grown_outcome_is h table e w fine g.walked w (stays h table e w fine g.walked AtNone g.ends refl) g.walked.ended (row_of s) (bits_left_by s.mask)
        link_leg g.row (Sought.bits_are table h sought_word fine small s (Ok None) g) link_on small (ap (ends_at sought_word w.entry.key) g.ends) g.ends

  broken_outcome : SeekEnds rows_there h (shown h table) sought_word s damage → add_outcome h table (from_code e) ≡ record { reply = refused h Answers.Damage; table = table }
  broken_outcome g =
      let v : Walk = g.walk in
      damage_outcome h table e v fine g.walked v (stays h table e v fine g.walked AtDamage g.ends refl) g.walked.ended small (ap (ends_at sought_word v.entry.key) g.ends) g.ends

  module _ (r : Rows.Row) (g : SeekEnds rows_there h (shown h table) sought_word s (Ok (Some r))) where
    pub there_outcome : r.entry.key ≡ sought_word
        → add_outcome h table (from_code e)
        ≡ record { reply = answered h AlreadyThere (h.width - bits_left_by s.mask + 1); table = with_serial (row_of s) e.serial table }
    there_outcome same =
        let v : Walk = g.walk in
        let at_word : ends_at sought_word v.entry.key v.stage ≡ true = rw (g.ends.0, g.ends.2, eq-eqb sought_word r.entry.key (sym same)) in
        rw (present_outcome h table e v fine g.walked small at_word g.ends.0, Sought.bits_are table h sought_word fine small s (Ok (Some r)) g, g.ends.0, g.row)

    -- its row is in use
    pub row_used : row_of s < capacity table
    row_used =
        let placed : g.walk.row < g.walk.count = (subst (Placed rows_there g.walk) g.ends.0 g.walked.walking.placed).0 in
        omega (arith, (right_header h table fine).has_room, g.row, g.walked.walking.same_count)

    pub displaces : (r.entry.key ≡ sought_word → ⊥) → Displaces h table sought_word (place_of s sought_word) r
    displaces another =
        record {
          walk = g.walk;
          walked = g.walked;
          stands = Sought.place_stands table h sought_word fine small s (Ok (Some r)) g;
          path = g.path;
          ends = g.ends;
          another = another;
        }

-- where the call is refused
pub add_refused : {h : Header} {table : List ℕ} (e : Entry) {a : Answer} → Refused h table e.key a
    → add_outcome h table (from_code e) ≡ record { reply = refused h a; table = table }
unfolding add_outcome
add_refused e (by_header bad) = rw bad
add_refused e (by_word fine bad) = rw (fine, bad)
add_refused {h} {table} e (by_damage {s} q) = broken_outcome h table e q.fine q.small s q.ends
