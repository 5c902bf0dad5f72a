-- The replies of `has`, `first` and `last`, from the end of the way that the code found.
use Prim.Native.Nat.{ℕ, zero, suc, ◌+◌, ◌-◌, ◌≤◌}
use mathlib.Core.Path.{◌≡◌, refl, sym, ap, ◌∙◌}
use mathlib.Core.Bool.{Bool, true, false, ◌||◌, or-false}
use mathlib.Core.List.{List, []}
use native.Mathlib.Nat.{add-zero, zero-add}
use native.Mathlib.Omega.{arith}
use lib.Dec.{ltb, eqb}
use borrow.Author.Tests.{ltb-true, eq-eqb, ne_eqb}
use Rattle.std.specs.Prelude.{if◌then◌else◌, Ok, Err, Some, None}
use Rattle.ordered.specs.Such.{such, no_such, only_if}
use Rattle.ordered.specs.Word.{right}
use Rattle.ordered.specs.Tree.{Tree, none, row, damaged}
use Rattle.ordered.specs.Way.{Way, Rule, way, ending, broken, is_damaged, staying, down}
use Rattle.ordered.specs.Way as Ways
use Rattle.ordered.specs.Reading.{word_in, rows_of, broken_in, root_row, end_row, to_its_end, has}
use Rattle.ordered.specs.Dictionary.{no_entry}
use Rattle.pretree.specs.declared.Header.{Header}
use Rattle.pretree.specs.declared.Answer.{Answer}
use Rattle.pretree.specs.declared.Answer.TheVariants.{Serial, Word, WrongHeader, Damage, NoSuchWord}
use Rattle.pretree.specs.declared.Reply.{Reply}
use Rattle.pretree.specs.declared.Row as Rows
use Rattle.pretree.specs.declared.leg.Leg.{Leg}
use Rattle.pretree.specs.declared.leg.Place.{Place}
use Rattle.pretree.specs.declared.seek.Seek.{Seek}
use Rattle.pretree.specs.Table.{row_at}
use Rattle.pretree.specs.Unfold.{judged, unfolded, shown}
use Rattle.pretree.specs.Reply.{wrong_header, too_wide, refused, answered}
use Rattle.pretree.specs.Find.{word, read_reply, saying, serial, has_reply}
use Rattle.pretree.specs.Walk.{Walk, On, AtDamage, is_on, rows_read_by, started, started_at, ended, holds, tree_at, to_come, seeking, Placed, Walking, Walked}
use Rattle.pretree.specs.Seek.{bits_left_by, WayEnds, Refused, by_header, by_word, by_damage}
use Rattle.pretree.specs.Leg.{judges, row_end, EndsAs, OnLeg, BegunLeg, LegStopped, LegEnds, passes_down, stage_here, End, damage, as_end}
use Rattle.pretree.specs.Found.{found_by, word_by, then_by, GreatestFrom, greatest_by}
use Rattle.pretree.proofs.Unfolding.{damaged_is, is_row}
use Rattle.pretree.proofs.Places.{bits_there}
use Rattle.pretree.proofs.Walking.{at_none, at_damage, begins}
use Rattle.pretree.proofs.Ended.{ends_in, way_end, way_rows}
use Rattle.pretree.proofs.SeekTurn.{following_is}
use Rattle.pretree.proofs.Sought as Seeks
use Rattle.pretree.proofs.WordWay.{by_way}
use Rattle.pretree.proofs.Legs.{down_ends}

-- a walk that ended as an `End` says has ended
has_ended : (rows : ℕ → Rows.Row) (w : Walk) (e : End) → EndsAs rows w e → is_on w.stage ≡ false
has_ended rows w (Ok None) at = rw at
has_ended rows w (Ok (Some r)) so = rw so.0
has_ended rows w (Err d) at = rw at

-- the reply with the word at which a way ended; n rows were read before it
module _ (h : Header) (n : ℕ) (rows : ℕ → Rows.Row) (f : Rule) (m count : ℕ) (tree : Tree) (w : Walk) (gone : Walked rows f m count tree w) where
  word_ends : (e : End) → EndsAs rows w e → then_by h n (way f m tree) ≡ word_by h (n + (m - w.bits)) e
  unfolding broken
  word_ends e so = rw (way_rows _ _ _ _ _ w gone, (way_end _ _ _ _ _ w gone).end) (by_end e so)
    where
      by_end : (e : End) → EndsAs rows w e
          → (let t : Tree = ends_in rows w w.stage in
          if is_damaged t then refused h Damage else answered h (saying word (root_row (way f m tree).bits t)) (n + rows_read_by w m))
          ≡ word_by h (n + (m - w.bits)) e
      by_end (Ok None) at = rw at (ap (answered h NoSuchWord) (omega arith))
      by_end (Ok (Some r)) so = rw (so.0, so.2) (ap (answered h (Word r.entry.key)) (omega arith))
      by_end (Err d) at = rw at

-- the reply of `has`, by how the way of k ended
module _ (h : Header) (table : List ℕ) (k : ℕ) (w : Walk) (fine : wrong_header h table ≡ false) (small : too_wide h k ≡ false)
    (gone : Walked (row_at table) (seeking k k) h.width h.count (shown h table) w) where
  found_ends : (e : End) → EndsAs (row_at table) w e → has_reply h table k ≡ by_way h (found_by h k (h.width - w.bits)) e
  unfolding has_reply has broken_in broken rows_of
  found_ends e so =
      rw (fine, small, following_is k, way_rows _ _ _ _ _ w gone, add-zero, (way_end _ _ _ _ _ w gone).end) (by_end e so)
    where
      by_key : (b : Bool) (n : ℕ)
          → answered h (saying serial (if b then such (record { entry = w.entry; bits = (way (seeking k k) h.width (shown h table)).bits }) else no_such)) n
          ≡ (if b then answered h (Serial w.entry.serial) n else answered h NoSuchWord n)
      by_key true n = refl
      by_key false n = refl

      by_end : (e : End) → EndsAs (row_at table) w e
          → (let t : Tree = ends_in (row_at table) w w.stage in
          if is_damaged t || false then refused h Damage
          else answered h (saying serial (only_if (λ f. eqb k (word_in f)) (root_row (way (seeking k k) h.width (shown h table)).bits t))) (rows_read_by w h.width))
          ≡ by_way h (found_by h k (h.width - w.bits)) e
      by_end (Ok None) at = rw at (ap (answered h NoSuchWord) (omega arith))
      by_end (Ok (Some r)) so = rw (so.0, ← ap (λ e. e.key) so.2, ← ap (λ e. e.serial) so.2) (by_key (eqb k w.entry.key) (h.width - w.bits + 1))
      by_end (Err d) at = rw at

-- in an empty set every way is empty
pub empty_way : (h : Header) (table : List ℕ) (f : Rule) → h.count ≡ 0 → way f h.width (shown h table) ≡ ending h.width none
unfolding shown
empty_way h table f empty = rw (eq-eqb h.count 0 empty) (at_none f h.width)

-- the reply of `has`, by the way of its word, and where it is refused
pub found_way : {h : Header} {table : List ℕ} {k : ℕ} {s : Seek} {e : End} → WayEnds h table k s e
    → by_way h (found_by h k (h.width - bits_left_by s.mask)) e ≡ has_reply h table k
found_way {h} {table} {k} {s} {e} q =
    rw (Seeks.bits_are table h k q.fine q.small s e q.ends) (sym (found_ends h table k q.ends.walk q.fine q.small q.ends.walked e q.ends.ends))

pub has_refused : {h : Header} {table : List ℕ} {k : ℕ} {a : Answer} → Refused h table k a → refused h a ≡ has_reply h table k
unfolding has_reply
has_refused (by_header e) = rw e
has_refused (by_word e f) = rw (e, f)
has_refused (by_damage q) = found_way q

-- `first` and `last` answer the word at which one way from the root ends
module _ (h : Header) (table : List ℕ) (f : Rule) where
  abbrev root_reply : Reply
  root_reply = read_reply h table false word (to_its_end [] (way f h.width (shown h table)))

  pub root_refused : wrong_header h table ≡ true → refused h WrongHeader ≡ root_reply
  root_refused wrong = rw wrong

  module _ (fine : wrong_header h table ≡ false) where
    pub no_root : h.count ≡ 0 → answered h NoSuchWord 0 ≡ root_reply
    unfolding broken_in broken rows_of Ways.rows
    no_root empty = rw (fine, empty_way h table f empty)

    pub from_root : (h.count ≡ 0 → ⊥) → then_by h 0 (way f h.width (tree_at (row_at table) (started h))) ≡ root_reply
    unfolding shown broken_in rows_of
    from_root some = rw (fine, ne_eqb h.count 0 some) (go (way f h.width (tree_at (row_at table) (started h))))
      where
        go : (v : Way)
            → then_by h 0 v
            ≡ (if broken v || false then refused h Damage else answered h (saying word (end_row v)) (Ways.rows v + 0))
        go v = rw (or-false, add-zero, zero-add)

-- a way by the rule `staying` ends at once
pub stays : (m : ℕ) (t : Tree) → way staying m t ≡ ending m t
unfolding way staying
stays zero t = refl
stays (suc m) none = refl
stays (suc m) damaged = refl
stays (suc m) (row i e l r) = refl

-- if place and definition judge a row alike, what the code finds at that one row gives the reply
module _ (h : Header) (n : ℕ) (rows : ℕ → Rows.Row) (count m path low : ℕ) (p : Place)
    (alike : judges p (rows p.row) ≡ holds (started_at count p.row m path low) (rows p.row)) where
  pub row_read : then_by h n (way staying m (unfolded rows count m path low p.row)) ≡ word_by h n (as_end (row_end rows count p))
  unfolding broken Ways.rows
  row_read = rw (alike, stays m (unfolded rows count m path low p.row)) (go (judged count m path low p.row (rows p.row)) refl)
    where
      go : (b : Bool) → judged count m path low p.row (rows p.row) ≡ b
          → then_by h n (ending m (unfolded rows count m path low p.row))
          ≡ word_by h n (as_end (if b then Ok (rows p.row) else damage))
      go true so = rw (is_row rows count m path low p.row so)
      go false so = rw (damaged_is rows count m path low p.row so)

-- the leg down to the greatest word, from where it begins to where it ended
module _ (h : Header) (table : List ℕ) (p : Place) (g : GreatestFrom h p) where
  abbrev rows : ℕ → Rows.Row
  rows = row_at table

  abbrev w : Walk
  w = g.walk

  -- a walk that begins there and remembers nothing
  abbrev fresh : Walk
  fresh = ended (started_at h.count w.row w.bits w.path w.low) (stage_here h.count w.row) no_entry

  abbrev start : Leg
  start = record { at = p; above = 0 }

  on_leg : OnLeg h.count start fresh
  on_leg =
      record {
        stands =
            record {
              row = g.stands.row;
              mask = g.stands.mask;
              path = g.stands.path;
              low = g.stands.low;
              few = g.stands.few;
              room = g.stands.room;
            };
        above = refl;
        same_count = refl;
      }

  pub greatest_begun : BegunLeg h.count stage_here start
  greatest_begun = record { walk = fresh; on = on_leg; stage = refl }

  walking : (f : Rule) → Walking rows f w.bits h.count (tree_at rows fresh) fresh
  walking f = begins rows f (tree_at rows fresh) fresh refl (all (ltb w.row h.count) refl) (placed (ltb w.row h.count) refl)
    where
      all : (b : Bool) → ltb w.row h.count ≡ b → to_come rows f fresh (if b then On else AtDamage) ≡ way f w.bits (tree_at rows fresh)
      all true used = refl
      all false past = rw (damaged_is rows h.count w.bits w.path w.low w.row (rw past)) (sym (at_damage f w.bits))

      placed : (b : Bool) → ltb w.row h.count ≡ b → Placed rows fresh (if b then On else AtDamage)
      placed true used = ltb-true w.row h.count used
      placed false past = tt

  module _ (r : Leg) (gone : LegStopped rows (down right) h.count stage_here (passes_down rows h.count) start r) where
    ends : LegEnds rows (down right) h.count fresh r (as_end (row_end rows h.count r.at))
    ends = down_ends rows h.count right start r gone fresh on_leg refl

    abbrev whole : Way
    whole = way (down right) w.bits (tree_at rows fresh)

    abbrev v : Walk
    v = ends.walk

    walks_down : Walking rows (down right) w.bits h.count (tree_at rows fresh) v
    walks_down = ends.stays_on_way w.bits whole (walking (down right))

    went : Walked rows (down right) w.bits h.count (tree_at rows fresh) v
    went = record { walking = walks_down; ended = has_ended rows v (as_end (row_end rows h.count r.at)) ends.ends }

    pub fewer_bits : bits_left_by r.at.mask ≤ bits_left_by p.mask
    fewer_bits = rw (bits_there p w g.stands, bits_there r.at v ends.on.stands) walks_down.fits

    pub greatest_is : (n : ℕ)
        → word_by h (n + bits_left_by p.mask - bits_left_by r.at.mask) (as_end (row_end rows h.count r.at)) ≡ greatest_by h rows n w
    greatest_is n =
        rw (bits_there p w g.stands, bits_there r.at v ends.on.stands)
        (ap (λ (m : ℕ). word_by h m (as_end (row_end rows h.count r.at))) (omega (arith, walks_down.fits))
        ∙ sym (word_ends h n rows (down right) w.bits h.count (tree_at rows fresh) v went (as_end (row_end rows h.count r.at)) ends.ends)
        ∙ ap (λ (count : ℕ). then_by h n (way (down right) w.bits (unfolded rows count w.bits w.path w.low w.row))) (sym g.same_count))
