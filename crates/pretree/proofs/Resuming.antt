-- If a walk continues from the row at which it ended by another rule, its whole way is the first way joined with the second.
use Prim.Native.Nat.{ℕ, zero, suc, ◌-◌, ◌%◌, ◌<◌}
use mathlib.Core.Path.{◌≡◌, refl, sym, ◌∙◌, subst}
use mathlib.Core.Bool.{Bool, true, false, true≢false}
use mathlib.Core.List.{List}
use native.Mathlib.Nat.{zero-add}
use native.Mathlib.Omega.{arith}
use lib.Dec.{ltb, eqb}
use lib.ListN.{length, length-append}
use borrow.Author.Tests.{lt-ltb, ltb-true}
use Rattle.std.specs.Prelude.{if◌then◌else◌}
use Rattle.ordered.specs.Such.{last_such, anything}
use Rattle.ordered.specs.Word.{left, right, side_of}
use Rattle.ordered.specs.Tree.{Tree, none, damaged}
use Rattle.ordered.specs.Way.{Way, Step, Rule, Turn, way, ending, turning, joined, end_rows, is_damaged, stop, to}
use Rattle.ordered.proofs.Parts.{All, none_all, one_all, last_such_append}
use Rattle.ordered.proofs.Ways.{and_true}
use Rattle.pretree.specs.declared.Header.{Header}
use Rattle.pretree.specs.declared.Row.{Row}
use Rattle.pretree.specs.Walk.{Stage}
use Rattle.pretree.specs.Walk.{On, AtNone, AtRow, AtDamage}
use Rattle.pretree.specs.Walk.{Walk}
use Rattle.pretree.specs.Table.{entry_of, row_at}
use Rattle.pretree.specs.Unfold.{judged, linked, unfolded, shown}
use Rattle.pretree.specs.Walk.{is_on, end_read, ended, tree_at, to_come, below, remembered, Ahead, Placed, OnWay, Walked}
use Rattle.pretree.specs.Resume.{is_damage, again, resumed}
use Rattle.pretree.proofs.Unfolding.{damaged_is, is_row}
use Rattle.pretree.proofs.Walking.{at_none, at_damage}

-- a walk that has gone the first way is on the joined way
module _ (rows : ℕ → Row) (f g : Rule) (width count : ℕ) (tree : Tree) (w : Walk) where
  abbrev first : Way
  first = way f width tree

  abbrev both : Way
  both = joined first (way g first.bits first.end)

  joined_ahead : (t : Tree) (stage : Stage) → Ahead rows width first w (ending w.bits t) → Ahead rows width both (ended w stage w.entry) (way g w.bits t)
  unfolding joined last_such
  joined_ahead t stage k =
      rw (← k.end, ← k.bits)
      (record {
        end = refl;
        bits = refl;
        number = rw (length-append first.passed (way g w.bits t).passed) (omega (arith, k.number));
        above = rw (last_such_append anything first.passed (way g w.bits t).passed, ← k.above) refl;
        aside = rw (last_such_append _ first.passed (way g w.bits t).passed, ← k.aside) refl;
      })

  pub resumes : Walked rows f width count tree w → OnWay rows g width w.count both (resumed w)
  resumes k = by_stage w.stage k.ended k.walking.placed k.walking.ahead
    where
      with_coming : (stage : Stage) (t : Tree) → Ahead rows width first w (ending w.bits t)
          → way g w.bits t ≡ to_come rows g (ended w stage w.entry) stage → Placed rows (ended w stage w.entry) stage
          → OnWay rows g width w.count both (ended w stage w.entry)
      with_coming stage t h e p =
          record {
            ahead = subst (λ (c : Way). Ahead rows width both (ended w stage w.entry) c) e (joined_ahead t stage h);
            placed = p;
            memory =
                record { above_used = k.walking.memory.above_used; aside_used = k.walking.memory.aside_used };
            fits = k.walking.fits;
            same_count = refl;
          }

      by_stage : (stage : Stage) → is_on stage ≡ false → Placed rows w stage → Ahead rows width first w (to_come rows f w stage)
          → OnWay rows g width w.count both (ended w (again stage) w.entry)
      by_stage On off p h = absurd (true≢false off)
      by_stage AtNone off p h = with_coming AtNone none h (at_none g w.bits) tt
      by_stage AtDamage off p h = with_coming AtDamage damaged h (at_damage g w.bits) tt
      by_stage AtRow off p h = with_coming On (tree_at rows w) h refl p.0

-- what a walk that has ended tells about the whole way, by whatever rules it went
module _ (rows : ℕ → Row) (f : Rule) (width count : ℕ) (whole : Way) (w : Walk) (off : is_on w.stage ≡ false) (k : OnWay rows f width count whole w) where
  pub record WholeWayEnd (stage : Stage) : Type 0 where
    pub damage : is_damaged whole.end ≡ is_damage stage
    pub end_rows_are : end_rows whole.end ≡ end_read stage
    pub bits : whole.bits ≡ w.bits
    pub number : length whole.passed ≡ width - w.bits
    pub above : last_such anything whole.passed ≡ remembered rows w.count (ltb w.bits width) w.bits w.above (side_of (w.path % 2))

  pub whole_way_end : WholeWayEnd w.stage
  unfolding last_such
  whole_way_end = by_stage w.stage off k.placed k.ahead
    where
      ended_at : (stage : Stage) (t : Tree) → is_damaged t ≡ is_damage stage → end_rows t ≡ end_read stage → Ahead rows width whole w (ending w.bits t) → WholeWayEnd stage
      ended_at stage t d r g =
          record {
            damage = rw g.end at d;
            end_rows_are = rw g.end at r;
            bits = sym g.bits;
            number = sym g.number ∙ zero-add _;
            above = sym g.above;
          }

      by_stage : (stage : Stage) → is_on stage ≡ false → Placed rows w stage → Ahead rows width whole w (to_come rows f w stage) → WholeWayEnd stage
      by_stage On off p g = absurd (true≢false off)
      by_stage AtNone off p g = ended_at AtNone none refl refl g
      by_stage AtDamage off p g = ended_at AtDamage damaged refl refl g
      by_stage AtRow off p g =
          let shows = is_row rows w.count w.bits w.path w.low w.row (rw (lt-ltb w.row w.count p.0) p.1) in
          ended_at AtRow (tree_at rows w) (rw shows) (rw shows) g

-- the rows that a way over a table passes are in use
module _ (rows : ℕ → Row) (f : Rule) (n : ℕ) where
  abbrev Used : Step → Type 0
  Used s = s.at < n

  pub rows_used : (m path low i : ℕ) → All Used (way f m (unfolded rows n m path low i)).passed
  unfolding way
  rows_used zero path low i = none_all
  rows_used (suc m) path low i = by_row (λ path low j. rows_used m path low j) (judged n (suc m) path low i (rows i)) refl
    where
      Below : Type 0
      Below = (path low j : ℕ) → All Used (way f m (unfolded rows n m path low j)).passed

      by_link : Below → (path low j : ℕ) → All Used (way f m (linked (unfolded rows n m path low) j)).passed
      by_link rest path low zero = rw (at_none f m) none_all
      by_link rest path low (suc j) = rest path low (suc j)

      by_turn : Below → i < n → (t : Turn)
          → All Used (turning (way f m) m i (entry_of (rows i)) (below rows n (suc m) i left) (below rows n (suc m) i right) t).passed
      by_turn rest used stop = none_all
      by_turn rest used (to left) = one_all used (by_link rest _ _ (rows i).left)
      by_turn rest used (to right) = one_all used (by_link rest _ _ (rows i).right)

      by_row : Below → (b : Bool) → judged n (suc m) path low i (rows i) ≡ b → All Used (way f (suc m) (unfolded rows n (suc m) path low i)).passed
      by_row rest false h = rw (damaged_is rows n (suc m) path low i h) none_all
      by_row rest true h =
          rw (is_row rows n (suc m) path low i h)
          (by_turn rest (ltb-true i n (and_true (ltb i n) _ h).0) (f m (entry_of (rows i)) (below rows n (suc m) i left) (below rows n (suc m) i right)))

pub shown_used : (f : Rule) (h : Header) (table : List ℕ) → All (λ s. s.at < h.count) (way f h.width (shown h table)).passed
unfolding shown
shown_used f h table = by_count (eqb h.count 0)
  where
    by_count : (b : Bool) → All (λ s. s.at < h.count) (way f h.width (if b then none else unfolded (row_at table) h.count h.width 0 0 0)).passed
    by_count true = rw (at_none f h.width) none_all
    by_count false = rows_used (row_at table) f h.count h.width 0 0 0
