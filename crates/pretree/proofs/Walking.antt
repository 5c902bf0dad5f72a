-- A walk that makes the turns of its rule stays on its way: each row that it meets is the first one of the way ahead. This holds for every rule.
use Prim.Native.Nat.{ℕ, zero, suc, pred, ◌+◌, ◌*◌, ◌/◌, ◌%◌, ◌^◌, ◌≤◌, ◌<◌}
use mathlib.Core.Path.{◌≡◌, refl, sym, ap, ◌∙◌, subst}
use mathlib.Core.Bool.{Bool, true, false, not, ◌&&◌, true≢false}
use mathlib.Core.List.{List}
use native.Mathlib.Nat.{suc-ne-zero, le_trans, le_refl, lt_irrefl, pred-le, add-zero, sub_self, pos_of_ne-zero}
use native.Mathlib.Omega.{arith}
use lib.Dec.{ltb, eqb}
use borrow.Author.Tests.{lt-ltb, le-ltb, ne_eqb, ltb-true, eqb-true, eqb-false}
use Rattle.std.specs.Prelude.{if◌then◌else◌}
use Rattle.ordered.specs.Such.{no_such, such, first_of, last_such, anything}
use Rattle.ordered.specs.Word.{Side, left, right, side_of, bit_of, is_side}
use Rattle.ordered.specs.Dictionary.{Entry}
use Rattle.ordered.specs.Tree.{Tree, none, row, damaged, part}
use Rattle.ordered.specs.Way.{Way, Step, Rule, way, ending, passing, stop, to}
use Rattle.ordered.specs.Reading.{skipped_right}
use Rattle.ordered.proofs.Parts.{first_of_assoc, first_of_no_such}
use Rattle.pretree.specs.declared.Header.{Header}
use Rattle.pretree.specs.declared.Row.{Row}
use Rattle.pretree.specs.Walk.{Stage}
use Rattle.pretree.specs.Walk.{On, AtNone, AtRow, AtDamage}
use Rattle.ordered.specs.Way.{Turn}
use Rattle.ordered.specs.Way.{stop, to}
use Rattle.pretree.specs.Walk.{Walk}
use Rattle.pretree.specs.Table.{entry_of, row_at, link}
use Rattle.pretree.specs.Unfold.{judged, linked, unfolded, shown}
use Rattle.pretree.specs.Walk.{is_on, started, holds, ended, remembering, passed, turned, stage_at, met, tree_at, to_come, way_to_come, below, step_at, remembered, Ahead, Placed, Memory, OnWay, Walking}
use Rattle.pretree.proofs.Unfolding.{damaged_is, is_row, path_in_key, there}

-- where a way ends at once
pub at_none : (f : Rule) (m : ℕ) → way f m none ≡ ending m none
unfolding way
at_none f zero = refl
at_none f (suc m) = refl

pub at_damage : (f : Rule) (m : ℕ) → way f m damaged ≡ ending m damaged
unfolding way
at_damage f zero = refl
at_damage f (suc m) = refl

-- with no bit left a way ends at once
at_bottom : (f : Rule) (t : Tree) (m : ℕ) → m ≡ 0 → way f m t ≡ ending m t
unfolding way
at_bottom f t zero h = refl
at_bottom f t (suc m) h = absurd (suc-ne-zero m h)

-- at a row the way does what the rule says
module _ (f : Rule) (m i : ℕ) (e : Entry) (l r : Tree) where
  stops_at : f m e l r ≡ stop → way f (suc m) (row i e l r) ≡ ending (suc m) (row i e l r)
  unfolding way
  stops_at h = rw h

  turns_at : (s : Side) → f m e l r ≡ to s
      → way f (suc m) (row i e l r)
      ≡ passing (record { at = i; entry = e; turn = s; left_part = l; right_part = r; below = m }) (way f m (part s l r))
  unfolding way
  turns_at s h = rw h

-- the way ahead of a walk that has followed the link i, by the stage it is then at
module _ (rows : ℕ → Row) (f : Rule) (n m path low : ℕ) where
  abbrev led : ℕ → Stage → Way
  led i On = way f m (unfolded rows n m path low i)
  led i AtNone = ending m none
  led i AtRow = ending m (unfolded rows n m path low i)
  led i AtDamage = ending m damaged

  leads : (i : ℕ) → way f m (linked (unfolded rows n m path low) i) ≡ led i (stage_at n i)
  leads zero = at_none f m
  leads (suc i) = rw (ne_eqb (suc i) 0 (suc-ne-zero i)) (go (ltb (suc i) n) refl)
    where
      go : (b : Bool) → ltb (suc i) n ≡ b → way f m (unfolded rows n m path low (suc i)) ≡ led (suc i) (if b then On else AtDamage)
      go true h = refl
      go false h = rw (damaged_is rows n m path low (suc i) (rw h)) (at_damage f m)

-- if the rule turns to side s at a row, the way passes the row and continues at its link
module _ (rows : ℕ → Row) (f : Rule) (n m i : ℕ) (s : Side) where
  abbrev onward : Way
  onward = led rows f n m ((rows i).entry.key / 2 ^ suc m * 2 + bit_of s) (suc (rows i).entry.key) (link (rows i) s) (stage_at n (link (rows i) s))

  part_below : (t : Side) → part t (below rows n (suc m) i left) (below rows n (suc m) i right) ≡ below rows n (suc m) i t
  part_below left = refl
  part_below right = refl

  row_passed : f m (entry_of (rows i)) (below rows n (suc m) i left) (below rows n (suc m) i right) ≡ to s
      → way f (suc m) (row i (entry_of (rows i)) (below rows n (suc m) i left) (below rows n (suc m) i right))
      ≡ passing (step_at rows n m i s) onward
  unfolding step_at
  row_passed h =
      turns_at f m i _ _ _ s h
      ∙ ap (passing (step_at rows n m i s)) (rw (part_below s) (leads rows f n m _ (suc (rows i).entry.key) (link (rows i) s)))

-- the side of the last bit of a path
last_bit : (path : ℕ) (s : Side) → side_of ((path * 2 + bit_of s) % 2) ≡ s
last_bit path left = let even : (path * 2 + 0) % 2 ≡ 0 = omega arith in rw even
last_bit path right = let odd : (path * 2 + 1) % 2 ≡ 1 = omega arith in rw odd

module _ (rows : ℕ → Row) (width : ℕ) (whole : Way) (w : Walk) where
  -- when a walk ends, what it has passed and remembers stays as it was
  ended_ahead : (stage : Stage) (entry : Entry) (coming : Way) → Ahead rows width whole w coming → Ahead rows width whole (ended w stage entry) coming
  ended_ahead stage entry coming g = record { end = g.end; bits = g.bits; number = g.number; above = g.above; aside = g.aside }

  -- when a walk passes a row, it has passed one more and remembers it
  module _ (m : ℕ) (s : Side) (coming : Way) (e : w.bits ≡ suc m) (fits : suc m ≤ width)
      (g : Ahead rows width whole w (passing (step_at rows w.count m w.row s) coming)) where
    abbrev here : Step
    here = step_at rows w.count m w.row s

    -- v is the walk w, with the right row remembered aside
    remembers : (v : Walk) (entry : Entry) (l : ℕ) → v.bits ≡ suc m → v.row ≡ w.row → v.count ≡ w.count
        → first_of (last_such skipped_right coming.passed) (remembered rows v.count v.has_aside v.aside_bits v.aside left)
        ≡ last_such skipped_right whole.passed
        → Ahead rows width whole (passed v entry (bit_of s) l) coming
    unfolding last_such
    remembers v entry l bits same_row same_count aside =
        let less : pred v.bits ≡ m = rw bits in
        record {
          end = g.end;
          bits = g.bits;
          number = rw less (omega (arith, g.number, e));
          above =
              rw (less, same_row, same_count, last_bit v.path s, lt-ltb m width fits)
              (sym (first_of_assoc (last_such anything coming.passed) (such here) _) ∙ g.above);
          aside = aside;
        }

    here_aside : skipped_right here ≡ (is_side left s && not (eqb (rows w.row).right 0))
    unfolding step_at
    here_aside = rw (there rows w.count m _ _ (rows w.row).right)

    aside_with : (b : Bool) → skipped_right here ≡ b
        → first_of (last_such skipped_right coming.passed)
        (first_of (if b then such here else no_such) (remembered rows w.count w.has_aside w.aside_bits w.aside left))
        ≡ last_such skipped_right whole.passed
    unfolding last_such
    aside_with b h =
        sym (first_of_assoc (last_such skipped_right coming.passed) (if b then such here else no_such) _) ∙ rw h at g.aside

  turned_ahead : (m : ℕ) (s : Side) (coming : Way) → w.bits ≡ suc m → suc m ≤ width
      → Ahead rows width whole w (passing (step_at rows w.count m w.row s) coming)
      → Ahead rows width whole (turned w (rows w.row) (to s)) coming
  unfolding turned
  turned_ahead m right coming e fits g =
      remembers m right coming e fits g w _ _ e refl refl (aside_with m right coming e fits g false (here_aside m right coming e fits g))
  turned_ahead m left coming e fits g = go (eqb (rows w.row).right 0) refl
    where
      aside_is : skipped_right (step_at rows w.count m w.row left) ≡ not (eqb (rows w.row).right 0)
      aside_is = here_aside m left coming e fits g

      go : (b : Bool) → eqb (rows w.row).right 0 ≡ b
          → Ahead rows width whole (passed (if b then w else remembering w) (entry_of (rows w.row)) 0 (rows w.row).left) coming
      go true h = remembers m left coming e fits g w _ _ e refl refl (aside_with m left coming e fits g false (aside_is ∙ rw h))
      go false h = remembers m left coming e fits g (remembering w) _ _ e refl refl (rw e (aside_with m left coming e fits g true (aside_is ∙ rw h)))

-- the way ahead after a row is passed
module _ (rows : ℕ → Row) (f : Rule) (m : ℕ) (entry : Entry) (bit l : ℕ) where
  comes : (v : Walk) (stage : Stage) → v.bits ≡ suc m
      → to_come rows f (passed v entry bit l) stage ≡ led rows f v.count m (v.path * 2 + bit) (suc entry.key) l stage
  comes v On e = rw e
  comes v AtNone e = rw e
  comes v AtRow e = rw e
  comes v AtDamage e = rw e

turned_comes : (rows : ℕ → Row) (f : Rule) (w : Walk) (m : ℕ) (s : Side) (r : Row) → w.bits ≡ suc m
    → way_to_come rows f (turned w r (to s))
    ≡ led rows f w.count m (w.path * 2 + bit_of s) (suc r.entry.key) (link r s) (stage_at w.count (link r s))
unfolding turned
turned_comes rows f w m right r e = comes rows f m (entry_of r) 1 r.right w (stage_at w.count r.right) e
turned_comes rows f w m left r e = go (eqb r.right 0)
  where
    go : (b : Bool)
        → way_to_come rows f (passed (if b then w else remembering w) (entry_of r) 0 r.left)
        ≡ led rows f w.count m (w.path * 2 + 0) (suc r.entry.key) r.left (stage_at w.count r.left)
    go true = comes rows f m (entry_of r) 0 r.left w (stage_at w.count r.left) e
    go false = comes rows f m (entry_of r) 0 r.left (remembering w) (stage_at w.count r.left) e

-- what holds for the walk v, which the walk w becomes at its next row
record AfterRow (rows : ℕ → Row) (f : Rule) (width : ℕ) (whole : Way) (w v : Walk) : Type 0 where
  pub ahead : Ahead rows width whole v (way_to_come rows f v)
  pub placed : Placed rows v v.stage
  pub memory : Memory width v
  pub within : v.bits ≤ width
  pub same_count : v.count ≡ w.count

module _ (rows : ℕ → Row) (f : Rule) (width : ℕ) (whole : Way) (w : Walk) (used : w.row < w.count) (fits : w.bits ≤ width)
    (mem : Memory width w) (g : Ahead rows width whole w (way f w.bits (tree_at rows w))) where
  abbrev here_row : Row
  here_row = rows w.row

  abbrev entry : Entry
  entry = entry_of here_row

  abbrev key : ℕ
  key = here_row.entry.key

  abbrev After : Walk → Type 0
  After = AfterRow rows f width whole w

  -- the number of the row is in use, so the other damage rules decide
  judged_is : (b : Bool) → holds w here_row ≡ b → judged w.count w.bits w.path w.low w.row here_row ≡ b
  judged_is b h = rw (lt-ltb w.row w.count used) h

  abbrev shows : holds w here_row ≡ true
      → tree_at rows w ≡ row w.row entry (below rows w.count w.bits w.row left) (below rows w.count w.bits w.row right)
  shows h = is_row rows w.count w.bits w.path w.low w.row (judged_is true h)

  with_coming : (v : Walk) (coming : Way) → coming ≡ way_to_come rows f v → Ahead rows width whole v coming → Ahead rows width whole v (way_to_come rows f v)
  with_coming v coming e h = subst (λ (c : Way). Ahead rows width whole v c) e h

  ends : (stage : Stage) → way f w.bits (tree_at rows w) ≡ way_to_come rows f (ended w stage entry) → Placed rows (ended w stage entry) stage → After (ended w stage entry)
  ends stage e p =
      record {
        ahead = with_coming _ _ e (ended_ahead rows width whole w stage entry _ g);
        placed = p;
        memory = record { above_used = mem.above_used; aside_used = mem.aside_used };
        within = fits;
        same_count = refl;
      }

  link_placed : (v : Walk) (bit l : ℕ) → Placed rows (passed v entry bit l) (stage_at v.count l)
  link_placed v bit l = go (eqb l 0) (ltb l v.count) refl
    where
      go : (b c : Bool) → ltb l v.count ≡ c → Placed rows (passed v entry bit l) (if b then AtNone else if c then On else AtDamage)
      go true c h = tt
      go false true h = ltb-true l v.count h
      go false false h = tt

  passed_after : (v : Walk) (bit l : ℕ) → v.bits ≡ w.bits → v.count ≡ w.count → v.row ≡ w.row
      → (v.has_aside ≡ true → (v.aside < w.count) × (v.aside_bits < width))
      → Ahead rows width whole (passed v entry bit l) (way_to_come rows f (passed v entry bit l)) → After (passed v entry bit l)
  passed_after v bit l bits same_count same_row aside h =
      record {
        ahead = h;
        placed = link_placed v bit l;
        memory = record { above_used = λ less. rw (same_row, same_count) used; aside_used = λ has_aside. rw same_count (aside has_aside) };
        within = rw bits (le_trans (pred-le w.bits) fits);
        same_count = same_count;
      }

  turned_after : (s : Side) → (w.bits ≡ 0 → ⊥) → Ahead rows width whole (turned w here_row (to s)) (way_to_come rows f (turned w here_row (to s)))
      → After (turned w here_row (to s))
  unfolding turned
  turned_after right some h = passed_after w 1 here_row.right refl refl refl mem.aside_used h
  turned_after left some h = go (eqb here_row.right 0) h
    where
      go : (b : Bool)
          → (let v : Walk = passed (if b then w else remembering w) entry 0 here_row.left in Ahead rows width whole v (way_to_come rows f v) → After v)
      go true h = passed_after w 0 here_row.left refl refl refl mem.aside_used h
      go false h =
          let fewer : pred w.bits < width = omega (arith, pos_of_ne-zero some) in
          passed_after (remembering w) 0 here_row.left refl refl refl (λ has_aside. (used, fewer)) h

  -- the rule says the turn t at the row, with m bits left below it
  abbrev Says : ℕ → Turn → Type 0
  Says m t = f m entry (below rows w.count (suc m) w.row left) (below rows w.count (suc m) w.row right) ≡ t

  passes_by : (m : ℕ) (s : Side) → w.bits ≡ suc m → holds w here_row ≡ true → Says m (to s) → After (turned w here_row (to s))
  passes_by m s e h says =
      let path_is : key / 2 ^ suc m ≡ w.path = rw (← e) (path_in_key w.count w.bits w.path w.low w.row here_row (judged_is true h)) in
      let on : way f w.bits (tree_at rows w) ≡ passing (step_at rows w.count m w.row s) (onward rows f w.count m w.row s)
      = rw (shows h, e) (row_passed rows f w.count m w.row s (turn_says s says)) in
      turned_after s (λ none_left. suc-ne-zero m (sym e ∙ none_left))
      (with_coming _ _
      (ap (λ (path : ℕ). led rows f w.count m (path * 2 + bit_of s) (suc key) (link here_row s) (stage_at w.count (link here_row s))) path_is
      ∙ sym (turned_comes rows f w m s here_row e))
      (turned_ahead rows width whole w m s _ e (rw e at fits) (subst (λ (c : Way). Ahead rows width whole w c) on g)))
    where
      turn_says : (s : Side) → Says m (to s)
          → f m entry (below rows w.count (suc m) w.row left) (below rows w.count (suc m) w.row right) ≡ to s
      turn_says left h = h
      turn_says right h = h

  by_turn : (m : ℕ) (t : Turn) → w.bits ≡ suc m → holds w here_row ≡ true → Says m t → After (turned w here_row t)
  unfolding turned
  by_turn m stop e h says = ends AtRow (rw (shows h, e) (stops_at f m w.row _ _ _ says)) (used, h, refl)
  by_turn m (to left) e h says = passes_by m left e h says
  by_turn m (to right) e h says = passes_by m right e h says

  -- at its next row the walk stays on the whole way
  meets : (t : Turn) → ((m : ℕ) → w.bits ≡ suc m → Says m t) → After (met w here_row t)
  unfolding met
  meets t says = by_row (holds w here_row) refl
    where
      by_bits : (b : Bool) → eqb w.bits 0 ≡ b → holds w here_row ≡ true → After (if b then ended w AtRow entry else turned w here_row t)
      by_bits true zero_left h = ends AtRow (at_bottom f (tree_at rows w) w.bits (eqb-true w.bits 0 zero_left)) (used, h, refl)
      by_bits false some h =
          let e : w.bits ≡ suc (pred w.bits) = omega (arith, pos_of_ne-zero (eqb-false w.bits 0 some)) in
          by_turn (pred w.bits) t e h (says (pred w.bits) e)

      by_row : (b : Bool) → holds w here_row ≡ b → After (if not b then ended w AtDamage entry else if eqb w.bits 0 then ended w AtRow entry else turned w here_row t)
      by_row false h = ends AtDamage (rw (damaged_is rows w.count w.bits w.path w.low w.row (judged_is false h)) (at_damage f w.bits)) tt
      by_row true h = by_bits (eqb w.bits 0) refl h

on_is : (stage : Stage) → is_on stage ≡ true → stage ≡ On
on_is On h = refl
on_is AtNone h = sym (cc)
on_is AtRow h = sym (cc)
on_is AtDamage h = sym (cc)

module _ (rows : ℕ → Row) (f : Rule) (width count : ℕ) (whole : Way) (w : Walk) (on : is_on w.stage ≡ true) (k : OnWay rows f width count whole w) where
  -- past its next row a walk is still on its way, if it makes the turn that its rule says
  pub keeps : (t : Turn)
      → ((m : ℕ) → w.bits ≡ suc m
      → f m (entry_of (rows w.row)) (below rows count (suc m) w.row left) (below rows count (suc m) w.row right) ≡ t)
      → OnWay rows f width count whole (met w (rows w.row) t)
  keeps t says =
      let stage : w.stage ≡ On = on_is w.stage on in
      let a : AfterRow rows f width whole w (met w (rows w.row) t)
      = meets rows f width whole w (subst (Placed rows w) stage k.placed) k.fits k.memory
      (subst (λ (s : Stage). Ahead rows width whole w (to_come rows f w s)) stage k.ahead) t
      (λ m e. rw k.same_count (says m e)) in
      record { ahead = a.ahead; placed = a.placed; memory = a.memory; fits = a.within; same_count = a.same_count ∙ k.same_count }

-- a walk that has not moved yet is on its way, if the whole way is ahead
module _ (rows : ℕ → Row) (f : Rule) (tree : Tree) (w : Walk) (fresh : w.has_aside ≡ false) (all : way_to_come rows f w ≡ way f w.bits tree)
    (p : Placed rows w w.stage) where
  pub begins : Walking rows f w.bits w.count tree w
  begins =
      record {
        ahead =
            record {
              end = ap (λ (v : Way). v.end) all;
              bits = ap (λ (v : Way). v.bits) all;
              number = rw (all, sub_self w.bits) (add-zero _);
              above = rw (all, le-ltb w.bits w.bits (le_refl w.bits)) (first_of_no_such _);
              aside = rw (all, fresh) (first_of_no_such _);
            };
        placed = p;
        memory =
            record {
              above_used = λ less. absurd (lt_irrefl w.bits less);
              aside_used = λ has_aside. absurd (true≢false (sym has_aside ∙ fresh));
            };
        fits = le_refl w.bits;
        same_count = refl;
      }

-- at the root
pub begins_root : (h : Header) (table : List ℕ) (f : Rule) → Walking (row_at table) f h.width h.count (shown h table) (started h)
unfolding shown
begins_root h table f = begins (row_at table) f (shown h table) (started h) refl (all (eqb h.count 0)) (placed (eqb h.count 0) refl)
  where
    all : (b : Bool)
        → to_come (row_at table) f (started h) (if b then AtNone else On)
        ≡ way f h.width (if b then none else unfolded (row_at table) h.count h.width 0 0 0)
    all true = sym (at_none f h.width)
    all false = refl

    placed : (b : Bool) → eqb h.count 0 ≡ b → Placed (row_at table) (started h) (if b then AtNone else On)
    placed true e = tt
    placed false e = pos_of_ne-zero (eqb-false h.count 0 e)
