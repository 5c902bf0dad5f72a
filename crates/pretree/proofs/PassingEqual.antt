-- "as the way of k, but rows equal to k are passed through": the walk of that way is the walk of the way of k, continued from its end.
use Prim.Native.Nat.{ℕ, zero, suc, ◌+◌, ◌*◌, ◌/◌, ◌^◌, ◌≤◌, ◌<◌}
use mathlib.Core.Path.{◌≡◌, refl, sym, ap, ◌∙◌, subst}
use mathlib.Core.Bool.{Bool, true, false}
use mathlib.Core.List.{List}
use native.Mathlib.Nat.{div-eq_of_lt}
use native.Mathlib.Omega.{arith}
use lib.Dec.{ltb, eqb}
use borrow.Author.Tests.{lt-ltb, le-leb, ltb-true}
use Rattle.std.specs.Prelude.{if◌then◌else◌}
use Rattle.ordered.specs.Word.{Side, left, right, side}
use Rattle.ordered.specs.Dictionary.{Entry}
use Rattle.ordered.specs.Tree.{Tree, none, row, part}
use Rattle.ordered.specs.Way.{Way, Step, Rule, way, passing, turning, joined, stop, to}
use Rattle.ordered.specs.Reading.{skipped_right}
use Rattle.ordered.proofs.Bits.{next_bit}
use Rattle.ordered.proofs.Parts.{All, none_all, one_all, IfSuch, last_such_one}
use Rattle.ordered.proofs.Ways.{along, step, turns_so}
use Rattle.pretree.specs.declared.Header.{Header}
use Rattle.pretree.specs.declared.Row.{Row}
use Rattle.pretree.specs.Table.{entry_of, row_at}
use Rattle.pretree.specs.Unfold.{judged, linked, unfolded, shown}
use Rattle.pretree.specs.Reply.{too_wide}
use Rattle.pretree.specs.Walk.{Walk, AtRow, is_on, holds, ended, turned, met, below, remembered, seeking, seek_turn, OnWay, Walking, Walked}
use Rattle.pretree.specs.Resume.{resumed}
use Rattle.pretree.proofs.Checks.{narrow}
use Rattle.pretree.proofs.Ended.{way_end}
use Rattle.pretree.proofs.Resuming.{resumes}
use Rattle.pretree.proofs.SeekTurn.{seek_says}
use Rattle.pretree.proofs.Unfolding.{damaged_is, is_row, path_in_key}
use Rattle.pretree.proofs.Walking.{at_none, keeps}

-- where the way of k turns, the other way turns too
both_turn : (k m : ℕ) (e : Entry) (l r : Tree) (s : Side) → seeking k k m e l r ≡ to s → seeking (suc k) k m e l r ≡ to s
unfolding seeking
both_turn k m e l r s says =
    let so = turns_so (seeking k k) (λ x. ltb x k) k (λ m e l r. refl) m e l r s says in
    rw (lt-ltb e.key (suc k) (omega (arith, ltb-true e.key k so.0)), so.1)

turns_on : (f : Rule) (m i : ℕ) (e : Entry) (l r : Tree) (s : Side) → f m e l r ≡ to s
    → way f (suc m) (row i e l r)
    ≡ passing (record { at = i; entry = e; turn = s; left_part = l; right_part = r; below = m }) (way f m (part s l r))
unfolding way
turns_on f m i e l r s says = rw says

-- so the other way is the way of k, continued from its end
goes_on_from_end : (k m : ℕ) (t : Tree)
    → let w : Way = way (seeking k k) m t in joined w (way (seeking (suc k) k) w.bits w.end) ≡ way (seeking (suc k) k) m t
unfolding joined
goes_on_from_end k =
    along (seeking k k) (λ m t w. joined w (way (seeking (suc k) k) w.bits w.end) ≡ way (seeking (suc k) k) m t) (λ m t ends. refl)
    (λ m i e l r s says rest. ap (passing _) rest ∙ sym (turns_on (seeking (suc k) k) m i e l r s (both_turn k m e l r s says)))

-- the walk that has gone the way of k is on the other way, with the row at which it ended as its next row
pub passes_on : (rows : ℕ → Row) (k width count : ℕ) (tree : Tree) (w : Walk) → Walked rows (seeking k k) width count tree w
    → Walking rows (seeking (suc k) k) width count tree (resumed w)
passes_on rows k width count tree w gone =
    let g : OnWay rows (seeking (suc k) k) width w.count (way (seeking (suc k) k) width tree) (resumed w) =
    rw (goes_on_from_end k width tree) at (resumes rows (seeking k k) (seeking (suc k) k) width count tree w gone) in
    record { ahead = g.ahead; placed = g.placed; memory = g.memory; fits = g.fits; same_count = gone.walking.same_count }

-- at its next row it stays on that way
pub takes_on : (rows : ℕ → Row) (limit k width count : ℕ) (tree : Tree) (w : Walk) → is_on w.stage ≡ true
    → Walking rows (seeking limit k) width count tree w
    → let r : Row = rows w.row in Walking rows (seeking limit k) width count tree (met w r (seek_turn limit k r.entry.key w.bits))
takes_on rows limit k width count tree w on walking =
    keeps rows (seeking limit k) width count (way (seeking limit k) width tree) w on walking _ (λ m bits. seek_says limit k w.bits m _ _ _ bits)

-- it stops at a row with a key greater than k
pub stops_past : (k : ℕ) (w : Walk) (r : Row) → holds w r ≡ true → k < r.entry.key
    → met w r (seek_turn (suc k) k r.entry.key w.bits) ≡ ended w AtRow (entry_of r)
unfolding met turned
stops_past k w r no_damage greater = rw (no_damage, le-leb (suc k) r.entry.key greater) (go (eqb w.bits 0))
  where
    go : (b : Bool) → (if b then ended w AtRow (entry_of r) else turned w r (if b then stop else stop)) ≡ ended w AtRow (entry_of r)
    go true = refl
    go false = refl

-- a row that a way by the bits of k passed: its key is not greater than k, it has the bits of k's path, and the way turned by k's next bit
pub record PassedFor (k : ℕ) (s : Step) : Type 0 where
  pub least : s.entry.key ≤ k
  pub on_path : s.entry.key / 2 ^ suc s.below ≡ k / 2 ^ suc s.below
  pub turned : side s.below k ≡ s.turn

module _ (rows : ℕ → Row) (n k : ℕ) where
  abbrev passed_from : ℕ → Tree → List Step
  passed_from m t = (way (seeking (suc k) k) m t).passed

  steps_from : (m low i : ℕ) → All (PassedFor k) (passed_from m (unfolded rows n m (k / 2 ^ m) low i))
  unfolding way seeking
  steps_from zero low i = none_all
  steps_from (suc m) low i = by_row (λ low j. steps_from m low j) (judged n (suc m) (k / 2 ^ suc m) low i (rows i)) refl
    where
      key : ℕ
      key = (rows i).entry.key

      Below : Type 0
      Below = (low j : ℕ) → All (PassedFor k) (passed_from m (unfolded rows n m (k / 2 ^ m) low j))

      by_link : Below → (low j : ℕ) → All (PassedFor k) (passed_from m (linked (unfolded rows n m (k / 2 ^ m) low) j))
      by_link rest low zero = subst (λ (v : Way). All (PassedFor k) v.passed) (sym (at_none (seeking (suc k) k) m)) none_all
      by_link rest low (suc j) = rest low (suc j)

      by_side : Below → key / 2 ^ suc m ≡ k / 2 ^ suc m → (s : Side) → side m k ≡ s
          → All (PassedFor k) (passed_from m (part s (below rows n (suc m) i left) (below rows n (suc m) i right)))
      by_side rest path left e =
          let there : key / 2 ^ suc m * 2 + 0 ≡ k / 2 ^ m = rw path (sym (rw e at (next_bit m k))) in
          rw there (by_link rest (suc key) (rows i).left)
      by_side rest path right e =
          let there : key / 2 ^ suc m * 2 + 1 ≡ k / 2 ^ m = rw path (sym (rw e at (next_bit m k))) in
          rw there (by_link rest (suc key) (rows i).right)

      by_key : Below → key / 2 ^ suc m ≡ k / 2 ^ suc m → (b : Bool) → ltb key (suc k) ≡ b
          → All (PassedFor k) (turning (way (seeking (suc k) k) m) m i (entry_of (rows i)) (below rows n (suc m) i left) (below rows n (suc m) i right) (if b then to (side m k) else stop)).passed
      by_key rest path false h = none_all
      by_key rest path true h =
          let here : Step = step m i (entry_of (rows i)) (below rows n (suc m) i left) (below rows n (suc m) i right) (side m k) in
          let least : key ≤ k = omega (arith, ltb-true key (suc k) h) in
          one_all {x = here} (record { least = least; on_path = path; turned = refl }) (by_side rest path (side m k) refl)

      by_row : Below → (b : Bool) → judged n (suc m) (k / 2 ^ suc m) low i (rows i) ≡ b
          → All (PassedFor k) (passed_from (suc m) (unfolded rows n (suc m) (k / 2 ^ suc m) low i))
      by_row rest false h = rw (damaged_is rows n (suc m) (k / 2 ^ suc m) low i h) none_all
      by_row rest true h =
          rw (is_row rows n (suc m) (k / 2 ^ suc m) low i h)
          (by_key rest (path_in_key n (suc m) (k / 2 ^ suc m) low i (rows i) h) (ltb key (suc k)) refl)

-- from the root, whose path has no bits
steps_shown : (h : Header) (table : List ℕ) (k : ℕ) → too_wide h k ≡ false → All (PassedFor k) (way (seeking (suc k) k) h.width (shown h table)).passed
unfolding shown
steps_shown h table k small = by_count (eqb h.count 0)
  where
    root : k / 2 ^ h.width ≡ 0
    root = div-eq_of_lt (narrow h k small)

    by_count : (b : Bool) → All (PassedFor k) (way (seeking (suc k) k) h.width (if b then none else unfolded (row_at table) h.count h.width 0 0 0)).passed
    by_count true = rw (at_none (seeking (suc k) k) h.width) none_all
    by_count false = rw root at (steps_from (row_at table) h.count k h.width 0 0)

-- the row that a walk remembers aside is such a row
pub aside_passed : (h : Header) (table : List ℕ) (k : ℕ) (w : Walk) → too_wide h k ≡ false
    → Walked (row_at table) (seeking (suc k) k) h.width h.count (shown h table) w
    → IfSuch (PassedFor k) (remembered (row_at table) w.count w.has_aside w.aside_bits w.aside left)
aside_passed h table k w small gone =
    rw (← (way_end _ _ _ _ _ w gone).aside) (last_such_one skipped_right (steps_shown h table k small))
