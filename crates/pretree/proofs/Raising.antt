-- "each row taking the key below": the entries that the rows of a stretch take, in the definition and row by row in the code; and the loop that
-- writes them.
use Prim.Native.Nat.{ℕ, zero, suc, ◌+◌, ◌*◌, ◌/◌, ◌^◌, ◌≤◌, ◌<◌}
use mathlib.Core.Path.{◌≡◌, refl, sym, ◌∙◌, subst}
use mathlib.Core.Bool.{Bool, true, false, not, true≢false}
use mathlib.Core.List.{List, [], ◌∷◌}
use native.Mathlib.Nat.{le_trans, le_refl, le_of_lt, lt_of_lt_of_le}
use native.Mathlib.Omega.{arith}
use lib.Dec.{ltb, leb, eqb}
use lib.ListN.{length}
use borrow.Author.Tests.{ltb-true, leb-true, eqb-false}
use Rattle.std.specs.Prelude.{if◌then◌else◌}
use Rattle.ordered.specs.Word.{Side, left, right, bit_of}
use Rattle.ordered.specs.Dictionary.{Entry}
use Rattle.ordered.specs.Tree.{Tree, row, damaged, part}
use Rattle.ordered.specs.Way.{Way, Step, way, down, is_damaged, to}
use Rattle.ordered.specs.Change.{raised, entry_at}
use Rattle.ordered.proofs.Ways.{along, AtEnd, Onward, and_true}
use Rattle.pretree.specs.declared.Row.{Row}
use Rattle.ordered.specs.Way.{stop, to}
use Rattle.pretree.specs.Table.{entry_of, capacity, row_at, link, with_entry}
use Rattle.pretree.specs.Unfold.{judged, linked, unfolded}
use Rattle.pretree.specs.Walk.{below, down_turn}
use Rattle.pretree.specs.Add.{taking}
use Rattle.pretree.specs.Erased.{row_below, raising, Rises}
use Rattle.pretree.proofs.Unfolding.{damaged_is, is_row}
use Rattle.pretree.proofs.DownTurn.{down_says}
use Rattle.pretree.proofs.Writing.{same_capacity}
use Rattle.pretree.proofs.Rows.{entry_length, entry_elsewhere}

-- the link that the way follows is `row_below`, and it is not 0
record Follows (r : Row) (s : Side) (below : ℕ) : Type 0 where
  same : link r s ≡ below
  some : link r s ≡ 0 → ⊥

follows : (r : Row) (s : Side) → (down_turn left r) ≡ to s → Follows r s (row_below r)
follows r s says = go (eqb r.left 0) (eqb r.right 0) refl refl says
  where
    go : (a b : Bool) → eqb r.left 0 ≡ a → eqb r.right 0 ≡ b
        → (if not a then to left else if not b then to right else stop) ≡ to s → Follows r s (link r (if a then right else left))
    go false b ha hb says =
        let e : left ≡ s = cc in
        subst (λ (t : Side). Follows r t r.left) e (record { same = refl; some = eqb-false r.left 0 ha })
    go true false ha hb says =
        let e : right ≡ s = cc in
        subst (λ (t : Side). Follows r t r.right) e (record { same = refl; some = eqb-false r.right 0 hb })
    go true true ha hb says = let z : ◌≡◌ {A = ℕ} 0 1 = cc in omega arith

-- the entry of the first row of a stretch
abbrev topmost : List Step → Entry → Entry
topmost [] hole = hole
topmost (s ∷ ss) hole = s.entry

raised_more : (s : Step) (ss : List Step) (hole : Entry) → raised (s ∷ ss) hole ≡ record { at = s.at; entry = topmost ss hole } ∷ raised ss hole
unfolding raised
raised_more s [] hole = refl
raised_more s (t ∷ ss) hole = refl

linked_some : (f : ℕ → Tree) (i : ℕ) → (i ≡ 0 → ⊥) → linked f i ≡ f i
linked_some f zero some = absurd (some refl)
linked_some f (suc i) some = refl

module _ (rows : ℕ → Row) (n room : ℕ) (fits : n ≤ room) where
  abbrev key : ℕ → ℕ
  key i = (rows i).entry.key

  -- a stretch w from row i that meets no damage: the entries that its rows take; the rows are in the table, and their keys increase
  pub record Stretch (low i : ℕ) (w : Way) : Type 0 where
    pub rising : low ≤ key i
    pub top : topmost w.passed (entry_at w.end) ≡ entry_of (rows i)
    pub takes : raised w.passed (entry_at w.end) ≡ raising rows (length w.passed) i
    pub rises : Rises rows room (length w.passed) i

  -- what is known of an undamaged row
  record Fine (m path low i : ℕ) (t : Tree) : Type 0 where
    is : t ≡ row i (entry_of (rows i)) (below rows n m i left) (below rows n m i right)
    in_table : i < room
    above_low : low ≤ key i

  fine : (m path low i : ℕ) (t : Tree) → t ≡ unfolded rows n m path low i → is_damaged t ≡ false → Fine m path low i t
  fine m path low i t e ok = go (judged n m path low i (rows i)) refl
    where
      go : (b : Bool) → judged n m path low i (rows i) ≡ b → Fine m path low i t
      go true h =
          let used = and_true (ltb i n) _ h in
          record {
            is = e ∙ is_row rows n m path low i h;
            in_table = lt_of_lt_of_le (ltb-true i n used.0) fits;
            above_low = leb-true low (key i) (and_true (leb low (key i)) _ used.1).0;
          }
      go false h =
          let broken : t ≡ damaged = e ∙ damaged_is rows n m path low i h in
          absurd (true≢false (rw broken at ok))

  abbrev P : ℕ → Tree → Way → Type 0
  P m t w = (path low i : ℕ) → t ≡ unfolded rows n m path low i → is_damaged w.end ≡ false → Stretch low i w

  at_end : AtEnd (down left) P
  unfolding raised raising Rises
  at_end m t stops path low i e ok =
      let f : Fine m path low i t = fine m path low i t e ok in
      record { rising = f.above_low; top = rw f.is; takes = refl; rises = f.in_table }

  onward : Onward (down left) P
  unfolding raising Rises
  onward m i' e l r s says rest path low i shape ok =
      let f : Fine (suc m) path low i (row i' e l r) = fine (suc m) path low i (row i' e l r) shape refl in
      let same : i' ≡ i = cc in
      let entry : e ≡ entry_of (rows i) = cc in
      let turns : (down_turn left (rows i)) ≡ to s = sym (down_says rows n m i (entry_of (rows i)) left) ∙ (cc) in
      let g : Follows (rows i) s (row_below (rows i)) = follows (rows i) s turns in
      let part_is : part s l r ≡ below rows n (suc m) i s = by_side s (cc) (cc) in
      let linked_is = linked_some (unfolded rows n m (key i / 2 ^ suc m * 2 + bit_of s) (suc (key i))) (link (rows i) s) g.some in
      let k : Stretch (suc (key i)) (row_below (rows i)) (way (down left) m (part s l r))
      = rest (key i / 2 ^ suc m * 2 + bit_of s) (suc (key i)) (row_below (rows i)) (part_is ∙ linked_is ∙ rw g.same) ok in
      record {
        rising = f.above_low;
        top = entry;
        takes = raised_more _ _ _ ∙ rw (same, k.top, k.takes);
        rises = (f.in_table, k.rising, k.rises);
      }
    where
      by_side : (s : Side) → l ≡ below rows n (suc m) i left → r ≡ below rows n (suc m) i right → part s l r ≡ below rows n (suc m) i s
      by_side left hl hr = hl
      by_side right hl hr = hr

  pub stretch : (m path low i : ℕ) → let w : Way = way (down left) m (unfolded rows n m path low i) in is_damaged w.end ≡ false → Stretch low i w
  stretch m path low i ok = along (down left) P at_end onward m _ path low i refl ok

-- where the loop is: the writes that are still to come lead to the same table, and the rows further down are as they were
pub record Raises (start : List ℕ) (from steps : ℕ) (table : List ℕ) (at left : ℕ) : Type 0 where
  pub rises : Rises (row_at start) (capacity start) left at
  pub rest : taking (raising (row_at start) left at) table ≡ taking (raising (row_at start) steps from) start
  pub same : (i : ℕ) → (row_at start at).entry.key ≤ (row_at start i).entry.key → row_at table i ≡ row_at start i
  pub long : length table ≡ length start

pub raises_first : (start : List ℕ) (from steps : ℕ) → Rises (row_at start) (capacity start) steps from → Raises start from steps start from steps
raises_first start from steps h = record { rises = h; rest = refl; same = λ i l. refl; long = refl }

first_used : (rows : ℕ → Row) (n s i : ℕ) → Rises rows n s i → i < n
unfolding Rises
first_used rows n zero i h = h
first_used rows n (suc s) i h = h.0

module _ (start : List ℕ) (from steps : ℕ) (table : List ℕ) (at left rest : ℕ) (one_more : left ≡ suc rest) (k : Raises start from steps table at left) where
  abbrev next : ℕ
  next = row_below (row_at start at)

  risen : ((row_at start at).entry.key < (row_at start next).entry.key) × Rises (row_at start) (capacity start) rest next
  unfolding Rises
  risen = let h = rw one_more at k.rises in (h.1, h.2)

  pub at_used : at < capacity table
  at_used = let room = same_capacity table start k.long in rw room (first_used _ _ left at k.rises)

  pub next_used : next < capacity table
  next_used = let room = same_capacity table start k.long in rw room (first_used _ _ _ _ risen.1)

  pub at_same : row_at table at ≡ row_at start at
  at_same = k.same at (le_refl _)

  pub next_same : row_at table next ≡ row_at start next
  next_same = k.same next (le_of_lt risen.0)

  -- one turn of the loop: the row takes the key below
  pub raises_more : Raises start from steps (with_entry at (entry_of (row_at start next)) table) next rest
  unfolding raising taking
  raises_more =
      record {
        rises = risen.1;
        rest = rw one_more at k.rest;
        same = λ i l. entry_elsewhere at table i (λ e. apart i l e) _ ∙ k.same i (le_trans (le_of_lt risen.0) l);
        long = entry_length at _ table ∙ k.long;
      }
    where
      apart : (i : ℕ) → (row_at start next).entry.key ≤ (row_at start i).entry.key → i ≡ at → ⊥
      apart i l e = let less = rw e at l in omega (arith, risen.0)
