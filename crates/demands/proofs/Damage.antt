-- The calls test for exactly the damage of document 01 (`damage_tested`). The reason: the tree that a table shows is the tree that its links
-- name, pruned at the damaged rows.
use Prim.Native.Nat.{ℕ, zero, suc, ◌+◌, ◌*◌, ◌-◌, ◌/◌, ◌%◌, ◌^◌, ◌<◌, ◌≤◌, pred}
use mathlib.Core.Path.{◌≡◌, refl, sym, ap, subst, ◌∙◌}
use mathlib.Core.Bool.{Bool, true, false, not, ◌&&◌, ◌||◌, or-false, and_assoc, and-false, false≢true}
use mathlib.Core.List.{List, [], ◌∷◌}
use native.Mathlib.Omega.{arith}
use lib.Dec.{ltb, leb, eqb}
use borrow.Author.Tests.{ltb-false, leb-false, eqb-false, lt-leb}
use Rattle.std.specs.Prelude.{if◌then◌else◌}
use Rattle.ordered.specs.Such.{Perhaps, no_such, such, only_if, is_there}
use Rattle.ordered.specs.Word.{Side, left, right, bit_of, side}
use Rattle.ordered.specs.Source004.{Whether}
use Rattle.ordered.specs.Dictionary.{Entry}
use Rattle.ordered.specs.Tree.{Tree, none, row, damaged, exists, intact}
use Rattle.ordered.specs.Way.{Way, way, broken, is_damaged, following}
use Rattle.ordered.specs.Reading.{Found, broken_in, word_in, root_row, has}
use Rattle.ordered.specs.Change.{Erasing, adding, erasing, way_ends_at, number_at, entry_at}
use Rattle.ordered.proofs.Ways.{unbroken}
use Rattle.ordered.proofs.Unbroken.{has_unbroken, next_unbroken, prev_unbroken, first_unbroken, last_unbroken, gap_unbroken, adding_unbroken, erasing_unbroken}
use Rattle.ordered.proofs.Answers.{adding_finds, erasing_finds}
use Rattle.ordered.proofs.Pruned.{Pruned, empty, kept, cut, CutWay, CutErasing}
use Rattle.ordered.proofs.Pruned.{has_tested, next_tested, prev_tested, gap_tested, first_tested, last_tested, way_tested, adding_tested, erasing_tested}
use Rattle.pretree.specs.declared.Header.{Header}
use Rattle.pretree.specs.declared.Row.{Row}
use Rattle.pretree.specs.Table.{row_at, entry_of, link}
use Rattle.pretree.specs.Unfold.{ends_there, judged, linked, unfolded, shown}
use Rattle.pretree.specs.Add.{entry_for}
use Rattle.pretree.specs.Del.{second_way, astray}
use Rattle.pretree.specs.declared.Call.{Call}
use Rattle.pretree.specs.declared.Call.TheVariants.{New, Add, Del, Has, Next, Prev, Gap, First, Last, Audit}
use Rattle.demands.specs.Damage.{named_from, named, Visit, root, below, visit, visit_at, Damaged, DamagedAt, link_too_far, key_too_wide, key_not_greater, key_off_the_path, link_at_depth_W}
use Rattle.demands.specs.Damage.{way_of, EndsAt, Absent, LastRowMoves, last_key, FindsLast, SecondDamage, DamageOn, OneRow, NoneInSets}
use Rattle.demands.specs.Refusals.{ways_of}
use Rattle.demands.proofs.Unfolding.{NoDamage, part_shown, picked, judged_so, no_link}
use Rattle.demands.proofs.SoundIs.{tree_intact}
use Rattle.demands.proofs.SecondWay.{second_way_ends}
use Rattle.demands.proofs.Meeting.{below_width, longer}
use Rattle.demands.proofs.Whether.{fails, never, both_tested, not_tested, equal_tested, same_test, else_tested}

-- the least key allowed below a row with this key
abbrev least : Perhaps ℕ → ℕ
least no_such = 0
least (such k) = suc k

-- `visit` finds v at place p, however many more levels than its depth are allowed
record Stands (rows : ℕ → Row) (p : ℕ) (v : Visit) : Type 0 where
  some_place : 1 ≤ p
  there : (m : ℕ) → v.depth ≤ m → visit rows m p ≡ v
  short_path : v.path < 2 ^ v.depth

module _ (rows : ℕ → Row) where
  root_stands : Stands rows 1 root
  unfolding visit
  root_stands = record { some_place = omega arith; there = λ m deep. stays m; short_path = omega arith }
    where
      stays : (m : ℕ) → visit rows m 1 ≡ root
      stays zero = refl
      stays (suc m) = refl

  below_stands : (p : ℕ) (v : Visit) → Stands rows p v → (s : Side) → Stands rows (p * 2 + bit_of s) (below rows v s)
  unfolding visit
  below_stands p v st s =
      record { some_place = omega (arith, st.some_place); there = goes s; short_path = longer v.depth v.path s st.short_path }
    where
      goes : (s : Side) (m : ℕ) → suc v.depth ≤ m → visit rows m (p * 2 + bit_of s) ≡ below rows v s
      goes s zero deep = absurd (omega arith)
      goes left (suc m) deep =
          let half : (p * 2 + 0) / 2 ≡ p = omega arith in
          let rest : (p * 2 + 0) % 2 ≡ 0 = omega arith in
          rw (lt-leb (p * 2 + 0) 1 (omega (arith, st.some_place)), half, rest, st.there m (omega arith))
      goes right (suc m) deep =
          let half : (p * 2 + 1) / 2 ≡ p = omega arith in
          let rest : (p * 2 + 1) % 2 ≡ 1 = omega arith in
          rw (lt-leb (p * 2 + 1) 1 (omega (arith, st.some_place)), half, rest, st.there m (omega arith))

module _ (h : Header) (table : List ℕ) where
  -- `judged` says whether a row is undamaged
  module _ (m : ℕ) (v : Visit) (whole : v.depth + m ≡ h.width) where
    abbrev here : Row
    here = row_at table v.at

    abbrev judgement : Bool
    judgement = judged h.count m v.path (least v.above) v.at here

    left_over : h.width - v.depth ≡ m
    left_over = omega arith

    judged_damage : judgement ≡ false → Damaged h table v
    judged_damage =
        by_cases (ltb v.at h.count) (leb (least v.above) here.entry.key) (eqb (here.entry.key / 2 ^ m) v.path) refl refl refl
      where
        not_greater : (q : Perhaps ℕ) → v.above ≡ q → leb (least q) here.entry.key ≡ false → Damaged h table v
        not_greater no_such above small = absurd (omega (arith, leb-false 0 here.entry.key small))
        not_greater (such k) above small = key_not_greater above (omega (arith, leb-false (suc k) here.entry.key small))

        links : (m : ℕ) → v.depth + m ≡ h.width → ends_there m here ≡ false → Damaged h table v
        links (suc m) whole wrong = absurd (false≢true (sym wrong))
        links zero whole wrong = by_side (eqb here.left 0) refl wrong
          where
            by_side : (a : Bool) → eqb here.left 0 ≡ a → (a && eqb here.right 0) ≡ false → Damaged h table v
            by_side false e wrong = link_at_depth_W left (omega arith) (eqb-false here.left 0 e)
            by_side true e wrong = link_at_depth_W right (omega arith) (eqb-false here.right 0 wrong)

        by_cases :
            (a b c : Bool) → ltb v.at h.count ≡ a → leb (least v.above) here.entry.key ≡ b
            → eqb (here.entry.key / 2 ^ m) v.path ≡ c
            → (a && (b && (c && ends_there m here))) ≡ false → Damaged h table v
        by_cases false b c used greater on_path wrong = link_too_far (ltb-false v.at h.count used)
        by_cases true false c used greater on_path wrong = not_greater v.above refl greater
        by_cases true true false used greater on_path wrong =
            key_off_the_path (rw left_over (eqb-false (here.entry.key / 2 ^ m) v.path on_path))
        by_cases true true true used greater on_path wrong = links m whole wrong

    judged_sound : v.path < 2 ^ v.depth → judgement ≡ true → ¬ Damaged h table v
    judged_sound short passed = none_of
      where
        good : NoDamage (row_at table) h.count m v.path (least v.above) v.at
        good = judged_so (row_at table) h.count m v.path (least v.above) v.at passed

        none_of : ¬ Damaged h table v
        none_of (link_too_far far) = omega (arith, good.in_use)
        none_of (key_too_wide wide) =
            omega (arith, below_width h.width v.depth m v.path here.entry.key whole short good.key_fits.on_path)
        none_of (key_not_greater {k} above small) = let low : suc k ≤ here.entry.key = rw above at good.key_fits.not_below in omega arith
        none_of (key_off_the_path off) = off (rw left_over good.key_fits.on_path)
        none_of (link_at_depth_W s bottom other) =
            let none_left : m ≡ 0 = omega arith in other (no_link here (rw none_left at good.links_end) s)

  abbrev Bad : ℕ → Type 0
  Bad = DamagedAt h table

  abbrev number : ℕ → ℕ
  number p = (visit_at h table p).at

  -- the tree that a table shows is the tree that its links name, pruned at the damaged rows
  linked_pruned : (f g : ℕ → Tree) (j : ℕ) → Pruned Bad number (f j) (g j) → Pruned Bad number (linked f j) (linked g j)
  linked_pruned f g zero pruned = empty
  linked_pruned f g (suc j) pruned = pruned

  abbrev naming : ℕ → ℕ → ℕ → Side → Tree
  naming zero p i s = none
  naming (suc m) p i s = linked (named_from (row_at table) m (p * 2 + bit_of s)) (link (row_at table i) s)

  named_row : (m p i : ℕ)
      → named_from (row_at table) m p i ≡ row p (entry_of (row_at table i)) (naming m p i left) (naming m p i right)
  unfolding named_from
  named_row zero p i = refl
  named_row (suc m) p i = refl

  row_pruned :
      (m p : ℕ) (v : Visit) → Stands (row_at table) p v → v.depth + m ≡ h.width
      → ((s : Side) → Pruned Bad number (naming m p v.at s) (part_shown (row_at table) h.count m v.path v.at s))
      → Pruned Bad number (named_from (row_at table) m p v.at) (unfolded (row_at table) h.count m v.path (least v.above) v.at)
  row_pruned m p v st whole parts = rw (named_row m p v.at) (by_cases (judgement m v whole) refl)
    where
      stands : visit_at h table p ≡ v
      stands = st.there h.width (omega arith)

      entry : Entry
      entry = entry_of (row_at table v.at)

      part : Side → Tree
      part = part_shown (row_at table) h.count m v.path v.at

      whole_row : Tree
      whole_row = row p entry (naming m p v.at left) (naming m p v.at right)

      by_cases :
          (b : Bool) → judgement m v whole ≡ b
          → Pruned Bad number whole_row (unfolded (row_at table) h.count m v.path (least v.above) v.at)
      by_cases true passed =
          rw (picked (row_at table) h.count m v.path (least v.above) v.at true passed)
          (subst (λ i. Pruned Bad number whole_row (row i entry (part left) (part right))) (ap (λ v. v.at) stands)
          (kept (rw stands (judged_sound m v whole st.short_path passed)) (parts left) (parts right)))
      by_cases false failed =
          rw (picked (row_at table) h.count m v.path (least v.above) v.at false failed)
          (cut {i = p} (rw stands (judged_damage m v whole failed)))

  unfolded_pruned :
      (m p : ℕ) (v : Visit) → Stands (row_at table) p v → v.depth + m ≡ h.width
      → Pruned Bad number (named_from (row_at table) m p v.at) (unfolded (row_at table) h.count m v.path (least v.above) v.at)
  unfolded_pruned zero p v st whole = row_pruned zero p v st whole (λ s. empty)
  unfolded_pruned (suc m) p v st whole =
      row_pruned (suc m) p v st whole (λ s.
      linked_pruned (named_from (row_at table) m (p * 2 + bit_of s))
      (unfolded (row_at table) h.count m (v.path * 2 + bit_of s) (suc (row_at table v.at).entry.key)) (link (row_at table v.at) s)
      (unfolded_pruned m (p * 2 + bit_of s) (below (row_at table) v s) (below_stands (row_at table) p v st s) (omega arith)))

  shown_pruned : Pruned Bad number (named h table) (shown h table)
  unfolding named shown
  shown_pruned = by_cases (eqb h.count 0)
    where
      by_cases : (b : Bool)
          → Pruned Bad number (if b then none else named_from (row_at table) h.width 1 0)
          (if b then none else unfolded (row_at table) h.count h.width 0 0 0)
      by_cases true = empty
      by_cases false = unfolded_pruned h.width 1 root (root_stands (row_at table)) (omega arith)

  no_place : number 0 ≡ 0
  unfolding visit
  no_place = at_zero h.width
    where
      at_zero : (m : ℕ) → (visit (row_at table) m 0).at ≡ 0
      at_zero zero = refl
      at_zero (suc m) = refl

broken_alone : (w : Way) → broken_in (w ∷ []) ≡ broken w
unfolding broken_in
broken_alone w = or-false (broken w)

-- `way_ends_at` says whether a way ends at a row with the key k
ends_tested : (k : ℕ) (w : Way) → Whether ((p : ℕ) × EndsAt k p w) (way_ends_at k w)
ends_tested k w = at_end w.bits w.end
  where
    RowOfKey : Tree → Type 0
    RowOfKey t = (p : ℕ) × ((e : Entry) × (l : Tree) × (r : Tree) × (e.key ≡ k) × (t ≡ row p e l r))

    passes : (b : Bool) (f : Found) → is_there (if b then such f else no_such) ≡ b
    passes true f = refl
    passes false f = refl

    at_end : (m : ℕ) (t : Tree) → Whether (RowOfKey t) (is_there (only_if (λ f. eqb k (word_in f)) (root_row m t)))
    at_end m none = never (λ there. false≢true (ap exists there.1.4))
    at_end m damaged = never (λ there. false≢true (sym (ap is_damaged there.1.4)))
    at_end m (row p e l r) =
        rw (passes (eqb k e.key) (record { entry = e; bits = m }))
        (same_test (λ same. (p, (e, l, r, sym same, refl))) (λ there. sym there.1.3 ∙ sym (ap (λ t. (entry_at t).key) there.1.4))
        (equal_tested k e.key))

-- the test that each call makes
unfoldable pub damage_test : Call → Header → List ℕ → Bool
damage_test (New w) h table = false
damage_test (Add k serial) h table = broken_in (ways_of (Add k serial) h table)
damage_test (Del k) h table =
    let e : Erasing = erasing h.width k (shown h table) in
    let second : Way = second_way h table in
    broken e.rows_read || (e.present && (not (eqb e.hole (pred h.count)) && (broken second || astray h table second)))
damage_test (Has k) h table = broken_in (ways_of (Has k) h table)
damage_test (Next k) h table = broken_in (ways_of (Next k) h table)
damage_test (Prev k) h table = broken_in (ways_of (Prev k) h table)
damage_test (Gap k) h table = broken_in (ways_of (Gap k) h table)
damage_test First h table = broken_in (ways_of First h table)
damage_test Last h table = broken_in (ways_of Last h table)
damage_test Audit h table = false
damage_test Call.List h table = false

module _ (h : Header) (table : List ℕ) where
  second_tested : Whether (SecondDamage h table) (broken (second_way h table) || astray h table (second_way h table))
  unfolding second_way astray
  second_tested = else_tested (broken v) (astray h table v) (rw broken_alone at cut_way.exactly) ends
    where
      k : ℕ
      k = last_key h table

      last : ℕ
      last = pred h.count

      w : Way
      w = way_of k h table

      v : Way
      v = way (following k) h.width (shown h table)

      cut_way : CutWay (Bad h table) (number h table) w v
      cut_way = way_tested h.width (shown_pruned h table) k (no_place h table)

      finds_last : Whether (FindsLast h table) (way_ends_at k w && eqb (number h table (number_at w.end)) last)
      finds_last =
          same_test there back
          (both_tested (way_ends_at k w) (eqb (number h table (number_at w.end)) last) (ends_tested k w)
          (equal_tested (number h table (number_at w.end)) last))
        where
          there : ((p : ℕ) × EndsAt k p w) × (number h table (number_at w.end) ≡ last) → FindsLast h table
          there ((p, ends), same) = (p, ends, rw (ap number_at ends.4) at same)

          back : FindsLast h table → ((p : ℕ) × EndsAt k p w) × (number h table (number_at w.end) ≡ last)
          back (p, ends, same) = ((p, ends), rw (ap number_at ends.4) same)

      ends : broken v ≡ false → Whether (¬ FindsLast h table) (astray h table v)
      ends whole = not_tested (way_ends_at k v && eqb (number_at v.end) last) (rw (cut_way.same_row whole, cut_way.same_number whole) at finds_last)

  del_tested : (k : ℕ) → Whether (DamageOn (Del k) h table) (damage_test (Del k) h table)
  unfolding DamageOn damage_test
  del_tested k =
      else_tested (broken e'.rows_read) (e'.present && (not (eqb e'.hole last) && (broken second || astray h table second)))
      (rw broken_alone at cut_erasing.exactly) moved
    where
      e : Erasing
      e = erasing h.width k (named h table)

      e' : Erasing
      e' = erasing h.width k (shown h table)

      last : ℕ
      last = pred h.count

      w : Way
      w = way_of k h table

      second : Way
      second = second_way h table

      cut_erasing : CutErasing (Bad h table) (number h table) e e'
      cut_erasing = erasing_tested h.width (shown_pruned h table) k (no_place h table)

      moves_tested : broken e'.rows_read ≡ false → Whether (LastRowMoves k h table) (e'.present && not (eqb e'.hole last))
      moves_tested whole =
          rw (← cut_erasing.same_presence whole, ← cut_erasing.same_hole whole, erasing_finds h.width k (named h table))
          (same_test (λ m. record { present = m.0; hole_elsewhere = m.1 }) (λ m. (m.present, m.hole_elsewhere))
          (both_tested (way_ends_at k w) (not (eqb (number h table e.hole) last)) (ends_tested k w)
          (not_tested (eqb (number h table e.hole) last) (equal_tested (number h table e.hole) last))))

      moved : broken e'.rows_read ≡ false
          → Whether (LastRowMoves k h table × SecondDamage h table) (e'.present && (not (eqb e'.hole last) && (broken second || astray h table second)))
      moved whole =
          rw (← and_assoc)
          (both_tested (e'.present && not (eqb e'.hole last)) (broken second || astray h table second) (moves_tested whole) second_tested)

-- each call tests for exactly the damage of document 01
pub damage_tested : (c : Call) (h : Header) (table : List ℕ) → Whether (DamageOn c h table) (damage_test c h table)
unfolding DamageOn damage_test ways_of
damage_tested (New w) h table = never (λ no. no)
damage_tested (Add k serial) h table = (adding_tested h.width (shown_pruned h table) (entry_for k serial)).exactly
damage_tested (Del k) h table = del_tested h table k
damage_tested (Has k) h table = has_tested h.width (shown_pruned h table) k
damage_tested (Next k) h table = next_tested h.width (shown_pruned h table) k
damage_tested (Prev k) h table = prev_tested h.width (shown_pruned h table) k
damage_tested (Gap k) h table = gap_tested h.width (shown_pruned h table) k
damage_tested First h table = first_tested h.width (shown_pruned h table)
damage_tested Last h table = last_tested h.width (shown_pruned h table)
damage_tested Audit h table = never (λ no. no)
damage_tested Call.List h table = never (λ no. no)

-- if an `add` meets no damage, its test says whether the word is absent
pub absent_tested : (k serial : ℕ) (h : Header) (table : List ℕ) → broken (adding h.width (entry_for k serial) (shown h table)).rows_read ≡ false
    → Whether (Absent k h table) (not (adding h.width (entry_for k serial) (shown h table)).present)
absent_tested k serial h table whole =
    rw (← (adding_tested h.width (shown_pruned h table) (entry_for k serial)).same_presence whole, adding_finds h.width (entry_for k serial) (named h table))
    (not_tested (way_ends_at k (way_of k h table)) (ends_tested k (way_of k h table)))

-- A table that holds a set has no damage: no way meets any, and the second way of a `del` finds the last row.
pub none_in_sets : NoneInSets
unfolding damage_test ways_of second_way way shown
none_in_sets c h table S held = fails (rw (passes c) at (damage_tested c h table))
  where
    whole : intact (shown h table) ≡ true
    whole = tree_intact h table S held.increasing held.below held.tree

    passes : (c : Call) → damage_test c h table ≡ false
    passes (New w) = refl
    passes (Add k serial) =
        broken_alone (adding h.width (entry_for k serial) (shown h table)).rows_read ∙ adding_unbroken h.width (shown h table) whole (entry_for k serial)
    passes (Del k) =
        rw (erasing_unbroken h.width (shown h table) whole k, second_unbroken)
        (by_count (eqb h.count 0) refl (erasing h.width k (shown h table)).present (erasing_finds h.width k (shown h table)))
      where
        second_unbroken : broken (second_way h table) ≡ false
        second_unbroken = unbroken (following (last_key h table)) h.width (shown h table) whole

        none_there : (m : ℕ) → way_ends_at k (way (following k) m none) ≡ false
        none_there zero = refl
        none_there (suc m) = refl

        moves : Bool
        moves = not (eqb (erasing h.width k (shown h table)).hole (pred h.count))

        by_count : (no_rows : Bool) → eqb h.count 0 ≡ no_rows → (there : Bool)
            → there ≡ way_ends_at k (way (following k) h.width (shown h table))
            → (there && (moves && astray h table (second_way h table))) ≡ false
        by_count true e there finds = rw (finds, shown, e, none_there)
        by_count false e there finds =
            rw (second_way_ends h table S held (omega (arith, eqb-false h.count 0 e)), and-false, and-false)
    passes (Has k) = has_unbroken h.width (shown h table) whole k
    passes (Next k) = next_unbroken h.width (shown h table) whole k
    passes (Prev k) = prev_unbroken h.width (shown h table) whole k
    passes (Gap k) = gap_unbroken h.width (shown h table) whole k
    passes First = first_unbroken h.width (shown h table) whole
    passes Last = last_unbroken h.width (shown h table) whole
    passes Audit = refl
    passes Call.List = refl

-- A test by computation. `damage_tested` covers every table.
pub one_row : OneRow
unfolding damage_test ways_of has broken_in broken way following side shown unfolded row_at
one_row = record { has_4 = fails (damage_tested (Has 4) h table); has_8 = (damage_tested (Has 8) h table).0 refl }
  where
    h : Header
    h = record { width = 4; count = 1 }

    table : List ℕ
    table = 4 ∷ 0 ∷ 9 ∷ 0 ∷ []
