-- The replies of `next` and `prev`, from the walks that have gone their ways.
use Prim.Native.Nat.{ℕ, suc, ◌%◌}
use mathlib.Core.Path.{◌≡◌, ap, ap₂, ◌∙◌}
use mathlib.Core.Bool.{Bool, true, false, not, ◌&&◌, or-false}
use mathlib.Core.List.{List, [], ◌∷◌}
use native.Mathlib.Nat.{add-zero}
use lib.Dec.{ltb, eqb}
use Rattle.std.specs.Prelude.{if◌then◌else◌}
use Rattle.ordered.specs.Such.{Perhaps, such, no_such, only_if, last_such, anything}
use Rattle.ordered.specs.Tree.{Tree, none}
use Rattle.ordered.specs.Way.{Way, Step, way, rows, broken, is_damaged, ending, following, down}
use Rattle.ordered.specs.Word.{left, right, side_of, is_side}
use Rattle.ordered.specs.Reading.{Found, word_in, passed_row, Reading, rows_of, broken_in, root_row, end_row, to_its_end, right_child, next_by, skipped_left, prev_by, next, prev}
use Rattle.ordered.proofs.Parts.{same_last}
use Rattle.ordered.proofs.Ways.{passed_pass, following_seeks}
use Rattle.pretree.specs.declared.Header.{Header}
use Rattle.pretree.specs.declared.Answer.TheVariants.{Word, Damage, NoSuchWord}
use Rattle.pretree.specs.declared.Reply.{Reply}
use Rattle.pretree.specs.Walk.{Stage}
use Rattle.pretree.specs.Walk.{On, AtNone, AtRow, AtDamage}
use Rattle.pretree.specs.Walk.{Walk}
use Rattle.pretree.specs.Table.{row_at}
use Rattle.pretree.specs.Unfold.{shown}
use Rattle.pretree.specs.Reply.{wrong_header, too_wide, refused, answered}
use Rattle.pretree.specs.Find.{saying, word, next_reply, prev_reply}
use Rattle.pretree.specs.Found.{then_by, aside_from, next_found_from, above_by, above_from, prev_from}
use Rattle.pretree.specs.Walk.{seeking, step_at, remembered, rows_read_by, Walked}
use Rattle.pretree.proofs.Ended.{ends_in, way_end, way_rows}
use Rattle.pretree.proofs.Unfolding.{there}
use Rattle.pretree.proofs.SeekTurn.{following_is, passing_equal_is}

-- the reply of a reading call, once the checks are passed
abbrev reply_of : Header → Reading Found → Reply
reply_of h r =
    if broken_in r.ways then refused h Damage
    else answered h (saying word r.answer) (rows_of r.ways)

-- a way is broken if it ends at damage, and only then
broken_end : (w : Way) {t : Tree} → w.end ≡ t → broken w ≡ is_damaged t
unfolding broken
broken_end w e = rw e

module _ (h : Header) (w : Way) (n : ℕ) (rows_are : rows w ≡ n) where
  -- damage on the first way refuses the call
  broken_first : (vs : List Way) (a : Perhaps Found) → broken w ≡ true → reply_of h (record { ways = w ∷ vs; answer = a }) ≡ refused h Damage
  unfolding broken_in
  broken_first vs a b = rw b

  -- a call with one way
  alone : (a : Perhaps Found) → broken w ≡ false → reply_of h (record { ways = w ∷ []; answer = a }) ≡ answered h (saying word a) n
  unfolding broken_in rows_of
  alone a b = rw (b, rows_are, add-zero)

  -- a call with a second way, whose end is the answer
  and_then : (v : Way) → broken w ≡ false → reply_of h (to_its_end (w ∷ []) v) ≡ then_by h n v
  unfolding broken_in rows_of
  and_then v b = rw (b, or-false, rows_are, add-zero)

module _ (h : Header) (table : List ℕ) (k : ℕ) (w : Walk) (fine : wrong_header h table ≡ false) (small : too_wide h k ≡ false)
    (gone : Walked (row_at table) (seeking (suc k) k) h.width h.count (shown h table) w) where
  abbrev n : ℕ
  n = rows_read_by w h.width

  abbrev way_gone : Way
  way_gone = way (seeking (suc k) k) h.width (shown h table)

  abbrev part_at : Stage → Tree
  part_at = ends_in (row_at table) w

  -- the reply with the right child of the row that is remembered aside, if there is one
  aside_at : (has_aside : Bool) → broken way_gone ≡ false
      → reply_of h (to_its_end (way_gone ∷ []) (right_child (remembered (row_at table) h.count has_aside w.aside_bits w.aside left)))
      ≡ aside_from h (row_at table) n has_aside w.aside_bits w.aside
  unfolding step_at broken rows
  aside_at true whole = and_then h way_gone n (way_rows _ _ _ _ _ w gone) _ whole
  aside_at false whole = and_then h way_gone n (way_rows _ _ _ _ _ w gone) _ whole ∙ nothing
    where
      nothing : then_by h n (ending 0 none) ≡ answered h NoSuchWord n
      nothing = rw add-zero

  by_stage : (stage : Stage) → way_gone.end ≡ part_at stage
      → reply_of h (next_by way_gone (only_if (λ f. ltb k (word_in f)) (root_row way_gone.bits (part_at stage))) (remembered (row_at table) h.count w.has_aside w.aside_bits w.aside left))
      ≡ next_found_from h (row_at table) k stage w.entry.key n w.has_aside w.aside_bits w.aside
  by_stage On e = aside_at w.has_aside (broken_end way_gone e)
  by_stage AtNone e = aside_at w.has_aside (broken_end way_gone e)
  by_stage AtDamage e = broken_first h way_gone n (way_rows _ _ _ _ _ w gone) (child ∷ []) (end_row child) (broken_end way_gone e)
    where
      child : Way
      child = right_child (remembered (row_at table) h.count w.has_aside w.aside_bits w.aside left)
  by_stage AtRow e = by_key (ltb k w.entry.key)
    where
      by_key : (b : Bool)
          → reply_of h (next_by way_gone (if b then such (record { entry = w.entry; bits = way_gone.bits }) else no_such) (remembered (row_at table) h.count w.has_aside w.aside_bits w.aside left))
          ≡ (if b then answered h (Word w.entry.key) n else aside_from h (row_at table) n w.has_aside w.aside_bits w.aside)
      by_key true = alone h way_gone n (way_rows _ _ _ _ _ w gone) (such (record { entry = w.entry; bits = way_gone.bits })) (broken_end way_gone e)
      by_key false = aside_at w.has_aside (broken_end way_gone e)

  pub next_at_is : next_reply h table k ≡ next_found_from h (row_at table) k w.stage w.entry.key n w.has_aside w.aside_bits w.aside
  unfolding next_reply next
  next_at_is =
      rw (fine, small, passing_equal_is k)
      (ap₂ (λ (end : Tree) (p : Perhaps Step). reply_of h (next_by way_gone (only_if (λ f. ltb k (word_in f)) (root_row way_gone.bits end)) p)) (way_end _ _ _ _ _ w gone).end
      ((way_end _ _ _ _ _ w gone).aside
      ∙ ap (λ (c : ℕ). remembered (row_at table) c w.has_aside w.aside_bits w.aside left) gone.walking.same_count)
      ∙ by_stage w.stage (way_end _ _ _ _ _ w gone).end)

module _ (h : Header) (table : List ℕ) (k : ℕ) (w : Walk) (fine : wrong_header h table ≡ false) (small : too_wide h k ≡ false)
    (gone : Walked (row_at table) (seeking k k) h.width h.count (shown h table) w) where
  abbrev way_of_k : Way
  way_of_k = way (seeking k k) h.width (shown h table)

  abbrev rows_of_k : ℕ
  rows_of_k = rows_read_by w h.width

  rows_of_k_are : rows way_of_k ≡ rows_of_k
  rows_of_k_are = way_rows _ _ _ _ _ w gone

  -- the reply with the last row passed, or with the greatest word of its left part
  abbrev passed_above : Bool → Perhaps Step
  passed_above b = remembered (row_at table) h.count b w.bits w.above (side_of (w.path % 2))

  turned_aside : skipped_left (step_at (row_at table) h.count w.bits w.above (side_of (w.path % 2)))
      ≡ (is_side right (side_of (w.path % 2)) && not (eqb (row_at table w.above).left 0))
  unfolding step_at
  turned_aside = rw (there (row_at table) h.count w.bits _ _ (row_at table w.above).left)

  above_with : (b : Bool) → broken way_of_k ≡ false
      → reply_of h (prev_by way_of_k no_such (passed_above b))
      ≡ (if b then above_by h (row_at table) rows_of_k w.bits w.above (is_side right (side_of (w.path % 2)) && not (eqb (row_at table w.above).left 0))
      else answered h NoSuchWord rows_of_k)
  unfolding step_at
  above_with false whole = alone h way_of_k rows_of_k rows_of_k_are no_such whole
  above_with true whole = rw turned_aside (go (is_side right (side_of (w.path % 2)) && not (eqb (row_at table w.above).left 0)))
    where
      p : Step
      p = step_at (row_at table) h.count w.bits w.above (side_of (w.path % 2))

      go : (b : Bool)
          → reply_of h (if b then to_its_end (way_of_k ∷ []) (way (down right) p.below p.left_part) else record { ways = way_of_k ∷ []; answer = such (passed_row p) })
          ≡ above_by h (row_at table) rows_of_k w.bits w.above b
      go true = and_then h way_of_k rows_of_k rows_of_k_are _ whole
      go false = alone h way_of_k rows_of_k rows_of_k_are (such (passed_row p)) whole

  -- every row that the way of k passed has a key below k
  below_k : last_such (λ (s : Step). ltb s.entry.key k) way_of_k.passed ≡ last_such anything way_of_k.passed
  below_k = rw (← following_is k) (same_last (way (following k) h.width (shown h table)).passed (passed_pass (following k) (λ x. ltb x k) k (following_seeks k) h.width (shown h table)))

  prev_by_stage : (stage : Stage) → way_of_k.end ≡ ends_in (row_at table) w stage
      → reply_of h (prev_by way_of_k (only_if (λ f. ltb (word_in f) k) (root_row way_of_k.bits (ends_in (row_at table) w stage))) (passed_above (ltb w.bits h.width)))
      ≡ prev_from h (row_at table) k stage w.entry.key rows_of_k w.bits w.path w.above
  prev_by_stage On e = above_with (ltb w.bits h.width) (broken_end way_of_k e)
  prev_by_stage AtNone e = above_with (ltb w.bits h.width) (broken_end way_of_k e)
  prev_by_stage AtDamage e = any_broken (passed_above (ltb w.bits h.width))
    where
      b : broken way_of_k ≡ true
      b = broken_end way_of_k e

      any_broken : (p : Perhaps Step) → reply_of h (prev_by way_of_k no_such p) ≡ refused h Damage
      any_broken no_such = broken_first h way_of_k rows_of_k rows_of_k_are [] no_such b
      any_broken (such p) = go (skipped_left p)
        where
          d : Way
          d = way (down right) p.below p.left_part

          go : (c : Bool)
              → reply_of h (if c then to_its_end (way_of_k ∷ []) d else record { ways = way_of_k ∷ []; answer = such (passed_row p) }) ≡ refused h Damage
          go true = broken_first h way_of_k rows_of_k rows_of_k_are (d ∷ []) (end_row d) b
          go false = broken_first h way_of_k rows_of_k rows_of_k_are [] (such (passed_row p)) b
  prev_by_stage AtRow e = by_key (ltb w.entry.key k)
    where
      by_key : (b : Bool)
          → reply_of h (prev_by way_of_k (if b then such (record { entry = w.entry; bits = way_of_k.bits }) else no_such) (passed_above (ltb w.bits h.width)))
          ≡ (if b then answered h (Word w.entry.key) rows_of_k else above_from h (row_at table) rows_of_k w.bits w.path w.above)
      by_key true = alone h way_of_k rows_of_k rows_of_k_are (such (record { entry = w.entry; bits = way_of_k.bits })) (broken_end way_of_k e)
      by_key false = above_with (ltb w.bits h.width) (broken_end way_of_k e)

  pub prev_at : prev_reply h table k ≡ prev_from h (row_at table) k w.stage w.entry.key rows_of_k w.bits w.path w.above
  unfolding prev_reply prev
  prev_at =
      rw (fine, small, following_is k)
      (ap₂ (λ (end : Tree) (p : Perhaps Step). reply_of h (prev_by way_of_k (only_if (λ f. ltb (word_in f) k) (root_row way_of_k.bits end)) p)) (way_end _ _ _ _ _ w gone).end
      (below_k ∙ (way_end _ _ _ _ _ w gone).above
      ∙ ap (λ (c : ℕ). remembered (row_at table) c (ltb w.bits h.width) w.bits w.above (side_of (w.path % 2))) gone.walking.same_count)
      ∙ prev_by_stage w.stage (way_end _ _ _ _ _ w gone).end)
