-- The reading calls answer as the dictionary does: on a proper tree with m bits left, for a word on its path, each answer is the dictionary's
-- answer on the entries of the tree.
use Prim.Native.Nat.{ℕ, zero, suc, ◌+◌, ◌*◌, ◌/◌, ◌^◌}
use mathlib.Core.Path.{◌≡◌, refl, sym, ap, ap₂, ◌∙◌}
use mathlib.Core.Bool.{Bool, true, false}
use mathlib.Core.List.{List, [], ◌∷◌, ◌++◌, append-nil}
use native.Mathlib.Omega.{arith}
use lib.Dec.{ltb, leb, eqb}
use borrow.Author.Tests.{ltb-true, ltb-false, leb-true, leb-false, lt-ltb, le-ltb, eq-eqb, ne_eqb}
use Rattle.std.specs.Prelude.{if◌then◌else◌}
use Rattle.ordered.specs.Such.{is_there, its, Perhaps, no_such, such, first_of, only_if, first_such, last_such, anything}
use Rattle.ordered.specs.Word.{Side, left, right, bit_of, is_side}
use Rattle.ordered.specs.Dictionary.{Entry, word_of, lookup, min, max, successor, predecessor}
use Rattle.ordered.specs.Tree.{Tree, none, row, damaged, part, exists, entries}
use Rattle.ordered.specs.Proper.{Proper}
use Rattle.ordered.specs.Way.{Step, Way, stop, to, way, turning, is_damaged, joined, following, passing_equal, pushing, down, staying}
use Rattle.ordered.specs.Reading.{Found, word_in, entry_in, root_row, end_row, end_if, has, skipped_right, right_child, next_by, next, prev_by, prev, first, last, nearest, gap_by, gap}
use Rattle.ordered.specs.Change.{way_ends_at, adding_by, adding, erasing_by, erasing}
use Rattle.ordered.proofs.Parts.{All, AllWords, none_all, one_all, all_map, above_all, first_of_such, first_such_append, last_such_append, same_last, no_last, IfSuch, last_such_all, last_such_one, first_between, last_between, no_lookup, lookup_between}
use Rattle.ordered.proofs.OneTree.{by_rows, proper_intact}
use Rattle.ordered.proofs.Ways.{step, left_aside, right_aside, lower, upper, parted, ProperStep, passed_proper, and_true, intact_here, passed_pass, following_seeks}
use Rattle.ordered.proofs.Sought.{Ends, at_no_row, at_last_bit, at_key, Sought, way_of, way_past}

not_damaged : (m path low : ℕ) (t : Tree) → Proper m path low t → is_damaged t ≡ false
not_damaged m path low t h = intact_here t (proper_intact m path low t h)

part_sound : (s : Step) → ProperStep s → (σ : Side) → is_damaged (part σ s.left_part s.right_part) ≡ false
part_sound s h σ =
    let path : ℕ = s.entry.key / 2 ^ suc s.below * 2 + bit_of σ in
    not_damaged s.below path (suc s.entry.key) (part σ s.left_part s.right_part) (h σ)

-- what the root of the part where a way ends tells about a word: that it is there, that it is the first word above, or that no word is below
abbrev root_if : (ℕ → Bool) → ℕ → Tree → Perhaps Found
root_if test m t = only_if (λ f. test (word_in f)) (root_row m t)

end_lookup : (m k : ℕ) {t : Tree} → Ends (λ x. ltb x k) k t → entry_in (root_if (eqb k) m t) ≡ lookup k (entries t)
unfolding entries lookup first_such
end_lookup m k at_no_row = refl
end_lookup m k (at_last_bit {e} same) = rw (eq-eqb k e.key (sym same))
end_lookup m k (at_key {e} {l} {r} stops above) = either (eqb k e.key) beyond
  where
    beyond : lookup k (entries l ++ entries r) ≡ no_such
    beyond =
        no_lookup k (entries l ++ entries r)
        (all_map (λ y less. ne_eqb k y.key (λ same. omega (arith, ltb-false e.key k stops))) (above_all (entries l ++ entries r) above))

    either : (b : Bool) → lookup k (entries l ++ entries r) ≡ no_such
        → entry_in (if b then such (record { entry = e; bits = m }) else no_such)
        ≡ first_of (if b then such e else no_such) (lookup k (entries l ++ entries r))
    either true beyond = refl
    either false beyond = rw beyond

end_first : (m k : ℕ) {t : Tree} → Ends (λ x. leb x k) k t → first_such (λ e. ltb k e.key) (entries t) ≡ entry_in (root_if (ltb k) m t)
unfolding entries first_such
end_first m k at_no_row = refl
end_first m k (at_last_bit {e} same) = rw (le-ltb k e.key (omega arith))
end_first m k (at_key {e} stops above) = rw (lt-ltb k e.key (leb-false e.key k stops))

end_last : (m k : ℕ) {t : Tree} → Ends (λ x. ltb x k) k t
    → (root_if (λ x. ltb x k) m t ≡ no_such) × (last_such (λ e. ltb e.key k) (entries t) ≡ no_such)
unfolding entries last_such
end_last m k at_no_row = (refl, refl)
end_last m k (at_last_bit {e} same) =
    let stops : ltb e.key k ≡ false = le-ltb e.key k (omega arith) in
    (rw stops, rw stops)
end_last m k (at_key {e} {l} {r} stops above) =
    let beyond : AllWords (λ y. ltb y k ≡ false) (entries l ++ entries r) =
    all_map (λ y less. le-ltb y.key k (omega (arith, ltb-false e.key k stops))) (above_all (entries l ++ entries r) above) in
    (rw stops, rw (no_last (entries l ++ entries r) beyond, stops))

-- "`first` reads the root"
staying_end : (m : ℕ) (t : Tree) → end_row (way staying m t) ≡ root_row m t
unfolding way staying
staying_end zero t = refl
staying_end (suc m) none = refl
staying_end (suc m) (row i e l r) = refl
staying_end (suc m) damaged = refl

min_here : (m : ℕ) (t : Tree) → entry_in (root_row m t) ≡ min (entries t)
unfolding min entries first_such
min_here m none = refl
min_here m (row i e l r) = refl
min_here m damaged = refl

pub first_answer : (m : ℕ) (t : Tree) → entry_in (first m t).answer ≡ min (entries t)
unfolding first
first_answer m t = rw (staying_end m t) (min_here m t)

-- an empty link has no entries, and a row has at least one
void : (t : Tree) → exists t ≡ false → entries t ≡ []
unfolding entries
void none e = refl
void (row i e l r) absent = cc
void damaged absent = refl

filled : (t : Tree) → is_damaged t ≡ false → exists t ≡ true → (q : Perhaps Entry) → first_of (max (entries t)) q ≡ max (entries t)
unfolding max entries last_such
filled none sound there q = cc
filled (row i e l r) sound there q = first_of_such (last_such anything (entries l ++ entries r)) e q
filled damaged sound there q = cc

-- the last entry of a tree: the last of the right part, else the last of the left part, else the root's own
module _ (own : Entry) (l r : Tree) where
  max_row : max (own ∷ (entries l ++ entries r)) ≡ first_of (first_of (max (entries r)) (max (entries l))) (such own)
  unfolding max last_such
  max_row = rw (last_such_append anything (entries l) (entries r))

  max_right : is_damaged r ≡ false → exists r ≡ true → max (entries r) ≡ max (own ∷ (entries l ++ entries r))
  max_right sound there =
      sym (max_row ∙ ap (λ p. first_of p (such own)) (filled r sound there (max (entries l))) ∙ filled r sound there (such own))

  max_left : is_damaged l ≡ false → exists r ≡ false → exists l ≡ true → max (entries l) ≡ max (own ∷ (entries l ++ entries r))
  unfolding max last_such
  max_left sound absent there = rw (void r absent, append-nil (entries l)) (sym (filled l sound there (such own)))

  max_key : exists r ≡ false → exists l ≡ false → such own ≡ max (own ∷ (entries l ++ entries r))
  unfolding max last_such
  max_key absent absent' = rw (void r absent, void l absent')

-- "goes down from the root by right link, else left link, until both are none"
last_entry : (m path low : ℕ) (t : Tree) → Proper m path low t → entry_in (end_row (way (down right) m t)) ≡ max (entries t)
unfolding way entries down max last_such
last_entry =
    by_rows (λ m path low t. entry_in (end_row (way (down right) m t)) ≡ max (entries t)) empty (λ path low i e fits. refl)
    (λ m path low i e l r fits parts below.
    goes_down m i e l r (below left) (below right) (sound m path e l r parts) (exists r) refl (exists l) refl)
  where
    empty : (m path low : ℕ) → entry_in (end_row (way (down right) m none)) ≡ no_such
    empty zero path low = refl
    empty (suc m) path low = refl

    sound : (m path : ℕ) (e : Entry) (l r : Tree) → ((s : Side) → Proper m (path * 2 + bit_of s) (suc e.key) (part s l r))
        → (s : Side) → is_damaged (part s l r) ≡ false
    sound m path e l r parts s = not_damaged m (path * 2 + bit_of s) (suc e.key) (part s l r) (parts s)

    goes_down : (m i : ℕ) (e : Entry) (l r : Tree) → entry_in (end_row (way (down right) m l)) ≡ max (entries l)
        → entry_in (end_row (way (down right) m r)) ≡ max (entries r) → ((s : Side) → is_damaged (part s l r) ≡ false)
        → (a : Bool) → exists r ≡ a → (b : Bool) → exists l ≡ b
        → entry_in (end_row (turning (way (down right) m) m i e l r (if a then to right else if b then to left else stop)))
        ≡ max (e ∷ (entries l ++ entries r))
    goes_down m i e l r lefts rights sound true there b _ = rights ∙ max_right e l r (sound right) there
    goes_down m i e l r lefts rights sound false absent true there = lefts ∙ max_left e l r (sound left) absent there
    goes_down m i e l r lefts rights sound false absent false absent' = max_key e l r absent absent'

pub last_answer : (m path low : ℕ) (t : Tree) → Proper m path low t → entry_in (last m t).answer ≡ max (entries t)
unfolding last
last_answer m path low t h = last_entry m path low t h

-- the entry of the right child of a row
child : Perhaps Step → Perhaps Entry
child no_such = no_such
child (such s) = entry_in (root_row s.below s.right_part)

child_read : (p : Perhaps Step) → entry_in (end_row (right_child p)) ≡ child p
unfolding child
child_read no_such = refl
child_read (such s) = ap entry_in (staying_end s.below s.right_part)

rooted : (m : ℕ) (t : Tree) → is_damaged t ≡ false → exists t ≡ true → (q : Perhaps Entry)
    → first_of (entry_in (root_row m t)) q ≡ entry_in (root_row m t)
rooted m none sound there q = cc
rooted m (row i e l r) sound there q = refl
rooted m damaged sound there q = cc

-- the least entry to the right of a way is at "the deepest row where the way went left and a right link exists; its right child"
upper_min : (ss : List Step) → All ProperStep ss → min (upper ss) ≡ child (last_such skipped_right ss)
unfolding min upper last_such first_such child entries
upper_min [] none_all = refl
upper_min (s ∷ ss) (one_all h hs) =
    rw (
      first_such_append anything (upper ss) (right_aside s.turn s.right_part),
      upper_min ss hs,
      here s.below s.at s.entry s.left_part s.right_part s.turn (part_sound s h right),
    )
    (deepest (last_such skipped_right ss) (last_such_all skipped_right hs))
  where
    own : Perhaps Step
    own = only_if skipped_right (such s)

    here : (m i : ℕ) (e : Entry) (l r : Tree) (turn : Side) → is_damaged r ≡ false
        → first_such anything (right_aside turn r) ≡ child (only_if skipped_right (such (step m i e l r turn)))
    here m i e l none left sound = refl
    here m i e l (row j g a b) left sound = refl
    here m i e l damaged left sound = cc
    here m i e l r right sound = refl

    deepest : (p : Perhaps Step) → IfSuch (λ u. ProperStep u × (skipped_right u ≡ true)) p
        → first_of (child p) (child own) ≡ child (first_of p own)
    deepest no_such found = refl
    deepest (such u) found =
        let there : exists u.right_part ≡ true = (and_true (is_side left u.turn) (exists u.right_part) found.1).1 in
        rooted u.below u.right_part (part_sound u found.0 right) there (child own)

next_by_answer : (w : Way) (q : Perhaps Found) (p : Perhaps Step) → entry_in (next_by w q p).answer ≡ first_of (entry_in q) (child p)
next_by_answer w no_such p = child_read p
next_by_answer w (such x) p = refl

-- the greatest entry to the left of a way, given the last row p that it passed: "If the way turned right at p and p has a left child, go
-- down from that child, [..] Otherwise p."
prior : Perhaps Step → Perhaps Entry
prior no_such = no_such
prior (such p) = first_of (max (left_aside p.turn p.left_part)) (such p.entry)

lower_max : (ss : List Step) → max (lower ss) ≡ prior (last_such anything ss)
unfolding max lower last_such prior
lower_max [] = refl
lower_max (s ∷ ss) =
    rw (last_such_append anything (left_aside s.turn s.left_part) (lower ss), lower_max ss) (latest (last_such anything ss))
  where
    aside : Perhaps Entry
    aside = max (left_aside s.turn s.left_part)

    latest : (p : Perhaps Step) → first_of (first_of (prior p) aside) (such s.entry) ≡ prior (first_of p (such s))
    latest no_such = refl
    latest (such p) =
        let before : Perhaps Entry = max (left_aside p.turn p.left_part) in
        ap (λ q. first_of q (such s.entry)) (first_of_such before p.entry aside)
        ∙ first_of_such before p.entry (such s.entry)

prev_by_answer : (w : Way) (p : Perhaps Step) → IfSuch ProperStep p → entry_in (prev_by w no_such p).answer ≡ prior p
unfolding prior max last_such entries
prev_by_answer w no_such h = refl
prev_by_answer w (such p) h = at_step p.below p.at p.entry p.left_part p.right_part p.turn h
  where
    at_step : (m i : ℕ) (e : Entry) (l r : Tree) (turn : Side) → ProperStep (step m i e l r turn)
        → entry_in (prev_by w no_such (such (step m i e l r turn))).answer ≡ prior (such (step m i e l r turn))
    at_step m i e l r left h = refl
    at_step m i e none r right h = refl
    at_step m i e (row j g a b) r right h =
        let path : ℕ = e.key / 2 ^ suc m * 2 + bit_of left in
        last_entry m path (suc e.key) (row j g a b) (h left) ∙ sym (filled (row j g a b) refl refl (such e))
    at_step m i e damaged r right h = let broken : true ≡ false = part_sound (step m i e damaged r right) h left in cc

-- a found row and its entry: one is there if the other is, and they have the same word
pub there_entry : (q : Perhaps Found) → is_there (entry_in q) ≡ is_there q
there_entry no_such = refl
there_entry (such f) = refl

pub word_entry : (q : Perhaps Found) → its word_in q ≡ word_of (entry_in q)
word_entry no_such = refl
word_entry (such f) = refl

-- `add` and `del` find the word if its way ends at it
pub adding_finds : (m : ℕ) (e : Entry) (t : Tree) → (adding m e t).present ≡ way_ends_at e.key (way (following e.key) m t)
unfolding adding
adding_finds m e t = either (way (following e.key) m t) (way_ends_at e.key (way (following e.key) m t))
  where
    either : (w : Way) (b : Bool) → let push : Way = way pushing w.bits w.end in (adding_by e w push (joined w push) b).present ≡ b
    either w true = refl
    either w false = refl

pub erasing_finds : (m k : ℕ) (t : Tree) → (erasing m k t).present ≡ way_ends_at k (way (following k) m t)
unfolding erasing
erasing_finds m k t = either (way (following k) m t) (way_ends_at k (way (following k) m t))
  where
    either : (w : Way) (b : Bool)
        → let stretch : Way = way (down left) w.bits w.end in (erasing_by w stretch (joined w stretch) b).present ≡ b
    either w true = refl
    either w false = refl

module _ (m k path low : ℕ) (t : Tree) (on : k / 2 ^ m ≡ path) (h : Proper m path low t) where
  -- "found if the way of k ends at k"
  pub has_answer : entry_in (has m k t).answer ≡ lookup k (entries t)
  unfolding has
  has_answer =
      let w : Way = way (following k) m t in
      let found : Sought (λ x. ltb x k) k w = way_of m k path low t on h in
      rw (
        parted (following k) m t,
        lookup_between k (lower w.passed) (entries w.end) (upper w.passed)
            (all_map (λ x less. ne_eqb k x.key (λ same. omega (arith, ltb-true x.key k less))) found.left_passes)
            (all_map (λ x less. ne_eqb k x.key (λ same. omega arith)) found.right_above),
      )
      (end_lookup w.bits k found.ends)

  -- "least word greater than k": "If it meets a key greater than k, that is the answer. Otherwise [..]"
  pub next_answer : entry_in (next m k t).answer ≡ successor k (entries t)
  unfolding next successor min
  next_answer =
      let w : Way = way (passing_equal k) m t in
      let found : Sought (λ x. leb x k) k w = way_past m k path low t on h in
      rw (
        parted (passing_equal k) m t,
        first_between (λ e. ltb k e.key) (lower w.passed) (entries w.end) (upper w.passed)
            (all_map (λ x less. le-ltb k x.key (leb-true x.key k less)) found.left_passes)
            (all_map (λ x less. lt-ltb k x.key less) found.right_above),
        end_first w.bits k found.ends,
        upper_min w.passed (passed_proper (passing_equal k) m t path low h),
      )
      (next_by_answer w (end_if (ltb k) w) (last_such skipped_right w.passed))

  -- "greatest word less than k": "the way of k. Let p be its last row with key below k."
  pub prev_answer : entry_in (prev m k t).answer ≡ predecessor k (entries t)
  unfolding prev predecessor max
  prev_answer =
      let w : Way = way (following k) m t in
      let found : Sought (λ x. ltb x k) k w = way_of m k path low t on h in
      rw (
        parted (following k) m t,
        last_between (λ e. ltb e.key k) (lower w.passed) (entries w.end) (upper w.passed) found.left_passes
            (all_map (λ x less. le-ltb x.key k (omega arith)) found.right_above),
        (end_last w.bits k found.ends).0,
        (end_last w.bits k found.ends).1,
        lower_max w.passed,
        same_last w.passed (passed_pass (following k) (λ x. ltb x k) k (following_seeks k) m t),
      )
      (prev_by_answer w (last_such anything w.passed) (last_such_one anything (passed_proper (following k) m t path low h)))

  -- "distance 0 if k is present", else "the smaller of the distances to `prev` and `next`, or the only one there is"
  pub gap_answer : (gap m k t).answer
      ≡ (if is_there (lookup k (entries t)) then such 0 else nearest k (word_of (predecessor k (entries t))) (word_of (successor k (entries t))))
  unfolding gap
  gap_answer = rw (← has_answer, there_entry (has m k t).answer) (either (has m k t).answer)
    where
      either : (q : Perhaps Found) → (gap_by k (prev m k t) (next m k t) q (has m k t).ways).answer
          ≡ (if is_there q then such 0 else nearest k (word_of (predecessor k (entries t))) (word_of (successor k (entries t))))
      either (such f) = refl
      either no_such =
          ap₂ (nearest k) (word_entry (prev m k t).answer ∙ ap word_of prev_answer) (word_entry (next m k t).answer ∙ ap word_of next_answer)

  -- the way of k ends at k if k is in the tree
  pub ends_there : way_ends_at k (way (following k) m t) ≡ is_there (lookup k (entries t))
  unfolding has
  ends_there = sym (there_entry (has m k t).answer) ∙ ap is_there has_answer

  pub erasing_present : (erasing m k t).present ≡ is_there (lookup k (entries t))
  erasing_present = erasing_finds m k t ∙ ends_there

pub adding_present : (m path low : ℕ) (e : Entry) (t : Tree) → e.key / 2 ^ m ≡ path → Proper m path low t
    → (adding m e t).present ≡ is_there (lookup e.key (entries t))
adding_present m path low e t on h = adding_finds m e t ∙ ends_there m e.key path low t on h
