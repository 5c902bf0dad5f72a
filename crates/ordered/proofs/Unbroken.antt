-- On a tree without damage no call meets damage.
use Prim.Native.Nat.{ℕ}
use mathlib.Core.Path.{◌≡◌, refl}
use mathlib.Core.Bool.{Bool, true, false}
use mathlib.Core.List.{List, [], ◌∷◌}
use lib.Dec.{ltb}
use Rattle.std.specs.Prelude.{if◌then◌else◌}
use Rattle.ordered.specs.Such.{Perhaps, no_such, such, last_such}
use Rattle.ordered.specs.Word.{Side, left, right}
use Rattle.ordered.specs.Dictionary.{Entry}
use Rattle.ordered.specs.Tree.{Tree, part, intact}
use Rattle.ordered.specs.Way.{Step, Way, Rule, way, broken, joined, following, passing_equal, pushing, down, staying}
use Rattle.ordered.specs.Reading.{Found, passed_row, broken_in, end_if, to_its_end, has, skipped_right, next_by, next, skipped_left, prev_by, prev, first, last, gap_by, gap}
use Rattle.ordered.specs.Change.{way_ends_at, adding_by, adding, erasing_by, erasing}
use Rattle.ordered.proofs.Parts.{All, none_all, one_all, all_append, IfSuch, last_such_one}
use Rattle.ordered.proofs.Ways.{along, intact_part, unbroken}

-- the parts beside the rows that a way passes are without damage too
IntactStep : Step → Type 0
IntactStep s = (σ : Side) → intact (part σ s.left_part s.right_part) ≡ true

passed_intact : (f : Rule) (m : ℕ) (t : Tree) → intact t ≡ true → All IntactStep (way f m t).passed
unfolding intact IntactStep
passed_intact f =
    along f (λ m t w. intact t ≡ true → All IntactStep w.passed) (λ m t ends h. none_all)
    (λ m i e l r s says rest h. one_all (λ σ. intact_part σ l r h) (rest (intact_part s l r h)))

end_intact : (f : Rule) (m : ℕ) (t : Tree) → intact t ≡ true → intact (way f m t).end ≡ true
unfolding intact
end_intact f =
    along f (λ m t w. intact t ≡ true → intact w.end ≡ true) (λ m t ends h. h) (λ m i e l r s says rest h. rest (intact_part s l r h))

joined_unbroken : (f g : Rule) (m : ℕ) (t : Tree) → intact t ≡ true
    → let w : Way = way f m t in broken (joined w (way g w.bits w.end)) ≡ false
unfolding joined broken
joined_unbroken f g m t h = unbroken g (way f m t).bits (way f m t).end (end_intact f m t h)

abbrev Unbroken : List Way → Type 0
Unbroken ws = All (λ w. broken w ≡ false) ws

all_unbroken : {ws : List Way} → Unbroken ws → broken_in ws ≡ false
unfolding broken_in
all_unbroken none_all = refl
all_unbroken (one_all h hs) = rw (h, all_unbroken hs)

next_by_unbroken : (w : Way) (q : Perhaps Found) (p : Perhaps Step) → broken w ≡ false → IfSuch IntactStep p
    → Unbroken (next_by w q p).ways
unfolding broken IntactStep
next_by_unbroken w (such x) p sound h = one_all sound none_all
next_by_unbroken w no_such no_such sound h = one_all sound (one_all refl none_all)
next_by_unbroken w no_such (such s) sound h = one_all sound (one_all (unbroken staying s.below s.right_part (h right)) none_all)

prev_by_unbroken : (w : Way) (q : Perhaps Found) (p : Perhaps Step) → broken w ≡ false → IfSuch IntactStep p
    → Unbroken (prev_by w q p).ways
unfolding IntactStep
prev_by_unbroken w (such x) p sound h = one_all sound none_all
prev_by_unbroken w no_such no_such sound h = one_all sound none_all
prev_by_unbroken w no_such (such p) sound h = either (skipped_left p)
  where
    d : Way
    d = way (down right) p.below p.left_part

    either : (b : Bool)
        → Unbroken (if b then to_its_end (w ∷ []) d else record { ways = w ∷ []; answer = such (passed_row p) }).ways
    either true = one_all sound (one_all (unbroken (down right) p.below p.left_part (h left)) none_all)
    either false = one_all sound none_all

module _ (m : ℕ) (t : Tree) (h : intact t ≡ true) where
  has_ways : (k : ℕ) → Unbroken (has m k t).ways
  unfolding has
  has_ways k = one_all (unbroken (following k) m t h) none_all

  next_ways : (k : ℕ) → Unbroken (next m k t).ways
  unfolding next
  next_ways k =
      let w : Way = way (passing_equal k) m t in
      next_by_unbroken w (end_if (ltb k) w) (last_such skipped_right w.passed) (unbroken (passing_equal k) m t h)
      (last_such_one skipped_right (passed_intact (passing_equal k) m t h))

  prev_ways : (k : ℕ) → Unbroken (prev m k t).ways
  unfolding prev
  prev_ways k =
      let w : Way = way (following k) m t in
      let less : Step → Bool = λ s. ltb s.entry.key k in
      prev_by_unbroken w (end_if (λ x. ltb x k) w) (last_such less w.passed) (unbroken (following k) m t h)
      (last_such_one less (passed_intact (following k) m t h))

  pub has_unbroken : (k : ℕ) → broken_in (has m k t).ways ≡ false
  has_unbroken k = all_unbroken (has_ways k)

  pub next_unbroken : (k : ℕ) → broken_in (next m k t).ways ≡ false
  next_unbroken k = all_unbroken (next_ways k)

  pub prev_unbroken : (k : ℕ) → broken_in (prev m k t).ways ≡ false
  prev_unbroken k = all_unbroken (prev_ways k)

  pub first_unbroken : broken_in (first m t).ways ≡ false
  unfolding first
  first_unbroken = all_unbroken (one_all (unbroken staying m t h) none_all)

  pub last_unbroken : broken_in (last m t).ways ≡ false
  unfolding last
  last_unbroken = all_unbroken (one_all (unbroken (down right) m t h) none_all)

  pub gap_unbroken : (k : ℕ) → broken_in (gap m k t).ways ≡ false
  unfolding gap
  gap_unbroken k = all_unbroken (either (has m k t).answer)
    where
      either : (q : Perhaps Found) → Unbroken (gap_by k (prev m k t) (next m k t) q (has m k t).ways).ways
      either (such x) = has_ways k
      either no_such = all_append (prev_ways k) (next_ways k)

  pub adding_unbroken : (e : Entry) → broken (adding m e t).rows_read ≡ false
  unfolding adding
  adding_unbroken e = either (way_ends_at e.key (way (following e.key) m t))
    where
      either : (b : Bool)
          → let w : Way = way (following e.key) m t in let push : Way = way pushing w.bits w.end in
          broken (adding_by e w push (joined w push) b).rows_read ≡ false
      either true = unbroken (following e.key) m t h
      either false = joined_unbroken (following e.key) pushing m t h

  pub erasing_unbroken : (k : ℕ) → broken (erasing m k t).rows_read ≡ false
  unfolding erasing
  erasing_unbroken k = either (way_ends_at k (way (following k) m t))
    where
      either : (b : Bool)
          → let w : Way = way (following k) m t in let stretch : Way = way (down left) w.bits w.end in
          broken (erasing_by w stretch (joined w stretch) b).rows_read ≡ false
      either true = joined_unbroken (following k) (down left) m t h
      either false = unbroken (following k) m t h
