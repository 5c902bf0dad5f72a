-- A set has one tree. The listing of a proper tree increases. Row numbers apart, a proper tree is the PreTree of its entries. The PreTree of
-- a set is proper, and its entries are the set.
use Prim.Native.Nat.{ℕ, zero, suc, ◌+◌, ◌*◌, ◌/◌, ◌^◌, ◌≤◌, ◌<◌}
use mathlib.Core.Path.{◌≡◌, refl, sym, ap, ap₂, ◌∙◌, subst}
use mathlib.Core.Logic.{◌↔◌}
use mathlib.Core.Bool.{Bool, true, false}
use mathlib.Core.List.{List, [], ◌∷◌, ◌++◌, append-nil}
use native.Mathlib.Omega.{arith}
use lib.ListN.{length, length-append}
use Rattle.std.specs.Prelude.{if◌then◌else◌}
use Rattle.ordered.specs.Word.{Side, left, right, bit_of, side, other, is_side}
use Rattle.ordered.specs.Dictionary.{Entry, words, Above, none_above, one_above, Increasing, none_increasing, one_increasing}
use Rattle.ordered.specs.Tree.{Tree, none, row, damaged, part, entries, listing, size, intact, unnumbered, going, tree_of}
use Rattle.ordered.specs.Proper.{Fitting, Proper}
use Rattle.ordered.proofs.Bits.{to_part, from_part, side_of_part, left_below_right, by_sides, whole_path, on_root_path}
use Rattle.ordered.proofs.Parts.{All, AllWords, none_all, one_all, all_map, all_append, all_both, all_above, above_all, append_increasing}

-- a word has W bits if and only if it fits into the whole tree
pub root_fits : (W k : ℕ) → k < 2 ^ W ↔ Fitting W 0 0 k
root_fits W k =
    (λ small. record { not_below = omega arith; on_path = (on_root_path W k).0 small }, λ fits. (on_root_path W k).1 fits.on_path)

-- induction over a proper tree: P holds if it holds of none, of a row with no bit left, and of a row with bits left if it holds of its parts
pub by_rows : (P : (m path low : ℕ) → Tree → Type 0)
    → ((m path low : ℕ) → P m path low none)
    → ((path low i : ℕ) (e : Entry) → Fitting zero path low e.key → P zero path low (row i e none none))
    → ((m path low i : ℕ) (e : Entry) (l r : Tree) → Fitting (suc m) path low e.key
    → ((s : Side) → Proper m (path * 2 + bit_of s) (suc e.key) (part s l r))
    → ((s : Side) → P m (path * 2 + bit_of s) (suc e.key) (part s l r)) → P (suc m) path low (row i e l r))
    → (m path low : ℕ) (t : Tree) → Proper m path low t → P m path low t
unfolding Proper
by_rows P of_none of_last of_row zero path low none h = of_none zero path low
by_rows P of_none of_last of_row zero path low (row i e l r) h =
    rw (h.parts left, h.parts right) (of_last path low i e h.key_fits)
by_rows P of_none of_last of_row zero path low damaged h = absurd h
by_rows P of_none of_last of_row (suc m) path low none h = of_none (suc m) path low
by_rows P of_none of_last of_row (suc m) path low (row i e l r) h =
    of_row m path low i e l r h.key_fits h.parts
    (λ s. by_rows P of_none of_last of_row m (path * 2 + bit_of s) (suc e.key) (part s l r) (h.parts s))
by_rows P of_none of_last of_row (suc m) path low damaged h = absurd h

-- what fits into a part of a row fits into the tree at the row
widened : (m path low key : ℕ) (s : Side) → low ≤ key
    → {x : ℕ} → Fitting m (path * 2 + bit_of s) (suc key) x → Fitting (suc m) path low x
widened m path low key s h {x} f =
    record { not_below = omega (arith, f.not_below); on_path = from_part m x path s f.on_path }

pub keys_fit : (m path low : ℕ) (t : Tree) → Proper m path low t → AllWords (Fitting m path low) (entries t)
unfolding entries
keys_fit =
    by_rows (λ m path low t. AllWords (Fitting m path low) (entries t)) (λ m path low. none_all) (λ path low i e fits. one_all fits none_all)
    (λ m path low i e l r fits parts below.
    one_all fits (all_append
    (all_map (λ f. widened m path low e.key left fits.not_below) (below left))
    (all_map (λ f. widened m path low e.key right fits.not_below) (below right))))

-- the two parts of a row with m + 1 bits left
module _ (m path low : ℕ) (l r : Tree) (parts : (s : Side) → Proper m (path * 2 + bit_of s) low (part s l r)) where
  fits : (s : Side) → AllWords (Fitting m (path * 2 + bit_of s) low) (entries (part s l r))
  fits s = keys_fit m (path * 2 + bit_of s) low (part s l r) (parts s)

  -- each word of the left part is less than each word of the right part
  parts_apart : AllWords (λ x. Above x (listing r)) (entries l)
  parts_apart =
      all_map (λ x f. all_above (all_map (λ y g. left_below_right m path x.key y.key f.on_path g.on_path) (fits right))) (fits left)

  pub parts_above : AllWords (λ x. low ≤ x) (entries l ++ entries r)
  parts_above = all_append (all_map (λ x f. f.not_below) (fits left)) (all_map (λ y g. g.not_below) (fits right))

pub keys_rise : (m path low : ℕ) (t : Tree) → Proper m path low t → Increasing (listing t)
unfolding entries
keys_rise =
    by_rows (λ m path low t. Increasing (listing t)) (λ m path low. none_increasing)
    (λ path low i e fits. one_increasing none_above none_increasing)
    (λ m path low i e l r fits parts below.
    one_increasing (all_above (parts_above m path (suc e.key) l r parts))
    (append_increasing (entries l) (entries r) (below left) (below right) (parts_apart m path (suc e.key) l r parts)))

pub proper_intact : (m path low : ℕ) (t : Tree) → Proper m path low t → intact t ≡ true
unfolding intact
proper_intact =
    by_rows (λ m path low t. intact t ≡ true) (λ m path low. refl) (λ path low i e fits. refl)
    (λ m path low i e l r fits parts below. rw (below left, below right))

-- a tree has one entry for each row
pub entries_length : (t : Tree) → length (entries t) ≡ size t
unfolding entries size
entries_length none = refl
entries_length (row i e l r) =
    ap suc (length-append (entries l) (entries r) ∙ ap₂ ◌+◌ (entries_length l) (entries_length r))
entries_length damaged = refl

pub words_length : (s : List Entry) → length (words s) ≡ length s
words_length [] = refl
words_length (e ∷ s) = ap suc (words_length s)

pub listing_length : (t : Tree) → length (listing t) ≡ size t
listing_length t = words_length (entries t) ∙ entries_length t

is_side_same : (s : Side) → is_side s s ≡ true
is_side_same left = refl
is_side_same right = refl

is_side_other : (s : Side) → is_side s (other s) ≡ false
is_side_other left = refl
is_side_other right = refl

-- a word goes to side s or to the other side
by_side : (P : Bool → Type 0) (s t : Side) → (t ≡ s → P true) → (t ≡ other s → P false) → P (is_side s t)
by_side P left left here there = here refl
by_side P left right here there = there refl
by_side P right left here there = there refl
by_side P right right here there = here refl

-- the entries that go to side s: if all do, if none does, and for two lists joined
module _ (s : Side) (m : ℕ) where
  going_all : {xs : List Entry} → AllWords (λ x. side m x ≡ s) xs → going s m xs ≡ xs
  unfolding going
  going_all none_all = refl
  going_all (one_all h hs) = rw (h, is_side_same s, going_all hs)

  going_none : {xs : List Entry} → AllWords (λ x. side m x ≡ other s) xs → going s m xs ≡ []
  unfolding going
  going_none none_all = refl
  going_none (one_all h hs) = rw (h, is_side_other s, going_none hs)

  going_append : (xs ys : List Entry) → going s m (xs ++ ys) ≡ going s m xs ++ going s m ys
  unfolding going
  going_append [] ys = refl
  going_append (x ∷ xs) ys = rw (going_append xs ys) (either (is_side s (side m x.key)) (going s m xs) (going s m ys))
    where
      either : (b : Bool) (gs hs : List Entry) → (if b then x ∷ (gs ++ hs) else gs ++ hs) ≡ (if b then x ∷ gs else gs) ++ hs
      either true gs hs = refl
      either false gs hs = refl

  -- what holds of every entry of the list holds of these, and they go to side s
  going_has : {P : Entry → Type 0} {xs : List Entry} → All P xs → All (λ x. P x × (side m x.key ≡ s)) (going s m xs)
  unfolding going
  going_has none_all = none_all
  going_has {P} (one_all {x} {xs} h hs) =
      by_side (λ b. All (λ y. P y × (side m y.key ≡ s)) (if b then x ∷ going s m xs else going s m xs)) s (side m x.key)
      (λ here. one_all (h, here) (going_has hs))
      (λ there. going_has hs)

  going_increasing : (xs : List Entry) → Increasing (words xs) → Increasing (words (going s m xs))
  unfolding going
  going_increasing [] none_increasing = none_increasing
  going_increasing (x ∷ xs) (one_increasing a h) =
      by_side (λ b. Increasing (words (if b then x ∷ going s m xs else going s m xs))) s (side m x.key)
      (λ here. one_increasing (all_above (all_map (λ y g. g.0) (going_has (above_all xs a)))) (going_increasing xs h))
      (λ there. going_increasing xs h)

-- of the entries below a row, the ones in a part are the ones that go to its side
module _ (m path low : ℕ) (l r : Tree) (parts : (s : Side) → Proper m (path * 2 + bit_of s) low (part s l r)) where
  going_to : (s : Side) → AllWords (λ x. side m x ≡ s) (entries (part s l r))
  going_to s = all_map (λ x f. side_of_part m x.key path s f.on_path) (fits m path low l r parts s)

  going_part : (s : Side) → going s m (entries l ++ entries r) ≡ entries (part s l r)
  going_part left =
      going_append left m (entries l) (entries r)
      ∙ ap₂ ◌++◌ (going_all left m (going_to left)) (going_none left m (going_to right)) ∙ append-nil (entries l)
  going_part right =
      going_append right m (entries l) (entries r)
      ∙ ap₂ ◌++◌ (going_none right m (going_to left)) (going_all right m (going_to right))

-- a proper tree is, row numbers apart, the PreTree of its entries
pub one_tree : (m path low : ℕ) (t : Tree) → Proper m path low t → unnumbered t ≡ tree_of m (entries t)
unfolding entries unnumbered tree_of
one_tree =
    by_rows (λ m path low t. unnumbered t ≡ tree_of m (entries t)) empty (λ path low i e fits. refl)
    (λ m path low i e l r fits parts below.
    rw (going_part m path (suc e.key) l r parts left, going_part m path (suc e.key) l r parts right)
    (ap₂ (row 0 e) (below left) (below right)))
  where
    empty : (m path low : ℕ) → none ≡ tree_of m []
    empty zero path low = refl
    empty (suc m) path low = refl

-- so two proper trees with the same number of bits left and the same entries are equal, row numbers apart
pub same_tree : (m path low path' low' : ℕ) (t u : Tree) → Proper m path low t → Proper m path' low' u
    → entries t ≡ entries u → unnumbered t ≡ unnumbered u
same_tree m path low path' low' t u h k same = one_tree m path low t h ∙ ap (tree_of m) same ∙ sym (one_tree m path' low' u k)

part_of : (f : Side → Tree) (s : Side) → part s (f left) (f right) ≡ f s
part_of f left = refl
part_of f right = refl

-- what goes to a side fits into the part there
going_fits : (m path low : ℕ) (s : Side) {x : ℕ} (xs : List Entry) → Above x (words xs) → AllWords (Fitting (suc m) path low) xs
    → AllWords (Fitting m (path * 2 + bit_of s) (suc x)) (going s m xs)
going_fits m path low s xs a fs =
    all_map (λ y g. record { not_below = g.0.0; on_path = to_part m y.key path s g.0.1.on_path g.1 })
    (going_has s m (all_both (above_all xs a) fs))

-- the PreTree of a set is proper
pub set_proper : (m path low : ℕ) (S : List Entry) → Increasing (words S) → AllWords (Fitting m path low) S → Proper m path low (tree_of m S)
unfolding Proper tree_of
set_proper zero path low [] rising fits = tt
set_proper zero path low (x ∷ xs) rising (one_all f fs) = record { key_fits = f; parts = λ s. part_of (λ s. none) s }
set_proper (suc m) path low [] rising fits = tt
set_proper (suc m) path low (x ∷ xs) (one_increasing a rising) (one_all f fs) =
    record {
      key_fits = f;
      parts =
          λ s.
          subst (Proper m (path * 2 + bit_of s) (suc x.key)) (sym (part_of (λ s. tree_of m (going s m xs)) s))
          (set_proper m (path * 2 + bit_of s) (suc x.key) (going s m xs) (going_increasing s m xs rising)
          (going_fits m path low s xs a fs));
    }

-- if a word goes right at a row, so does every greater word on the row's path
right_stays : (m x y : ℕ) → x / 2 ^ suc m ≡ y / 2 ^ suc m → x < y → side m x ≡ right → side m y ≡ right
right_stays m x y same less goes_right = by_cases (side m y) refl
  where
    by_cases : (s : Side) → side m y ≡ s → s ≡ right
    by_cases left GoesLeft = absurd (let back : y < x = by_sides m y x (sym same) GoesLeft goes_right in omega arith)
    by_cases right also = refl

-- so the entries below a row are those that go left, followed by those that go right
going_both : (m path low : ℕ) (xs : List Entry) → Increasing (words xs) → AllWords (Fitting (suc m) path low) xs
    → going left m xs ++ going right m xs ≡ xs
unfolding going
going_both m path low [] none_increasing fits = refl
going_both m path low (x ∷ xs) (one_increasing a rising) (one_all f fs) =
    by_cases (side m x.key) refl (going_both m path low xs rising fs)
  where
    all_right : side m x.key ≡ right → AllWords (λ y. side m y ≡ right) xs
    all_right goes_right =
        all_map (λ y g. right_stays m x.key y.key (f.on_path ∙ sym g.1.on_path) g.0 goes_right)
        (all_both (above_all xs a) fs)

    by_cases : (s : Side) → side m x.key ≡ s → going left m xs ++ going right m xs ≡ xs
        → (if is_side left s then x ∷ going left m xs else going left m xs)
        ++ (if is_side right s then x ∷ going right m xs else going right m xs) ≡ x ∷ xs
    by_cases left GoesLeft rest = ap (λ ys. x ∷ ys) rest
    by_cases right goes_right rest = rw (going_none left m (all_right goes_right), going_all right m (all_right goes_right))

-- the entries of the PreTree of a set are the set
pub set_entries : (m path low : ℕ) (S : List Entry) → Increasing (words S) → AllWords (Fitting m path low) S → entries (tree_of m S) ≡ S
unfolding tree_of entries
set_entries zero path low [] rising fits = refl
set_entries zero path low (x ∷ []) rising fits = refl
set_entries zero path low (x ∷ (y ∷ ys)) (one_increasing (one_above less a) rising) (one_all f (one_all g fs)) =
    absurd (omega (arith, f.on_path, g.on_path, whole_path x.key, whole_path y.key))
set_entries (suc m) path low [] rising fits = refl
set_entries (suc m) path low (x ∷ xs) (one_increasing a rising) (one_all f fs) =
    let below : (s : Side) → entries (tree_of m (going s m xs)) ≡ going s m xs =
    λ s.
    set_entries m (path * 2 + bit_of s) (suc x.key) (going s m xs) (going_increasing s m xs rising) (going_fits m path low s xs a fs) in
    ap (λ ys. x ∷ ys) (ap₂ ◌++◌ (below left) (below right) ∙ going_both m path low xs rising fs)

pub set_unnumbered : (m : ℕ) (S : List Entry) → unnumbered (tree_of m S) ≡ tree_of m S
unfolding tree_of unnumbered
set_unnumbered zero [] = refl
set_unnumbered zero (x ∷ xs) = refl
set_unnumbered (suc m) [] = refl
set_unnumbered (suc m) (x ∷ xs) =
    ap₂ (row 0 x) (set_unnumbered m (going left m xs)) (set_unnumbered m (going right m xs))
