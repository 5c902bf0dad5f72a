-- Document 01's "rows met from row 0 in the order row, left part, right part" are the rows of the tree that a table shows, if it shows no
-- damage. It shows none if the rows that are met are as document 01 asks of a sound table.
use Prim.Native.Nat.{ℕ, zero, suc, ◌+◌, ◌*◌, ◌-◌, ◌/◌, ◌^◌, ◌≤◌, ◌<◌}
use mathlib.Core.Path.{◌≡◌, refl, ap, ap₂, ◌∙◌}
use mathlib.Core.Bool.{Bool, true, false}
use mathlib.Core.List.{List, [], ◌∷◌, ◌++◌, map, map-append}
use native.Mathlib.Nat.{div-lt_iff_lt-mul}
use native.Mathlib.Omega.{arith}
use lib.Dec.{ltb}
use lib.Pow.{pow_pos, pow-add}
use borrow.Author.Tests.{ltb-true, eq-eqb}
use Rattle.ordered.specs.Word.{Side, left, right, bit_of}
use Rattle.ordered.specs.Dictionary.{Above, one_above, Increasing, one_increasing}
use Rattle.ordered.specs.Tree.{Tree, none, row, damaged, part, entries, listing, intact}
use Rattle.ordered.specs.Proper.{Proper}
use Rattle.ordered.proofs.Lists.{increasing_parts}
use Rattle.ordered.proofs.Parts.{words_append}
use Rattle.pretree.specs.declared.Row.{Row}
use Rattle.pretree.specs.Table.{link}
use Rattle.pretree.specs.Unfold.{ends_there, unfolded}
use Rattle.pretree.specs.Sound.{Met, met_by, met, times, keys_of, Each, none_met, one_met, InPlace, SoundRows}
use Rattle.demands.specs.Numbers.{numbers, often}
use Rattle.demands.proofs.Unfolding.{no_link, along_link, by_link, key, part_shown, NoDamage, intact_row, Opened, opened}

each_map : {P Q : Met → Type 0} {xs : List Met} → ((x : Met) → P x → Q x) → Each P xs → Each Q xs
each_map f none_met = none_met
each_map f (one_met {x} h hs) = one_met (f x h) (each_map f hs)

each_append : {P : Met → Type 0} {xs ys : List Met} → Each P xs → Each P ys → Each P (xs ++ ys)
each_append none_met k = k
each_append (one_met h hs) k = one_met h (each_append hs k)

both_sides : {P : Met → Type 0} (xs : Side → List Met) → ((s : Side) → Each P (xs s)) → Each P (xs left ++ xs right)
both_sides xs h = each_append (h left) (h right)

each_parts : {P : Met → Type 0} (xs ys : List Met) → Each P (xs ++ ys) → Each P xs × Each P ys
each_parts [] ys k = (none_met, k)
each_parts (x ∷ xs) ys (one_met h hs) = let k = each_parts xs ys hs in (one_met h k.0, k.1)

each_both : {P Q : Met → Type 0} {xs : List Met} → Each P xs → Each Q xs → Each (λ x. P x × Q x) xs
each_both none_met none_met = none_met
each_both (one_met h hs) (one_met k ks) = one_met (h, k) (each_both hs ks)

keys_append : (xs ys : List Met) → keys_of (xs ++ ys) ≡ keys_of xs ++ keys_of ys
unfolding keys_of
keys_append [] ys = refl
keys_append (x ∷ xs) ys = ap (λ ks. x.key ∷ ks) (keys_append xs ys)

abbrev the_row : ℕ → ℕ → ℕ → ℕ → Met
the_row d path i k = record { at = i; key = k; depth = d; path = path }

-- the rows of a tree in the order in which they are met, from depth d
unfoldable pub met_in : ℕ → ℕ → Tree → List Met
met_in d path none = []
met_in d path (row i e l r) =
    the_row d path i e.key ∷ (met_in (suc d) (path * 2 + bit_of left) l ++ met_in (suc d) (path * 2 + bit_of right) r)
met_in d path damaged = []

pub keys_met : (d path : ℕ) (t : Tree) → keys_of (met_in d path t) ≡ listing t
unfolding met_in keys_of entries
keys_met d path none = refl
keys_met d path (row i e l r) =
    rw (keys_append, words_append, keys_met (suc d) (path * 2 + bit_of left) l, keys_met (suc d) (path * 2 + bit_of right) r)
keys_met d path damaged = refl

numbers_met : (d path : ℕ) (t : Tree) → map (λ x. x.at) (met_in d path t) ≡ numbers t
unfolding met_in numbers
numbers_met d path none = refl
numbers_met d path (row i e l r) =
    rw (map-append (λ (x : Met). x.at), numbers_met (suc d) (path * 2 + bit_of left) l, numbers_met (suc d) (path * 2 + bit_of right) r)
numbers_met d path damaged = refl

times_often : (i : ℕ) (xs : List Met) → times i xs ≡ often i (map (λ x. x.at) xs)
unfolding times often
times_often i [] = refl
times_often i (x ∷ xs) = rw (times_often i xs)

pub times_met : (i d path : ℕ) (t : Tree) → times i (met_in d path t) ≡ often i (numbers t)
times_met i d path t = times_often i (met_in d path t) ∙ ap (often i) (numbers_met d path t)

-- a row with the bits of its path is below 2 ^ W
module _ (W d m path k : ℕ) (whole : d + m ≡ W) (short : path < 2 ^ d) (on_path : k / 2 ^ m ≡ path) where
  pub below_width : k < 2 ^ W
  below_width =
      let high : k / 2 ^ m < 2 ^ d = rw on_path short in
      rw (← whole, pow-add) ((div-lt_iff_lt-mul (pow_pos m)).0 high)

  in_place : (i : ℕ) → InPlace W (the_row d path i k)
  in_place i =
      let left_over : W - d ≡ m = omega arith in
      record {
        below = below_width;
        bits = rw left_over on_path;
        shallow = omega arith;
      }

pub longer : (d path : ℕ) (s : Side) → path < 2 ^ d → path * 2 + bit_of s < 2 ^ suc d
longer d path left h = omega arith
longer d path right h = omega arith

-- the rows of a proper tree are in their places
pub proper_in_place : (W d m path low : ℕ) (t : Tree) → d + m ≡ W → path < 2 ^ d → Proper m path low t → Each (InPlace W) (met_in d path t)
unfolding Proper met_in
proper_in_place W d zero path low none whole short h = none_met
proper_in_place W d zero path low (row i e l r) whole short h =
    rw (h.parts left, h.parts right) (one_met (in_place W d zero path e.key whole short h.key_fits.on_path i) none_met)
proper_in_place W d zero path low damaged whole short h = absurd h
proper_in_place W d (suc m) path low none whole short h = none_met
proper_in_place W d (suc m) path low (row i e l r) whole short h =
    one_met (in_place W d (suc m) path e.key whole short h.key_fits.on_path i)
    (both_sides (λ s. met_in (suc d) (path * 2 + bit_of s) (part s l r)) (λ s.
    proper_in_place W (suc d) m (path * 2 + bit_of s) (suc e.key) (part s l r) (omega arith) (longer d path s short) (h.parts s)))
proper_in_place W d (suc m) path low damaged whole short h = absurd h

module _ (rows : ℕ → Row) where
  -- what is met from the link of row i on side s
  abbrev met_from : ℕ → ℕ → ℕ → ℕ → Side → List Met
  met_from levels d path i s = met_by (met rows levels (suc d) (path * 2 + bit_of s)) (link (rows i) s)

  module _ (n : ℕ) where
    shown_row_met :
        (levels m d path low i : ℕ) → Opened rows n m path low i
        → ((s : Side) → met_from levels d path i s ≡ met_in (suc d) (path * 2 + bit_of s) (part_shown rows n m path i s))
        → met rows (suc levels) d path i ≡ met_in d path (unfolded rows n m path low i)
    unfolding met met_in
    shown_row_met levels m d path low i o parts = rw o.shows (ap₂ (λ xs ys. the_row d path i (key rows i) ∷ (xs ++ ys)) (parts left) (parts right))

    -- what is met if no damage is shown. It looks one level deeper than there are bits left.
    pub met_shown :
        (m d path low i : ℕ) → intact (unfolded rows n m path low i) ≡ true
        → met rows (suc (suc m)) d path i ≡ met_in d path (unfolded rows n m path low i)
    unfolding met_in
    met_shown zero d path low i h =
        let o = opened rows n zero path low i h in
        shown_row_met 1 zero d path low i o (λ s. rw (no_link (rows i) o.no_damage.links_end s))
    met_shown (suc m) d path low i h =
        let o = opened rows n (suc m) path low i h in
        let low' : ℕ = suc (key rows i) in
        shown_row_met (suc (suc m)) (suc m) d path low i o (λ s.
        along_link (λ j t. met_by (met rows (suc (suc m)) (suc d) (path * 2 + bit_of s)) j ≡ met_in (suc d) (path * 2 + bit_of s) t)
        (unfolded rows n m (path * 2 + bit_of s) low') refl
        (λ k. met_shown m (suc d) (path * 2 + bit_of s) low' (suc k)) (link (rows i) s) (o.parts s))

-- a row that meets the conditions of a sound table, in a part whose keys are `low` or more
pub record InOrder (n W low : ℕ) (x : Met) : Type 0 where
  pub in_use : x.at < n
  pub not_below : low ≤ x.key
  pub placed : InPlace W x

-- all rows of such a part
pub record Orderly (n W low : ℕ) (xs : List Met) : Type 0 where
  pub each : Each (InOrder n W low) xs
  pub rising : Increasing (keys_of xs)

module _ (n W low : ℕ) where
  raised : (k : ℕ) (xs : List Met) → Above k (keys_of xs) → Each (InOrder n W low) xs → Each (InOrder n W (suc k)) xs
  unfolding keys_of
  raised k [] a rs = none_met
  raised k (x ∷ xs) (one_above h a) (one_met r rs) = one_met (record { in_use = r.in_use; not_below = h; placed = r.placed }) (raised k xs a rs)

  first_row : (x : Met) (xs : List Met) → Orderly n W low (x ∷ xs) → InOrder n W low x × Orderly n W (suc x.key) xs
  unfolding keys_of
  first_row x xs o = go o.each o.rising
    where
      go : Each (InOrder n W low) (x ∷ xs) → Increasing (x.key ∷ keys_of xs) → InOrder n W low x × Orderly n W (suc x.key) xs
      go (one_met r rs) (one_increasing a h) = (r, record { each = raised x.key xs a rs; rising = h })

  two_parts : (xs ys : List Met) → Orderly n W low (xs ++ ys) → Orderly n W low xs × Orderly n W low ys
  two_parts xs ys o =
      let e = each_parts xs ys o.each in
      let i = increasing_parts (keys_of xs) (keys_of ys) (rw keys_append at o.rising) in
      (record { each = e.0; rising = i.0 }, record { each = e.1; rising = i.1 })

module _ (rows : ℕ → Row) (n W : ℕ) where
  met_row :
      (low levels d path i : ℕ) → Orderly n W low (met rows (suc levels) d path i)
      → InOrder n W low (the_row d path i (key rows i)) × ((s : Side) → Orderly n W (suc (key rows i)) (met_from rows levels d path i s))
  unfolding met
  met_row low levels d path i o =
      let from : Side → List Met = met_from rows levels d path i in
      let f = first_row n W low (the_row d path i (key rows i)) (from left ++ from right) o in
      let t = two_parts n W (suc (key rows i)) (from left) (from right) f.1 in
      (f.0, elim [ left ↦ t.0 | right ↦ t.1 ])

  too_deep : (low d path j : ℕ) → d + 0 ≡ W → Orderly n W low (met_by (met rows 1 (suc d) path) j) → j ≡ 0
  too_deep low d path zero whole o = refl
  too_deep low d path (suc j) whole o = absurd (omega (arith, (met_row low 0 (suc d) path (suc j) o).0.placed.shallow))

  no_damage : (m d path low i : ℕ) → d + m ≡ W → InOrder n W low (the_row d path i (key rows i)) → ends_there m (rows i) ≡ true → NoDamage rows n m path low i
  no_damage m d path low i whole r ends =
      let left_over : W - d ≡ m = omega arith in
      record { in_use = r.in_use; key_fits = record { not_below = r.not_below; on_path = rw left_over at r.placed.bits }; links_end = ends }

  -- if the rows that are met are as in a sound table, no damage is shown
  pub met_intact : (m d path low i : ℕ) → d + m ≡ W → Orderly n W low (met rows (suc (suc m)) d path i) → intact (unfolded rows n m path low i) ≡ true
  unfolding intact
  met_intact zero d path low i whole o =
      let r = met_row low 1 d path i o in
      let none_there : (s : Side) → link (rows i) s ≡ 0 = λ s. too_deep (suc (key rows i)) d (path * 2 + bit_of s) (link (rows i) s) whole (r.1 s) in
      intact_row rows n zero path low i (no_damage zero d path low i whole r.0 (rw (none_there left, none_there right))) (λ s. refl)
  met_intact (suc m) d path low i whole o =
      let r = met_row low (suc (suc m)) d path i o in
      let low' : ℕ = suc (key rows i) in
      intact_row rows n (suc m) path low i (no_damage (suc m) d path low i whole r.0 refl)
      (λ s. by_link (λ j. Orderly n W low' (met_by (met rows (suc (suc m)) (suc d) (path * 2 + bit_of s)) j)) (unfolded rows n m (path * 2 + bit_of s) low')
      (λ k. met_intact m (suc d) (path * 2 + bit_of s) low' (suc k) (omega arith)) (link (rows i) s) (r.1 s))

-- a row that is met is met at least once
met_at_least_once : (xs : List Met) → Each (λ x. 1 ≤ times x.at xs) xs
unfolding times
met_at_least_once [] = none_met
met_at_least_once (x ∷ xs) =
    one_met {x = x} (rw (eq-eqb x.at x.at refl) (omega arith)) (each_map (λ y h. omega arith) (met_at_least_once xs))

-- so in a sound table it is in use
pub sound_orderly : (W n : ℕ) (xs : List Met) → SoundRows W n xs → Orderly n W 0 xs
sound_orderly W n xs s =
    record {
      each = each_map (λ x h. record { in_use = used x (ltb x.at n) refl h.0; not_below = omega arith; placed = h.1 }) (each_both (met_at_least_once xs) s.in_place);
      rising = s.increase;
    }
  where
    used : (x : Met) (b : Bool) → ltb x.at n ≡ b → 1 ≤ times x.at xs → x.at < n
    used x true e h = ltb-true x.at n e
    used x false e h = absurd (let never : times x.at xs ≡ 0 = rw (s.each_once x.at, e) in omega arith)
