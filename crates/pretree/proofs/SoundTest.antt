-- A test that computes whether a table is sound in document 01's words. proofs/Starred uses it on the tables of the examples.
use Prim.Native.Nat.{ℕ, zero, suc, ◌-◌, ◌/◌, ◌^◌, ◌<◌, ◌≤◌}
use mathlib.Core.Path.{◌≡◌, refl}
use mathlib.Core.Bool.{Bool, true, false, ◌&&◌}
use mathlib.Core.List.{List, [], ◌∷◌}
use mathlib.Core.Logic.{⊎_elim}
use native.Mathlib.Nat.{eq-or-lt_of_le, le_of_suc-le-suc, not-suc-le-zero}
use native.Mathlib.Omega.{arith}
use lib.Dec.{T, ltb, leb, eqb, ltb→lt, leb→le, eqb→eq}
use borrow.Author.Tests.{ne_eqb, ltb-true, ltb-false}
use Rattle.std.specs.Prelude.{if◌then◌else◌}
use Rattle.ordered.specs.Dictionary.{Above, none_above, one_above, Increasing, none_increasing, one_increasing}
use Rattle.pretree.specs.Sound.{Met, times, keys_of, Each, none_met, one_met, InPlace, SoundRows}

both : (a b : Bool) → T (a && b) → T a × T b
both true b t = (tt, t)
both false b t = absurd t

abbrev all_above : ℕ → List ℕ → Bool
all_above x [] = true
all_above x (y ∷ ys) = ltb x y && all_above x ys

above : (x : ℕ) (ys : List ℕ) → T (all_above x ys) → Above x ys
above x [] t = none_above
above x (y ∷ ys) t = let b = both (ltb x y) (all_above x ys) t in one_above (ltb→lt x y b.0) (above x ys b.1)

abbrev rising : List ℕ → Bool
rising [] = true
rising (x ∷ xs) = all_above x xs && rising xs

increasing : (xs : List ℕ) → T (rising xs) → Increasing xs
increasing [] t = none_increasing
increasing (x ∷ xs) t =
    let b = both (all_above x xs) (rising xs) t in
    one_increasing (above x xs b.0) (increasing xs b.1)

abbrev placed : ℕ → Met → Bool
placed w x = ltb x.key (2 ^ w) && (eqb (x.key / 2 ^ (w - x.depth)) x.path && leb x.depth w)

in_place : (w : ℕ) (x : Met) → T (placed w x) → InPlace w x
in_place w x t =
    let b = both (ltb x.key (2 ^ w)) (eqb (x.key / 2 ^ (w - x.depth)) x.path && leb x.depth w) t in
    let d = both (eqb (x.key / 2 ^ (w - x.depth)) x.path) (leb x.depth w) b.1 in
    record { below = ltb→lt _ _ b.0; bits = eqb→eq _ _ d.0; shallow = leb→le _ _ d.1 }

abbrev all_placed : ℕ → List Met → Bool
all_placed w [] = true
all_placed w (x ∷ xs) = placed w x && all_placed w xs

each : (w : ℕ) (xs : List Met) → T (all_placed w xs) → Each (InPlace w) xs
each w [] t = none_met
each w (x ∷ xs) t =
    let b = both (placed w x) (all_placed w xs) t in
    one_met (in_place w x b.0) (each w xs b.1)

abbrev all_below : ℕ → List Met → Bool
all_below n [] = true
all_below n (x ∷ xs) = ltb x.at n && all_below n xs

abbrev once_below : ℕ → List Met → Bool
once_below zero xs = true
once_below (suc n) xs = eqb (times n xs) 1 && once_below n xs

never : (n : ℕ) (xs : List Met) → T (all_below n xs) → (i : ℕ) → n ≤ i → times i xs ≡ 0
unfolding times
never n [] t i h = refl
never n (x ∷ xs) t i h =
    let b = both (ltb x.at n) (all_below n xs) t in
    let l : x.at < n = ltb→lt _ _ b.0 in
    rw (ne_eqb i x.at (λ e. omega arith), never n xs b.1 i h)

once : (n : ℕ) (xs : List Met) → T (once_below n xs) → (i : ℕ) → i < n → times i xs ≡ 1
once zero xs t i h = absurd (not-suc-le-zero h)
once (suc n) xs t i h =
    let b = both (eqb (times n xs) 1) (once_below n xs) t in
    ⊎_elim (λ e. rw e (eqb→eq _ _ b.0)) (λ l. once n xs b.1 i l) (eq-or-lt_of_le (le_of_suc-le-suc h))

each_once : (n : ℕ) (xs : List Met) → T (all_below n xs) → T (once_below n xs) → (i : ℕ) → times i xs ≡ (if ltb i n then 1 else 0)
each_once n xs t u i = go (ltb i n) refl
  where
    go : (b : Bool) → ltb i n ≡ b → times i xs ≡ (if b then 1 else 0)
    go true e = once n xs u i (ltb-true i n e)
    go false e = never n xs t i (ltb-false i n e)

abbrev soundly : ℕ → ℕ → List Met → Bool
soundly w n xs = all_below n xs && (once_below n xs && (rising (keys_of xs) && all_placed w xs))

pub sound_rows : (w n : ℕ) (xs : List Met) → T (soundly w n xs) → SoundRows w n xs
sound_rows w n xs t =
    let a = both (all_below n xs) (once_below n xs && (rising (keys_of xs) && all_placed w xs)) t in
    let b = both (once_below n xs) (rising (keys_of xs) && all_placed w xs) a.1 in
    let c = both (rising (keys_of xs)) (all_placed w xs) b.1 in
    record { each_once = each_once n xs a.0 b.0; increase = increasing (keys_of xs) c.0; in_place = each w xs c.1 }
