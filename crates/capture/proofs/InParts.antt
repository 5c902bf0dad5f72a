-- Laws of `agreeing` for captures that are compared part by part: after bytes that agree, in the first bytes, place by place, and block by block.
use Rattle.std.proofs.Common.{◌≡◌, ℕ, zero, suc, ◌+◌, ◌-◌, ◌*◌, ◌/◌, ◌≤◌, ◌<◌, Bool, true, false, cond, ◌&&◌, List, [], ◌∷◌, refl, sym, ◌∙◌, arith, length, take, drop, take_all, fold, ◌==◌}
use Rattle.std.specs.List.{zip}
use Rattle.std.specs.Simd.{first_chunks}
use Rattle.std.proofs.lemmas.List.{length-drop}
use Rattle.std.proofs.Math.Nat.{div-mul-le_self, lt-div-mul-add}
use lib.Dec.{leb, eqb}
use Prim.Native.Nat.{min}
use Prim.Native.Nat.compare
use borrow.Author.Tests.{leb-true, leb-false, le-leb, lt-leb}
use Rattle.capture.specs.Capture.{agreeing, same_bytes, same_places, same_blocks}
use Rattle.capture.proofs.Agreeing.{within_both}

-- After bytes that agree, as many more agree as in what is left of both.
agreeing_after : (new earlier : List ℕ) (n : ℕ) → n ≤ agreeing new earlier → n + agreeing (drop n new) (drop n earlier) ≡ agreeing new earlier
unfolding agreeing
agreeing_after new earlier zero h = omega arith
agreeing_after [] earlier (suc n) h = absurd (omega arith)
agreeing_after (b ∷ new) [] (suc n) h = absurd (omega arith)
agreeing_after (b ∷ new) (e ∷ earlier) (suc n) h = at (eqb b e) (agreeing_after new earlier n) h
  where
    at : (t : Bool) → (n ≤ agreeing new earlier → n + agreeing (drop n new) (drop n earlier) ≡ agreeing new earlier) → suc n ≤ cond t (suc (agreeing new earlier)) 0
        → suc n + agreeing (drop n new) (drop n earlier) ≡ cond t (suc (agreeing new earlier)) 0
    at true rest h = omega (arith, rest (omega arith))
    at false rest h = absurd (omega arith)

rest_of : (n : ℕ) (l : List ℕ) → take (length l - n) (drop n l) ≡ drop n l
rest_of n l = take_all (length l - n) (drop n l) (omega (arith, length-drop n l))

-- the same, where what is left of both is a slice
pub agreeing_in_rest : (new earlier : List ℕ) (n : ℕ) → n ≤ agreeing new earlier
    → n + agreeing (take (length new - n) (drop n new)) (take (length earlier - n) (drop n earlier)) ≡ agreeing new earlier
agreeing_in_rest new earlier n h = rw (rest_of n new, rest_of n earlier) (agreeing_after new earlier n h)

-- In the first n bytes of both as many agree as in both, but at most n.
agreeing_in_first : (n : ℕ) (new earlier : List ℕ) → agreeing (take n new) (take n earlier) ≡ min n (agreeing new earlier)
unfolding agreeing
agreeing_in_first zero new earlier = omega arith
agreeing_in_first (suc n) [] earlier = omega arith
agreeing_in_first (suc n) (b ∷ new) [] = omega arith
agreeing_in_first (suc n) (b ∷ new) (e ∷ earlier) = at (eqb b e) (agreeing_in_first n new earlier)
  where
    at : (t : Bool) → agreeing (take n new) (take n earlier) ≡ min n (agreeing new earlier)
        → cond t (suc (agreeing (take n new) (take n earlier))) 0 ≡ min (suc n) (cond t (suc (agreeing new earlier)) 0)
    at true rest = omega (arith, rest)
    at false rest = omega arith

-- the same of the first 8 bytes of both
pub in_first_word : (new earlier first first' : List ℕ) → first ≡ take 8 new → first' ≡ take 8 earlier → agreeing first first' ≡ min 8 (agreeing new earlier)
in_first_word new earlier first first' p q = rw (p, q) (agreeing_in_first 8 new earlier)

-- Where all but the last 8 bytes agree, the last 8 say how many do.
pub with_last_word : (new earlier last last' : List ℕ) → length new ≡ length earlier → length new ≤ agreeing new earlier + 8 → 8 ≤ length new
    → last ≡ drop (length new - 8) new → last' ≡ drop (length earlier - 8) earlier → length new - 8 + agreeing last last' ≡ agreeing new earlier
with_last_word new earlier last last' long but_the_end some p q =
    rw (p, q, sym long) (agreeing_after new earlier (length new - 8) (omega arith))

-- If as many bytes agree as the new capture has, no more do.
pub agreeing_all : (new earlier : List ℕ) → length new ≤ agreeing new earlier → agreeing new earlier ≡ length new
agreeing_all new earlier h = omega (arith, within_both new earlier)

-- Bytes after the end of the shorter capture change nothing.
pub agreeing_cut : (new earlier : List ℕ)
    → agreeing (take (min (length new) (length earlier)) new) (take (min (length new) (length earlier)) earlier) ≡ agreeing new earlier
agreeing_cut new earlier = omega (arith, agreeing_in_first (min (length new) (length earlier)) new earlier, within_both new earlier)

-- The agreeing bytes are the pairs from the front on that are the same.
pub agreeing_by_place : (new earlier : List ℕ) → same_places (zip new earlier) ≡ agreeing new earlier
unfolding agreeing
agreeing_by_place [] earlier = refl
agreeing_by_place (b ∷ new) [] = refl
agreeing_by_place (b ∷ new) (e ∷ earlier) = at (eqb b e) (agreeing_by_place new earlier)
  where
    at : (t : Bool) → same_places (zip new earlier) ≡ agreeing new earlier → cond t (1 + same_places (zip new earlier)) 0 ≡ cond t (suc (agreeing new earlier)) 0
    at true rest = omega arith
    at false rest = refl

-- After bytes that agree, what is left agrees in as many places as more bytes agree.
pub places_in_rest : (new earlier : List ℕ) (n : ℕ) → n ≤ agreeing new earlier
    → n + same_places (zip (take (length new - n) (drop n new)) (take (length earlier - n) (drop n earlier))) ≡ agreeing new earlier
places_in_rest new earlier n h = rw (agreeing_by_place (take (length new - n) (drop n new)) (take (length earlier - n) (drop n earlier))) (agreeing_in_rest new earlier n h)

-- Two blocks at the front are the same exactly if that many bytes agree.
same_front : (n : ℕ) (new earlier : List ℕ) (before : Bool) → n ≤ length new → n ≤ length earlier
    → fold (λ same p. same && p.0 == p.1) before (zip (take n new) (take n earlier)) ≡ before && leb n (agreeing new earlier)
unfolding agreeing
same_front zero new earlier true h g = sym (le-leb 0 (agreeing new earlier) (omega arith))
same_front zero new earlier false h g = refl
same_front (suc n) [] earlier before h g = absurd (omega arith)
same_front (suc n) (b ∷ new) [] before h g = absurd (omega arith)
same_front (suc n) (b ∷ new) (e ∷ earlier) before h g =
    same_front n new earlier (before && eqb b e) (omega arith) (omega arith) ∙ at before (eqb b e)
  where
    at : (s t : Bool) → (s && t) && leb n (agreeing new earlier) ≡ s && leb (suc n) (cond t (suc (agreeing new earlier)) 0)
    at true true = rw (compare.suc-suc n (agreeing new earlier)) refl
    at true false = sym (lt-leb (suc n) 0 (omega arith))
    at false t = refl

-- The blocks that are the same are whole blocks of agreeing bytes, and less than a block more agrees.
abbrev pub InBlocks : (size blocks agree : ℕ) → Type 0
InBlocks size blocks agree = (size * blocks ≤ agree) × (agree < size * blocks + size)

block_by_block : (size k j : ℕ) (new earlier : List ℕ) → 0 < size → k * size ≤ length new → length new < k * size + size → j * size ≤ length earlier → length earlier < j * size + size
    → InBlocks size (same_blocks (zip (first_chunks size k new) (first_chunks size j earlier))) (agreeing new earlier)
block_by_block size zero j new earlier some a b c d = omega (arith, within_both new earlier)
block_by_block size (suc k) zero new earlier some a b c d = omega (arith, within_both new earlier)
block_by_block size (suc k) (suc j) new earlier some a b c d =
    let new_left = length-drop size new in
    let earlier_left = length-drop size earlier in
    at (same_bytes (take size new) (take size earlier)) (same_front size new earlier true (omega arith) (omega arith))
    (block_by_block size k j (drop size new) (drop size earlier) some (omega arith) (omega arith) (omega arith) (omega arith))
  where
    more : ℕ
    more = same_blocks (zip (first_chunks size k (drop size new)) (first_chunks size j (drop size earlier)))

    at : (t : Bool) → t ≡ leb size (agreeing new earlier) → InBlocks size more (agreeing (drop size new) (drop size earlier)) → InBlocks size (cond t (1 + more) 0) (agreeing new earlier)
    at true same rest = let after = agreeing_after new earlier size (leb-true size (agreeing new earlier) (sym same)) in (omega arith, omega arith)
    at false other rest = let less = leb-false size (agreeing new earlier) (sym other) in (omega arith, omega arith)

-- the same of all whole blocks of both captures
pub whole_blocks : (size : ℕ) (new earlier : List ℕ) → 0 < size
    → InBlocks size (same_blocks (zip (first_chunks size (length new / size) new) (first_chunks size (length earlier / size) earlier))) (agreeing new earlier)
whole_blocks size new earlier some =
    block_by_block size (length new / size) (length earlier / size) new earlier some (div-mul-le_self (length new) size) (lt-div-mul-add some) (div-mul-le_self (length earlier) size)
    (lt-div-mul-add some)
