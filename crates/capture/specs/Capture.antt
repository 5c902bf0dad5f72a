-- The comparison of two captures. A capture is the list of its bytes.
-- Document 01, "The ways": "The comparison returns that leading part of the new capture which agrees with the earlier capture
-- from byte 0, as long as possible; it may be empty. A capture is stale if it is not empty and the whole of it is returned."
use Rattle.std.specs.Prelude.{◌≡◌, Bool, true, cond, ◌&&◌, List, [], ◌∷◌, ℕ, suc, ◌≤◌, length, take, ltb, eqb, ◌==◌, fold}
use Rattle.std.specs.List.{zip, prefix_len}

-- `part` is what the comparison returns. `take n` is the first n bytes of a capture.
pub record LeadingPart (new earlier part : List ℕ) : Type 0 where
  -- "leading part of the new capture"
  pub leads : part ≡ take (length part) new
  -- "which agrees with the earlier capture from byte 0"
  pub agrees : part ≡ take (length part) earlier
  -- "as long as possible": if the captures agree in their first n bytes, the part has at least n bytes
  pub longest : (n : ℕ) → n ≤ length new → take n new ≡ take n earlier → n ≤ length part

-- how many bytes agree before the first that differs, or before a capture ends
unfoldable pub agreeing : List ℕ → List ℕ → ℕ
agreeing [] earlier = 0
agreeing (b ∷ new) [] = 0
agreeing (b ∷ new) (e ∷ earlier) = cond (eqb b e) (suc (agreeing new earlier)) 0

-- the only `LeadingPart`, computed
unfoldable pub leading : List ℕ → List ℕ → List ℕ
leading new earlier = take (agreeing new earlier) new

-- "not empty and the whole of it is returned"
unfoldable pub is_stale : List ℕ → List ℕ → Bool
is_stale new earlier = ltb 0 (length new) && eqb (length (leading new earlier)) (length new)

-- whether two blocks of one length have the same bytes
abbrev pub same_bytes : List ℕ → List ℕ → Bool
same_bytes new earlier = fold (λ same places. same && places.0 == places.1) true (zip new earlier)

-- how many places from the front on have the same byte in both
abbrev pub same_places : List (ℕ × ℕ) → ℕ
same_places places = prefix_len (λ p. p.0 == p.1) places

-- how many pairs of blocks from the front on have the same bytes
abbrev pub same_blocks : List (List ℕ × List ℕ) → ℕ
same_blocks blocks = prefix_len (λ p. same_bytes p.0 p.1) blocks
