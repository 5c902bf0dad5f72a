-- The two procedures of NIST SP 800-90B, over the plain list of a seat's samples, the oldest first. Each judges one sample: `word` is the
-- sample, `past` the samples before it.
use Rattle.std.specs.Prelude.{ℕ, suc, ◌-◌, ◌%◌, Bool, true, cond, ◌&&◌, List, [], ◌∷◌, ◌++◌, leb, eqb, length, get_or, drop}

abbrev pub all_equal : ℕ → List ℕ → Bool
all_equal a [] = true
all_equal a (x ∷ xs) = eqb x a && all_equal a xs

-- The length of the run of equal samples that ends the list: B of 4.4.1.
unfoldable pub ending_run : List ℕ → ℕ
ending_run [] = 0
ending_run (x ∷ xs) = cond (all_equal x xs) (suc (length xs)) (ending_run xs)

-- 4.4.1, the repetition count test: B is at the cutoff or past it.
unfoldable pub repetition_test : ℕ → List ℕ → ℕ → Bool
repetition_test cutoff past word = leb cutoff (ending_run (past ++ word ∷ []))

-- The samples of the present window: a new window begins after every `size` samples.
unfoldable pub present_window : ℕ → List ℕ → List ℕ
present_window size past = drop (length past - length past % size) past

unfoldable pub occurrences : ℕ → List ℕ → ℕ
occurrences a [] = 0
occurrences a (x ∷ xs) = cond (eqb x a) (suc (occurrences a xs)) (occurrences a xs)

-- 4.4.2, the adaptive proportion test: the sample equals A, the window's first, and lifts B, the count of A in the window, to the cutoff or
-- past it.
unfoldable pub proportion_test : ℕ → ℕ → List ℕ → ℕ → Bool
proportion_test size cutoff past word =
    let samples : List ℕ = present_window size past ++ word ∷ [] in
    let first : ℕ = get_or samples 0 0 in
    eqb first word && leb cutoff (occurrences first samples)
