-- How many rows a call reads does not depend on row numbers or serials. So a call on a proper tree reads as many rows as on the PreTree of the
-- tree's entries, and as many as on the PreTree of any set with the same words.
use Prim.Native.Nat.{ℕ, zero, suc, ◌+◌}
use mathlib.Core.Path.{◌≡◌, refl, sym, ap, ap₂, ◌∙◌}
use mathlib.Core.Bool.{Bool, true, false, ◌&&◌}
use mathlib.Core.List.{List, [], ◌∷◌, ◌++◌, map}
use lib.Dec.{ltb, eqb}
use lib.ListN.{length}
use Rattle.std.specs.Prelude.{if◌then◌else◌}
use Rattle.ordered.specs.Such.{Perhaps, no_such, such, is_there, its, first_of, only_if, last_such}
use Rattle.ordered.specs.Word.{Side, left, right, side, is_side}
use Rattle.ordered.specs.Dictionary.{Entry, words}
use Rattle.ordered.specs.Tree.{Tree, none, row, damaged, exists, entries, unnumbered, going, tree_of}
use Rattle.ordered.specs.Proper.{Proper}
use Rattle.ordered.specs.Way.{Step, Way, Rule, Turn, stop, to, way, rows, end_rows, passing, turning, joined, following, passing_equal, pushing, down, staying}
use Rattle.ordered.specs.Reading.{word_in, Found, passed_row, Reading, rows_of, root_row, end_if, to_its_end, has, skipped_right, next_by, next, skipped_left, prev_by, prev, first, last, gap_by, gap}
use Rattle.ordered.specs.Change.{way_ends_at, adding_by, adding, erasing_by, erasing}
use Rattle.ordered.proofs.OneTree.{one_tree}
use Rattle.ordered.proofs.Ways.{step, Blind, following_blind, passing_equal_blind, pushing_blind, staying_blind, down_blind}

-- the tree with other entries, and 0 for every row number
unfoldable pub relabelled : (Entry → Entry) → Tree → Tree
relabelled g none = none
relabelled g (row i e l r) = row 0 (g e) (relabelled g l) (relabelled g r)
relabelled g damaged = damaged

-- f does not depend on row numbers, or on anything of an entry but its word
abbrev pub SeesWords : {A : Type 0} → (Tree → A) → Type 0
SeesWords f = (g : Entry → Entry) → ((e : Entry) → (g e).key ≡ e.key) → (t : Tree) → f (relabelled g t) ≡ f t

module _ (g : Entry → Entry) (keeps : (e : Entry) → (g e).key ≡ e.key) where
  abbrev bare : Tree → Tree
  bare = relabelled g

  -- a step, a way, a found row and a reading, carried over to the relabelled tree
  abbrev bare_step : Step → Step
  bare_step s = step s.below 0 (g s.entry) (bare s.left_part) (bare s.right_part) s.turn

  abbrev bare_steps : List Step → List Step
  bare_steps [] = []
  bare_steps (s ∷ ss) = bare_step s ∷ bare_steps ss

  abbrev bare_way : Way → Way
  bare_way w = record { passed = bare_steps w.passed; bits = w.bits; end = bare w.end }

  abbrev bare_ways : List Way → List Way
  bare_ways [] = []
  bare_ways (w ∷ ws) = bare_way w ∷ bare_ways ws

  abbrev bare_found : Perhaps Found → Perhaps Found
  bare_found = its (λ f. record { entry = g f.entry; bits = f.bits })

  abbrev bare_reading : Reading Found → Reading Found
  bare_reading r = record { ways = bare_ways r.ways; answer = bare_found r.answer }

  exists_bare : (t : Tree) → exists (bare t) ≡ exists t
  unfolding relabelled
  exists_bare none = refl
  exists_bare (row i e l r) = refl
  exists_bare damaged = refl

  way_bare : (f : Rule) → Blind f → (m : ℕ) (t : Tree) → way f m (bare t) ≡ bare_way (way f m t)
  unfolding way relabelled
  way_bare f blind zero t = refl
  way_bare f blind (suc m) none = refl
  way_bare f blind (suc m) (row i e l r) =
      rw (blind m e (g e) l r (bare l) (bare r) (keeps e) (exists_bare l) (exists_bare r))
      (turned (f m e l r) (way_bare f blind m l) (way_bare f blind m r))
    where
      turned : (c : Turn) → way f m (bare l) ≡ bare_way (way f m l) → way f m (bare r) ≡ bare_way (way f m r)
          → turning (way f m) m 0 (g e) (bare l) (bare r) c ≡ bare_way (turning (way f m) m i e l r c)
      turned stop lefts rights = refl
      turned (to left) lefts rights = ap (passing (step m 0 (g e) (bare l) (bare r) left)) lefts
      turned (to right) lefts rights = ap (passing (step m 0 (g e) (bare l) (bare r) right)) rights
  way_bare f blind (suc m) damaged = refl

  row_bare : (m : ℕ) (t : Tree) → root_row m (bare t) ≡ bare_found (root_row m t)
  unfolding relabelled
  row_bare m none = refl
  row_bare m (row i e l r) = refl
  row_bare m damaged = refl

  -- the row at which a way ends, if its word passes a test
  end_bare : (test : ℕ → Bool) (w : Way) → end_if test (bare_way w) ≡ bare_found (end_if test w)
  end_bare test w = rw (row_bare w.bits w.end) (only (root_row w.bits w.end))
    where
      only : (q : Perhaps Found) → only_if (λ f. test (word_in f)) (bare_found q) ≡ bare_found (only_if (λ f. test (word_in f)) q)
      only no_such = refl
      only (such f) = ap (λ x. if test x then such other else no_such) (keeps f.entry) ∙ either (test (word_in f))
        where
          other : Found
          other = record { entry = g f.entry; bits = f.bits }

          either : (b : Bool) → (if b then such other else no_such) ≡ bare_found (if b then such f else no_such)
          either true = refl
          either false = refl

  there_bare : (q : Perhaps Found) → is_there (bare_found q) ≡ is_there q
  there_bare no_such = refl
  there_bare (such f) = refl

  ends_bare : (k : ℕ) (w : Way) → way_ends_at k (bare_way w) ≡ way_ends_at k w
  ends_bare k w = ap is_there (end_bare (eqb k) w) ∙ there_bare (end_if (eqb k) w)

  end_rows_bare : (t : Tree) → end_rows (bare t) ≡ end_rows t
  unfolding relabelled
  end_rows_bare none = refl
  end_rows_bare (row i e l r) = refl
  end_rows_bare damaged = refl

  length_bare : (ss : List Step) → length (bare_steps ss) ≡ length ss
  length_bare [] = refl
  length_bare (s ∷ ss) = ap suc (length_bare ss)

  rows_bare : (w : Way) → rows (bare_way w) ≡ rows w
  unfolding rows
  rows_bare w = ap₂ ◌+◌ (length_bare w.passed) (end_rows_bare w.end)

  rows_of_bare : (ws : List Way) → rows_of (bare_ways ws) ≡ rows_of ws
  unfolding rows_of
  rows_of_bare [] = refl
  rows_of_bare (w ∷ ws) = ap₂ ◌+◌ (rows_bare w) (rows_of_bare ws)

  bare_append : (vs ws : List Way) → bare_ways (vs ++ ws) ≡ bare_ways vs ++ bare_ways ws
  bare_append [] ws = refl
  bare_append (v ∷ vs) ws = ap (λ us. bare_way v ∷ us) (bare_append vs ws)

  abbrev bare_perhaps : Perhaps Step → Perhaps Step
  bare_perhaps = its bare_step

  found_bare : (p : Step → Bool) → ((s : Step) → p (bare_step s) ≡ p s)
      → (ss : List Step) → last_such p (bare_steps ss) ≡ bare_perhaps (last_such p ss)
  unfolding last_such
  found_bare p same [] = refl
  found_bare p same (s ∷ ss) = rw (found_bare p same ss, same s) (either (last_such p ss) (p s))
    where
      either : (q : Perhaps Step) (b : Bool)
          → first_of (bare_perhaps q) (if b then such (bare_step s) else no_such) ≡ bare_perhaps (first_of q (if b then such s else no_such))
      either no_such true = refl
      either no_such false = refl
      either (such u) b = refl

  has_bare : (m k : ℕ) (t : Tree) → has m k (bare t) ≡ bare_reading (has m k t)
  unfolding has
  has_bare m k t =
      let w : Way = way (following k) m t in
      rw (way_bare (following k) (following_blind k) m t, end_bare (eqb k) w)

  -- a way whose end is the answer
  to_end_bare : (vs : List Way) (f : Rule) → Blind f → (m : ℕ) (t : Tree)
      → to_its_end (bare_ways vs) (way f m (bare t)) ≡ bare_reading (to_its_end vs (way f m t))
  to_end_bare vs f blind m t =
      rw (way_bare f blind m t, row_bare (way f m t).bits (way f m t).end, bare_append vs (way f m t ∷ []))

  next_by_bare : (w : Way) (q : Perhaps Found) (p : Perhaps Step)
      → next_by (bare_way w) (bare_found q) (bare_perhaps p) ≡ bare_reading (next_by w q p)
  unfolding relabelled
  next_by_bare w (such x) p = refl
  next_by_bare w no_such no_such = refl
  next_by_bare w no_such (such s) = to_end_bare (w ∷ []) staying staying_blind s.below s.right_part

  next_bare : (m k : ℕ) (t : Tree) → next m k (bare t) ≡ bare_reading (next m k t)
  unfolding next
  next_bare m k t =
      let w : Way = way (passing_equal k) m t in
      rw (
        way_bare (passing_equal k) (passing_equal_blind k) m t,
        end_bare (ltb k) w,
        found_bare skipped_right (λ s. ap (λ b. is_side left s.turn && b) (exists_bare s.right_part)) w.passed,
      )
      (next_by_bare w (end_if (ltb k) w) (last_such skipped_right w.passed))

  prev_by_bare : (w : Way) (q : Perhaps Found) (p : Perhaps Step)
      → prev_by (bare_way w) (bare_found q) (bare_perhaps p) ≡ bare_reading (prev_by w q p)
  prev_by_bare w (such x) p = refl
  prev_by_bare w no_such no_such = refl
  prev_by_bare w no_such (such p) =
      rw (exists_bare p.left_part, to_end_bare (w ∷ []) (down right) (down_blind right) p.below p.left_part)
      (either (skipped_left p))
    where
      alone : Way → Step → Reading Found
      alone v s = record { ways = v ∷ []; answer = such (passed_row s) }

      both : Reading Found
      both = to_its_end (w ∷ []) (way (down right) p.below p.left_part)

      either : (b : Bool)
          → (if b then bare_reading both else alone (bare_way w) (bare_step p)) ≡ bare_reading (if b then both else alone w p)
      either true = refl
      either false = refl

  prev_bare : (m k : ℕ) (t : Tree) → prev m k (bare t) ≡ bare_reading (prev m k t)
  unfolding prev
  prev_bare m k t =
      let w : Way = way (following k) m t in
      rw (
        way_bare (following k) (following_blind k) m t,
        end_bare (λ x. ltb x k) w,
        found_bare (λ s. ltb s.entry.key k) (λ s. ap (λ x. ltb x k) (keeps s.entry)) w.passed,
      )
      (prev_by_bare w (end_if (λ x. ltb x k) w) (last_such (λ s. ltb s.entry.key k) w.passed))

  gap_bare : (m k : ℕ) (t : Tree) → rows_of (gap m k (bare t)).ways ≡ rows_of (gap m k t).ways
  unfolding gap
  gap_bare m k t = rw (has_bare m k t, prev_bare m k t, next_bare m k t) (either (has m k t).answer)
    where
      either : (q : Perhaps Found)
          → rows_of (gap_by k (bare_reading (prev m k t)) (bare_reading (next m k t)) (bare_found q) (bare_ways (has m k t).ways)).ways
          ≡ rows_of (gap_by k (prev m k t) (next m k t) q (has m k t).ways).ways
      either (such x) = rows_of_bare (has m k t).ways
      either no_such = rw (← bare_append (prev m k t).ways (next m k t).ways) (rows_of_bare ((prev m k t).ways ++ (next m k t).ways))

  steps_append : (ss us : List Step) → bare_steps (ss ++ us) ≡ bare_steps ss ++ bare_steps us
  steps_append [] us = refl
  steps_append (s ∷ ss) us = ap (λ vs. bare_step s ∷ vs) (steps_append ss us)

  joined_rows_bare : (w v : Way) → rows (joined (bare_way w) (bare_way v)) ≡ rows (joined w v)
  unfolding joined
  joined_rows_bare w v = rw (← steps_append w.passed v.passed) (rows_bare (joined w v))

  adding_bare : (m : ℕ) (e : Entry) (t : Tree) → rows (adding m e (bare t)).rows_read ≡ rows (adding m e t).rows_read
  unfolding adding
  adding_bare m e t =
      let w : Way = way (following e.key) m t in
      rw (
        way_bare (following e.key) (following_blind e.key) m t,
        way_bare pushing pushing_blind w.bits w.end,
        ends_bare e.key w,
      )
      (either w (way pushing w.bits w.end) (way_ends_at e.key w))
    where
      either : (w push : Way) (b : Bool)
          → rows (adding_by e (bare_way w) (bare_way push) (joined (bare_way w) (bare_way push)) b).rows_read
          ≡ rows (adding_by e w push (joined w push) b).rows_read
      either w push true = rows_bare w
      either w push false = joined_rows_bare w push

  erasing_bare : (m k : ℕ) (t : Tree) → rows (erasing m k (bare t)).rows_read ≡ rows (erasing m k t).rows_read
  unfolding erasing
  erasing_bare m k t =
      let w : Way = way (following k) m t in
      rw (way_bare (following k) (following_blind k) m t, way_bare (down left) (down_blind left) w.bits w.end, ends_bare k w)
      (either w (way (down left) w.bits w.end) (way_ends_at k w))
    where
      either : (w stretch : Way) (b : Bool)
          → rows (erasing_by (bare_way w) (bare_way stretch) (joined (bare_way w) (bare_way stretch)) b).rows_read
          ≡ rows (erasing_by w stretch (joined w stretch) b).rows_read
      either w stretch true = joined_rows_bare w stretch
      either w stretch false = rows_bare w

  going_bare : (s : Side) (m : ℕ) (S : List Entry) → going s m (map g S) ≡ map g (going s m S)
  unfolding going
  going_bare s m [] = refl
  going_bare s m (e ∷ S) =
      ap₂ (λ x rest. if is_side s (side m x) then g e ∷ rest else rest) (keeps e) (going_bare s m S) ∙ either (is_side s (side m e.key))
    where
      either : (b : Bool)
          → (if b then g e ∷ map g (going s m S) else map g (going s m S)) ≡ map g (if b then e ∷ going s m S else going s m S)
      either true = refl
      either false = refl

  set_bare : (m : ℕ) (S : List Entry) → bare (tree_of m S) ≡ tree_of m (map g S)
  unfolding relabelled tree_of
  set_bare zero [] = refl
  set_bare zero (e ∷ S) = refl
  set_bare (suc m) [] = refl
  set_bare (suc m) (e ∷ S) =
      rw (going_bare left m S, going_bare right m S) (ap₂ (row 0 (g e)) (set_bare m (going left m S)) (set_bare m (going right m S)))

-- every call reads as many rows of the relabelled tree
module _ (m : ℕ) where
  pub way_sees : (f : Rule) → Blind f → SeesWords (λ t. rows (way f m t))
  way_sees f blind g keeps t = rw (way_bare g keeps f blind m t) (rows_bare g keeps (way f m t))

  pub has_sees : (k : ℕ) → SeesWords (λ t. rows_of (has m k t).ways)
  has_sees k g keeps t = rw (has_bare g keeps m k t) (rows_of_bare g keeps (has m k t).ways)

  pub next_sees : (k : ℕ) → SeesWords (λ t. rows_of (next m k t).ways)
  next_sees k g keeps t = rw (next_bare g keeps m k t) (rows_of_bare g keeps (next m k t).ways)

  pub prev_sees : (k : ℕ) → SeesWords (λ t. rows_of (prev m k t).ways)
  prev_sees k g keeps t = rw (prev_bare g keeps m k t) (rows_of_bare g keeps (prev m k t).ways)

  pub gap_sees : (k : ℕ) → SeesWords (λ t. rows_of (gap m k t).ways)
  gap_sees k g keeps t = gap_bare g keeps m k t

  pub first_sees : SeesWords (λ t. rows_of (first m t).ways)
  unfolding first
  first_sees g keeps t =
      ap (λ r. rows_of r.ways) (to_end_bare g keeps [] staying staying_blind m t) ∙ rows_of_bare g keeps (way staying m t ∷ [])

  pub last_sees : SeesWords (λ t. rows_of (last m t).ways)
  unfolding last
  last_sees g keeps t =
      ap (λ r. rows_of r.ways) (to_end_bare g keeps [] (down right) (down_blind right) m t) ∙ rows_of_bare g keeps (way (down right) m t ∷ [])

  pub adding_sees : (e : Entry) → SeesWords (λ t. rows (adding m e t).rows_read)
  adding_sees e g keeps t = adding_bare g keeps m e t

  pub erasing_sees : (k : ℕ) → SeesWords (λ t. rows (erasing m k t).rows_read)
  erasing_sees k g keeps t = erasing_bare g keeps m k t

-- relabelling with the same entries only removes the row numbers
numbers_only : (t : Tree) → relabelled (λ e. e) t ≡ unnumbered t
unfolding relabelled unnumbered
numbers_only none = refl
numbers_only (row i e l r) = ap₂ (row 0 e) (numbers_only l) (numbers_only r)
numbers_only damaged = refl

abbrev without_serial : Entry → Entry
without_serial e = record { key = e.key; serial = 0 }

-- two sets of the same words are equal once the serials are removed
same_without : (S S' : List Entry) → words S ≡ words S' → map without_serial S ≡ map without_serial S'
same_without [] [] same = refl
same_without [] (e ∷ S') same = cc
same_without (e ∷ S) [] same = cc
same_without (e ∷ S) (e' ∷ S') same =
    let heads : e.key ≡ e'.key = cc in
    let tails : words S ≡ words S' = cc in
    ap₂ ◌∷◌ (ap (λ k. record { key = k; serial = 0 }) heads) (same_without S S' tails)

module _ {A : Type 0} (f : Tree → A) (sees : SeesWords f) where
  pub numbers_unseen : (t : Tree) → f (unnumbered t) ≡ f t
  numbers_unseen t = rw (← numbers_only t) (sees (λ e. e) (λ e. refl) t)

  -- what sees only words is the same over a proper tree and over the PreTree of its entries
  on_its_set : (m path low : ℕ) (t : Tree) → Proper m path low t → f (tree_of m (entries t)) ≡ f t
  on_its_set m path low t h = rw (one_tree m path low t h) at (numbers_unseen t)

  -- it is the same over the PreTrees of two sets of the same words
  pub on_same_words : (m : ℕ) (S S' : List Entry) → words S ≡ words S' → f (tree_of m S) ≡ f (tree_of m S')
  on_same_words m S S' same =
      sym (sees without_serial (λ e. refl) (tree_of m S))
      ∙ ap f (set_bare without_serial (λ e. refl) m S ∙ ap (tree_of m) (same_without S S' same) ∙ sym (set_bare without_serial (λ e. refl) m S'))
      ∙ sees without_serial (λ e. refl) (tree_of m S')
