-- A call over a pruned tree meets damage if and only if the same call over the whole tree reads a bad row. (`Pruned Bad σ t t'`: t' is the
-- tree t with damage in place of each bad row. Row i of t has the number σ i in t'.)
use Prim.Native.Nat.{ℕ, zero, suc}
use mathlib.Core.Path.{◌≡◌, refl, sym, ap}
use mathlib.Core.Logic.{inl, inr}
use mathlib.Core.Bool.{Bool, true, false, false≢true, ◌&&◌}
use mathlib.Core.List.Memᴰ
use mathlib.Core.List.{List, [], ◌∷◌, ◌++◌, map}
use lib.Dec.{ltb, eqb}
use Rattle.std.specs.Prelude.{if◌then◌else◌}
use Rattle.ordered.specs.Such.{Perhaps, no_such, such, first_of, only_if, last_such}
use Rattle.ordered.specs.Word.{Side, left, right, is_side}
use Rattle.ordered.specs.Source004.{◌∈◌, Whether}
use Rattle.ordered.specs.Dictionary.{Entry}
use Rattle.ordered.specs.Tree.{Tree, none, row, damaged, exists}
use Rattle.ordered.specs.Way.{Step, Way, Rule, Turn, stop, to, way, end_number, read_on, is_damaged, broken, passing, turning, joined, following, passing_equal, pushing, down, staying}
use Rattle.ordered.specs.Reading.{Found, passed_row, Reading, read_of, broken_in, root_row, end_row, end_if, word_in, to_its_end, has, skipped_right, right_child, next_by, next, skipped_left, prev_by, prev, first, last, gap_by, gap}
use Rattle.ordered.specs.Change.{Adding, Erasing, way_ends_at, number_at, adding_by, adding, erasing_by, erasing}
use Rattle.ordered.proofs.Ways.{step, Blind, following_blind, passing_equal_blind, pushing_blind, staying_blind, down_blind}

-- some number of the list is bad
abbrev pub Some : (ℕ → Type 0) → List ℕ → Type 0
Some Bad is = (i : ℕ) × (i ∈ is) × Bad i

-- the ways vs meet damage if and only if the ways ws read a bad row
abbrev pub BreaksExactly : (ℕ → Type 0) → List Way → List Way → Type 0
BreaksExactly Bad ws vs = Whether (Some Bad (read_of ws)) (broken_in vs)

abbrev way_to : List Step → ℕ → Tree → Way
way_to ss m t = record { passed = ss; bits = m; end = t }

module _ (Bad : ℕ → Type 0) (σ : ℕ → ℕ) where
  pub data Pruned : Tree → Tree → Type 0 where
    empty : Pruned none none
    kept : {i : ℕ} {e : Entry} {l r l' r' : Tree} → ¬ Bad i → Pruned l l' → Pruned r r' → Pruned (row i e l r) (row (σ i) e l' r')
    cut : {i : ℕ} {e : Entry} {l r : Tree} → Bad i → Pruned (row i e l r) damaged

  data Beside : Step → Step → Type 0 where
    beside :
        {m i : ℕ} {e : Entry} {l r l' r' : Tree} {s : Side} → ¬ Bad i → Pruned l l' → Pruned r r'
        → Beside (step m i e l r s) (step m (σ i) e l' r' s)

  data Steps : List Step → List Step → Type 0 where
    no_steps : Steps [] []
    steps : {s s' : Step} {ss ss' : List Step} → Beside s s' → Steps ss ss' → Steps (s ∷ ss) (s' ∷ ss')

  data FindAlike : Perhaps Step → Perhaps Step → Type 0 where
    neither : FindAlike no_such no_such
    both : {s s' : Step} → Beside s s' → FindAlike (such s) (such s')

  -- a way over the whole tree and one over the pruned tree: the first reads a bad row and the second meets damage, or both pass the same
  -- rows and end alike
  data GoesAlike : Way → Way → Type 0 where
    breaks : {w : Way} {ss : List Step} {m : ℕ} → Some Bad (read_on w) → GoesAlike w (way_to ss m damaged)
    ends :
        {ss ss' : List Step} {m : ℕ} {t t' : Tree} → Steps ss ss' → Pruned t t' → is_damaged t' ≡ false
        → GoesAlike (way_to ss m t) (way_to ss' m t')

  -- `GoesAlike` for all ways of a call. After a way that meets damage the remaining ways may differ.
  data AllGoAlike : List Way → List Way → Type 0 where
    no_ways : AllGoAlike [] []
    one_way : {w v : Way} {ws vs : List Way} → GoesAlike w v → AllGoAlike ws vs → AllGoAlike (w ∷ ws) (v ∷ vs)
    cut_off : {w : Way} {ss : List Step} {m : ℕ} {ws vs : List Way} → Some Bad (read_on w) → AllGoAlike (w ∷ ws) (way_to ss m damaged ∷ vs)

-- The law for one way, for `add` and for `del`. If the second way meets no damage, both also end alike.
pub record CutWay (Bad : ℕ → Type 0) (σ : ℕ → ℕ) (w v : Way) : Type 0 where
  pub exactly : BreaksExactly Bad (w ∷ []) (v ∷ [])
  pub same_row : broken v ≡ false → end_row w ≡ end_row v
  pub same_number : broken v ≡ false → σ (number_at w.end) ≡ number_at v.end

pub record CutAdding (Bad : ℕ → Type 0) (a a' : Adding) : Type 0 where
  pub exactly : BreaksExactly Bad (a.rows_read ∷ []) (a'.rows_read ∷ [])
  pub same_presence : broken a'.rows_read ≡ false → a.present ≡ a'.present

pub record CutErasing (Bad : ℕ → Type 0) (σ : ℕ → ℕ) (a a' : Erasing) : Type 0 where
  pub exactly : BreaksExactly Bad (a.rows_read ∷ []) (a'.rows_read ∷ [])
  pub same_presence : broken a'.rows_read ≡ false → a.present ≡ a'.present
  pub same_hole : broken a'.rows_read ≡ false → σ a.hole ≡ a'.hole

-- every way reads the row where it begins
start_read : (f : Rule) (m : ℕ) (t : Tree) {i : ℕ} → i ∈ end_number t → i ∈ read_on (way f m t)
unfolding way read_on
start_read f m none there = absurd (Memᴰ.not-nil there)
start_read f m damaged there = absurd (Memᴰ.not-nil there)
start_read f zero (row j e l r) there = there
start_read f (suc m) (row j e l r) (Memᴰ.tail there) = elim there [ ]
start_read f (suc m) (row j e l r) {i} (Memᴰ.head same) = turned (f m e l r)
  where
    turned : (c : Turn) → i ∈ read_on (turning (way f m) m j e l r c)
    turned stop = Memᴰ.head same
    turned (to s) = Memᴰ.head same

at_damage : (f : Rule) (m : ℕ) → way f m damaged ≡ way_to [] m damaged
unfolding way
at_damage f zero = refl
at_damage f (suc m) = refl

abbrev next_found_from : ℕ → Way → Reading Found
next_found_from k w = next_by w (end_if (ltb k) w) (last_such skipped_right w.passed)

abbrev lower_key : ℕ → Step → Bool
lower_key k s = ltb s.entry.key k

abbrev prev_from : ℕ → Way → Reading Found
prev_from k w = prev_by w (end_if (λ x. ltb x k) w) (last_such (lower_key k) w.passed)

abbrev gap_from : ℕ → Way → Reading Found → Reading ℕ
gap_from k w after = gap_by k (prev_from k w) after (end_if (eqb k) w) (w ∷ [])

-- a way that goes on from its end by another rule
abbrev onward : Rule → Way → Way
onward g w = joined w (way g w.bits w.end)

abbrev adding_from : Entry → Way → Bool → Adding
adding_from e w = adding_by e w (way pushing w.bits w.end) (onward pushing w)

abbrev erasing_from : Way → Bool → Erasing
erasing_from w = erasing_by w (way (down left) w.bits w.end) (onward (down left) w)

-- w is the first of the ways ws
abbrev Led : Way → List Way → Type 0
Led w ws = (rest : List Way) × (ws ≡ w ∷ rest)

next_led : (k : ℕ) (w : Way) → Led w (next_found_from k w).ways
next_led k w = led (end_if (ltb k) w) (last_such skipped_right w.passed)
  where
    led : (q : Perhaps Found) (p : Perhaps Step) → Led w (next_by w q p).ways
    led (such x) p = ([], refl)
    led no_such p = (right_child p ∷ [], refl)

prev_led : (k : ℕ) (w : Way) → Led w (prev_from k w).ways
prev_led k w = led (end_if (λ x. ltb x k) w) (last_such (lower_key k) w.passed)
  where
    led : (q : Perhaps Found) (p : Perhaps Step) → Led w (prev_by w q p).ways
    led (such x) p = ([], refl)
    led no_such no_such = ([], refl)
    led no_such (such p) = either (skipped_left p)
      where
        d : Way
        d = way (down right) p.below p.left_part

        either : (b : Bool) → Led w (if b then to_its_end (w ∷ []) d else record { ways = w ∷ []; answer = such (passed_row p) }).ways
        either true = (d ∷ [], refl)
        either false = ([], refl)

gap_led : (k : ℕ) (w : Way) (after : Reading Found) → Led w (gap_from k w after).ways
gap_led k w after = led (end_if (eqb k) w)
  where
    led : (q : Perhaps Found) → Led w (gap_by k (prev_from k w) after q (w ∷ [])).ways
    led (such x) = ([], refl)
    led no_such = let (rest, e) = prev_led k w in (rest ++ after.ways, rw e)

module _ {Bad : ℕ → Type 0} where
  -- a bad row on a way is also on the way continued
  bad_onward : (g : Rule) (w : Way) → Some Bad (read_on w) → Some Bad (read_on (onward g w))
  unfolding read_on joined
  bad_onward g w (i, there, bad) = (i, still w.passed there, bad)
    where
      still : (ss : List Step) → i ∈ read_on (way_to ss w.bits w.end) → i ∈ read_on (onward g (way_to ss w.bits w.end))
      still [] there = start_read g w.bits w.end there
      still (s ∷ ss) (Memᴰ.head same) = Memᴰ.head same
      still (s ∷ ss) (Memᴰ.tail there) = Memᴰ.tail (still ss there)

  none_empty : ¬ Some Bad []
  none_empty (i, there, bad) = Memᴰ.not-nil there

  none_cons : {i : ℕ} {is : List ℕ} → ¬ Bad i → ¬ Some Bad is → ¬ Some Bad (i ∷ is)
  none_cons good rest (j, Memᴰ.head same, bad) = good (rw same at bad)
  none_cons good rest (j, Memᴰ.tail there, bad) = rest (j, there, bad)

  -- a list without bad numbers can be left out
  skip_good : (is js : List ℕ) {b : Bool} → ¬ Some Bad is → Whether (Some Bad js) b → Whether (Some Bad (is ++ js)) b
  skip_good is js {b} good w = (λ e. behind (w.0 e), further)
    where
      behind : Some Bad js → Some Bad (is ++ js)
      behind (i, there, bad) = (i, Memᴰ.append_right is there, bad)

      further : Some Bad (is ++ js) → b ≡ true
      further (i, there, bad) =
          elim (Memᴰ.append_cases is there) [ inl here ↦ absurd (good (i, here, bad)) | inr after ↦ w.1 (i, after, bad) ]

module _ {Bad : ℕ → Type 0} {σ : ℕ → ℕ} where
  exists_same : {t t' : Tree} → Pruned Bad σ t t' → exists t' ≡ exists t
  exists_same empty = refl
  exists_same (kept good lefts rights) = refl
  exists_same (cut bad) = refl

  passing_alike : {s s' : Step} {w v : Way} → Beside Bad σ s s' → GoesAlike Bad σ w v → GoesAlike Bad σ (passing s w) (passing s' v)
  unfolding read_on
  passing_alike b (breaks (i, there, bad)) = breaks (i, Memᴰ.tail there, bad)
  passing_alike b (ends ss end whole) = ends (steps b ss) end whole

  -- if the pruned tree is not damage, the root of the whole tree is not bad
  end_good : {t t' : Tree} → Pruned Bad σ t t' → is_damaged t' ≡ false → ¬ Some Bad (end_number t)
  end_good empty whole = none_empty
  end_good (kept good lefts rights) whole = none_cons good none_empty
  end_good (cut bad) whole = absurd (false≢true (sym whole))

  row_same : (m : ℕ) {t t' : Tree} → Pruned Bad σ t t' → is_damaged t' ≡ false → root_row m t' ≡ root_row m t
  row_same m empty whole = refl
  row_same m (kept good lefts rights) whole = refl
  row_same m (cut bad) whole = absurd (false≢true (sym whole))

  number_same : {t t' : Tree} → σ 0 ≡ 0 → Pruned Bad σ t t' → is_damaged t' ≡ false → number_at t' ≡ σ (number_at t)
  number_same zero_same empty whole = sym zero_same
  number_same zero_same (kept good lefts rights) whole = refl
  number_same zero_same (cut bad) whole = absurd (false≢true (sym whole))

  -- the law for one way, for every rule
  goes_alike : (f : Rule) → Blind f → (m : ℕ) {t t' : Tree} → Pruned Bad σ t t' → GoesAlike Bad σ (way f m t) (way f m t')
  unfolding way
  goes_alike f blind zero empty = ends no_steps empty refl
  goes_alike f blind zero (kept good lefts rights) = ends no_steps (kept good lefts rights) refl
  goes_alike f blind zero (cut {i} {e} {l} {r} bad) = breaks (i, start_read f zero (row i e l r) (Memᴰ.head refl), bad)
  goes_alike f blind (suc m) empty = ends no_steps empty refl
  goes_alike f blind (suc m) (kept {i} {e} {l} {r} {l'} {r'} good lefts rights) =
      rw (blind m e e l r l' r' refl (exists_same lefts) (exists_same rights))
      (turned (f m e l r) (goes_alike f blind m lefts) (goes_alike f blind m rights))
    where
      turned : (c : Turn) → GoesAlike Bad σ (way f m l) (way f m l') → GoesAlike Bad σ (way f m r) (way f m r')
          → GoesAlike Bad σ (turning (way f m) m i e l r c) (turning (way f m) m (σ i) e l' r' c)
      turned stop on_left on_right = ends no_steps (kept good lefts rights) refl
      turned (to left) on_left on_right = passing_alike (beside good lefts rights) on_left
      turned (to right) on_left on_right = passing_alike (beside good lefts rights) on_right
  goes_alike f blind (suc m) (cut {i} {e} {l} {r} bad) = breaks (i, start_read f (suc m) (row i e l r) (Memᴰ.head refl), bad)

  joined_alike : {ss ss' : List Step} (m : ℕ) (t t' : Tree) {w v : Way} → Steps Bad σ ss ss' → GoesAlike Bad σ w v
      → GoesAlike Bad σ (joined (way_to ss m t) w) (joined (way_to ss' m t') v)
  unfolding joined
  joined_alike m t t' no_steps g = g
  joined_alike m t t' (steps b ss) g = passing_alike b (joined_alike m t t' ss g)

  onward_alike : (g : Rule) → Blind g → {w v : Way} → GoesAlike Bad σ w v → GoesAlike Bad σ (onward g w) (onward g v)
  unfolding joined
  onward_alike g blind (breaks {w} {m} bad) = rw (at_damage g m) (breaks (bad_onward g w bad))
  onward_alike g blind (ends {m} {t} {t'} ss end whole) = joined_alike m t t' ss (goes_alike g blind m end)

  none_bad : {ss ss' : List Step} {is : List ℕ} → Steps Bad σ ss ss' → ¬ Some Bad is → ¬ Some Bad (map (λ s. s.at) ss ++ is)
  none_bad no_steps rest = rest
  none_bad (steps (beside good lefts rights) ss) rest = none_cons good (none_bad ss rest)

  ways_tested : {ws vs : List Way} → AllGoAlike Bad σ ws vs → BreaksExactly Bad ws vs
  unfolding read_of read_on broken_in broken
  ways_tested no_ways = (λ e. absurd (false≢true e), λ some. absurd (none_empty some))
  ways_tested (cut_off {ws} (i, there, bad)) = (λ e. (i, Memᴰ.append_left (read_of ws) there, bad), λ some. refl)
  ways_tested (one_way {ws} (breaks (i, there, bad)) rest) = (λ e. (i, Memᴰ.append_left (read_of ws) there, bad), λ some. refl)
  ways_tested (one_way {w} {ws} (ends ss end whole) rest) =
      rw whole (skip_good (read_on w) (read_of ws) (none_bad ss (end_good end whole)) (ways_tested rest))

  one_tested : {w v : Way} → GoesAlike Bad σ w v → BreaksExactly Bad (w ∷ []) (v ∷ [])
  one_tested g = ways_tested (one_way g no_ways)

  ways_append : {ws vs ws' vs' : List Way} → AllGoAlike Bad σ ws vs → AllGoAlike Bad σ ws' vs' → AllGoAlike Bad σ (ws ++ ws') (vs ++ vs')
  ways_append no_ways rest = rest
  ways_append (one_way g gs) rest = one_way g (ways_append gs rest)
  ways_append (cut_off bad) rest = cut_off bad

  cut_first : {w : Way} {ss : List Step} {m : ℕ} {ws vs : List Way} → Some Bad (read_on w) → Led w ws → Led (way_to ss m damaged) vs
      → AllGoAlike Bad σ ws vs
  cut_first bad (rest, e) (rest', e') = rw (e, e') (cut_off bad)

  -- both ways find the same last row that passes a test
  found : (p : Step → Bool) → ((s s' : Step) → Beside Bad σ s s' → p s' ≡ p s) → {ss ss' : List Step} → Steps Bad σ ss ss'
      → FindAlike Bad σ (last_such p ss) (last_such p ss')
  unfolding last_such
  found p same no_steps = neither
  found p same (steps {s} {s'} b rest) = rw (same s s' b) (either (found p same rest) (p s))
    where
      either : {q q' : Perhaps Step} → FindAlike Bad σ q q' → (c : Bool)
          → FindAlike Bad σ (first_of q (if c then such s else no_such)) (first_of q' (if c then such s' else no_such))
      either neither true = both b
      either neither false = neither
      either (both b') c = both b'

  next_by_alike : {w v : Way} {p p' : Perhaps Step} → GoesAlike Bad σ w v → (q : Perhaps Found) → FindAlike Bad σ p p'
      → AllGoAlike Bad σ (next_by w q p).ways (next_by v q p').ways
  next_by_alike g (such x) f = one_way g no_ways
  next_by_alike g no_such neither = one_way g (one_way (ends no_steps empty refl) no_ways)
  next_by_alike g no_such (both (beside {m} good lefts rights)) = one_way g (one_way (goes_alike staying staying_blind m rights) no_ways)

  prev_by_alike : {w v : Way} {p p' : Perhaps Step} → GoesAlike Bad σ w v → (q : Perhaps Found) → FindAlike Bad σ p p'
      → AllGoAlike Bad σ (prev_by w q p).ways (prev_by v q p').ways
  prev_by_alike g (such x) f = one_way g no_ways
  prev_by_alike g no_such neither = one_way g no_ways
  prev_by_alike {w} {v} g no_such (both (beside {m} {e} {l} {l'} {s} good lefts rights)) =
      rw (exists_same lefts) (either (is_side right s && exists l))
    where
      aside : Bool → Way → Tree → Reading Found
      aside b w t = if b then to_its_end (w ∷ []) (way (down right) m t) else record { ways = w ∷ []; answer = such (record { entry = e; bits = suc m }) }

      either : (b : Bool) → AllGoAlike Bad σ (aside b w l).ways (aside b v l').ways
      either true = one_way g (one_way (goes_alike (down right) (down_blind right) m lefts) no_ways)
      either false = one_way g no_ways

  -- the laws of the calls, over trees with m bits left
  module _ (m : ℕ) {t t' : Tree} (pruned : Pruned Bad σ t t') where
    pub first_tested : BreaksExactly Bad (first m t).ways (first m t').ways
    unfolding first
    first_tested = one_tested (goes_alike staying staying_blind m pruned)

    pub last_tested : BreaksExactly Bad (last m t).ways (last m t').ways
    unfolding last
    last_tested = one_tested (goes_alike (down right) (down_blind right) m pruned)

    pub adding_tested : (e : Entry) → CutAdding Bad (adding m e t) (adding m e t')
    unfolding adding joined broken
    adding_tested e = by_way (goes_alike (following e.key) (following_blind e.key) m pruned)
      where
        by_way : {w v : Way} → GoesAlike Bad σ w v → CutAdding Bad (adding_from e w (way_ends_at e.key w)) (adding_from e v (way_ends_at e.key v))
        by_way (breaks {w} {ss} {m} bad) = rw (at_damage pushing m) (either (way_ends_at e.key w))
          where
            either : (b : Bool)
                → CutAdding Bad (adding_from e w b) (adding_by e (way_to ss m damaged) (way_to [] m damaged) (way_to (ss ++ []) m damaged) false)
            either true = record { exactly = one_tested (breaks bad); same_presence = λ unbroken. absurd (false≢true (sym unbroken)) }
            either false =
                record { exactly = one_tested (breaks (bad_onward pushing w bad)); same_presence = λ unbroken. absurd (false≢true (sym unbroken)) }
        by_way {w} {v} (ends {m} ss end whole) = rw (row_same m end whole) (either (way_ends_at e.key w))
          where
            either : (b : Bool) → CutAdding Bad (adding_from e w b) (adding_from e v b)
            either true = record { exactly = one_tested (ends ss end whole); same_presence = λ unbroken. refl }
            either false = record { exactly = one_tested (onward_alike pushing pushing_blind (ends ss end whole)); same_presence = λ unbroken. refl }

    module _ (k : ℕ) where
      the_way : GoesAlike Bad σ (way (following k) m t) (way (following k) m t')
      the_way = goes_alike (following k) (following_blind k) m pruned

      next_alike : AllGoAlike Bad σ (next m k t).ways (next m k t').ways
      unfolding next
      next_alike = by_way (goes_alike (passing_equal k) (passing_equal_blind k) m pruned)
        where
          sought : {ss ss' : List Step} → Steps Bad σ ss ss' → FindAlike Bad σ (last_such skipped_right ss) (last_such skipped_right ss')
          sought = found skipped_right same
            where
              same : (s s' : Step) → Beside Bad σ s s' → skipped_right s' ≡ skipped_right s
              same s s' (beside good lefts rights) = rw (exists_same rights)

          by_way : {w v : Way} → GoesAlike Bad σ w v → AllGoAlike Bad σ (next_found_from k w).ways (next_found_from k v).ways
          by_way (breaks {w} {ss} {m} bad) = cut_first bad (next_led k w) (next_led k (way_to ss m damaged))
          by_way (ends {m} {t} ss end whole) =
              rw (row_same m end whole) (next_by_alike (ends ss end whole) (only_if (λ f. ltb k (word_in f)) (root_row m t)) (sought ss))

      prev_alike : AllGoAlike Bad σ (prev m k t).ways (prev m k t').ways
      unfolding prev
      prev_alike = by_way the_way
        where
          sought : {ss ss' : List Step} → Steps Bad σ ss ss' → FindAlike Bad σ (last_such (lower_key k) ss) (last_such (lower_key k) ss')
          sought = found (lower_key k) same
            where
              same : (s s' : Step) → Beside Bad σ s s' → lower_key k s' ≡ lower_key k s
              same s s' (beside good lefts rights) = refl

          by_way : {w v : Way} → GoesAlike Bad σ w v → AllGoAlike Bad σ (prev_from k w).ways (prev_from k v).ways
          by_way (breaks {w} {ss} {m} bad) = cut_first bad (prev_led k w) (prev_led k (way_to ss m damaged))
          by_way (ends {m} {t} ss end whole) =
              rw (row_same m end whole) (prev_by_alike (ends ss end whole) (only_if (λ f. ltb (word_in f) k) (root_row m t)) (sought ss))

      gap_alike : AllGoAlike Bad σ (gap m k t).ways (gap m k t').ways
      unfolding gap has prev
      gap_alike = by_way the_way prev_alike
        where
          by_way : {w v : Way} → GoesAlike Bad σ w v → AllGoAlike Bad σ (prev_from k w).ways (prev_from k v).ways
              → AllGoAlike Bad σ (gap_from k w (next m k t)).ways (gap_from k v (next m k t')).ways
          by_way (breaks {w} {ss} {m = n} bad) before = cut_first bad (gap_led k w (next m k t)) (gap_led k (way_to ss n damaged) (next m k t'))
          by_way {w} {v} (ends {m = n} ss end whole) before =
              either (end_if (eqb k) w) (end_if (eqb k) v) (ap (only_if (λ f. eqb k (word_in f))) (row_same n end whole))
            where
              either : (q q' : Perhaps Found) → q' ≡ q
                  → AllGoAlike Bad σ (gap_by k (prev_from k w) (next m k t) q (w ∷ [])).ways
                  (gap_by k (prev_from k v) (next m k t') q' (v ∷ [])).ways
              either (such x) q' same = rw same (one_way (ends ss end whole) no_ways)
              either no_such q' same = rw same (ways_append before next_alike)

      pub has_tested : BreaksExactly Bad (has m k t).ways (has m k t').ways
      unfolding has
      has_tested = one_tested the_way

      pub next_tested : BreaksExactly Bad (next m k t).ways (next m k t').ways
      next_tested = ways_tested next_alike

      pub prev_tested : BreaksExactly Bad (prev m k t).ways (prev m k t').ways
      prev_tested = ways_tested prev_alike

      pub gap_tested : BreaksExactly Bad (gap m k t).ways (gap m k t').ways
      gap_tested = ways_tested gap_alike

      -- needed because `number_at` of an empty tree is 0
      module _ (zero_same : σ 0 ≡ 0) where
        cut_way : {w v : Way} → GoesAlike Bad σ w v → CutWay Bad σ w v
        unfolding broken
        cut_way (breaks {w} {ss} {m} bad) =
            record {
              exactly = one_tested (breaks bad);
              same_row = λ unbroken. absurd (false≢true (sym unbroken));
              same_number = λ unbroken. absurd (false≢true (sym unbroken));
            }
        cut_way (ends {m} ss end whole) =
            record {
              exactly = one_tested (ends ss end whole);
              same_row = λ unbroken. sym (row_same m end whole);
              same_number = λ unbroken. sym (number_same zero_same end whole);
            }

        pub way_tested : CutWay Bad σ (way (following k) m t) (way (following k) m t')
        way_tested = cut_way the_way

        pub erasing_tested : CutErasing Bad σ (erasing m k t) (erasing m k t')
        unfolding erasing joined broken
        erasing_tested = by_way the_way
          where
            by_way : {w v : Way} → GoesAlike Bad σ w v → CutErasing Bad σ (erasing_from w (way_ends_at k w)) (erasing_from v (way_ends_at k v))
            by_way (breaks {w} {ss} {m} bad) = either (way_ends_at k w)
              where
                broke : {a : Erasing} → Some Bad (read_on a.rows_read) → CutErasing Bad σ a (erasing_from (way_to ss m damaged) false)
                broke bad =
                    record {
                      exactly = one_tested (breaks bad);
                      same_presence = λ unbroken. absurd (false≢true (sym unbroken));
                      same_hole = λ unbroken. absurd (false≢true (sym unbroken));
                    }

                either : (b : Bool) → CutErasing Bad σ (erasing_from w b) (erasing_from (way_to ss m damaged) false)
                either true = broke (bad_onward (down left) w bad)
                either false = broke bad
            by_way {w} {v} (ends {m} ss end whole) = rw (row_same m end whole) (either (way_ends_at k w))
              where
                either : (b : Bool) → CutErasing Bad σ (erasing_from w b) (erasing_from v b)
                either true =
                    record {
                      exactly = one_tested (onward_alike (down left) (down_blind left) (ends ss end whole));
                      same_presence = λ unbroken. refl;
                      same_hole = (cut_way (goes_alike (down left) (down_blind left) m end)).same_number;
                    }
                either false =
                    record { exactly = one_tested (ends ss end whole); same_presence = λ unbroken. refl; same_hole = λ unbroken. zero_same }
