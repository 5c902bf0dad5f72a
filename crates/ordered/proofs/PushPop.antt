-- Push and pop. After a push or an erase a proper part is still proper. A push puts one entry before all others, and an erase removes the
-- first entry.
use Prim.Native.Nat.{ℕ, zero, suc, ◌+◌, ◌*◌, ◌/◌, ◌^◌, ◌≤◌, ◌<◌}
use mathlib.Core.Path.{◌≡◌, refl, ap}
use mathlib.Core.Bool.{Bool, true, false}
use mathlib.Core.List.{List, [], ◌∷◌, ◌++◌}
use native.Mathlib.Nat.{le_refl}
use native.Mathlib.Omega.{arith}
use Rattle.std.specs.Prelude.{if◌then◌else◌}
use Rattle.ordered.specs.Word.{Side, left, right, bit_of, side, other}
use Rattle.ordered.specs.Dictionary.{Entry}
use Rattle.ordered.specs.Tree.{Tree, none, row, damaged, part, exists, entries}
use Rattle.ordered.specs.Proper.{Fitting, Proper}
use Rattle.ordered.specs.Way.{Step, Way, Rule, stop, to, way, pushing, down}
use Rattle.ordered.specs.Change.{Take, pushed, raised, left_over, entry_at}
use Rattle.ordered.specs.Grown.{linking, chained, shifted, entry_below, lifted, pushed_tree, popped_tree}
use Rattle.ordered.proofs.Bits.{to_part, from_part, left_below_right, whole_path}
use Rattle.ordered.proofs.Parts.{AllWords, none_all, one_all, all_map}
use Rattle.ordered.proofs.OneTree.{by_rows, keys_fit}
use Rattle.ordered.proofs.Ways.{at_bottom, at_none, at_damage, at_stop, AtEnd, Onward, along}

proper_none : (m path low : ℕ) → Proper m path low none
unfolding Proper
proper_none zero path low = tt
proper_none (suc m) path low = tt

-- a row without parts
proper_leaf : (m path low n : ℕ) (e : Entry) → Fitting m path low e.key → Proper m path low (row n e none none)
unfolding Proper
proper_leaf zero path low n e fits = record { key_fits = fits; parts = elim [ left ↦ refl | right ↦ refl ] }
proper_leaf (suc m) path low n e fits =
    let none_there : (s : Side) → Proper m (path * 2 + bit_of s) (suc e.key) none =
    λ s. proper_none m (path * 2 + bit_of s) (suc e.key) in
    record { key_fits = fits; parts = elim [ left ↦ none_there left | right ↦ none_there right ] }

-- a row with its part on side s replaced
pub linking_proper : (m path low i : ℕ) (e : Entry) (s : Side) (l r t : Tree) → Fitting (suc m) path low e.key
    → Proper m (path * 2 + bit_of (other s)) (suc e.key) (part (other s) l r)
    → Proper m (path * 2 + bit_of s) (suc e.key) t → Proper (suc m) path low (linking i e s l r t)
unfolding Proper
linking_proper m path low i e left l r t fits beside h = record { key_fits = fits; parts = elim [ left ↦ h | right ↦ beside ] }
linking_proper m path low i e right l r t fits beside h = record { key_fits = fits; parts = elim [ left ↦ beside | right ↦ h ] }

-- `low` may be any number that is not greater than any key
pub proper_from : (m path low low' : ℕ) (t : Tree) → Proper m path low t → AllWords (λ x. low' ≤ x) (entries t) → Proper m path low' t
unfolding Proper entries
proper_from m path low low' t h from =
    by_rows (λ m path low t. AllWords (λ x. low' ≤ x) (entries t) → Proper m path low' t) (λ m path low from. proper_none m path low')
    (λ path low i e fits from. proper_leaf zero path low' i e (still fits from))
    (λ m path low i e l r fits parts below from. record { key_fits = still fits from; parts = parts }) m path low t h from
  where
    still : {m path low : ℕ} {e : Entry} {es : List Entry} → Fitting m path low e.key → AllWords (λ x. low' ≤ x) (e ∷ es)
        → Fitting m path low' e.key
    still fits (one_all from rest) = record { not_below = from; on_path = fits.on_path }

pub proper_lower : (m path low low' : ℕ) (t : Tree) → low' ≤ low → Proper m path low t → Proper m path low' t
proper_lower m path low low' t less h =
    proper_from m path low low' t h (all_map (λ x f. omega (arith, f.not_below)) (keys_fit m path low t h))

-- nothing in a left part is greater than a word that goes right
none_left : (m path k : ℕ) {xs : List Entry} → k / 2 ^ m ≡ path * 2 + bit_of right
    → AllWords (Fitting m (path * 2 + bit_of left) (suc k)) xs → xs ≡ []
none_left m path k on none_all = refl
none_left m path k on (one_all {x} f fs) = absurd (omega (arith, f.not_below, left_below_right m path x.key k f.on_path on))

-- a push of an entry whose key is less than all keys of a part puts it before all other entries
Pushed : (n m : ℕ) → Tree → Way → Type 0
Pushed n m t w =
    (e : Entry) (path : ℕ) → e.key / 2 ^ m ≡ path → Proper m path (suc e.key) t
    → let g : Tree = chained (shifted e w.passed) (row n (left_over e w.passed) none none) in
    Proper m path e.key g × (entries g ≡ e ∷ entries t)

push_ends : (n : ℕ) → AtEnd pushing (Pushed n)
unfolding Pushed Proper pushing entries chained shifted left_over
push_ends n zero none at_bottom e path on h =
    (proper_leaf zero path e.key n e (record { not_below = le_refl e.key; on_path = on }), refl)
push_ends n zero (row i o l r) at_bottom e path on h =
    absurd (omega (arith, h.key_fits.not_below, h.key_fits.on_path, whole_path o.key, whole_path e.key))
push_ends n zero damaged at_bottom e path on h = absurd h
push_ends n (suc m) none at_none e path on h =
    (proper_leaf (suc m) path e.key n e (record { not_below = le_refl e.key; on_path = on }), refl)
push_ends n (suc m) damaged at_damage e path on h = absurd h
push_ends n (suc m) (row i o l r) (at_stop says) e path on h = let never : ◌≡◌ {A = ℕ} 0 1 = cc in absurd (omega arith)

push_lists : (m path i : ℕ) (o e : Entry) (s : Side) (l r g : Tree) → o.key / 2 ^ m ≡ path * 2 + bit_of s
    → Proper m (path * 2 + bit_of left) (suc o.key) l → entries g ≡ o ∷ entries (part s l r)
    → entries (linking i e s l r g) ≡ e ∷ o ∷ (entries l ++ entries r)
unfolding entries
push_lists m path i o e left l r g on h rest = ap (λ xs. e ∷ (xs ++ entries r)) rest
push_lists m path i o e right l r g on h rest =
    rw (rest, none_left m path o.key on (keys_fit m (path * 2 + bit_of left) (suc o.key) l h))

push_goes : (n : ℕ) → Onward pushing (Pushed n)
unfolding Pushed Proper pushing entries chained shifted left_over
push_goes n m i o l r s says rest e path on h =
    let turn : side m o.key ≡ s = cc in
    let w : Way = way pushing m (part s l r) in
    let g : Tree = chained (shifted o w.passed) (row n (left_over o w.passed) none none) in
    let on_side : o.key / 2 ^ m ≡ path * 2 + bit_of s = to_part m o.key path s h.key_fits.on_path turn in
    let below : Proper m (path * 2 + bit_of s) o.key g × (entries g ≡ o ∷ entries (part s l r)) =
    rest o (path * 2 + bit_of s) on_side (h.parts s) in
    let less : e.key < o.key = h.key_fits.not_below in
    let beside : Proper m (path * 2 + bit_of (other s)) (suc e.key) (part (other s) l r) =
    proper_lower m (path * 2 + bit_of (other s)) (suc o.key) (suc e.key) (part (other s) l r) (omega arith) (h.parts (other s)) in
    let there : Proper m (path * 2 + bit_of s) (suc e.key) g =
    proper_lower m (path * 2 + bit_of s) o.key (suc e.key) g less below.0 in (
      linking_proper m path e.key i e s l r g (record { not_below = le_refl e.key; on_path = on }) beside there,
      push_lists m path i o e s l r g on_side (h.parts left) below.1,
    )

push_way : (n m : ℕ) (t : Tree) → Pushed n m t (way pushing m t)
push_way n = along pushing (Pushed n) (push_ends n) (push_goes n)

module _ (n m path : ℕ) (e : Entry) (t : Tree) (on : e.key / 2 ^ m ≡ path) (h : Proper m path (suc e.key) t) where
  pub push_proper : Proper m path e.key (pushed_tree n m e t)
  unfolding pushed_tree Pushed
  push_proper = (push_way n m t e path on h).0

  pub push_entries : entries (pushed_tree n m e t) ≡ e ∷ entries t
  unfolding pushed_tree Pushed
  push_entries = (push_way n m t e path on h).1

-- the entry that a row takes from below is the root entry of the part to which the way turns
top_entry : (f : Rule) (m : ℕ) (t : Tree) → entry_below (way f m t).passed (entry_at (way f m t).end) ≡ entry_at t
top_entry f =
    along f (λ m t w. entry_below w.passed (entry_at w.end) ≡ entry_at t) (λ m t ends. refl) (λ m i e l r s says rest. refl)

top_fits : (m path low : ℕ) (t : Tree) → Proper m path low t → exists t ≡ true → Fitting m path low (entry_at t).key
top_fits =
    by_rows (λ m path low t. exists t ≡ true → Fitting m path low (entry_at t).key)
    (λ m path low there. let never : ◌≡◌ {A = ℕ} 0 1 = cc in absurd (omega arith)) (λ path low i e fits there. fits)
    (λ m path low i e l r fits parts below there. fits)

absent_link : (t : Tree) → exists t ≡ false → t ≡ none
absent_link none absent = refl
absent_link (row i e l r) absent = cc
absent_link damaged absent = cc

-- "by left link, else right link"
abbrev TurnsDown : Side → Bool → Bool → Type 0
TurnsDown left a b = a ≡ true
TurnsDown right a b = (a ≡ false) × (b ≡ true)

turns_down : (s : Side) (a b : Bool) → (if a then to left else if b then to right else stop) ≡ to s → TurnsDown s a b
turns_down left true b says = refl
turns_down left false true says = cc
turns_down left false false says = cc
turns_down right true b says = (cc, cc)
turns_down right false true says = (refl, refl)
turns_down right false false says = (refl, cc)

turned_there : (s : Side) (l r : Tree) → TurnsDown s (exists l) (exists r) → exists (part s l r) ≡ true
turned_there left l r turn = turn
turned_there right l r turn = turn.1

-- an erase removes the first entry of a part
Popped : ℕ → Tree → Way → Type 0
Popped m t w =
    (path low : ℕ) → Proper m path low t → exists t ≡ true
    → let g : Tree = chained (lifted w.passed (entry_at w.end)) none in
    Proper m path (suc (entry_at t).key) g × (entry_at t ∷ entries g ≡ entries t)

pop_ends : AtEnd (down left) Popped
unfolding Popped Proper entries down chained lifted
pop_ends zero none at_bottom path low h there = let never : ◌≡◌ {A = ℕ} 0 1 = cc in absurd (omega arith)
pop_ends zero (row i e l r) at_bottom path low h there = (tt, rw (h.parts left, h.parts right))
pop_ends zero damaged at_bottom path low h there = absurd h
pop_ends (suc m) none at_none path low h there = let never : ◌≡◌ {A = ℕ} 0 1 = cc in absurd (omega arith)
pop_ends (suc m) damaged at_damage path low h there = absurd h
pop_ends (suc m) (row i e l r) (at_stop says) path low h there = (tt, both_none (exists l) refl (exists r) refl says)
  where
    both_none : (a : Bool) → exists l ≡ a → (b : Bool) → exists r ≡ b → (if a then to left else if b then to right else stop) ≡ stop
        → e ∷ [] ≡ e ∷ (entries l ++ entries r)
    both_none true is_left b is_right says = cc
    both_none false is_left true is_right says = cc
    both_none false is_left false is_right says = rw (absent_link l is_left, absent_link r is_right)

pop_beside : (m path low : ℕ) (s : Side) (l r : Tree) → TurnsDown s (exists l) (exists r)
    → ((σ : Side) → Proper m (path * 2 + bit_of σ) low (part σ l r))
    → Proper m (path * 2 + bit_of (other s)) (suc (entry_at (part s l r)).key) (part (other s) l r)
pop_beside m path low left l r turn parts =
    let on_right : ℕ = path * 2 + bit_of right in
    let top : Fitting m (path * 2 + bit_of left) low (entry_at l).key = top_fits m (path * 2 + bit_of left) low l (parts left) turn in
    proper_from m on_right low (suc (entry_at l).key) r (parts right)
    (all_map (λ x f. left_below_right m path (entry_at l).key x.key top.on_path f.on_path) (keys_fit m on_right low r (parts right)))
pop_beside m path low right l r turn parts =
    rw (absent_link l turn.0) (proper_none m (path * 2 + bit_of left) (suc (entry_at r).key))

pop_lists : (i : ℕ) (e top : Entry) (s : Side) (l r g : Tree) → TurnsDown s (exists l) (exists r)
    → top ∷ entries g ≡ entries (part s l r) → e ∷ entries (linking i top s l r g) ≡ entries (row i e l r)
unfolding entries
pop_lists i e top left l r g turn rest = ap (λ xs. e ∷ (xs ++ entries r)) rest
pop_lists i e top right l r g turn rest = rw (absent_link l turn.0) (ap (λ xs. e ∷ xs) rest)

pop_goes : Onward (down left) Popped
unfolding Popped Proper chained lifted down
pop_goes m i e l r s says rest path low h there =
    let turn : TurnsDown s (exists l) (exists r) = turns_down s (exists l) (exists r) says in
    let some : exists (part s l r) ≡ true = turned_there s l r turn in
    let w : Way = way (down left) m (part s l r) in
    let g : Tree = chained (lifted w.passed (entry_at w.end)) none in
    let top : Entry = entry_at (part s l r) in
    let on_side : ℕ = path * 2 + bit_of s in
    let fits : Fitting m on_side (suc e.key) top.key = top_fits m on_side (suc e.key) (part s l r) (h.parts s) some in
    let own : Fitting (suc m) path (suc e.key) top.key =
    record { not_below = fits.not_below; on_path = from_part m top.key path s fits.on_path } in
    let below : Proper m on_side (suc top.key) g × (top ∷ entries g ≡ entries (part s l r)) =
    rest on_side (suc e.key) (h.parts s) some in
    rw (top_entry (down left) m (part s l r)) (
      linking_proper m path (suc e.key) i top s l r g own (pop_beside m path (suc e.key) s l r turn h.parts) below.0,
      pop_lists i e top s l r g turn below.1,
    )

pop_way : (m : ℕ) (t : Tree) → Popped m t (way (down left) m t)
pop_way = along (down left) Popped pop_ends pop_goes

module _ (m path low : ℕ) (t : Tree) (h : Proper m path low t) (there : exists t ≡ true) where
  pub pop_proper : Proper m path (suc (entry_at t).key) (popped_tree m t)
  unfolding popped_tree Popped
  pop_proper = (pop_way m t path low h there).0

  pub pop_entries : entry_at t ∷ entries (popped_tree m t) ≡ entries t
  unfolding popped_tree Popped
  pop_entries = (pop_way m t path low h there).1

-- each row with its own entry. After a push or an erase these are the entries that `pushed` and `raised` give to the rows.
abbrev pub taken_by : List Step → List Take
taken_by [] = []
taken_by (s ∷ ss) = record { at = s.at; entry = s.entry } ∷ taken_by ss

pub shifted_takes : (e : Entry) (ss : List Step) → taken_by (shifted e ss) ≡ pushed e ss
unfolding shifted pushed
shifted_takes e [] = refl
shifted_takes e (s ∷ ss) = ap (λ ts. record { at = s.at; entry = e } ∷ ts) (shifted_takes s.entry ss)

pub lifted_takes : (ss : List Step) (hole : Entry) → taken_by (lifted ss hole) ≡ raised ss hole
unfolding lifted raised
lifted_takes [] hole = refl
lifted_takes (s ∷ []) hole = refl
lifted_takes (s ∷ (t ∷ ss)) hole = ap (λ ts. record { at = s.at; entry = t.entry } ∷ ts) (lifted_takes (t ∷ ss) hole)

-- chaining two lists of rows one after the other is chaining the joined list
pub chained_append : (ss us : List Step) (t : Tree) → chained (ss ++ us) t ≡ chained ss (chained us t)
unfolding chained
chained_append [] us t = refl
chained_append (s ∷ ss) us t = ap (linking s.at s.entry s.turn s.left_part s.right_part) (chained_append ss us t)
