-- Laws for demand 2 of `del`: where an erase ends, which links its writes leave, and the words after it.
use Prim.Native.Nat.{ℕ, zero, suc, pred, ◌+◌, ◌*◌, ◌<◌}
use mathlib.Core.Path.{◌≡◌, refl, sym, ap, ◌∙◌}
use mathlib.Core.Bool.{Bool, true, false, false≢true}
use mathlib.Core.List.{List, [], ◌∷◌, ◌++◌, map, map-append}
use mathlib.Core.List.Memᴰ
use native.Mathlib.Omega.{arith}
use lib.Dec.{eqb}
use lib.ListN.{length}
use borrow.Author.Tests.{eqb-true, eqb-false, ne_eqb}
use Rattle.std.specs.Prelude.{if◌then◌else◌}
use Rattle.ordered.specs.Such.{Perhaps, no_such, such, first_of, first_such, only_if, is_there}
use Rattle.ordered.specs.Word.{Side, left, right, bit_of}
use Rattle.ordered.specs.Dictionary.{Entry, words, Increasing, none_increasing, one_increasing, delete, lookup}
use Rattle.ordered.specs.Source004.{◌∈◌}
use Rattle.ordered.specs.Tree.{Tree, none, row, damaged, part, exists, entries, listing, intact}
use Rattle.ordered.specs.Proper.{Proper}
use Rattle.ordered.specs.Way.{Step, Rule, stop, to, way, down}
use Rattle.ordered.specs.Reading.{Found, word_in, root_row}
use Rattle.ordered.specs.Change.{Take, number_at}
use Rattle.ordered.specs.Grown.{linking as turned, chained}
use Rattle.ordered.proofs.Parts.{all_map, above_all, delete_absent, words_append}
use Rattle.ordered.proofs.Lists.{above_less}
use Rattle.ordered.proofs.Ways.{at_bottom, at_none, at_damage, at_stop, AtEnd, Onward, along}
use Rattle.pretree.specs.declared.Header.{Header}
use Rattle.pretree.specs.declared.Row.{Row}
use Rattle.pretree.specs.Table.{row_at, link, with_entry, with_link}
use Rattle.pretree.specs.Unfold.{unfolded, shown}
use Rattle.pretree.specs.Add.{taking, hooking}
use Rattle.pretree.proofs.Rows.{HasRow, linking, link_stays, link_written, link_elsewhere}
use Rattle.demands.specs.Numbers.{numbers, often, renamed}
use Rattle.demands.proofs.Numbers.{intact_unnumbered, entries_unnumbered, unnumbered_renamed}
use Rattle.demands.proofs.Links.{moved_into}
use Rattle.demands.proofs.Spelled.{Spelled, a_row}
use Rattle.demands.proofs.Rewritten.{SamePlaces, no_place, one_place, HookRow, hook_row}

-- deleting a word that is there makes the set one word shorter
pub delete_length : (x : ℕ) (s : List Entry) → Increasing (words s) → is_there (lookup x s) ≡ true → suc (length (delete x s)) ≡ length s
unfolding delete lookup first_such
delete_length x [] none_increasing there = absurd (false≢true there)
delete_length x (f ∷ s) (one_increasing a h) there = by_cases (eqb x f.key) refl there (delete_length x s h)
  where
    by_cases : (b : Bool) → eqb x f.key ≡ b → is_there (first_of (if b then such f else no_such) (lookup x s)) ≡ true
        → (is_there (lookup x s) ≡ true → suc (length (delete x s)) ≡ length s)
        → suc (length (if b then delete x s else f ∷ delete x s)) ≡ suc (length s)
    by_cases true e there rest =
        let same : x ≡ f.key = eqb-true x f.key e in
        ap (λ es. suc (length es)) (delete_absent x s (all_map (λ z less. ne_eqb x z.key (λ equal. omega arith)) (above_all s a)))
    by_cases false e there rest = ap suc (rest there)

-- an erase ends at a row without parts
pub data Leaf : Tree → Type 0 where
  leaf : {i : ℕ} {e : Entry} → Leaf (row i e none none)

absent_part : (t : Tree) → exists t ≡ false → t ≡ none
absent_part none e = refl
absent_part (row i e l r) e' = cc
absent_part damaged e = cc

pub end_proper : (f : Rule) (m : ℕ) (t : Tree) (path low : ℕ) → Proper m path low t
    → (path' : ℕ) × (low' : ℕ) × Proper (way f m t).bits path' low' (way f m t).end
unfolding Proper
end_proper f =
    along f (λ m t w. (path low : ℕ) → Proper m path low t → (path' : ℕ) × (low' : ℕ) × Proper w.bits path' low' w.end)
    (λ m t ends path low h. (path, low, h)) (λ m i e l r s says rest path low h. rest (path * 2 + bit_of s) (suc e.key) (h.parts s))

pub leaf_end : (m : ℕ) (t : Tree) (path low : ℕ) → Proper m path low t → exists t ≡ true → Leaf (way (down left) m t).end
unfolding Proper down
leaf_end = along (down left) (λ m t w. (path low : ℕ) → Proper m path low t → exists t ≡ true → Leaf w.end) ends goes
  where
    ends : AtEnd (down left) (λ m t w. (path low : ℕ) → Proper m path low t → exists t ≡ true → Leaf w.end)
    ends zero none at_bottom path low h there = absurd (false≢true there)
    ends zero (row i e l r) at_bottom path low h there = rw (h.parts left, h.parts right) (leaf {i = i} {e = e})
    ends zero damaged at_bottom path low h there = absurd h
    ends (suc m) none at_none path low h there = absurd (false≢true there)
    ends (suc m) damaged at_damage path low h there = absurd h
    ends (suc m) (row i e l r) (at_stop says) path low h there = both_none (exists l) refl (exists r) refl says
      where
        both_none : (a : Bool) → exists l ≡ a → (b : Bool) → exists r ≡ b → (if a then to left else if b then to right else stop) ≡ stop → Leaf (row i e l r)
        both_none true is_left b is_right says = let never : ◌≡◌ {A = ℕ} 0 1 = cc in absurd (omega arith)
        both_none false is_left true is_right says = let never : ◌≡◌ {A = ℕ} 0 1 = cc in absurd (omega arith)
        both_none false is_left false is_right says = rw (absent_part l is_left, absent_part r is_right) (leaf {i = i} {e = e})

    goes : Onward (down left) (λ m t w. (path low : ℕ) → Proper m path low t → exists t ≡ true → Leaf w.end)
    goes m i e l r s says rest path low h there =
        rest (path * 2 + bit_of s) (suc e.key) (h.parts s) (onward s (exists l) refl (exists r) refl says)
      where
        onward : (s : Side) (a : Bool) → exists l ≡ a → (b : Bool) → exists r ≡ b → (if a then to left else if b then to right else stop) ≡ to s → exists (part s l r) ≡ true
        onward left true is_left b is_right says = is_left
        onward left false is_left true is_right says = cc
        onward left false is_left false is_right says = cc
        onward right true is_left b is_right says = cc
        onward right false is_left true is_right says = is_right
        onward right false is_left false is_right says = cc

-- a way that ends at k ends at a row
pub ends_row : (k m : ℕ) (t : Tree) → is_there (only_if (λ f. eqb k (word_in f)) (root_row m t)) ≡ true → exists t ≡ true
ends_row k m none e = e
ends_row k m (row i e l r) e' = refl
ends_row k m damaged e = cc

-- the words of a tree that rows spell are the keys of these rows
module _ (rows : ℕ → Row) (n : ℕ) where
  abbrev pub key_of_row : ℕ → ℕ
  key_of_row j = (rows j).entry.key

  pub spelled_keys : (t : Tree) → Spelled rows n t → listing t ≡ map key_of_row (numbers t)
  unfolding entries numbers
  spelled_keys none s = refl
  spelled_keys (row i e l r) (a_row s u v) =
      rw (words_append, map-append key_of_row, spelled_keys l u, spelled_keys r v)
      (ap (λ k. k ∷ (map key_of_row (numbers l) ++ map key_of_row (numbers r))) (sym (ap (λ x. x.entry.key) s.row_is)))
  spelled_keys damaged s = elim s [ ]

pub in_map : (key : ℕ → ℕ) {i : ℕ} {xs : List ℕ} → i ∈ xs → key i ∈ map key xs
in_map key (Memᴰ.head e) = Memᴰ.head (ap key e)
in_map key (Memᴰ.tail there) = Memᴰ.tail (in_map key there)

-- so no two rows have the same key
pub one_key : (key : ℕ → ℕ) (xs : List ℕ) {i j : ℕ} → Increasing (map key xs) → i ∈ xs → j ∈ xs → key i ≡ key j → i ≡ j
one_key key (x ∷ xs) (one_increasing a h) (Memᴰ.head e) (Memᴰ.head e') same = e ∙ sym e'
one_key key (x ∷ xs) (one_increasing a h) (Memᴰ.head e) (Memᴰ.tail there) same =
    absurd (omega (arith, above_less a (in_map key there), ap key e))
one_key key (x ∷ xs) (one_increasing a h) (Memᴰ.tail there) (Memᴰ.head e) same =
    absurd (omega (arith, above_less a (in_map key there), ap key e))
one_key key (x ∷ xs) (one_increasing a h) (Memᴰ.tail there) (Memᴰ.tail there') same = one_key key xs h there there' same
one_key key [] none_increasing there there' same = elim there [ ]

-- writing entries changes no link
pub taking_link : (ts : List Take) (table : List ℕ) (j : ℕ) (s : Side) → link (row_at (taking ts table) j) s ≡ link (row_at table j) s
unfolding taking
taking_link [] table j s = refl
taking_link (x ∷ ts) table j s = taking_link ts (with_entry x.at x.entry table) j s ∙ link_stays x.at x.entry table j s

-- setting one link changes no other link
pub hooking_link :
    (p : Perhaps Step) (v : ℕ) (table : List ℕ) (j : ℕ) (s : Side)
    → ((q : Step) → p ≡ such q → HasRow table q.at × (q.at ≡ j → q.turn ≡ s → ⊥))
    → link (row_at (hooking p v table) j) s ≡ link (row_at table j) s
hooking_link no_such v table j s differs = refl
hooking_link (such q) v table j s differs = by_cases (eqb j q.at) refl
  where
    beside : (turn s : Side) (r : Row) → (turn ≡ s → ⊥) → link (linking turn v r) s ≡ link r s
    beside left left r apart = absurd (apart refl)
    beside left right r apart = refl
    beside right left r apart = refl
    beside right right r apart = absurd (apart refl)

    by_cases : (b : Bool) → eqb j q.at ≡ b → link (row_at (with_link q.at q.turn v table) j) s ≡ link (row_at table j) s
    by_cases true e =
        let same : j ≡ q.at = eqb-true j q.at e in
        ap (λ i. link (row_at (with_link q.at q.turn v table) i) s) same
        ∙ ap (λ r. link r s) (link_written q.at table (differs q refl).0 q.turn v)
        ∙ beside q.turn s (row_at table q.at) ((differs q refl).1 (sym same)) ∙ ap (λ i. link (row_at table i) s) (sym same)
    by_cases false e = ap (λ r. link r s) (link_elsewhere q.at table j (eqb-false j q.at e) q.turn v)

-- what is known of a row without parts that the rows of a table spell
pub record LeafRow (rows : ℕ → Row) (n : ℕ) (u : Tree) : Type 0 where
  pub in_use : number_at u < n
  pub inside : number_at u ∈ numbers u
  pub alone : (j : ℕ) → (j ≡ number_at u → ⊥) → often j (numbers u) ≡ 0
  pub no_links : (s : Side) → link (rows (number_at u)) s ≡ 0

pub leaf_row : {rows : ℕ → Row} {n : ℕ} (u : Tree) → Leaf u → Spelled rows n u → LeafRow rows n u
unfolding numbers often
leaf_row (row i e none none) leaf (a_row spelled_row u v) =
    record {
      in_use = spelled_row.in_use;
      inside = Memᴰ.head refl;
      alone = λ j apart. rw (ne_eqb j i apart);
      no_links = elim [ left ↦ ap (λ x. x.left) spelled_row.row_is | right ↦ ap (λ x. x.right) spelled_row.row_is ];
    }
leaf_row none is_leaf s = elim is_leaf [ ]
leaf_row (row i e none (row _ _ _ _)) is_leaf s = elim is_leaf [ ]
leaf_row (row i e none damaged) is_leaf s = elim is_leaf [ ]
leaf_row (row i e (row _ _ _ _) r) is_leaf s = elim is_leaf [ ]
leaf_row (row i e damaged r) is_leaf s = elim is_leaf [ ]
leaf_row damaged is_leaf s = elim is_leaf [ ]

-- if the way of a word ends at it, the row at the end has that word
pub end_is :
    {rows : ℕ → Row} {n : ℕ} (x m : ℕ) (u : Tree) → Spelled rows n u → is_there (only_if (λ f. eqb x (word_in f)) (root_row m u)) ≡ true
    → ((rows (number_at u)).entry.key ≡ x) × (number_at u ∈ numbers u)
unfolding numbers
end_is x m none s found = absurd (false≢true found)
end_is {rows} x m (row i e l r) (a_row spelled_row u v) found = by_cases (eqb x e.key) refl found
  where
    by_cases : (b : Bool) → eqb x e.key ≡ b → is_there {A = Found} (if b then such (record { entry = e; bits = m }) else no_such) ≡ true → ((rows i).entry.key ≡ x) × (i ∈ numbers (row i e l r))
    by_cases true same found = (ap (λ y. y.entry.key) spelled_row.row_is ∙ sym (eqb-true x e.key same), Memᴰ.head refl)
    by_cases false same found = absurd (false≢true found)
end_is x m damaged s found = elim s [ ]

pub hook_names :
    {rows : ℕ → Row} {n : ℕ} {ss : List Step} {u : Tree} {q : Step} → HookRow rows n ss u (such q)
    → (q.at ∈ numbers (chained ss none)) × (q.at < n) × (link (rows q.at) q.turn ≡ number_at u)
hook_names (hook_row there in_use names) = (there, in_use, names)

-- the root of the tree after an erase is row 0
pub popped_first : {ss us : List Step} → SamePlaces ss us → (u : Tree) → number_at (chained ss u) ≡ 0 → number_at (chained us none) ≡ 0
unfolding chained
popped_first no_place u root = refl
popped_first (one_place {s} {ss} {us} f p) u root = by_side s.turn root
  where
    by_side : (turn : Side) → number_at (turned s.at s.entry turn s.left_part s.right_part (chained ss u)) ≡ 0
        → number_at (turned s.at f turn s.left_part s.right_part (chained us none)) ≡ 0
    by_side left root = root
    by_side right root = root

pub listed_there : (t : Tree) → (length (entries t) ≡ 0 → ⊥) → exists t ≡ true
unfolding entries
listed_there none some = absurd (some refl)
listed_there (row i e l r) some = refl
listed_there damaged some = refl

pub root_in : (t : Tree) {rows : ℕ → Row} {n : ℕ} → Spelled rows n t → exists t ≡ true → number_at t ∈ numbers t
unfolding numbers
root_in none s there = absurd (false≢true there)
root_in (row i e l r) s there = Memᴰ.head refl
root_in damaged s there = elim s [ ]

-- other row numbers change neither the entries of a tree nor whether it is intact
pub renamed_intact : (σ : ℕ → ℕ) (t : Tree) → intact (renamed σ t) ≡ intact t
renamed_intact σ t = sym (intact_unnumbered (renamed σ t)) ∙ ap intact (unnumbered_renamed σ t) ∙ intact_unnumbered t

pub renamed_entries : (σ : ℕ → ℕ) (t : Tree) → entries (renamed σ t) ≡ entries t
renamed_entries σ t = sym (entries_unnumbered (renamed σ t)) ∙ ap entries (unnumbered_renamed σ t) ∙ entries_unnumbered t

pub root_stays : (hole last : ℕ) → (last ≡ 0 → ⊥) → moved_into hole last 0 ≡ 0
unfolding moved_into
root_stays hole last some = rw (ne_eqb 0 last (λ e. some (sym e)))

pub shown_root : (h : Header) (table : List ℕ) → (h.count ≡ 0 → ⊥) → shown h table ≡ unfolded (row_at table) h.count h.width 0 0 0
unfolding shown
shown_root h table some = rw (ne_eqb h.count 0 some)

pub one_more : (n : ℕ) → 0 < n → n ≡ suc (pred n)
one_more zero some = absurd (omega arith)
one_more (suc n) some = refl

pub no_entries : (es : List Entry) → length es ≡ 0 → es ≡ []
no_entries [] e = refl
no_entries (x ∷ es) e = absurd (omega arith)
