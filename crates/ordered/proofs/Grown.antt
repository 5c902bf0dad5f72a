-- After `add` or `del` a proper tree is still proper, and its entries are the dictionary's next set.
use Prim.Native.Nat.{ℕ, zero, suc, ◌+◌, ◌*◌, ◌/◌, ◌^◌, ◌≤◌, ◌<◌}
use mathlib.Core.Path.{◌≡◌, refl, sym, ap, ◌∙◌}
use mathlib.Core.Bool.{Bool, true, false}
use mathlib.Core.List.{List, ◌++◌}
use native.Mathlib.Omega.{arith}
use lib.Dec.{ltb, eqb}
use borrow.Author.Tests.{ltb-true, ltb-false, eqb-true, eqb-false, le-ltb, eq-eqb, ne_eqb}
use Rattle.std.specs.Prelude.{if◌then◌else◌}
use Rattle.ordered.specs.Such.{is_there, no_such, such, only_if}
use Rattle.ordered.specs.Word.{bit_of, side, other}
use Rattle.ordered.specs.Dictionary.{Entry, insert, delete}
use Rattle.ordered.specs.Tree.{Tree, row, part, exists, entries, unnumbered, tree_of}
use Rattle.ordered.specs.Proper.{Fitting, Proper}
use Rattle.ordered.specs.Way.{Way, way, following}
use Rattle.ordered.specs.Reading.{Found, word_in, root_row}
use Rattle.ordered.specs.Change.{entry_at}
use Rattle.ordered.specs.Grown.{storing, chained, pushed_tree, popped_tree, tree_after_add, tree_after_del}
use Rattle.ordered.proofs.Bits.{to_part}
use Rattle.ordered.proofs.Parts.{AllWords, none_all, one_all, all_map, above_all, insert_before, insert_between, delete_absent, delete_between}
use Rattle.ordered.proofs.OneTree.{keys_fit, one_tree}
use Rattle.ordered.proofs.Ways.{AtEnd, Onward, along, lower, upper, chained_entries, parted, turns_so, following_seeks}
use Rattle.ordered.proofs.Sought.{Ends, at_no_row, at_last_bit, at_key, Sought, way_of}
use Rattle.ordered.proofs.PushPop.{linking_proper, proper_from, proper_lower, push_proper, push_entries, pop_proper, pop_entries}

-- The way of k in a proper tree into which k fits. k also fits into the part at its end, and if that part is replaced by another proper
-- part, the whole tree is proper.
record Opened (k m path low : ℕ) (w : Way) : Type 0 where
  end_low : ℕ
  end_from : end_low ≤ k
  end_proper : Proper w.bits (k / 2 ^ w.bits) end_low w.end
  links : (u : Tree) → Proper w.bits (k / 2 ^ w.bits) end_low u → Proper m path low (chained w.passed u)

Opens : ℕ → ℕ → Tree → Way → Type 0
Opens k m t w = (path low : ℕ) → Fitting m path low k → Proper m path low t → Opened k m path low w

opened : (k m : ℕ) (t : Tree) → Opens k m t (way (following k) m t)
unfolding Opens Proper chained
opened k = along (following k) (Opens k) ends goes
  where
    ends : AtEnd (following k) (Opens k)
    ends m t stops path low fits h =
        record { end_low = low; end_from = fits.not_below; end_proper = rw fits.on_path h; links = λ u k. rw fits.on_path at k }

    goes : Onward (following k) (Opens k)
    goes m i e l r s says rest path low fits h =
        let turn : (ltb e.key k ≡ true) × (side m k ≡ s) = turns_so (following k) (λ x. ltb x k) k (following_seeks k) m e l r s says in
        let on_side : Fitting m (path * 2 + bit_of s) (suc e.key) k =
        record { not_below = ltb-true e.key k turn.0; on_path = to_part m k path s fits.on_path turn.1 } in
        let w : Way = way (following k) m (part s l r) in
        let below : Opened k m (path * 2 + bit_of s) (suc e.key) w = rest (path * 2 + bit_of s) (suc e.key) on_side (h.parts s) in
        record {
          end_low = below.end_low;
          end_from = below.end_from;
          end_proper = below.end_proper;
          links =
              λ u proper.
              linking_proper m path low i e s l r (chained w.passed u) h.key_fits (h.parts (other s)) (below.links u proper);
        }

-- k is the root's key
data Present (k : ℕ) : Tree → Type 0 where
  present : {i : ℕ} {e : Entry} {l r : Tree} → e.key ≡ k → Present k (row i e l r)

-- where the way of k ends, k is the root's key, or all words are greater than k
meeting : (bits k : ℕ) {u : Tree} → Ends (λ x. ltb x k) k u → (P : Bool → Type 0)
    → (Present k u → P true) → (AllWords (λ x. k < x) (entries u) → P false)
    → P (is_there (only_if (λ f. eqb k (word_in f)) (root_row bits u)))
unfolding entries
meeting bits k at_no_row P here beyond = beyond none_all
meeting bits k (at_last_bit {e} same) P here beyond = rw (eq-eqb k e.key (sym same)) (here (present same))
meeting bits k (at_key {i} {e} {l} {r} stops above) P here beyond = either (eqb k e.key) refl
  where
    either : (b : Bool) → eqb k e.key ≡ b → P (is_there {A = Found} (if b then such (record { entry = e; bits = bits }) else no_such))
    either true same = here (present (sym (eqb-true k e.key same)))
    either false differs =
        let less : k < e.key = omega (arith, eqb-false k e.key differs, ltb-false e.key k stops) in
        beyond (one_all less (all_map (λ x above. omega arith) (above_all (entries l ++ entries r) above)))

there : (k : ℕ) {u : Tree} → Present k u → exists u ≡ true
there k (present same) = refl

own_key : (k : ℕ) {u : Tree} → Present k u → (entry_at u).key ≡ k
own_key k (present same) = same

-- replacing the root's entry by one with the same word is an `insert`
stored_entries : (o : Entry) {u : Tree} → Present o.key u → entries (storing o u) ≡ insert o (entries u)
unfolding insert entries
stored_entries o (present {e} same) = rw (le-ltb o.key e.key (omega arith), eq-eqb o.key e.key (sym same))

stored_proper : (m path low : ℕ) (o : Entry) {u : Tree} → Present o.key u → Proper m path low u → Proper m path low (storing o u)
unfolding Proper
stored_proper zero path low o (present {e} same) h = record { key_fits = rw (← same) h.key_fits; parts = h.parts }
stored_proper (suc m) path low o (present {e} same) h = record { key_fits = rw (← same) h.key_fits; parts = rw (← same) h.parts }

module _ (m k path low : ℕ) (t : Tree) (fits : Fitting m path low k) (h : Proper m path low t) where
  abbrev the_way : Way
  the_way = way (following k) m t

  abbrev bits : ℕ
  bits = the_way.bits

  abbrev old_part : Tree
  old_part = the_way.end

  found : Sought (λ x. ltb x k) k the_way
  found = way_of m k path low t fits.on_path h

  open_there : Opened k m path low the_way
  unfolding Opens
  open_there = opened k m t path low fits h

  -- the entries of the tree, if those at the end of the way are replaced
  abbrev around : List Entry → List Entry
  around xs = lower the_way.passed ++ (xs ++ upper the_way.passed)

  lists_around : (u : Tree) {xs : List Entry} → entries u ≡ xs → entries (chained the_way.passed u) ≡ around xs
  lists_around u same = chained_entries the_way.passed u ∙ ap around same

  lists_itself : {xs : List Entry} → entries old_part ≡ xs → entries t ≡ around xs
  lists_itself same = parted (following k) m t ∙ ap around same

  deleted : delete k (entries t) ≡ around (delete k (entries old_part))
  deleted =
      ap (delete k) (parted (following k) m t)
      ∙ delete_between k (lower the_way.passed) (entries old_part) (upper the_way.passed)
      (all_map (λ x less. ne_eqb k x.key (λ same. omega (arith, ltb-true x.key k less))) found.left_passes)
      (all_map (λ x less. ne_eqb k x.key (λ same. omega arith)) found.right_above)

  -- `del`: if the way of k ends at k, the first entry there is removed
  abbrev rest_part : Tree
  rest_part = popped_tree bits old_part

  rest_proper : Present k old_part → Proper bits (k / 2 ^ bits) (suc k) rest_part
  rest_proper there_is =
      rw (own_key k there_is) at (pop_proper bits (k / 2 ^ bits) open_there.end_low old_part open_there.end_proper (there k there_is))

  rest_entries : Present k old_part → entries rest_part ≡ delete k (entries old_part)
  unfolding delete
  rest_entries there_is =
      let above : AllWords (Fitting bits (k / 2 ^ bits) (suc k)) (entries rest_part) =
      keys_fit bits (k / 2 ^ bits) (suc k) rest_part (rest_proper there_is) in
      let absent : delete k (entries rest_part) ≡ entries rest_part =
      delete_absent k (entries rest_part)
      (all_map (λ x f. ne_eqb k x.key (λ same. omega (arith, f.not_below))) above) in
      rw (
        ← pop_entries bits (k / 2 ^ bits) open_there.end_low old_part open_there.end_proper (there k there_is),
        eq-eqb k (entry_at old_part).key (sym (own_key k there_is)),
      )
      (sym absent)

  pub shrunk_proper : Proper m path low (tree_after_del m k t)
  unfolding tree_after_del
  shrunk_proper =
      meeting bits k found.ends (λ b. Proper m path low (if b then chained the_way.passed rest_part else t))
      (λ there_is.
      open_there.links rest_part
      (proper_lower bits (k / 2 ^ bits) (suc k) open_there.end_low rest_part (omega (arith, open_there.end_from))
      (rest_proper there_is)))
      (λ beyond. h)

  pub shrunk_entries : entries (tree_after_del m k t) ≡ delete k (entries t)
  unfolding tree_after_del
  shrunk_entries =
      meeting bits k found.ends (λ b. entries (if b then chained the_way.passed rest_part else t) ≡ delete k (entries t))
      (λ there_is. lists_around rest_part (rest_entries there_is) ∙ sym deleted)
      (λ beyond.
      lists_itself (sym (delete_absent k (entries old_part) (all_map (λ x less. ne_eqb k x.key (λ same. omega arith)) beyond))) ∙ sym deleted)

  pub shrunk_tree : unnumbered (tree_after_del m k t) ≡ tree_of m (delete k (entries t))
  shrunk_tree = one_tree m path low (tree_after_del m k t) shrunk_proper ∙ ap (tree_of m) shrunk_entries

-- `add`: if the way of e's word does not end at that word, e is pushed in there, before all other entries
module _ (m path low n : ℕ) (e : Entry) (t : Tree) (fits : Fitting m path low e.key) (h : Proper m path low t) where
  abbrev k : ℕ
  k = e.key

  abbrev left_of_way : List Entry
  left_of_way = lower (the_way m k path low t fits h).passed

  abbrev right_of_way : List Entry
  right_of_way = upper (the_way m k path low t fits h).passed

  abbrev left_bits : ℕ
  left_bits = bits m k path low t fits h

  abbrev old : Tree
  old = old_part m k path low t fits h

  abbrev new_part : Tree
  new_part = pushed_tree n left_bits e old

  opens : Opened k m path low (the_way m k path low t fits h)
  opens = open_there m k path low t fits h

  finds : Sought (λ x. ltb x k) k (the_way m k path low t fits h)
  finds = found m k path low t fits h

  inserted : insert e (entries t) ≡ around m k path low t fits h (insert e (entries old))
  inserted =
      ap (insert e) (parted (following k) m t)
      ∙ insert_between e left_of_way (entries old) right_of_way
      (all_map (λ x. ltb-true x.key k) finds.left_passes) finds.right_above

  raised_part : AllWords (λ x. k < x) (entries old) → Proper left_bits (k / 2 ^ left_bits) (suc k) old
  raised_part beyond = proper_from left_bits (k / 2 ^ left_bits) opens.end_low (suc k) old opens.end_proper beyond

  pub grown_proper : Proper m path low (tree_after_add n m e t)
  unfolding tree_after_add
  grown_proper =
      meeting left_bits k finds.ends
      (λ b.
      Proper m path low (if b then chained (the_way m k path low t fits h).passed (storing e old) else chained (the_way m k path low t fits h).passed new_part))
      (λ there_is. opens.links (storing e old) (stored_proper left_bits (k / 2 ^ left_bits) opens.end_low e there_is opens.end_proper))
      (λ beyond.
      opens.links new_part
      (proper_lower left_bits (k / 2 ^ left_bits) k opens.end_low new_part opens.end_from
      (push_proper n left_bits (k / 2 ^ left_bits) e old refl (raised_part beyond))))

  pub grown_entries : entries (tree_after_add n m e t) ≡ insert e (entries t)
  unfolding tree_after_add
  grown_entries =
      meeting left_bits k finds.ends
      (λ b.
      entries (if b then chained (the_way m k path low t fits h).passed (storing e old) else chained (the_way m k path low t fits h).passed new_part)
      ≡ insert e (entries t))
      (λ there_is. lists_around m k path low t fits h (storing e old) (stored_entries e there_is) ∙ sym inserted)
      (λ beyond.
      lists_around m k path low t fits h new_part
      (push_entries n left_bits (k / 2 ^ left_bits) e old refl (raised_part beyond) ∙ sym (insert_before e (entries old) beyond))
      ∙ sym inserted)

  -- so, row numbers apart, it is the PreTree of the dictionary's next set
  pub grown_tree : unnumbered (tree_after_add n m e t) ≡ tree_of m (insert e (entries t))
  grown_tree = one_tree m path low (tree_after_add n m e t) grown_proper ∙ ap (tree_of m) grown_entries
