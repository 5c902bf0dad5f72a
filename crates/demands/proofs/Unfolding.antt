-- Laws of the tree that a table shows without damage. It is proper. Its rows are in use ("Rows in use are 0 to count−1") and different. It depends
-- only on its own rows. If rows move to other places, only row numbers change.
use Prim.Native.Nat.{ℕ, zero, suc, ◌+◌, ◌*◌, ◌/◌, ◌^◌, ◌≤◌, ◌<◌}
use mathlib.Core.Path.{◌≡◌, refl, sym, ap, ◌∙◌}
use mathlib.Core.Bool.{Bool, true, false, ◌&&◌, false≢true}
use mathlib.Core.List.{map, map-append}
use mathlib.Core.List.Memᴰ
use native.Mathlib.Omega.{arith}
use lib.Dec.{ltb, leb, eqb}
use borrow.Author.Tests.{ltb-true, leb-true, eqb-true, lt-ltb, le-leb, eq-eqb}
use Rattle.std.specs.Prelude.{if◌then◌else◌}
use Rattle.ordered.specs.Word.{Side, left, right, bit_of}
use Rattle.ordered.specs.Source004.{◌∈◌}
use Rattle.ordered.specs.Tree.{Tree, none, row, damaged, part, entries, listing, size, intact}
use Rattle.ordered.specs.Proper.{Fitting, Proper}
use Rattle.ordered.proofs.Parts.{All, none_all, one_all, all_append, words_append}
use Rattle.ordered.proofs.OneTree.{keys_rise}
use Rattle.pretree.specs.declared.Row.{Row}
use Rattle.pretree.specs.Table.{entry_of, link}
use Rattle.pretree.specs.Unfold.{ends_there, judged, linked, unfolded}
use Rattle.demands.specs.Numbers.{numbers, often, renamed}
use Rattle.demands.proofs.Numbers.{at_most, none_twice, numbers_length, renamed_same}

pub both : (a b : Bool) → (a && b) ≡ true → (a ≡ true) × (b ≡ true)
both true b e = (refl, e)
both false b e = absurd (false≢true e)

-- the part on one side, where the parts are given by the side
pub part_of : (f : Side → Tree) (s : Side) → part s (f left) (f right) ≡ f s
part_of f left = refl
part_of f right = refl

pub none_proper : (m path low : ℕ) → Proper m path low none
unfolding Proper
none_proper zero path low = tt
none_proper (suc m) path low = tt

-- with no bit left both links are none
pub no_link : (r : Row) → ends_there 0 r ≡ true → (s : Side) → link r s ≡ 0
no_link r h left = eqb-true r.left 0 (both (eqb r.left 0) (eqb r.right 0) h).0
no_link r h right = eqb-true r.right 0 (both (eqb r.left 0) (eqb r.right 0) h).1

-- what holds of an empty link and of a link to a row holds of every link
pub along_link :
    (P : ℕ → Tree → Type 0) (f : ℕ → Tree) → P 0 none → ((k : ℕ) → intact (f (suc k)) ≡ true → P (suc k) (f (suc k)))
    → (j : ℕ) → intact (linked f j) ≡ true → P j (linked f j)
along_link P f empty there zero h = empty
along_link P f empty there (suc k) h = there k h

-- a link shows no damage if every link to a row shows none
pub by_link : (P : ℕ → Type 0) (f : ℕ → Tree) → ((k : ℕ) → P (suc k) → intact (f (suc k)) ≡ true) → (j : ℕ) → P j → intact (linked f j) ≡ true
unfolding intact
by_link P f there zero h = refl
by_link P f there (suc k) h = there k h

pub linked_row : (f : ℕ → Tree) (j : ℕ) → (j ≡ 0 → ⊥) → linked f j ≡ f j
linked_row f zero h = absurd (h refl)
linked_row f (suc j) h = refl

module _ (rows : ℕ → Row) where
  abbrev pub key : ℕ → ℕ
  key i = (rows i).entry.key

  abbrev pub row_with : ℕ → (Side → Tree) → Tree
  row_with i part = row i (entry_of (rows i)) (part left) (part right)

  -- what the link of row i on side s shows, where n rows are in use and the row has m bits left
  abbrev pub part_shown : ℕ → ℕ → ℕ → ℕ → Side → Tree
  part_shown n zero path i s = none
  part_shown n (suc m) path i s = linked (unfolded rows n m (path * 2 + bit_of s) (suc (key i))) (link (rows i) s)

-- row i has no damage
pub record NoDamage (rows : ℕ → Row) (n m path low i : ℕ) : Type 0 where
  pub in_use : i < n
  pub key_fits : Fitting m path low (key rows i)
  pub links_end : ends_there m (rows i) ≡ true

-- no damage is shown from row i down
pub record Opened (rows : ℕ → Row) (n m path low i : ℕ) : Type 0 where
  pub no_damage : NoDamage rows n m path low i
  pub shows : unfolded rows n m path low i ≡ row_with rows i (part_shown rows n m path i)
  pub parts : (s : Side) → intact (part_shown rows n m path i s) ≡ true

module _ (rows : ℕ → Row) (n : ℕ) where
  module _ (m path low i : ℕ) where
    abbrev picking : Bool → Tree
    picking b = if b then row_with rows i (part_shown rows n m path i) else damaged

    pub picked : (b : Bool) → judged n m path low i (rows i) ≡ b → unfolded rows n m path low i ≡ picking b
    unfolding unfolded
    picked b e = once m ∙ ap picking e
      where
        once : (m : ℕ) → unfolded rows n m path low i ≡ (if judged n m path low i (rows i) then row_with rows i (part_shown rows n m path i) else damaged)
        once zero = refl
        once (suc m) = refl

    -- a row that passes the test `judged` has no damage
    pub judged_so : judged n m path low i (rows i) ≡ true → NoDamage rows n m path low i
    judged_so e =
        let a = both (ltb i n) (leb low (key rows i) && (eqb (key rows i / 2 ^ m) path && ends_there m (rows i))) e in
        let b = both (leb low (key rows i)) (eqb (key rows i / 2 ^ m) path && ends_there m (rows i)) a.1 in
        let c = both (eqb (key rows i / 2 ^ m) path) (ends_there m (rows i)) b.1 in
        record {
          in_use = ltb-true i n a.0;
          key_fits = record { not_below = leb-true low (key rows i) b.0; on_path = eqb-true (key rows i / 2 ^ m) path c.0 };
          links_end = c.1;
        }

    -- a row without damage is shown
    pub shown_row : NoDamage rows n m path low i → unfolded rows n m path low i ≡ row_with rows i (part_shown rows n m path i)
    shown_row r =
        picked true
        (rw (
          lt-ltb i n r.in_use,
          le-leb low (key rows i) r.key_fits.not_below,
          eq-eqb (key rows i / 2 ^ m) path r.key_fits.on_path,
          r.links_end,
        ))

    -- the tree at a row is intact if the row has no damage and its parts are intact
    pub intact_row : NoDamage rows n m path low i → ((s : Side) → intact (part_shown rows n m path i s) ≡ true) → intact (unfolded rows n m path low i) ≡ true
    unfolding intact
    intact_row r parts = rw (shown_row r, parts left, parts right)

    -- and only then
    pub opened : intact (unfolded rows n m path low i) ≡ true → Opened rows n m path low i
    unfolding intact
    opened h = by_cases (judged n m path low i (rows i)) refl
      where
        by_cases : (b : Bool) → judged n m path low i (rows i) ≡ b → Opened rows n m path low i
        by_cases true e =
            let halves = both (intact (part_shown rows n m path i left)) (intact (part_shown rows n m path i right)) (sym (ap intact (picked true e)) ∙ h) in
            record {
              no_damage = judged_so e;
              shows = picked true e;
              parts = elim [ left ↦ halves.0 | right ↦ halves.1 ];
            }
        by_cases false e = absurd (false≢true (sym (ap intact (picked false e)) ∙ h))

  -- Induction: P holds of an unfolding without damage if it holds of none, and of a row if it holds of both parts.
  every_part :
      (P : Tree → Type 0) → P none
      → ((i : ℕ) (part : Side → Tree) → i < n → ((s : Side) → P (part s)) → P (row_with rows i part))
      → (m path low i : ℕ) → intact (unfolded rows n m path low i) ≡ true → P (unfolded rows n m path low i)
  every_part P empty step zero path low i h =
      let o = opened zero path low i h in
      rw o.shows (step i (part_shown rows n zero path i) o.no_damage.in_use (λ s. empty))
  every_part P empty step (suc m) path low i h =
      let o = opened (suc m) path low i h in
      let low' : ℕ = suc (key rows i) in
      rw o.shows
      (step i (part_shown rows n (suc m) path i) o.no_damage.in_use (λ s.
      along_link (λ j. P) (unfolded rows n m (path * 2 + bit_of s) low') empty
      (λ k. every_part P empty step m (path * 2 + bit_of s) low' (suc k)) (link (rows i) s) (o.parts s)))

  -- the tree that is shown is proper
  pub unfolded_proper : (m path low i : ℕ) → intact (unfolded rows n m path low i) ≡ true → Proper m path low (unfolded rows n m path low i)
  unfolding Proper
  unfolded_proper zero path low i h =
      let o = opened zero path low i h in
      rw o.shows (record { key_fits = o.no_damage.key_fits; parts = part_of (λ s. none) })
  unfolded_proper (suc m) path low i h =
      let o = opened (suc m) path low i h in
      let low' : ℕ = suc (key rows i) in
      rw o.shows
      (record {
        key_fits = o.no_damage.key_fits;
        parts =
            λ s.
            rw (part_of (part_shown rows n (suc m) path i) s)
            (along_link (λ j. Proper m (path * 2 + bit_of s) low') (unfolded rows n m (path * 2 + bit_of s) low')
            (none_proper m (path * 2 + bit_of s) low')
            (λ k. unfolded_proper m (path * 2 + bit_of s) low' (suc k)) (link (rows i) s) (o.parts s));
      })

  module _ (m path low i : ℕ) (h : intact (unfolded rows n m path low i) ≡ true) where
    -- its rows are in use
    pub numbers_in_use : All (λ j. j < n) (numbers (unfolded rows n m path low i))
    unfolding numbers
    numbers_in_use =
        every_part (λ t. All (λ j. j < n) (numbers t)) none_all
        (λ i part in_use all. one_all in_use (all_append (all left) (all right))) m path low i h

    -- the words that it lists are the keys of its rows
    keys_of_numbers : listing (unfolded rows n m path low i) ≡ map (key rows) (numbers (unfolded rows n m path low i))
    unfolding numbers entries
    keys_of_numbers =
        every_part (λ t. listing t ≡ map (key rows) (numbers t)) refl
        (λ i part in_use same. rw (words_append, map-append (key rows), same left, same right)) m path low i h

    -- its keys increase, so no row is in it twice
    pub no_row_twice : (j : ℕ) → often j (numbers (unfolded rows n m path low i)) ≤ 1
    no_row_twice =
        none_twice (key rows) (numbers (unfolded rows n m path low i))
        (rw keys_of_numbers at (keys_rise m path low (unfolded rows n m path low i) (unfolded_proper m path low i h)))

    -- it has at most as many rows as are in use
    size_in_use : size (unfolded rows n m path low i) ≤ n
    size_in_use = rw (← numbers_length) (at_most (numbers (unfolded rows n m path low i)) no_row_twice n numbers_in_use)

-- the row with the new numbers in its links
abbrev pub relinked : (ℕ → ℕ) → Row → Row
relinked σ r = record { entry = r.entry; left = σ r.left; right = σ r.right }

-- row j of `rows` is row σ j of `rows'`, of which n' are in use
pub record Moved (σ : ℕ → ℕ) (rows rows' : ℕ → Row) (n' j : ℕ) : Type 0 where
  pub in_use : σ j < n'
  pub same_row : rows' (σ j) ≡ relinked σ (rows j)

-- σ gives rows other numbers. 0 still means none, and no row gets the number 0.
module _ (σ : ℕ → ℕ) (none_stays : σ 0 ≡ 0) (none_else : (j : ℕ) → σ (suc j) ≡ 0 → ⊥) (rows rows' : ℕ → Row) (n n' : ℕ) where
  relinked_side : (r : Row) (s : Side) → link (relinked σ r) s ≡ σ (link r s)
  relinked_side r left = refl
  relinked_side r right = refl

  relinked_ends : (m : ℕ) (r : Row) → ends_there m r ≡ true → ends_there m (relinked σ r) ≡ true
  relinked_ends zero r h = rw (no_link r h left, no_link r h right, none_stays)
  relinked_ends (suc m) r h = refl

  module _ (m path low i : ℕ) where
    no_damage_moved : Moved σ rows rows' n' i → NoDamage rows n m path low i → NoDamage rows' n' m path low (σ i)
    no_damage_moved moved r =
        record {
          in_use = moved.in_use;
          key_fits = rw (moved.same_row, key) r.key_fits;
          links_end = rw moved.same_row (relinked_ends m (rows i) r.links_end);
        }

    module _ (o : Opened rows n m path low i) where
      root_in : i ∈ numbers (unfolded rows n m path low i)
      unfolding numbers
      root_in = rw o.shows (Memᴰ.head refl)

      part_in : (s : Side) (j : ℕ) → j ∈ numbers (part_shown rows n m path i s) → j ∈ numbers (unfolded rows n m path low i)
      unfolding numbers
      part_in left j there = rw o.shows (Memᴰ.tail (Memᴰ.append_left (numbers (part_shown rows n m path i right)) there))
      part_in right j there = rw o.shows (Memᴰ.tail (Memᴰ.append_right (numbers (part_shown rows n m path i left)) there))

      row_renamed :
          Moved σ rows rows' n' i → ((s : Side) → part_shown rows' n' m path (σ i) s ≡ renamed σ (part_shown rows n m path i s))
          → unfolded rows' n' m path low (σ i) ≡ renamed σ (unfolded rows n m path low i)
      unfolding renamed
      row_renamed moved parts =
          rw (o.shows, shown_row rows' n' m path low (σ i) (no_damage_moved moved o.no_damage), parts left, parts right, moved.same_row, key)

  -- if every row of a tree has moved by σ, the tree is the same with the new numbers
  pub unfolded_renamed :
      (m path low i : ℕ) → intact (unfolded rows n m path low i) ≡ true
      → ((j : ℕ) → j ∈ numbers (unfolded rows n m path low i) → Moved σ rows rows' n' j)
      → unfolded rows' n' m path low (σ i) ≡ renamed σ (unfolded rows n m path low i)
  unfolding renamed
  unfolded_renamed zero path low i h moved =
      let o = opened rows n zero path low i h in
      row_renamed zero path low i o (moved i (root_in zero path low i o)) (λ s. refl)
  unfolded_renamed (suc m) path low i h moved =
      let o = opened rows n (suc m) path low i h in
      let at_root = moved i (root_in (suc m) path low i o) in
      let low' : ℕ = suc (key rows i) in
      row_renamed (suc m) path low i o at_root
      (λ s.
      let before : ℕ → Tree = unfolded rows n m (path * 2 + bit_of s) low' in
      let after : ℕ → Tree = unfolded rows' n' m (path * 2 + bit_of s) low' in
      rw (at_root.same_row, key, relinked_side (rows i) s)
      (along_link (λ j t. ((x : ℕ) → x ∈ numbers t → Moved σ rows rows' n' x) → linked after (σ j) ≡ renamed σ t) before
      (λ also. rw none_stays)
      (λ k undamaged also. linked_row after (σ (suc k)) (none_else k) ∙ unfolded_renamed m (path * 2 + bit_of s) low' (suc k) undamaged also)
      (link (rows i) s) (o.parts s)
      (λ x there. moved x (part_in (suc m) path low i o s x there))))

-- an unfolding does not change if its own rows do not change and stay in use
unfolded_frame :
    (rows rows' : ℕ → Row) (n n' m path low i : ℕ) → intact (unfolded rows n m path low i) ≡ true
    → ((j : ℕ) → j ∈ numbers (unfolded rows n m path low i) → (j < n') × (rows' j ≡ rows j))
    → unfolded rows' n' m path low i ≡ unfolded rows n m path low i
unfolded_frame rows rows' n n' m path low i h same =
    unfolded_renamed (λ j. j) refl (λ j e. absurd (omega arith)) rows rows' n n' m path low i h
    (λ j there. record { in_use = (same j there).0; same_row = (same j there).1 })
    ∙ renamed_same (unfolded rows n m path low i)
