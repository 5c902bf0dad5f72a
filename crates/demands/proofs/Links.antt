-- No row is named by two links. So when the last row of a table moves, only one link has to be set, and the tree changes only in row numbers.
-- Document 01: "If the hole is not row count−1, that last row is moved into it. [..] The order is: keys up, unlink, move, set the link."
use Prim.Native.Nat.{ℕ, zero, suc, ◌+◌, ◌*◌, ◌≤◌, ◌<◌}
use mathlib.Core.Path.{◌≡◌, refl, sym, ap, ◌∙◌}
use mathlib.Core.Bool.{Bool, true, false}
use mathlib.Core.List.{List, [], ◌∷◌, ◌++◌}
use mathlib.Core.List.Memᴰ
use native.Mathlib.Omega.{arith}
use lib.Dec.{eqb}
use borrow.Author.Tests.{eqb-true, eqb-false, eq-eqb, ne_eqb}
use Rattle.std.specs.Prelude.{if◌then◌else◌}
use Rattle.ordered.specs.Word.{Side, left, right, other, bit_of}
use Rattle.ordered.specs.Source004.{◌∈◌}
use Rattle.ordered.specs.Tree.{Tree, intact}
use Rattle.ordered.proofs.Parts.{each_of_all}
use Rattle.pretree.specs.declared.Row.{Row}
use Rattle.pretree.specs.Table.{link}
use Rattle.pretree.specs.Unfold.{unfolded}
use Rattle.pretree.proofs.Rows.{linking}
use Rattle.demands.specs.Numbers.{numbers, often, renamed}
use Rattle.demands.proofs.Unfolding.{no_link, along_link, key, part_shown, Opened, opened, numbers_in_use, no_row_twice, relinked, Moved, unfolded_renamed}

-- 1 if a link names row x, else 0
abbrev names : ℕ → ℕ → ℕ
names x zero = 0
names x (suc j) = if eqb x (suc j) then 1 else 0

abbrev sum : (ℕ → ℕ) → List ℕ → ℕ
sum f [] = 0
sum f (x ∷ xs) = f x + sum f xs

sum_append : (f : ℕ → ℕ) (xs ys : List ℕ) → sum f (xs ++ ys) ≡ sum f xs + sum f ys
sum_append f [] ys = omega arith
sum_append f (x ∷ xs) ys = omega (arith, sum_append f xs ys)

pub often_append : (i : ℕ) (xs ys : List ℕ) → often i (xs ++ ys) ≡ often i xs + often i ys
unfolding often
often_append i [] ys = omega arith
often_append i (x ∷ xs) ys = omega (arith, often_append i xs ys)

sum_of_one : (f : ℕ → ℕ) {j : ℕ} {js : List ℕ} → j ∈ js → f j ≤ sum f js
sum_of_one f (Memᴰ.head e) = omega (arith, ap f e)
sum_of_one f (Memᴰ.tail there) = omega (arith, sum_of_one f there)

sum_of_two : (f : ℕ → ℕ) {j k : ℕ} {js : List ℕ} → j ∈ js → k ∈ js → (j ≡ k → ⊥) → f j + f k ≤ sum f js
sum_of_two f (Memᴰ.head e) (Memᴰ.head e') different = absurd (different (e ∙ sym e'))
sum_of_two f (Memᴰ.head e) (Memᴰ.tail there) different = omega (arith, ap f e, sum_of_one f there)
sum_of_two f (Memᴰ.tail there) (Memᴰ.head e) different = omega (arith, ap f e, sum_of_one f there)
sum_of_two f (Memᴰ.tail there) (Memᴰ.tail there') different = omega (arith, sum_of_two f there there' different)

module _ (rows : ℕ → Row) (n x : ℕ) where
  -- how many links of row j name row x
  abbrev naming : ℕ → ℕ
  naming j = names x (rows j).left + names x (rows j).right

  row_named :
      (m path low i : ℕ) → Opened rows n m path low i
      → ((s : Side) → often x (numbers (part_shown rows n m path i s)) ≡ names x (link (rows i) s) + sum naming (numbers (part_shown rows n m path i s)))
      → often x (numbers (unfolded rows n m path low i)) ≡ (if eqb x i then 1 else 0) + sum naming (numbers (unfolded rows n m path low i))
  unfolding numbers often
  row_named m path low i o parts = rw (o.shows, often_append x, sum_append naming) (omega (arith, parts left, parts right))

  -- a row is in a tree as often as it is named there, and the root once more
  named :
      (m path low i : ℕ) → intact (unfolded rows n m path low i) ≡ true
      → often x (numbers (unfolded rows n m path low i)) ≡ (if eqb x i then 1 else 0) + sum naming (numbers (unfolded rows n m path low i))
  unfolding numbers often
  named zero path low i h =
      let o = opened rows n zero path low i h in
      row_named zero path low i o (λ s. rw (no_link (rows i) o.no_damage.links_end s))
  named (suc m) path low i h =
      let o = opened rows n (suc m) path low i h in
      let low' : ℕ = suc (key rows i) in
      row_named (suc m) path low i o (λ s.
      along_link (λ j t. often x (numbers t) ≡ names x j + sum naming (numbers t)) (unfolded rows n m (path * 2 + bit_of s) low') refl
      (λ k. named m (path * 2 + bit_of s) low' (suc k)) (link (rows i) s) (o.parts s))

  module _ (is_row : x ≡ 0 → ⊥) where
    names_it : (j : ℕ) → j ≡ x → names x j ≡ 1
    names_it zero e = absurd (is_row (sym e))
    names_it (suc j) e = rw (eq-eqb x (suc j) (sym e))

    naming_by : (j : ℕ) (s : Side) → link (rows j) s ≡ x → 1 ≤ naming j
    naming_by j left e = omega (arith, names_it (rows j).left e)
    naming_by j right e = omega (arith, names_it (rows j).right e)

    naming_twice : (j : ℕ) → (rows j).left ≡ x → (rows j).right ≡ x → 2 ≤ naming j
    naming_twice j e e' = omega (arith, names_it (rows j).left e, names_it (rows j).right e')

-- two links of a tree that name the same row are one link
module _
    (rows : ℕ → Row) (n m path low i : ℕ) (h : intact (unfolded rows n m path low i) ≡ true)
    (x : ℕ) (is_row : x ≡ 0 → ⊥)
  where
    few : sum (naming rows n x) (numbers (unfolded rows n m path low i)) ≤ 1
    few = omega (arith, named rows n x m path low i h, no_row_twice rows n m path low i h x)

    one_row_names :
        (j k : ℕ) → j ∈ numbers (unfolded rows n m path low i) → k ∈ numbers (unfolded rows n m path low i)
        → (s t : Side) → link (rows j) s ≡ x → link (rows k) t ≡ x → j ≡ k
    one_row_names j k j_in k_in s t e e' = by_cases (eqb j k) refl
      where
        by_cases : (b : Bool) → eqb j k ≡ b → j ≡ k
        by_cases true same = eqb-true j k same
        by_cases false differ =
            absurd
            (omega (
              arith,
              few,
              sum_of_two (naming rows n x) j_in k_in (eqb-false j k differ),
              naming_by rows n x is_row j s e,
              naming_by rows n x is_row k t e',
            ))

    one_side_names : (j : ℕ) → j ∈ numbers (unfolded rows n m path low i) → (s : Side) → link (rows j) s ≡ x → link (rows j) (other s) ≡ x → ⊥
    one_side_names j j_in left e e' = omega (arith, few, sum_of_one (naming rows n x) j_in, naming_twice rows n x is_row j e e')
    one_side_names j j_in right e e' = omega (arith, few, sum_of_one (naming rows n x) j_in, naming_twice rows n x is_row j e' e)

-- the number of row j, after the last row has moved into the hole
unfoldable pub moved_into : ℕ → ℕ → ℕ → ℕ
moved_into hole last j = if eqb j last then hole else j

-- the rows of a tree after "move, set the link": the last row is in the hole, and the link that named it names the hole
pub record LastMoved (rows rows' : ℕ → Row) (hole last parent : ℕ) (s : Side) (t : Tree) : Type 0 where
  pub hole_earlier : hole < last
  pub hole_no_root : hole ≡ 0 → ⊥
  pub parent_there : parent ∈ numbers t
  pub parent_other : parent ≡ last → ⊥
  pub parent_names : link (rows parent) s ≡ last
  pub moved : rows' hole ≡ rows last
  pub link_set : rows' parent ≡ linking s hole (rows parent)
  pub others_stay : (j : ℕ) → j ∈ numbers t → (j ≡ last → ⊥) → (j ≡ parent → ⊥) → rows' j ≡ rows j

module _ (hole last : ℕ) where
  goes : moved_into hole last last ≡ hole
  unfolding moved_into
  goes = rw (eq-eqb last last refl)

  stays : (j : ℕ) → (j ≡ last → ⊥) → moved_into hole last j ≡ j
  unfolding moved_into
  stays j h = rw (ne_eqb j last h)

  none_else : (hole ≡ 0 → ⊥) → (j : ℕ) → moved_into hole last (suc j) ≡ 0 → ⊥
  unfolding moved_into
  none_else no_root j = by_cases (eqb (suc j) last)
    where
      by_cases : (b : Bool) → (if b then hole else suc j) ≡ 0 → ⊥
      by_cases true e = no_root e
      by_cases false e = omega arith

  unnamed : (r : Row) → ((s : Side) → link r s ≡ last → ⊥) → r ≡ relinked (moved_into hole last) r
  unnamed r h = rw (stays r.left (h left), stays r.right (h right))

  link_moved : (r : Row) (s : Side) → link r s ≡ last → (link r (other s) ≡ last → ⊥) → linking s hole r ≡ relinked (moved_into hole last) r
  link_moved r left e h = rw (e, goes, stays r.right h)
  link_moved r right e h = rw (e, goes, stays r.left h)

-- the move changes only row numbers, and takes one row out of use
module _
    (rows rows' : ℕ → Row) (hole last parent : ℕ) (s : Side) (m path low i : ℕ) (h : intact (unfolded rows (suc last) m path low i) ≡ true)
    (c : LastMoved rows rows' hole last parent s (unfolded rows (suc last) m path low i))
  where
    abbrev σ : ℕ → ℕ
    σ = moved_into hole last

    is_row : last ≡ 0 → ⊥
    is_row e = omega (arith, c.hole_earlier)

    -- no other link names the last row
    only_parent : (j : ℕ) → j ∈ numbers (unfolded rows (suc last) m path low i) → (j ≡ parent → ⊥) → (t : Side) → link (rows j) t ≡ last → ⊥
    only_parent j there different t e =
        different (one_row_names rows (suc last) m path low i h last is_row j parent there c.parent_there t s e c.parent_names)

    stays_in_use : (j : ℕ) → j ∈ numbers (unfolded rows (suc last) m path low i) → (j ≡ last → ⊥) → σ j < last
    stays_in_use j there different =
        rw (stays hole last j different) (omega (arith, each_of_all (numbers_in_use rows (suc last) m path low i h) there))

    row_moved : (j : ℕ) → j ∈ numbers (unfolded rows (suc last) m path low i) → Moved σ rows rows' last j
    row_moved j there = by_cases (eqb j last) refl (eqb j parent) refl
      where
        by_cases : (b : Bool) → eqb j last ≡ b → (d : Bool) → eqb j parent ≡ d → Moved σ rows rows' last j
        by_cases true e d e' =
            let same : j ≡ last = eqb-true j last e in
            let no_parent : j ≡ parent → ⊥ = λ p. c.parent_other (sym p ∙ same) in
            record {
              in_use = rw (same, goes hole last) c.hole_earlier;
              same_row =
                  ap (λ k. rows' (σ k)) same ∙ ap rows' (goes hole last) ∙ c.moved ∙ ap rows (sym same)
                  ∙ unnamed hole last (rows j) (only_parent j there no_parent);
            }
        by_cases false e true e' =
            let same : j ≡ parent = eqb-true j parent e' in
            let names : link (rows j) s ≡ last = ap (λ k. link (rows k) s) same ∙ c.parent_names in
            record {
              in_use = stays_in_use j there (eqb-false j last e);
              same_row =
                  ap rows' (stays hole last j (eqb-false j last e) ∙ same) ∙ c.link_set ∙ ap (λ k. linking s hole (rows k)) (sym same)
                  ∙ link_moved hole last (rows j) s names (one_side_names rows (suc last) m path low i h last is_row j there s names);
            }
        by_cases false e false e' =
            record {
              in_use = stays_in_use j there (eqb-false j last e);
              same_row =
                  ap rows' (stays hole last j (eqb-false j last e)) ∙ c.others_stay j there (eqb-false j last e) (eqb-false j parent e')
                  ∙ unnamed hole last (rows j) (only_parent j there (eqb-false j parent e'));
            }

    pub last_row_moved : unfolded rows' last m path low (σ i) ≡ renamed σ (unfolded rows (suc last) m path low i)
    last_row_moved =
        unfolded_renamed σ (stays hole last 0 (λ e. is_row (sym e))) (none_else hole last c.hole_no_root) rows rows' (suc last) last m path low i h row_moved
