-- The rows of a table spell a tree if each row of the tree is where its number says, with its entry and with the numbers of its parts as links.
-- If a table shows a tree without damage, its rows spell it. If the rows spell a proper tree, the table shows it. So the writes of `add` and
-- `del` can be followed row by row, without looking at bits.
use Prim.Native.Nat.{ℕ, zero, suc, ◌+◌, ◌*◌, ◌<◌}
use mathlib.Core.Path.{◌≡◌, refl, sym, ap, ◌∙◌}
use mathlib.Core.Bool.{true, false≢true}
use mathlib.Core.List.Memᴰ
use native.Mathlib.Omega.{arith}
use Rattle.ordered.specs.Word.{Side, left, right, bit_of}
use Rattle.ordered.specs.Source004.{◌∈◌}
use Rattle.ordered.specs.Dictionary.{Entry}
use Rattle.ordered.specs.Tree.{Tree, none, row, damaged, part, exists, intact}
use Rattle.ordered.specs.Proper.{Proper}
use Rattle.ordered.specs.Change.{number_at}
use Rattle.pretree.specs.declared.Row.{Row}
use Rattle.pretree.specs.Table.{to_code, entry_of, link}
use Rattle.pretree.specs.Unfold.{linked, unfolded}
use Rattle.demands.specs.Numbers.{numbers}
use Rattle.demands.proofs.Unfolding.{no_link, along_link, linked_row, key, part_shown, opened, shown_row}

-- the row of a tree, as a table holds it
abbrev pub row_of : Entry → Tree → Tree → Row
row_of e l r = record { entry = to_code e; left = number_at l; right = number_at r }

-- "A link of 0 means none": the number of a part that is there is not 0
pub record Part (t : Tree) : Type 0 where
  pub not_root : exists t ≡ true → number_at t ≡ 0 → ⊥

module _ (rows : ℕ → Row) (n : ℕ) where
  pub record RowSpelled (i : ℕ) (e : Entry) (l r : Tree) : Type 0 where
    pub in_use : i < n
    pub row_is : rows i ≡ row_of e l r
    pub named : (s : Side) → Part (part s l r)

  pub data Spelled : Tree → Type 0 where
    no_row : Spelled none
    a_row : {i : ℕ} {e : Entry} {l r : Tree} → RowSpelled i e l r → Spelled l → Spelled r → Spelled (row i e l r)

  part_spelled : {l r : Tree} → Spelled l → Spelled r → (s : Side) → Spelled (part s l r)
  part_spelled u v left = u
  part_spelled u v right = v

  -- link j names the root of t, and the rows spell t
  record LinkSpelled (j : ℕ) (t : Tree) : Type 0 where
    number : number_at t ≡ j
    is_part : Part t
    spells : Spelled t

  row_spelled : (i : ℕ) (f : Side → Tree) → i < n → ((s : Side) → LinkSpelled (link (rows i) s) (f s)) → Spelled (row i (entry_of (rows i)) (f left) (f right))
  row_spelled i f in_use links =
      let spelled_row : RowSpelled i (entry_of (rows i)) (f left) (f right) =
      record {
        in_use = in_use;
        row_is = rw ((links left).number, (links right).number);
        named = elim [ left ↦ (links left).is_part | right ↦ (links right).is_part ];
      } in
      a_row spelled_row (links left).spells (links right).spells

  none_linked : (j : ℕ) → j ≡ 0 → LinkSpelled j none
  none_linked j e = record { number = sym e; is_part = record { not_root = λ there. absurd (false≢true there) }; spells = no_row }

  pub root_number : (m path low i : ℕ) → intact (unfolded rows n m path low i) ≡ true → number_at (unfolded rows n m path low i) ≡ i
  root_number m path low i h = ap number_at (opened rows n m path low i h).shows

  -- the rows spell a tree that is shown without damage
  pub unfolded_spelled : (m path low i : ℕ) → intact (unfolded rows n m path low i) ≡ true → Spelled (unfolded rows n m path low i)
  unfolded_spelled zero path low i h =
      let o = opened rows n zero path low i h in
      rw o.shows (row_spelled i (λ s. none) o.no_damage.in_use (λ s. none_linked (link (rows i) s) (no_link (rows i) o.no_damage.links_end s)))
  unfolded_spelled (suc m) path low i h =
      let o = opened rows n (suc m) path low i h in
      let low' : ℕ = suc (key rows i) in
      rw o.shows
      (row_spelled i (part_shown rows n (suc m) path i) o.no_damage.in_use (λ s.
      along_link LinkSpelled (unfolded rows n m (path * 2 + bit_of s) low') (none_linked 0 refl)
      (λ k whole. record {
        number = root_number m (path * 2 + bit_of s) low' (suc k) whole;
        is_part = record { not_root = λ there e. omega (arith, root_number m (path * 2 + bit_of s) low' (suc k) whole) };
        spells = unfolded_spelled m (path * 2 + bit_of s) low' (suc k) whole;
      })
      (link (rows i) s) (o.parts s)))

  link_is : (e : Entry) (l r : Tree) (s : Side) → link (row_of e l r) s ≡ number_at (part s l r)
  link_is e l r left = refl
  link_is e l r right = refl

  part_shows : (f : ℕ → Tree) (t : Tree) → Part t → Spelled t → (exists t ≡ true → f (number_at t) ≡ t) → linked f (number_at t) ≡ t
  part_shows f none p s there = refl
  part_shows f (row i e l r) p s there = linked_row f i (p.not_root refl) ∙ there refl
  part_shows f damaged p s there = elim s [ ]

  -- the table shows a proper tree that its rows spell
  pub spelled_shows :
      (m path low : ℕ) (t : Tree) → Proper m path low t → Spelled t → exists t ≡ true → unfolded rows n m path low (number_at t) ≡ t
  unfolding Proper
  spelled_shows zero path low none h s there = absurd (false≢true there)
  spelled_shows zero path low (row i e l r) h (a_row s u v) there =
      shown_row rows n zero path low i
      (record { in_use = s.in_use; key_fits = rw (s.row_is, key) h.key_fits; links_end = rw (s.row_is, h.parts left, h.parts right) })
      ∙ rw (s.row_is, key, h.parts left, h.parts right)
  spelled_shows zero path low damaged h s there = elim h [ ]
  spelled_shows (suc m) path low none h s there = absurd (false≢true there)
  spelled_shows (suc m) path low (row i e l r) h (a_row s u v) there =
      let below : (σ : Side) → part_shown rows n (suc m) path i σ ≡ part σ l r =
      λ σ.
      rw (s.row_is, key, link_is e l r σ)
      (part_shows (unfolded rows n m (path * 2 + bit_of σ) (suc e.key)) (part σ l r) (s.named σ) (part_spelled u v σ)
      (spelled_shows m (path * 2 + bit_of σ) (suc e.key) (part σ l r) (h.parts σ) (part_spelled u v σ))) in
      shown_row rows n (suc m) path low i (record { in_use = s.in_use; key_fits = rw (s.row_is, key) h.key_fits; links_end = refl })
      ∙ rw (below left, below right, s.row_is, key)
  spelled_shows (suc m) path low damaged h s there = elim h [ ]

-- if the rows of a tree stay in use and do not change, they still spell it
pub spelled_frame :
    {rows rows' : ℕ → Row} {n n' : ℕ} (t : Tree) → Spelled rows n t → ((j : ℕ) → j ∈ numbers t → j < n → (j < n') × (rows' j ≡ rows j))
    → Spelled rows' n' t
unfolding numbers
spelled_frame none s same = no_row
spelled_frame (row i e l r) (a_row s u v) same =
    a_row (record {
      in_use = (same i (Memᴰ.head refl) s.in_use).0;
      row_is = (same i (Memᴰ.head refl) s.in_use).1 ∙ s.row_is;
      named = s.named;
    })
    (spelled_frame l u (λ j there. same j (Memᴰ.tail (Memᴰ.append_left (numbers r) there))))
    (spelled_frame r v (λ j there. same j (Memᴰ.tail (Memᴰ.append_right (numbers l) there))))
spelled_frame damaged s same = elim s [ ]
