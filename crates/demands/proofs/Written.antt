-- There is a sound table for every set: its rows are in the order of the listing, "its key, then its left part, then its right part".
use Prim.Native.Nat.{ℕ, zero, suc, ◌+◌, ◌*◌, ◌^◌, ◌≤◌, ◌<◌}
use mathlib.Core.Path.{◌≡◌, refl, sym, ap, subst, ◌∙◌}
use mathlib.Core.Logic.{◌⊎◌, inl, inr}
use mathlib.Core.Bool.{true, false≢true}
use mathlib.Core.List.{List, [], ◌∷◌, ◌++◌, append_assoc}
use mathlib.Core.List.Memᴰ
use native.Mathlib.Omega.{arith}
use lib.Dec.{eqb-suc-zero}
use lib.ListN.{length, length-append}
use Rattle.std.specs.Prelude.{if◌then◌else◌}
use Rattle.ordered.specs.Word.{Side, left, right, bit_of}
use Rattle.ordered.specs.Dictionary.{Entry, words, Increasing}
use Rattle.ordered.specs.Source004.{◌∈◌}
use Rattle.ordered.specs.Tree.{Tree, none, row, damaged, part, exists, entries, size, intact, unnumbered, tree_of}
use Rattle.ordered.specs.Proper.{Fitting, Proper}
use Rattle.ordered.proofs.Parts.{All, none_all, all_append, each_of_all, AllWords}
use Rattle.ordered.proofs.OneTree.{set_proper, set_entries, set_unnumbered, proper_intact, entries_length}
use Rattle.pretree.specs.declared.Header.{Header}
use Rattle.pretree.specs.declared.Row.{Row}
use Rattle.pretree.specs.Table.{row_words, row_at, to_code, link}
use Rattle.pretree.specs.Unfold.{ends_there, linked, unfolded, shown}
use Rattle.pretree.proofs.Rows.{row_as_words, each_in_row, row_read}
use Rattle.demands.specs.SoundIs.{serials, EverySetHasRows}
use Rattle.demands.proofs.Unfolding.{both, key, part_shown, shown_row}
use Rattle.demands.proofs.SoundIs.{set_fits, tree_intact, tree_entries, held_by_entries}

-- for a row with number k and left part l: the number of the last row before the part on side s, and of the part's first row
abbrev before_part : Side → ℕ → Tree → ℕ
before_part left k l = k
before_part right k l = k + size l

abbrev place : Side → ℕ → Tree → ℕ
place s k l = suc (before_part s k l)

abbrev link_to : ℕ → Tree → ℕ
link_to k t = if exists t then k else 0

-- the row with number k
abbrev row_of : ℕ → Entry → Tree → Tree → Row
row_of k e l r = record { entry = to_code e; left = link_to (place left k l) l; right = link_to (place right k l) r }

-- the rows of a tree from row k on, as words
written : ℕ → Tree → List ℕ
written k none = []
written k (row i e l r) =
    row_as_words (row_of k e l r) ++ (written (place left k l) l ++ written (place right k l) r)
written k damaged = []

-- the rows of a tree are in a table from row k on
Standing : (ℕ → Row) → ℕ → Tree → Type 0
Standing rows k none = Unit {0}
Standing rows k (row i e l r) = (rows k ≡ row_of k e l r) × Standing rows (place left k l) l × Standing rows (place right k l) r
Standing rows k damaged = Unit {0}

written_length : (k : ℕ) (t : Tree) → length (written k t) ≡ row_words * size t
unfolding written size
written_length k none = refl
written_length k (row i e l r) =
    rw (length-append (written (place left k l) l) (written (place right k l) r))
    (omega (arith, written_length (place left k l) l, written_length (place right k l) r))
written_length k damaged = refl

-- the rows are where they are written
written_stands : (k : ℕ) (t : Tree) (before after : List ℕ) → length before ≡ row_words * k → Standing (row_at (before ++ (written k t ++ after))) k t
unfolding written Standing
written_stands k none before after at = tt
written_stands k (row i e l r) before after at =
    let own : List ℕ = row_as_words (row_of k e l r) in
    let lefts : List ℕ = written (place left k l) l in
    let rights : List ℕ = written (place right k l) r in
    let same : before ++ (own ++ (lefts ++ (rights ++ after))) ≡ before ++ (own ++ ((lefts ++ rights) ++ after)) =
    ap (λ words. before ++ (own ++ words)) (sym (append_assoc lefts rights after)) in (
      row_read k (row_of k e l r) before ((lefts ++ rights) ++ after) at,
      subst (λ words. Standing (row_at words) (place left k l) l) (append_assoc before own (lefts ++ (rights ++ after)) ∙ same)
          (written_stands (place left k l) l (before ++ own) (rights ++ after) (rw length-append (omega arith))),
      subst (λ words. Standing (row_at words) (place right k l) r) (append_assoc before (own ++ lefts) (rights ++ after) ∙ same)
          (written_stands (place right k l) r (before ++ (own ++ lefts)) after (rw length-append (omega (arith, written_length (place left k l) l)))),
    )
written_stands k damaged before after at = tt

module _ (rows : ℕ → Row) (n : ℕ) where
  link_shows :
      (f : ℕ → Tree) (k : ℕ) (t : Tree) → (exists t ≡ true → unnumbered (f (suc k)) ≡ unnumbered t)
      → unnumbered (linked f (link_to (suc k) t)) ≡ unnumbered t
  unfolding unnumbered
  link_shows f k none there = refl
  link_shows f k (row i e l r) there = there refl
  link_shows f k damaged there = there refl

  part_stands : (k i : ℕ) (e : Entry) (l r : Tree) → Standing rows k (row i e l r) → (s : Side) → Standing rows (place s k l) (part s l r)
  unfolding Standing
  part_stands k i e l r stands left = stands.1
  part_stands k i e l r stands right = stands.2

  part_room : (k : ℕ) (l r : Tree) → k + suc (size l + size r) ≤ n → (s : Side) → place s k l + size (part s l r) ≤ n
  part_room k l r room left = omega arith
  part_room k l r room right = omega arith

  link_of_row : (k : ℕ) (e : Entry) (l r : Tree) (s : Side) → link (row_of k e l r) s ≡ link_to (place s k l) (part s l r)
  link_of_row k e l r left = refl
  link_of_row k e l r right = refl

  row_shows :
      (m path low k : ℕ) (e : Entry) (l r : Tree) → rows k ≡ row_of k e l r → k < n → Fitting m path low e.key
      → ends_there m (row_of k e l r) ≡ true → ((s : Side) → unnumbered (part_shown rows n m path k s) ≡ unnumbered (part s l r))
      → unnumbered (unfolded rows n m path low k) ≡ row 0 e (unnumbered l) (unnumbered r)
  unfolding unnumbered
  row_shows m path low k e l r same in_use fits ends parts =
      rw (
        shown_row rows n m path low k (record { in_use = in_use; key_fits = rw (same, key) fits; links_end = rw same ends }),
        parts left,
        parts right,
        same,
        key,
      )

  -- a table with the rows of a tree shows the tree
  standing_shows :
      (m path low k : ℕ) (t : Tree) → exists t ≡ true → Proper m path low t → Standing rows k t → k + size t ≤ n
      → unnumbered (unfolded rows n m path low k) ≡ unnumbered t
  unfolding Proper Standing unnumbered size
  standing_shows zero path low k none there h stands room = absurd (false≢true there)
  standing_shows zero path low k (row i e l r) there h stands room =
      row_shows zero path low k e l r stands.0 (omega arith) h.key_fits (rw (h.parts left, h.parts right)) (λ s. rw (h.parts s))
  standing_shows zero path low k damaged there h stands room = absurd h
  standing_shows (suc m) path low k none there h stands room = absurd (false≢true there)
  standing_shows (suc m) path low k (row i e l r) there h stands room =
      let low' : ℕ = suc e.key in
      row_shows (suc m) path low k e l r stands.0 (omega arith) h.key_fits refl
      (λ s.
      rw (stands.0, key, link_of_row k e l r s)
      (link_shows (unfolded rows n m (path * 2 + bit_of s) low') (before_part s k l) (part s l r)
      (λ exists. standing_shows m (path * 2 + bit_of s) low' (place s k l) (part s l r) exists (h.parts s) (part_stands k i e l r stands s) (part_room k l r room s))))
  standing_shows (suc m) path low k damaged there h stands room = absurd h

set_size : (W : ℕ) (S : List Entry) → Increasing (words S) → ((x : ℕ) → x ∈ words S → x < 2 ^ W) → size (tree_of W S) ≡ length S
set_size W S rising below = sym (entries_length (tree_of W S)) ∙ ap length (set_entries W 0 0 S rising (set_fits W S below))

-- what the rows of a set show from row 0, if there is a row
root_shows :
    (W : ℕ) (S : List Entry) (rest : List ℕ) → Increasing (words S) → ((x : ℕ) → x ∈ words S → x < 2 ^ W) → exists (tree_of W S) ≡ true
    → unnumbered (unfolded (row_at (written 0 (tree_of W S) ++ rest)) (length S) W 0 0 0) ≡ tree_of W S
root_shows W S rest rising below there =
    standing_shows (row_at (written 0 (tree_of W S) ++ rest)) (length S) W 0 0 0 (tree_of W S) there
    (set_proper W 0 0 S rising (set_fits W S below)) (written_stands 0 (tree_of W S) [] rest refl) (omega (arith, set_size W S rising below))
    ∙ set_unnumbered W S

table_shows :
    (W : ℕ) (S : List Entry) (rest : List ℕ) → Increasing (words S) → ((x : ℕ) → x ∈ words S → x < 2 ^ W)
    → unnumbered (shown (record { width = W; count = length S }) (written 0 (tree_of W S) ++ rest)) ≡ tree_of W S
unfolding shown unnumbered tree_of
table_shows zero [] rest rising below = refl
table_shows zero (x ∷ xs) rest rising below = rw eqb-suc-zero (root_shows zero (x ∷ xs) rest rising below refl)
table_shows (suc W) [] rest rising below = refl
table_shows (suc W) (x ∷ xs) rest rising below = rw eqb-suc-zero (root_shows (suc W) (x ∷ xs) rest rising below refl)

-- a word in the rows of a set is a key, the number of a row, or a serial of the set
module _ (W n : ℕ) (S : List Entry) where
  abbrev Word : ℕ → Type 0
  Word w = (w < 2 ^ W) ⊎ ((w < n) ⊎ (w ∈ serials S))

  link_small : (k : ℕ) (t : Tree) → intact t ≡ true → suc k + size t ≤ n → link_to (suc k) t < n
  unfolding intact size
  link_small k none whole room = omega arith
  link_small k (row i e l r) whole room = omega arith
  link_small k damaged whole room = absurd (false≢true whole)

  written_words : (k : ℕ) (t : Tree) → intact t ≡ true → ((e : Entry) → e ∈ entries t → (e.key < 2 ^ W) × (e.serial ∈ serials S)) → k + size t ≤ n → All Word (written k t)
  unfolding written entries intact size
  written_words k none whole small room = none_all
  written_words k (row i e l r) whole small room =
      let b = both (intact l) (intact r) whole in
      all_append
      (each_in_row Word (row_of k e l r) (inl (small e (Memᴰ.head refl)).0) (inr (inr (small e (Memᴰ.head refl)).1))
      (elim [ left ↦ inr (inl (link_small k l b.0 (omega arith))) | right ↦ inr (inl (link_small (k + size l) r b.1 (omega arith))) ]))
      (all_append
      (written_words (place left k l) l b.0 (λ f there. small f (Memᴰ.tail (Memᴰ.append_left (entries r) there))) (omega arith))
      (written_words (place right k l) r b.1 (λ f there. small f (Memᴰ.tail (Memᴰ.append_right (entries l) there))) (omega arith)))
  written_words k damaged whole small room = none_all

word_in : (e : Entry) (S : List Entry) → e ∈ S → e.key ∈ words S
word_in e (f ∷ S) (Memᴰ.head same) = Memᴰ.head (ap (λ x. x.key) same)
word_in e (f ∷ S) (Memᴰ.tail there) = Memᴰ.tail (word_in e S there)
word_in e [] there = elim there [ ]

serial_in : (e : Entry) (S : List Entry) → e ∈ S → e.serial ∈ serials S
serial_in e (f ∷ S) (Memᴰ.head same) = Memᴰ.head (ap (λ x. x.serial) same)
serial_in e (f ∷ S) (Memᴰ.tail there) = Memᴰ.tail (serial_in e S there)
serial_in e [] there = elim there [ ]

pub every_set_has_rows : EverySetHasRows
every_set_has_rows W S rest rising below =
    let h : Header = record { width = W; count = length S } in
    let table : List ℕ = written 0 (tree_of W S) ++ rest in
    let fits : AllWords (Fitting W 0 0) S = set_fits W S below in
    let tree : unnumbered (shown h table) ≡ tree_of W S = table_shows W S rest rising below in
    record {
      rows = written 0 (tree_of W S);
      as_many = written_length 0 (tree_of W S) ∙ ap (λ n. row_words * n) (set_size W S rising below);
      each_word =
          λ w there.
          each_of_all
          (written_words W (length S) S 0 (tree_of W S) (proper_intact W 0 0 (tree_of W S) (set_proper W 0 0 S rising fits))
          (λ e there.
          let in_set : e ∈ S = rw (set_entries W 0 0 S rising fits) at there in
          (below e.key (word_in e S in_set), serial_in e S in_set)) (omega (arith, set_size W S rising below)))
          there;
      held = held_by_entries h table (tree_intact h table S rising below tree) (tree_entries h table S rising below tree) refl;
    }
