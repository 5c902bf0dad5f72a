-- What sound means. For every table three things are equivalent: document 01's definition, the test that `audit` makes, and that the table is
-- the PreTree of some set. And a set has only one such tree.
use Rattle.std.specs.Prelude.{ℕ, ◌*◌, ◌^◌, ◌<◌, ◌≡◌, ◌↔◌, ◌⊎◌, true, List, [], ◌∷◌, ◌++◌, ltb, length, if◌then◌else◌}
use Rattle.ordered.specs.Dictionary.{Entry, words, Increasing}
use Rattle.ordered.specs.Source004.{◌∈◌}
use Rattle.ordered.specs.Tree.{entries, unnumbered, tree_of}
use Rattle.pretree.specs.Table.{row_words, with_serial}
use Rattle.pretree.specs.declared.Header.{Header}
use Rattle.pretree.specs.Unfold.{shown}
use Rattle.pretree.specs.Sound.{Sound, is_sound}
use Rattle.demands.specs.Numbers.{numbers, often}

-- The table holds the set S: it shows the PreTree of S ("The sound tree of a set is: its least word at the root, the rest parted by the next
-- bit, and so on down."), in "the rows 0 to count−1, each once".
pub record HoldsSet (h : Header) (table : List ℕ) (S : List Entry) : Type 0 where
  pub increasing : Increasing (words S)
  pub below : (x : ℕ) → x ∈ words S → x < 2 ^ h.width
  pub number : length S ≡ h.count
  pub tree : unnumbered (shown h table) ≡ tree_of h.width S
  pub each_row_once : (i : ℕ) → often i (numbers (shown h table)) ≡ (if ltb i h.count then 1 else 0)

pub record SoundIs (h : Header) (table : List ℕ) : Type 0 where
  -- "`audit` says whether the table is sound."
  pub the_test : Sound h table ↔ (is_sound h table ≡ true)
  -- A table is sound if and only if it is the PreTree of some set.
  pub of_a_set : Sound h table ↔ ((S : List Entry) × HoldsSet h table S)

pub record OneTree : Type 0 where
  -- two tables of one set and width differ only in row numbers
  pub one_tree :
      {h h' : Header} {table table' : List ℕ} {S : List Entry} → h.width ≡ h'.width → HoldsSet h table S → HoldsSet h' table' S
      → unnumbered (shown h table) ≡ unnumbered (shown h' table')
  -- the set that a table holds is the list of the entries in its rows
  pub its_entries : {h : Header} {table : List ℕ} {S : List Entry} → HoldsSet h table S → entries (shown h table) ≡ S
  -- so a table holds only one set
  pub one_set : {h : Header} {table : List ℕ} {S S' : List Entry} → HoldsSet h table S → HoldsSet h table S' → S ≡ S'

-- "Sound" does not depend on serials: changing the serial of a row does not change whether a table is sound.
abbrev pub AnySerial : Type 0
AnySerial = (h : Header) (table : List ℕ) (i serial : ℕ) → Sound h (with_serial i serial table) ↔ Sound h table

abbrev pub serials : List Entry → List ℕ
serials [] = []
serials (e ∷ S) = e.serial ∷ serials S

-- rows that hold the set S, whatever words follow them in the table
pub record RowsOf (W : ℕ) (S : List Entry) (rest : List ℕ) : Type 0 where
  pub rows : List ℕ
  pub as_many : length rows ≡ row_words * length S
  -- each word of the rows is a word of the width W, the number of a row, or a serial of S
  pub each_word : (w : ℕ) → w ∈ rows → (w < 2 ^ W) ⊎ ((w < length S) ⊎ (w ∈ serials S))
  pub held : HoldsSet (record { width = W; count = length S }) (rows ++ rest) S

-- There are such rows for every set of words of every width. So the promises about sound tables are not empty.
abbrev pub EverySetHasRows : Type 0
EverySetHasRows =
    (W : ℕ) (S : List Entry) (rest : List ℕ) → Increasing (words S) → ((x : ℕ) → x ∈ words S → x < 2 ^ W) → RowsOf W S rest
