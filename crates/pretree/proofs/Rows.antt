-- The laws of a table's rows under the writes: what the written row holds afterwards; every other row, every word past the rows and the length stay.
-- Other files and crates use these laws and look at no single word of a row.
use Prim.Native.Nat.{ℕ, zero, suc, ◌+◌, ◌*◌, ◌≤◌, ◌<◌}
use mathlib.Core.Path.{◌≡◌, refl, ap, ◌∙◌}
use mathlib.Core.List.{List, [], ◌∷◌, ◌++◌}
use mathlib.Core.Logic.{◌⊎◌, inl, inr}
use native.Mathlib.Nat.{add-zero, mul-suc, mul-zero}
use native.Mathlib.Omega.{arith}
use lib.ListN.{length, get_or, set, length-set}
use lib.Seq.{sets, get_or-set_same, get_or-set_other, length-sets, set-get_or, get_or-append_seam, get_or-append-add}
use Rattle.ordered.specs.Such.{Perhaps, no_such, such}
use Rattle.ordered.specs.Dictionary.{Entry}
use Rattle.ordered.specs.Word.{Side, left, right, bit_of}
use Rattle.ordered.specs.Way.{Step}
use Rattle.ordered.specs.Change.{Take}
use Rattle.ordered.proofs.Parts.{All, none_all, one_all}
use Rattle.pretree.specs.declared.Row.{Row}
use Rattle.pretree.specs.Table.{row_words, capacity, to_code, row_at, link, with_entry, with_serial, with_link, with_row, cleared}
use Rattle.pretree.specs.Add.{taking, hooking}

-- Rows of any number of words, as document 02 §14 has them: a list of words is stored from the table word `at` on.
-- Each word before and after them stays,
stored_outside : (ws table : List ℕ) (at p : ℕ) → (p < at) ⊎ (at + length ws ≤ p) → get_or (sets table at ws) p 0 ≡ get_or table p 0
stored_outside [] table at p out = refl
stored_outside (w ∷ ws) table at p (inl before) =
    stored_outside ws (set table at w) (suc at) p (inl (omega arith)) ∙ get_or-set_other table at p w 0 (λ e. omega arith)
stored_outside (w ∷ ws) table at p (inr after) =
    stored_outside ws (set table at w) (suc at) p (inr (omega arith)) ∙ get_or-set_other table at p w 0 (λ e. omega arith)

-- and each of them is read back.
read_back : (ws table : List ℕ) (at j : ℕ) → at + length ws ≤ length table → j < length ws → get_or (sets table at ws) (at + j) 0 ≡ get_or ws j 0
read_back [] table at j room in_row = elim in_row [ ]
read_back (w ∷ ws) table at zero room in_row =
    rw (add-zero at) (stored_outside ws (set table at w) (suc at) at (inl (omega arith)) ∙ get_or-set_same table at w 0 (omega arith))
read_back (w ∷ ws) table at (suc j) room in_row =
    let place : at + suc j ≡ suc at + j = omega arith in
    rw place (read_back ws (set table at w) (suc at) j (omega (arith, length-set table at w)) (omega arith))

-- Two rows have no word in common, however many words a row has.
rows_apart : (wide i l j : ℕ) → (l ≡ i → ⊥) → j < wide → (wide * l + j < wide * i) ⊎ (wide * i + wide ≤ wide * l + j)
rows_apart wide zero zero j apart in_row = absurd (apart refl)
rows_apart wide zero (suc l) j apart in_row = inr (rw (mul-suc wide l, mul-zero wide) (omega arith))
rows_apart wide (suc i) zero j apart in_row = inl (rw (mul-suc wide i, mul-zero wide) (omega (arith, in_row)))
rows_apart wide (suc i) (suc l) j apart in_row = go (rows_apart wide i l j (λ e. apart (ap suc e)) in_row)
  where
    go : (wide * l + j < wide * i) ⊎ (wide * i + wide ≤ wide * l + j)
        → (wide * suc l + j < wide * suc i) ⊎ (wide * suc i + wide ≤ wide * suc l + j)
    go (inl h) = inl (omega (arith, h, mul-suc wide i, mul-suc wide l))
    go (inr h) = inr (omega (arith, h, mul-suc wide i, mul-suc wide l))

-- row i is in the table
abbrev pub HasRow : List ℕ → ℕ → Type 0
HasRow table i = row_words * i + row_words ≤ length table

-- the rows below the capacity are in the table
pub rows_fit : (n : ℕ) (table : List ℕ) → n ≤ capacity table → row_words * n ≤ length table
unfolding capacity
rows_fit n table room = omega arith

pub has_row : (table : List ℕ) (i n : ℕ) → i < n → row_words * n ≤ length table → HasRow table i
has_row table i n used room = omega arith

-- the row with another entry, and with another link
abbrev pub holding : Entry → Row → Row
holding e r = record { entry = to_code e; left = r.left; right = r.right }

abbrev pub linking : Side → ℕ → Row → Row
linking left j r = record { entry = r.entry; left = j; right = r.right }
linking right j r = record { entry = r.entry; left = r.left; right = j }

-- a row as words
abbrev pub row_as_words : Row → List ℕ
row_as_words r = r.entry.key ∷ r.left ∷ r.right ∷ r.entry.serial ∷ []

-- the row that is written
module _ (i : ℕ) (table : List ℕ) (room : HasRow table i) where
  abbrev at : ℕ
  at = row_words * i

  pub entry_written : (e : Entry) → row_at (with_entry i e table) i ≡ holding e (row_at table i)
  unfolding row_at with_entry with_serial
  entry_written e =
      let keyed : List ℕ = set table at e.key in
      let key_fits : at < length table = omega arith in
      let serial_fits : at + 3 < length keyed = omega (arith, length-set table at e.key) in
      let k3 : at ≡ at + 3 → ⊥ = λ e. omega arith in
      let l3 : at + 1 ≡ at + 3 → ⊥ = λ e. omega arith in
      let r3 : at + 2 ≡ at + 3 → ⊥ = λ e. omega arith in
      let l0 : at + 1 ≡ at → ⊥ = λ e. omega arith in
      let r0 : at + 2 ≡ at → ⊥ = λ e. omega arith in
      rw (
        get_or-set_other keyed (at + 3) at e.serial 0,
        get_or-set_same table at e.key 0,
        get_or-set_same keyed (at + 3) e.serial 0,
        get_or-set_other keyed (at + 3) (at + 1) e.serial 0,
        get_or-set_other table at (at + 1) e.key 0,
        get_or-set_other keyed (at + 3) (at + 2) e.serial 0,
        get_or-set_other table at (at + 2) e.key 0,
      )

  pub link_written : (s : Side) (j : ℕ) → row_at (with_link i s j table) i ≡ linking s j (row_at table i)
  unfolding row_at with_link
  link_written left j =
      let place : at + 1 + 0 ≡ at + 1 = omega arith in
      let zero : at ≡ at + 1 → ⊥ = λ e. omega arith in
      let two : at + 2 ≡ at + 1 → ⊥ = λ e. omega arith in
      let three : at + 3 ≡ at + 1 → ⊥ = λ e. omega arith in
      let fits : at + 1 < length table = omega arith in
      rw (
        place,
        get_or-set_same table (at + 1) j 0,
        get_or-set_other table (at + 1) at j 0,
        get_or-set_other table (at + 1) (at + 2) j 0,
        get_or-set_other table (at + 1) (at + 3) j 0,
      )
  link_written right j =
      let place : at + 1 + 1 ≡ at + 2 = omega arith in
      let zero : at ≡ at + 2 → ⊥ = λ e. omega arith in
      let one : at + 1 ≡ at + 2 → ⊥ = λ e. omega arith in
      let three : at + 3 ≡ at + 2 → ⊥ = λ e. omega arith in
      let fits : at + 2 < length table = omega arith in
      rw (
        place,
        get_or-set_same table (at + 2) j 0,
        get_or-set_other table (at + 2) at j 0,
        get_or-set_other table (at + 2) (at + 1) j 0,
        get_or-set_other table (at + 2) (at + 3) j 0,
      )

  pub row_written : (r : Row) → row_at (with_row i r table) i ≡ r
  unfolding row_at with_row
  row_written r =
      let ws : List ℕ = row_as_words r in
      let first : get_or (sets table at ws) at 0 ≡ r.entry.key = rw (add-zero at) at (read_back ws table at 0 room (omega arith)) in
      rw (first, read_back ws table at 1 room (omega arith), read_back ws table at 2 room (omega arith), read_back ws table at 3 room (omega arith))

-- every other row
module _ (i : ℕ) (table : List ℕ) (l : ℕ) (apart : l ≡ i → ⊥) where
  word_elsewhere : (p v : ℕ) (xs : List ℕ) → row_words * i < suc p → p < row_words * i + row_words → row_at (set xs p v) l ≡ row_at xs l
  unfolding row_at
  word_elsewhere p v xs from to =
      let zero_off : row_words * l ≡ p → ⊥ = λ e. omega arith in
      let one_off : row_words * l + 1 ≡ p → ⊥ = λ e. omega arith in
      let two_off : row_words * l + 2 ≡ p → ⊥ = λ e. omega arith in
      let three_off : row_words * l + 3 ≡ p → ⊥ = λ e. omega arith in
      rw (
        get_or-set_other xs p (row_words * l) v 0,
        get_or-set_other xs p (row_words * l + 1) v 0,
        get_or-set_other xs p (row_words * l + 2) v 0,
        get_or-set_other xs p (row_words * l + 3) v 0,
      )

  pub entry_elsewhere : (e : Entry) → row_at (with_entry i e table) l ≡ row_at table l
  unfolding with_entry with_serial
  entry_elsewhere e =
      word_elsewhere (row_words * i + 3) e.serial (set table (row_words * i) e.key) (omega arith) (omega arith)
      ∙ word_elsewhere (row_words * i) e.key table (omega arith) (omega arith)

  pub link_elsewhere : (s : Side) (j : ℕ) → row_at (with_link i s j table) l ≡ row_at table l
  unfolding with_link
  link_elsewhere left j = word_elsewhere (row_words * i + 1 + 0) j table (omega arith) (omega arith)
  link_elsewhere right j = word_elsewhere (row_words * i + 1 + 1) j table (omega arith) (omega arith)

  pub row_elsewhere : (r : Row) → row_at (with_row i r table) l ≡ row_at table l
  unfolding with_row row_at
  row_elsewhere r =
      let stays : (j : ℕ) → j < row_words → get_or (sets table (row_words * i) (row_as_words r)) (row_words * l + j) 0 ≡ get_or table (row_words * l + j) 0
      = λ j in_row. stored_outside (row_as_words r) table (row_words * i) (row_words * l + j) (rows_apart row_words i l j apart in_row) in
      let first : get_or (sets table (row_words * i) (row_as_words r)) (row_words * l) 0 ≡ get_or table (row_words * l) 0
      = rw (add-zero (row_words * l)) at (stays 0 (omega arith)) in
      rw (first, stays 1 (omega arith), stays 2 (omega arith), stays 3 (omega arith))

-- a write of an entry leaves every link
pub link_stays : (i : ℕ) (e : Entry) (table : List ℕ) (j : ℕ) (s : Side) → link (row_at (with_entry i e table) j) s ≡ link (row_at table j) s
unfolding row_at with_entry with_serial
link_stays i e table j left =
    get_or-set_other (set table (row_words * i) e.key) (row_words * i + 3) (row_words * j + 1) e.serial 0 (λ same. omega arith)
    ∙ get_or-set_other table (row_words * i) (row_words * j + 1) e.key 0 (λ same. omega arith)
link_stays i e table j right =
    get_or-set_other (set table (row_words * i) e.key) (row_words * i + 3) (row_words * j + 2) e.serial 0 (λ same. omega arith)
    ∙ get_or-set_other table (row_words * i) (row_words * j + 2) e.key 0 (λ same. omega arith)

-- a write of a serial leaves every key and every link
module _ (i serial : ℕ) (table : List ℕ) (j : ℕ) where
  pub key_stays : (row_at (with_serial i serial table) j).entry.key ≡ (row_at table j).entry.key
  unfolding row_at with_serial
  key_stays = get_or-set_other table (row_words * i + 3) (row_words * j) serial 0 (λ same. omega arith)

  pub links_stay : (s : Side) → link (row_at (with_serial i serial table) j) s ≡ link (row_at table j) s
  unfolding row_at with_serial
  links_stay left = get_or-set_other table (row_words * i + 3) (row_words * j + 1) serial 0 (λ same. omega arith)
  links_stay right = get_or-set_other table (row_words * i + 3) (row_words * j + 2) serial 0 (λ same. omega arith)

-- if a row takes an entry with the key that it has, only its serial changes
pub own_key : (i : ℕ) (e : Entry) (table : List ℕ) → e.key ≡ (row_at table i).entry.key → with_entry i e table ≡ with_serial i e.serial table
unfolding row_at with_entry
own_key i e table own = ap (λ k. with_serial i e.serial (set table (row_words * i) k)) own ∙ ap (with_serial i e.serial) (set-get_or table (row_words * i) 0)

-- if a row takes the entry that it has, it stays as it is
pub own_entry : (i : ℕ) (e : Entry) (table : List ℕ) → to_code e ≡ (row_at table i).entry → with_entry i e table ≡ table
unfolding row_at with_serial
own_entry i e table own =
    own_key i e table (ap (λ x. x.key) own)
    ∙ ap (λ s. set table (row_words * i + 3) s) (ap (λ x. x.serial) own) ∙ set-get_or table (row_words * i + 3) 0

-- no write changes the length
pub entry_length : (i : ℕ) (e : Entry) (table : List ℕ) → length (with_entry i e table) ≡ length table
unfolding with_entry with_serial
entry_length i e table = length-set (set table (row_words * i) e.key) (row_words * i + 3) e.serial ∙ length-set table (row_words * i) e.key

pub link_length : (i : ℕ) (s : Side) (j : ℕ) (table : List ℕ) → length (with_link i s j table) ≡ length table
unfolding with_link
link_length i s j table = length-set table (row_words * i + 1 + bit_of s) j

pub row_length : (i : ℕ) (r : Row) (table : List ℕ) → length (with_row i r table) ≡ length table
unfolding with_row
row_length i r table = length-sets table (row_words * i) (row_as_words r)

pub taking_length : (ts : List Take) (table : List ℕ) → length (taking ts table) ≡ length table
unfolding taking
taking_length [] table = refl
taking_length (t ∷ ts) table = taking_length ts (with_entry t.at t.entry table) ∙ entry_length t.at t.entry table

pub hooking_length : (p : Perhaps Step) (i : ℕ) (table : List ℕ) → length (hooking p i table) ≡ length table
hooking_length no_such i table = refl
hooking_length (such s) i table = link_length s.at s.turn i table

-- no write to one of the first c rows changes a word past them
module _ (c p : ℕ) (past : row_words * c ≤ p) (i : ℕ) (used : i < c) (table : List ℕ) where
  word_past : (q v : ℕ) (xs : List ℕ) → q < row_words * i + row_words → get_or (set xs q v) p 0 ≡ get_or xs p 0
  word_past q v xs within = get_or-set_other xs q p v 0 (λ same. omega arith)

  pub entry_past : (e : Entry) → get_or (with_entry i e table) p 0 ≡ get_or table p 0
  unfolding with_entry with_serial
  entry_past e =
      word_past (row_words * i + 3) e.serial (set table (row_words * i) e.key) (omega arith)
      ∙ word_past (row_words * i) e.key table (omega arith)

  pub link_past : (s : Side) (j : ℕ) → get_or (with_link i s j table) p 0 ≡ get_or table p 0
  unfolding with_link
  link_past left j = word_past (row_words * i + 1 + 0) j table (omega arith)
  link_past right j = word_past (row_words * i + 1 + 1) j table (omega arith)

  pub row_past : (r : Row) → get_or (with_row i r table) p 0 ≡ get_or table p 0
  unfolding with_row
  row_past r = stored_outside (row_as_words r) table (row_words * i) p (inr (omega arith))

-- two tables with the same words in a row have the same row there
pub same_row :
    (table table' : List ℕ) (i : ℕ) → ((p : ℕ) → row_words * i ≤ p → p < row_words * i + row_words → get_or table' p 0 ≡ get_or table p 0)
    → row_at table' i ≡ row_at table i
unfolding row_at
same_row table table' i same =
    rw (
      same (row_words * i) (omega arith) (omega arith),
      same (row_words * i + 1) (omega arith) (omega arith),
      same (row_words * i + 2) (omega arith) (omega arith),
      same (row_words * i + 3) (omega arith) (omega arith),
    )

-- a row of zeros is a cleared row
pub zero_row :
    (table : List ℕ) (i : ℕ) → ((p : ℕ) → row_words * i ≤ p → p < row_words * i + row_words → get_or table p 0 ≡ 0) → row_at table i ≡ cleared
unfolding row_at
zero_row table i zeros =
    rw (
      zeros (row_words * i) (omega arith) (omega arith),
      zeros (row_words * i + 1) (omega arith) (omega arith),
      zeros (row_words * i + 2) (omega arith) (omega arith),
      zeros (row_words * i + 3) (omega arith) (omega arith),
    )

-- what holds for a row's key, its serial and both links holds for each of its words
pub each_in_row : (P : ℕ → Type 0) (r : Row) → P r.entry.key → P r.entry.serial → ((s : Side) → P (link r s)) → All P (row_as_words r)
each_in_row P r own stored links = one_all own (one_all (links left) (one_all (links right) (one_all stored none_all)))

-- the row that is read where its words are
pub row_read : (i : ℕ) (r : Row) (before rest : List ℕ) → length before ≡ row_words * i → row_at (before ++ (row_as_words r ++ rest)) i ≡ r
unfolding row_at
row_read i r before rest at =
    let words : List ℕ = r.entry.key ∷ r.left ∷ r.right ∷ r.entry.serial ∷ rest in
    rw (← at, get_or-append_seam, get_or-append-add before words 1 0, get_or-append-add before words 2 0, get_or-append-add before words 3 0)
