-- The bounds of demand 3 are reached at every width. Document 01, "Slips to be kept out": "W+1 rows for every call. B shows W+2."
use Rattle.std.specs.Prelude.{ℕ, zero, suc, ◌+◌, ◌*◌, ◌-◌, ◌^◌, ◌≤◌, ◌<◌, ◌≡◌, List, [], ◌∷◌, ◌++◌, length}
use Rattle.ordered.specs.Dictionary.{Entry, Increasing}
use Rattle.ordered.specs.Source004.{◌∈◌}
use Rattle.pretree.specs.declared.Header.{Header}
use Rattle.pretree.specs.declared.Reply.{Reply}
use Rattle.pretree.specs.Table.{capacity}
use Rattle.pretree.specs.Add.{entry_for}
use Rattle.pretree.specs.declared.Call.{Call}
use Rattle.pretree.specs.declared.Call.TheVariants.{New, Add, Del, Has, Next, Prev, First, Last}
use Rattle.demands.specs.Program.{Program, Asked, State, outcome, end_state}
use Rattle.demands.specs.RowsRead.{rows_over}
use Rattle.demands.specs.Demand2.{Holding}

-- Words whose tree is one chain of right links down to depth W. With m bits left below the path p, the first word is p followed by zeros, and
-- the rest is the chain below the path p followed by 1. `chain W 0` is 0 and the words 2^W − 2^(W−j) for j from 1 to W.
unfoldable pub chain : ℕ → ℕ → List ℕ
chain zero p = p ∷ []
chain (suc m) p = p * 2 ^ suc m ∷ chain m (p * 2 + 1)

-- 0, 1, the words 2^(W−1) − 2^(W−j) for j from 2 to W, and 2^(W−1). The tree has a chain down to depth W on the left of the root, and one row
-- on the right. Document 01's B is the case W = 3.
unfoldable pub parted_chain : ℕ → List ℕ
parted_chain W = 0 ∷ 1 ∷ (chain (W - 2) 1 ++ (2 ^ (W - 1) ∷ []))

-- 0, 1, and the words 2^W − 2^(W−j) for j from 1 to W. The tree has one row on the left of the root, and a chain down to depth W on the right.
unfoldable pub forked_chain : ℕ → List ℕ
forked_chain W = 0 ∷ 1 ∷ chain (W - 1) 1

-- the set made by an `add` of each word, with the serial 0
abbrev pub entries_for : List ℕ → List Entry
entries_for [] = []
entries_for (x ∷ xs) = entry_for x 0 ∷ entries_for xs

-- the words of a set of width W
pub record SetOf (W : ℕ) (S : List ℕ) : Type 0 where
  pub increasing : Increasing S
  pub below : (x : ℕ) → x ∈ S → x < 2 ^ W

-- An `add` reads W+1 rows only if its word is already there: a row at depth W on the way of a word is the row of that word.
pub record Reached (W : ℕ) : Type 0 where
  pub a_set : SetOf W (chain W 0)
  pub has_reads : rows_over (Has (2 ^ W - 1)) W (entries_for (chain W 0)) ≡ W + 1
  pub add_reads : (serial : ℕ) → rows_over (Add (2 ^ W - 1) serial) W (entries_for (chain W 0)) ≡ W + 1
  pub del_reads : rows_over (Del (2 ^ W - 1)) W (entries_for (chain W 0)) ≡ W + 1
  pub first_reads : rows_over First W (entries_for (chain W 0)) ≡ 1
  pub last_reads : rows_over Last W (entries_for (chain W 0)) ≡ W + 1

-- "*B `prev` 4: 3, 5 rows. *B `next` 3: 4, 5 rows."
pub record ReachedBeyond (W : ℕ) : Type 0 where
  pub a_set : SetOf W (parted_chain W)
  pub next_reads : rows_over (Next (2 ^ (W - 1) - 1)) W (entries_for (parted_chain W)) ≡ W + 2
  pub prev_reads : rows_over (Prev (2 ^ (W - 1))) W (entries_for (parted_chain W)) ≡ W + 2

-- `new` W, and then an `add` of each word of S, with no buffer
abbrev pub asked : Call → Asked
asked c = record { call = c; buffer = [] }

unfoldable pub adds : List ℕ → List Asked
adds [] = []
adds (x ∷ xs) = asked (Add x 0) ∷ adds xs

abbrev pub making : ℕ → List ℕ → List Asked
making W S = asked (New W) ∷ adds S

-- the two counts of a reply
abbrev pub rows_read : Reply → ℕ
rows_read r = r.rows

abbrev pub moving_count : Reply → ℕ
moving_count r = r.moved

module _ (program : Program) where
  -- These sets can be reached by calls. After `new` W and an `add` of each word of S, in any state whose table has room, the table holds S. Then
  -- `count` of the reply to the call c is n.
  pub record ReadAfterAdds (count : Reply → ℕ) (W : ℕ) (S : List ℕ) (c : Call) (n : ℕ) (s : State) : Type 0 where
    pub width : (end_state program (making W S) s).header.width ≡ W
    pub held : Holding (end_state program (making W S) s).header (end_state program (making W S) s).table (entries_for S)
    pub reads : (buffer : List ℕ) → count (outcome program (record { call = c; buffer = buffer }) (end_state program (making W S) s)).reply ≡ n

  abbrev pub ReadOnce : (Reply → ℕ) → ℕ → List ℕ → Call → ℕ → Type 0
  ReadOnce count W S c n = (s : State) → length S ≤ capacity s.table → ReadAfterAdds count W S c n s

  -- the counts reached by calls at the width W
  pub record ReachedByCalls (W : ℕ) : Type 0 where
    pub has_reads : ReadOnce rows_read W (chain W 0) (Has (2 ^ W - 1)) (W + 1)
    pub add_reads : (serial : ℕ) → ReadOnce rows_read W (chain W 0) (Add (2 ^ W - 1) serial) (W + 1)
    pub del_reads : ReadOnce rows_read W (chain W 0) (Del (2 ^ W - 1)) (W + 1)
    pub first_reads : ReadOnce rows_read W (chain W 0) First 1
    pub last_reads : ReadOnce rows_read W (chain W 0) Last (W + 1)
    pub next_reads : 3 ≤ W → ReadOnce rows_read W (parted_chain W) (Next (2 ^ (W - 1) - 1)) (W + 2)
    pub prev_reads : 3 ≤ W → ReadOnce rows_read W (parted_chain W) (Prev (2 ^ (W - 1))) (W + 2)
    -- The words are added in increasing order, so the greatest word, at depth W, is in the last row. The hole that 1 leaves is its own row. So the
    -- last row moves.
    pub del_moves : 2 ≤ W → ReadOnce moving_count W (forked_chain W) (Del 1) (W + 1)

  -- n bounds a count that a kind of call reports at the width W, on tables that hold a set
  abbrev pub Bounds : (Reply → ℕ) → (ℕ → Call) → ℕ → ℕ → Type 0
  Bounds count call W n =
      (k : ℕ) (h : Header) (table buffer : List ℕ) (S : List Entry) → Holding h table S → h.width ≡ W → count (program (call k) h table buffer).reply ≤ n

  -- m is such a bound, and no number below m is one
  pub record LeastBound (count : Reply → ℕ) (call : ℕ → Call) (W m : ℕ) : Type 0 where
    pub bounds : Bounds count call W m
    pub no_lower : (n : ℕ) → Bounds count call W n → m ≤ n

  -- "Finding, adding, first and last read at most W+1 rows, next and previous at most W+2. An erase reads at most W+1, with at most W+1 more
  -- for the move. For each W from 3 to 32 some set makes a next and some set a previous read W+2." `first` reads only the root. No row moves at
  -- the width 1: a set has at most two words there, and a move needs three rows.
  pub record LeastBounds (W : ℕ) : Type 0 where
    pub has_bound : LeastBound rows_read Has W (W + 1)
    pub add_bound : (serial : ℕ) → LeastBound rows_read (λ k. Add k serial) W (W + 1)
    pub del_bound : LeastBound rows_read Del W (W + 1)
    pub first_bound : LeastBound rows_read (λ k. First) W 1
    pub last_bound : LeastBound rows_read (λ k. Last) W (W + 1)
    pub next_bound : 3 ≤ W → LeastBound rows_read Next W (W + 2)
    pub prev_bound : 3 ≤ W → LeastBound rows_read Prev W (W + 2)
    pub move_bound : 2 ≤ W → LeastBound moving_count Del W (W + 1)
    pub no_move : W < 2 → LeastBound moving_count Del W 0
