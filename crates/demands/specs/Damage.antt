-- What damage is, in document 01's words, stated over the links of the table. `damage_tested` (proofs/Damage.antt) proves that the calls test for
-- exactly this.
-- Document 01: "Damage (4), for single-word calls, is exactly one of these: a link that the way follows is count or more; a row read has a key of
-- 2^W or more, or not greater than that of the row it was reached from, or without the bits of the path to it; a row read at depth W has a link
-- other than 0; the second way of `del` doesn't end at row count−1 with its key."
use Rattle.std.specs.Prelude.{ℕ, zero, suc, ◌+◌, ◌*◌, ◌-◌, ◌/◌, ◌%◌, ◌^◌, ◌≤◌, pred, ◌≡◌, ◌⊎◌, List, [], ◌∷◌, leb, eqb, if◌then◌else◌}
use Rattle.ordered.specs.Such.{Perhaps, no_such, such}
use Rattle.ordered.specs.Word.{Side, left, right, side_of, bit_of}
use Rattle.ordered.specs.Source004.{◌∈◌}
use Rattle.ordered.specs.Dictionary.{Entry}
use Rattle.ordered.specs.Tree.{Tree, none, row}
use Rattle.ordered.specs.Way.{Way, way, following}
use Rattle.ordered.specs.Reading.{read_of, has, next, prev, gap, first, last}
use Rattle.ordered.specs.Change.{adding, erasing}
use Rattle.pretree.specs.declared.Header.{Header}
use Rattle.pretree.specs.declared.Row.{Row}
use Rattle.pretree.specs.Table.{row_at, entry_of, link}
use Rattle.pretree.specs.Unfold.{linked}
use Rattle.pretree.specs.Add.{entry_for}
use Rattle.pretree.specs.declared.Call.{Call}
use Rattle.pretree.specs.declared.Call.TheVariants.{New, Add, Del, Has, Next, Prev, Gap, First, Last, Audit}
use Rattle.demands.specs.SoundIs.{HoldsSet}

-- The tree that the links name, from row i down with m bits left. Nothing is tested. If two links name the same row, it appears twice. So each
-- row is numbered by its place in the tree: the root is at place 1, and below place p are place 2p on the left and place 2p + 1 on the right.
unfoldable pub named_from : (ℕ → Row) → ℕ → ℕ → ℕ → Tree
named_from rows zero p i = row p (entry_of (rows i)) none none
named_from rows (suc m) p i =
    let below : Side → Tree = λ s. linked (named_from rows m (p * 2 + bit_of s)) (link (rows i) s) in
    row p (entry_of (rows i)) (below left) (below right)

-- "The root is row 0 whenever the count is not 0"; "with a count of 0 every way is empty"
unfoldable pub named : Header → List ℕ → Tree
named h table = if eqb h.count 0 then none else named_from (row_at table) h.width 1 0

-- what is at one place of this tree
pub record Visit : Type 0 where
  -- the row number in the table, the depth, and the bits of the path as a number
  pub at : ℕ
  pub depth : ℕ
  pub path : ℕ
  -- the key of "the row it was reached from"; the root has none
  pub above : Perhaps ℕ

abbrev pub root : Visit
root = record { at = 0; depth = 0; path = 0; above = no_such }

abbrev pub below : (ℕ → Row) → Visit → Side → Visit
below rows v s =
    record {
      at = link (rows v.at) s;
      depth = suc v.depth;
      path = v.path * 2 + bit_of s;
      above = such (rows v.at).entry.key;
    }

-- what is at place p, which is at most m levels deep. The place above p is p / 2. On the left p is even.
unfoldable pub visit : (ℕ → Row) → ℕ → ℕ → Visit
visit rows zero p = root
visit rows (suc m) p = if leb p 1 then root else below rows (visit rows m (p / 2)) (side_of (p % 2))

abbrev pub visit_at : Header → List ℕ → ℕ → Visit
visit_at h table p = visit (row_at table) h.width p

-- the damage that one row can have
pub data Damaged (h : Header) (table : List ℕ) (v : Visit) : Type 0 where
  -- "a link that the way follows is count or more"
  link_too_far : h.count ≤ v.at → Damaged h table v
  -- "a row read has a key of 2^W or more,"
  key_too_wide : 2 ^ h.width ≤ (row_at table v.at).entry.key → Damaged h table v
  -- "or not greater than that of the row it was reached from,"
  key_not_greater : {k : ℕ} → v.above ≡ such k → (row_at table v.at).entry.key ≤ k → Damaged h table v
  -- "or without the bits of the path to it;"
  key_off_the_path : ¬ ((row_at table v.at).entry.key / 2 ^ (h.width - v.depth) ≡ v.path) → Damaged h table v
  -- "a row read at depth W has a link other than 0;"
  link_at_depth_W : (s : Side) → v.depth ≡ h.width → ¬ (link (row_at table v.at) s ≡ 0) → Damaged h table v

abbrev pub DamagedAt : Header → List ℕ → ℕ → Type 0
DamagedAt h table p = Damaged h table (visit_at h table p)

-- The ways read some damaged row. (A way over this tree goes on past a damaged row. Up to the first damaged row it is document 01's way.)
abbrev pub DamageRead : Header → List ℕ → List Way → Type 0
DamageRead h table ways = (p : ℕ) × (p ∈ read_of ways) × DamagedAt h table p

abbrev pub way_of : ℕ → Header → List ℕ → Way
way_of k h table = way (following k) h.width (named h table)

-- the way ends at a row with the key k, at place p
abbrev pub EndsAt : ℕ → ℕ → Way → Type 0
EndsAt k p w = (e : Entry) × (l : Tree) × (r : Tree) × (e.key ≡ k) × (w.end ≡ row p e l r)

-- "found if the way of k ends at k"
abbrev pub Present : ℕ → Header → List ℕ → Type 0
Present k h table = (p : ℕ) × EndsAt k p (way_of k h table)

abbrev pub Absent : ℕ → Header → List ℕ → Type 0
Absent k h table = ¬ Present k h table

-- "If the hole is not row count−1, that last row is moved into it."
pub record LastRowMoves (k : ℕ) (h : Header) (table : List ℕ) : Type 0 where
  pub present : Present k h table
  pub hole_elsewhere : ¬ ((visit_at h table (erasing h.width k (named h table)).hole).at ≡ pred h.count)

-- "a second way, the way of the last row's key"
abbrev pub last_key : Header → List ℕ → ℕ
last_key h table = (row_at table (pred h.count)).entry.key

-- the second way ends "at row count−1 with its key"
abbrev pub FindsLast : Header → List ℕ → Type 0
FindsLast h table =
    (p : ℕ) × EndsAt (last_key h table) p (way_of (last_key h table) h table) × ((visit_at h table p).at ≡ pred h.count)

-- the second way reads a damaged row, or "doesn't end at row count−1 with its key"
abbrev pub SecondDamage : Header → List ℕ → Type 0
SecondDamage h table = DamageRead h table (way_of (last_key h table) h table ∷ []) ⊎ ¬ FindsLast h table

-- The damage on the ways of each call. "The rows that a push or an erase passes are on the way, also when the table is full."; "`gap` answers 4 if
-- any way it needs would." (For `audit` and `list`, 4 means not sound; `new` reads no row.)
unfoldable pub DamageOn : Call → Header → List ℕ → Type 0
DamageOn (New w) h table = ⊥
DamageOn (Add k serial) h table = DamageRead h table ((adding h.width (entry_for k serial) (named h table)).rows_read ∷ [])
DamageOn (Del k) h table =
    DamageRead h table ((erasing h.width k (named h table)).rows_read ∷ []) ⊎ (LastRowMoves k h table × SecondDamage h table)
DamageOn (Has k) h table = DamageRead h table (has h.width k (named h table)).ways
DamageOn (Next k) h table = DamageRead h table (next h.width k (named h table)).ways
DamageOn (Prev k) h table = DamageRead h table (prev h.width k (named h table)).ways
DamageOn (Gap k) h table = DamageRead h table (gap h.width k (named h table)).ways
DamageOn First h table = DamageRead h table (first h.width (named h table)).ways
DamageOn Last h table = DamageRead h table (last h.width (named h table)).ways
DamageOn Audit h table = ⊥
DamageOn Call.List h table = ⊥

-- A test: "One row 4, 0, 9 with W 4 and count 1: `has` 4 found, 1 row; `has` 8 answers 4". A link that no way follows is not damage.
-- Document 02 §1 gives the row a fourth word, its serial. Here the serial is 0.
pub record OneRow : Type 0 where
  pub has_4 : ¬ DamageOn (Has 4) (record { width = 4; count = 1 }) (4 ∷ 0 ∷ 9 ∷ 0 ∷ [])
  pub has_8 : DamageOn (Has 8) (record { width = 4; count = 1 }) (4 ∷ 0 ∷ 9 ∷ 0 ∷ [])

-- A table that holds a set has no damage.
abbrev pub NoneInSets : Type 0
NoneInSets = (c : Call) (h : Header) (table : List ℕ) (S : List Entry) → HoldsSet h table S → ¬ DamageOn c h table
