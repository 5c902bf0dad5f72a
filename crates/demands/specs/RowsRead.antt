-- Demand 3: "each call reports as rows read exactly those on the way", over the PreTree of the present words, with the bounds for every W.
-- Document 01: "A row is read when its key is looked at; each row on a way counts once."
use Rattle.std.specs.Prelude.{ℕ, pred, ◌+◌, ◌*◌, ◌^◌, ◌≤◌, ◌≡◌, Bool, false, not, ◌&&◌, ◌||◌, List, ltb, leb, eqb, length, if◌then◌else◌}
use Rattle.ordered.specs.Such.{is_there}
use Rattle.ordered.specs.Dictionary.{words, Entry, lookup}
use Rattle.ordered.specs.Tree.{tree_of}
use Rattle.ordered.specs.Way.{rows, way, following}
use Rattle.ordered.specs.Reading.{rows_of, has as has_over, next as next_over, prev as prev_over, first as first_over, last as last_over, gap as gap_over}
use Rattle.ordered.specs.Change.{adding, erasing}
use Rattle.pretree.specs.declared.Header.{Header}
use Rattle.pretree.specs.declared.Reply.{Reply}
use Rattle.pretree.specs.Table.{capacity, row_at}
use Rattle.pretree.specs.Unfold.{shown}
use Rattle.pretree.specs.Add.{entry_for}
use Rattle.pretree.specs.Answer.{number_of}
use Rattle.pretree.specs.Reply.{wrong_width, wrong_header}
use Rattle.pretree.specs.declared.Call.{Call}
use Rattle.pretree.specs.declared.Call.TheVariants.{New, Add, Del, Has, Next, Prev, Gap, First, Last, Audit}
use Rattle.demands.specs.Program.{Program}
use Rattle.demands.specs.SoundIs.{HoldsSet}

-- The rows of the ways of a call over the PreTree of S. "`new` reads no row"; `audit` and `list`: "Both count `count` rows."
unfoldable pub rows_over : Call → ℕ → List Entry → ℕ
rows_over (New w) W S = 0
rows_over (Add k serial) W S = rows (adding W (entry_for k serial) (tree_of W S)).rows_read
rows_over (Del k) W S = rows (erasing W k (tree_of W S)).rows_read
rows_over (Has k) W S = rows_of (has_over W k (tree_of W S)).ways
rows_over (Next k) W S = rows_of (next_over W k (tree_of W S)).ways
rows_over (Prev k) W S = rows_of (prev_over W k (tree_of W S)).ways
rows_over (Gap k) W S = rows_of (gap_over W k (tree_of W S)).ways
rows_over First W S = rows_of (first_over W (tree_of W S)).ways
rows_over Last W S = rows_of (last_over W (tree_of W S)).ways
rows_over Audit W S = length S
rows_over Call.List W S = length S

-- whether a `del` of k moves the last row: the word is there, and "the hole is not row count−1"
unfoldable pub moves : Header → List ℕ → List Entry → ℕ → Bool
moves h table S k = is_there (lookup k S) && not (eqb (erasing h.width k (shown h table)).hole (pred h.count))

-- "The rows of the second way", that of the last row's key, "are the moving count; it is 0 where nothing moves, and in every other call."
unfoldable pub moved_over : Call → Header → List ℕ → List Entry → ℕ
moved_over (New w) h table S = 0
moved_over (Add k serial) h table S = 0
moved_over (Del k) h table S =
    let last_key : ℕ = (row_at table (pred h.count)).entry.key in
    if moves h table S k then rows (way (following last_key) h.width (tree_of h.width S))
    else 0
moved_over (Has k) h table S = 0
moved_over (Next k) h table S = 0
moved_over (Prev k) h table S = 0
moved_over (Gap k) h table S = 0
moved_over First h table S = 0
moved_over Last h table S = 0
moved_over Audit h table S = 0
moved_over Call.List h table S = 0

-- Whether a call is refused on a table that holds S. `room` is the capacity and `space` is the length of the buffer. Only the refusals 1, 3,
-- 5 and 6 can occur.
unfoldable pub refused_over : Call → ℕ → List Entry → ℕ → ℕ → Bool
refused_over (New w) W S room space = wrong_width w
refused_over (Add k serial) W S room space = leb (2 ^ W) k || (not (is_there (lookup k S)) && eqb (length S) room)
refused_over (Del k) W S room space = leb (2 ^ W) k
refused_over (Has k) W S room space = leb (2 ^ W) k
refused_over (Next k) W S room space = leb (2 ^ W) k
refused_over (Prev k) W S room space = leb (2 ^ W) k
refused_over (Gap k) W S room space = leb (2 ^ W) k
refused_over First W S room space = false
refused_over Last W S room space = false
refused_over Audit W S room space = false
refused_over Call.List W S room space = ltb space (length S)

-- "1 to 6 and 9 are refusals"; only the line program gives 9
abbrev pub is_refusal : ℕ → Bool
is_refusal n = ltb 0 n && ltb n 7

-- A reply reports these counts; or it is a refusal, with "counts 0".
pub record Reports (refused : Bool) (read moving : ℕ) (r : Reply) : Type 0 where
  pub number : is_refusal (number_of r.answer) ≡ refused
  pub rows_read : r.rows ≡ (if refused then 0 else read)
  pub moving_count : r.moved ≡ (if refused then 0 else moving)

module _ (program : Program) where
  -- On every table that holds a set, the counts are those of the ways over the set's PreTree.
  abbrev pub RowsExact : Type 0
  RowsExact =
      (c : Call) (h : Header) (table buffer : List ℕ) (S : List Entry) → wrong_header h table ≡ false → HoldsSet h table S
      → Reports (refused_over c h.width S (capacity table) (length buffer)) (rows_over c h.width S) (moved_over c h table S)
      (program c h table buffer).reply

  -- Two tables of equal length that hold the same words at the same width give the same counts of rows read. Their row numbers and serials may
  -- differ.
  abbrev pub RowsAlike : Type 0
  RowsAlike =
      (c : Call) (h h' : Header) (table table' buffer buffer' : List ℕ) (S S' : List Entry)
      → wrong_header h table ≡ false → wrong_header h' table' ≡ false
      → HoldsSet h table S → HoldsSet h' table' S' → words S ≡ words S' → h.width ≡ h'.width → length table ≡ length table' → length buffer ≡ length buffer'
      → (program c h table buffer).reply.rows ≡ (program c h' table' buffer').reply.rows

-- the most rows that a call reads
unfoldable pub most_rows : Call → Header → ℕ
most_rows (New w) h = 0
most_rows (Add k serial) h = h.width + 1
most_rows (Del k) h = h.width + 1
most_rows (Has k) h = h.width + 1
most_rows (Next k) h = h.width + 2
most_rows (Prev k) h = h.width + 2
most_rows (Gap k) h = 2 * h.width + 4
most_rows First h = 1
most_rows Last h = h.width + 1
most_rows Audit h = h.count
most_rows Call.List h = h.count

-- the most rows that a call reads for a move
unfoldable pub most_moved : Call → Header → ℕ
most_moved (New w) h = 0
most_moved (Add k serial) h = 0
most_moved (Del k) h = h.width + 1
most_moved (Has k) h = 0
most_moved (Next k) h = 0
most_moved (Prev k) h = 0
most_moved (Gap k) h = 0
most_moved First h = 0
most_moved Last h = 0
most_moved Audit h = 0
most_moved Call.List h = 0

pub record AtMost (read moving : ℕ) (r : Reply) : Type 0 where
  pub few_read : r.rows ≤ read
  pub few_moved : r.moved ≤ moving

-- The bounds hold on every header, table and buffer, right or wrong, sound or damaged.
abbrev pub RowsBounded : Program → Type 0
RowsBounded program =
    (c : Call) (h : Header) (table buffer : List ℕ) → AtMost (most_rows c h) (most_moved c h) (program c h table buffer).reply
