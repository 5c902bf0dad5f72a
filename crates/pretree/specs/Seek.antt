-- The leg of `src/seek.rt`, which follows a word's bits: its steps, how it ends, and the walk of the word's way that goes with it.
use Rattle.std.specs.Prelude.{ℕ, ◌+◌, ◌*◌, ◌-◌, ◌/◌, ◌%◌, ◌^◌, ◌<◌, ◌≤◌, ◌≡◌, Bool, true, false, List, not, ◌&&◌, ltb, eqb, if◌then◌else◌, Some, None, Ok, Err}
use Rattle.std.specs.Int.Bits.{bit_and}
use Rattle.std.specs.Int.Count.{count_leading_zeros}
use Rattle.ordered.specs.Word.{Side, left, right}
use Rattle.ordered.specs.Tree.{Tree}
use Rattle.pretree.specs.declared.Header.{Header}
use Rattle.pretree.specs.declared.Answer.{Answer}
use Rattle.pretree.specs.declared.Answer.TheVariants.{WrongHeader, WordTooWide, Damage}
use Rattle.pretree.specs.declared.Row as Rows
use Rattle.pretree.specs.declared.leg.Place.{Place}
use Rattle.pretree.specs.declared.leg.Leg.{Leg}
use Rattle.pretree.specs.declared.seek.Seek.{Seek}
use Rattle.pretree.specs.Table.{row_words, row_at, link}
use Rattle.pretree.specs.Unfold.{shown}
use Rattle.pretree.specs.Reply.{wrong_header, too_wide}
use Rattle.pretree.specs.Leg.{End, damage, EndsAs}
use Rattle.pretree.specs.Walk.{Walk, On, stage_at, seeking, Walking, Walked}

abbrev pub bits_left_by : ℕ → ℕ
bits_left_by mask = 32 - count_leading_zeros 32 mask

-- the seek's next row, and the last row that it passed: a seek holds the table words at which they begin
abbrev pub row_of : Seek → ℕ
row_of s = s.at / row_words

abbrev pub above_of : Seek → ℕ
above_of s = s.above / row_words

-- the number of rows that begin before the table word `past`, which is three words before the end of a row
abbrev pub rows_before : ℕ → ℕ
rows_before past = (past + 3) / row_words

abbrev pub begun : ℕ → ℕ → Seek
begun width k =
    record { word = k; at = 0; mask = 2 ^ width - 1; tail = k; between = k; above = 0; aside = 0; span = 0 }

-- Let d = k − 1 − key, the number of words between the key and k. The row is passed if key < k, d is less than at the row above (the keys
-- increase), and d is less than k's remaining bits as a number (the key has the bits of the path).
abbrev pub passes : Seek → ℕ → ℕ → Bool
passes s k key = ltb key k && (ltb (k - 1 - key) s.between && ltb (k - 1 - key) s.tail)

abbrev pub turn : Seek → Side
turn s = if ltb (s.mask / 2) s.tail then right else left

-- one row further down, by the link l. On a turn to the left the row's right link r is remembered, if it is not 0.
abbrev pub stepped : Seek → ℕ → ℕ → Seek
stepped s l r =
    let leaves : Bool = not (ltb (s.mask / 2) s.tail) && not (eqb r 0) in
    record {
      word = s.word;
      at = row_words * l;
      mask = s.mask / 2;
      tail = bit_and s.tail (s.mask / 2);
      between = s.between;
      above = s.at;
      aside = if leaves then r else s.aside;
      span = if leaves then s.mask / 2 else s.span;
    }

-- past a row with this key
abbrev pub passed : Seek → ℕ → ℕ → ℕ → ℕ → Seek
passed s k key l r =
    let t : Seek = stepped s l r in
    record {
      word = t.word;
      at = t.at;
      mask = t.mask;
      tail = t.tail;
      between = k - 1 - key;
      above = t.above;
      aside = t.aside;
      span = t.span;
    }

-- whether the next row is in use and is passed
abbrev pub goes_on : (ℕ → Rows.Row) → ℕ → ℕ → Seek → Bool
goes_on rows count k s = ltb (row_of s) count && passes s k (rows (row_of s)).entry.key

-- past the next row, by the link on the side to which the seek turns
abbrev pub gone : (ℕ → Rows.Row) → ℕ → Seek → Seek
gone rows k s = passed s k (rows (row_of s)).entry.key (link (rows (row_of s)) (turn s)) (rows (row_of s)).right

-- How the way of k ends at the row r, which it does not pass. An empty link is 0, so it leads the seek back to row 0, the root, whose key is less
-- than k.
abbrev pub end_of : Seek → ℕ → Rows.Row → End
end_of s k r =
    if ltb r.entry.key k then (if eqb (row_of s) 0 && not (eqb s.between k) then Ok None else damage)
    else if ltb k r.entry.key then (if ltb (s.mask - s.tail) (r.entry.key - k) then damage else Ok (Some r))
    else if eqb s.mask 0 && not (eqb r.left 0 && eqb r.right 0) then damage
    else Ok (Some r)

-- how the way of k ends at the next row; a row that is not in use is damage
abbrev pub end_at : (ℕ → Rows.Row) → ℕ → ℕ → Seek → End
end_at rows count k s = if ltb (row_of s) count then end_of s k (rows (row_of s)) else damage

-- the place of the next row
abbrev pub place_of : Seek → ℕ → Place
place_of s k = record { row = row_of s; mask = s.mask; path = k - s.tail; low = k - s.between }

-- the leg that stops there
abbrev pub leg_of : Seek → ℕ → Leg
leg_of s k = record { at = place_of s k; above = above_of s }

-- the right link of the row that a walk remembers aside, or 0; and the bits left below it, as a mask
abbrev pub aside_of : (ℕ → Rows.Row) → Bool → ℕ → ℕ
aside_of rows true i = (rows i).right
aside_of rows false i = 0

abbrev pub span_of : Bool → ℕ → ℕ
span_of true m = 2 ^ m - 1
span_of false m = 0

-- the walk w of the way of k is where the seek s is
pub record Shows (rows : ℕ → Rows.Row) (k : ℕ) (s : Seek) (w : Walk) : Type 0 where
  pub word : s.word ≡ k
  pub row : row_of s ≡ w.row
  pub at : s.at ≡ row_words * row_of s
  pub mask : s.mask ≡ 2 ^ w.bits - 1
  pub tail : s.tail ≡ k % 2 ^ w.bits
  pub between : s.between + w.low ≡ k
  pub path : w.path ≡ k / 2 ^ w.bits
  -- what it remembers
  pub above : above_of s ≡ w.above
  pub aside : s.aside ≡ aside_of rows w.has_aside w.aside
  pub span : s.span ≡ span_of w.has_aside w.aside_bits
  -- `low` is 0 at the root only. Below the root a link led the walk here, and the root's key is less than every key that is allowed.
  pub stage : w.stage ≡ (if eqb w.low 0 then On else stage_at w.count w.row)
  pub at_root : w.low ≡ 0 → w.row ≡ 0
  pub from_root : 0 < w.low → (rows 0).entry.key < w.low

-- some walk on the way of k is where the seek s is
pub record OnSeek (rows : ℕ → Rows.Row) (h : Header) (tree : Tree) (k : ℕ) (s : Seek) : Type 0 where
  pub walk : Walk
  pub walking : Walking rows (seeking k k) h.width h.count tree walk
  pub shows : Shows rows k s walk

-- such a seek that has stopped: its next row is not in use, or is not passed
pub record Sought (rows : ℕ → Rows.Row) (h : Header) (tree : Tree) (k : ℕ) (s : Seek) : Type 0 where
  pub on : OnSeek rows h tree k s
  pub stopped : goes_on rows h.count k s ≡ false

-- the walk that has gone the whole way of k, which the seek s followed and which ended as e
pub record SeekEnds (rows : ℕ → Rows.Row) (h : Header) (tree : Tree) (k : ℕ) (s : Seek) (e : End) : Type 0 where
  pub walk : Walk
  pub walked : Walked rows (seeking k k) h.width h.count tree walk
  pub ends : EndsAs rows walk e
  pub word : s.word ≡ k
  pub row : row_of s ≡ walk.row
  pub mask : s.mask ≡ 2 ^ walk.bits - 1
  pub tail : s.tail ≡ k % 2 ^ walk.bits
  pub between : s.between + walk.low ≡ k
  pub path : walk.path ≡ k / 2 ^ walk.bits
  pub above : above_of s ≡ walk.above
  pub aside : s.aside ≡ aside_of rows walk.has_aside walk.aside
  pub span : s.span ≡ span_of walk.has_aside walk.aside_bits

-- what the end of a seek tells: at an empty link its next row is 0, and a row at which it ends has a key of k or more
abbrev pub Tells : (ℕ → Rows.Row) → ℕ → Seek → End → Type 0
Tells rows k s (Ok None) = row_of s ≡ 0
Tells rows k s (Ok (Some r)) = k ≤ (rows (row_of s)).entry.key
Tells rows k s (Err d) = Unit {0}

-- the way of the word k, for a right header and a word that is not too wide: the seek s followed it, and it ended as e
pub record WayEnds (h : Header) (table : List ℕ) (k : ℕ) (s : Seek) (e : End) : Type 0 where
  pub fine : wrong_header h table ≡ false
  pub small : too_wide h k ≡ false
  pub ends : SeekEnds (row_at table) h (shown h table) k s e
  pub tells : Tells (row_at table) k s e

-- the answer of a call on the word k that is refused before anything is done: for its header, for the word, or for damage on the way of k
pub data Refused (h : Header) (table : List ℕ) (k : ℕ) : Answer → Type 0 where
  by_header : wrong_header h table ≡ true → Refused h table k WrongHeader
  by_word : wrong_header h table ≡ false → too_wide h k ≡ true → Refused h table k WordTooWide
  by_damage : {s : Seek} → WayEnds h table k s damage → Refused h table k Damage
