-- Demand 1. Document 01: "1 to 6 and 9 are refusals: counts 0, header, table and buffer untouched. 7 and 8 report their true counts and
-- change nothing." Document 02 §1 "amends document 01's rule that 7 changes nothing". Document 01: "Order: 9, 1, 2, 3, 4, then 7 or 8, then 5.
-- For `list`: 2, 4, 6." (Only the line program gives 9, no call does.)
use Rattle.std.specs.Prelude.{ℕ, ◌*◌, ◌^◌, ◌≤◌, ◌<◌, ◌≡◌, ◌↔◌, ◌⊎◌, List, [], ◌∷◌, ◌++◌, length, get_or}
use Rattle.ordered.specs.Way.{Way, way, following}
use Rattle.ordered.specs.Reading.{rows_of}
use Rattle.ordered.specs.Reading.{has as reading_has, next as reading_next, prev as reading_prev, gap as reading_gap, first as reading_first, last as reading_last}
use Rattle.ordered.specs.Change.{adding, erasing, number_at}
use Rattle.pretree.specs.declared.Header.{Header}
use Rattle.pretree.specs.Answer.{number_of}
use Rattle.pretree.specs.Table.{row_words, capacity, row_at, with_serial}
use Rattle.pretree.specs.Unfold.{shown}
use Rattle.pretree.specs.Sound.{Sound}
use Rattle.pretree.specs.Add.{entry_for}
use Rattle.pretree.specs.declared.Call.{Call}
use Rattle.pretree.specs.declared.Call.TheVariants.{New, Add, Del, Has, Next, Prev, Gap, First, Last, Audit}
use Rattle.pretree.specs.Call.{After}
use Rattle.demands.specs.Program.{Program}
use Rattle.demands.specs.Damage.{DamageOn, Absent}

-- The ways of a call; their rows are its count. The second way of `del` is not among them, because it has a separate count. `new`, `audit` and
-- `list` have no ways.
unfoldable pub ways_of : Call → Header → List ℕ → List Way
ways_of (New W) h table = []
ways_of (Add k serial) h table = (adding h.width (entry_for k serial) (shown h table)).rows_read ∷ []
ways_of (Del k) h table = (erasing h.width k (shown h table)).rows_read ∷ []
ways_of (Has k) h table = (reading_has h.width k (shown h table)).ways
ways_of (Next k) h table = (reading_next h.width k (shown h table)).ways
ways_of (Prev k) h table = (reading_prev h.width k (shown h table)).ways
ways_of (Gap k) h table = (reading_gap h.width k (shown h table)).ways
ways_of First h table = (reading_first h.width (shown h table)).ways
ways_of Last h table = (reading_last h.width (shown h table)).ways
ways_of Audit h table = []
ways_of Call.List h table = []

-- "W 0 or above 32"
abbrev pub HasWrongWidth : ℕ → Type 0
HasWrongWidth W = (W ≡ 0) ⊎ (32 < W)

-- "header W 0 or above 32, or count above capacity"
abbrev pub HasWrongHeader : Header → List ℕ → Type 0
HasWrongHeader h table = HasWrongWidth h.width ⊎ (capacity table < h.count)

-- "k is 2^W or more"
abbrev pub IsTooWide : Header → ℕ → Type 0
IsTooWide h k = 2 ^ h.width ≤ k

-- "`add` of an absent word with count = capacity"
abbrev pub Full : ℕ → Header → List ℕ → Type 0
Full k h table = Absent k h table × (h.count ≡ capacity table)

-- a check that a call makes: the number of a refusal, and the condition for it
infix 70 ◌when◌
pub record Check : Type 1 where
  pub number : ℕ
  pub condition : Type 0

abbrev pub ◌when◌ : ℕ → Type 0 → Check
n when P = record { number = n; condition = P }

-- the check of header and table. Every call but `new` makes it first.
abbrev pub header_checks : Header → List ℕ → List Check
header_checks h table = 2 when HasWrongHeader h table ∷ []

-- The checks of each call, in their order, with the column "Given when": "Order: 9, 1, 2, 3, 4, then 7 or 8, then 5. For `list`: 2, 4, 6."
-- (7 comes before 5 because 5 is for an absent word.)
unfoldable pub checks : Call → Header → List ℕ → List ℕ → List Check
checks (New W) h table buffer = 1 when HasWrongWidth W ∷ []
checks (Add k serial) h table buffer = header_checks h table ++ 3 when IsTooWide h k ∷ 4 when DamageOn (Add k serial) h table ∷ 5 when Full k h table ∷ []
checks (Del k) h table buffer = header_checks h table ++ 3 when IsTooWide h k ∷ 4 when DamageOn (Del k) h table ∷ []
checks (Has k) h table buffer = header_checks h table ++ 3 when IsTooWide h k ∷ 4 when DamageOn (Has k) h table ∷ []
checks (Next k) h table buffer = header_checks h table ++ 3 when IsTooWide h k ∷ 4 when DamageOn (Next k) h table ∷ []
checks (Prev k) h table buffer = header_checks h table ++ 3 when IsTooWide h k ∷ 4 when DamageOn (Prev k) h table ∷ []
checks (Gap k) h table buffer = header_checks h table ++ 3 when IsTooWide h k ∷ 4 when DamageOn (Gap k) h table ∷ []
checks First h table buffer = header_checks h table ++ 4 when DamageOn First h table ∷ []
checks Last h table buffer = header_checks h table ++ 4 when DamageOn Last h table ∷ []
checks Audit h table buffer = header_checks h table ++ 4 when (¬ Sound h table) ∷ []
checks Call.List h table buffer = header_checks h table ++ 4 when (¬ Sound h table) ∷ 6 when (length buffer < h.count) ∷ []

-- n is the number of the first check, from the top, whose condition holds
unfoldable pub FirstGiven : List Check → ℕ → Type 0
FirstGiven [] n = ⊥
FirstGiven (c ∷ cs) n = (c.condition × (n ≡ c.number)) ⊎ (¬ c.condition × FirstGiven cs n)

-- "1 to 6 [..] are refusals"
pub record Refusal (n : ℕ) : Type 0 where
  pub from_one : 1 ≤ n
  pub to_six : n ≤ 6

-- header, table and buffer are as they were, and nothing was moved
pub record Untouched (h : Header) (table buffer : List ℕ) (a : After) : Type 0 where
  pub same_header : a.reply.header ≡ h
  pub same_table : a.table ≡ table
  pub same_buffer : a.buffer ≡ buffer
  pub none_moved : a.reply.moved ≡ 0

-- "An `add` of a word already there still answers 7, but now stores the new serial. [..] header, keys and links stay." Only one word of the
-- table may change: the serial of the row at which the way of k ends.
pub record Stored (k serial : ℕ) (h : Header) (table buffer : List ℕ) (a : After) : Type 0 where
  pub row : ℕ
  pub on_the_way : number_at (way (following k) h.width (shown h table)).end ≡ row
  pub its_word : (row_at table row).entry.key ≡ k
  pub same_header : a.reply.header ≡ h
  pub new_table_is : a.table ≡ with_serial row serial table
  pub same_buffer : a.buffer ≡ buffer
  pub none_moved : a.reply.moved ≡ 0

-- no other call answers 7
unfoldable pub SerialStored : Call → Header → List ℕ → List ℕ → After → Type 0
SerialStored (Add k serial) h table buffer a = Stored k serial h table buffer a
SerialStored (New W) h table buffer a = ⊥
SerialStored (Del k) h table buffer a = ⊥
SerialStored (Has k) h table buffer a = ⊥
SerialStored (Next k) h table buffer a = ⊥
SerialStored (Prev k) h table buffer a = ⊥
SerialStored (Gap k) h table buffer a = ⊥
SerialStored First h table buffer a = ⊥
SerialStored Last h table buffer a = ⊥
SerialStored Audit h table buffer a = ⊥
SerialStored Call.List h table buffer a = ⊥

-- both have the same length, and are equal from word n on
pub record SameFrom (n : ℕ) (words words' : List ℕ) : Type 0 where
  pub same_length : length words' ≡ length words
  pub same_words : (i : ℕ) → n ≤ i → get_or words' i 0 ≡ get_or words i 0

module _ (program : Program) where
  abbrev pub number_after : Call → Header → List ℕ → List ℕ → ℕ
  number_after c h table buffer = number_of (program c h table buffer).reply.answer

  pub record Refusals (c : Call) (h : Header) (table buffer : List ℕ) : Type 0 where
    -- each refusal is given exactly when document 01 says
    pub given_exactly : (n : ℕ) → Refusal n → (number_after c h table buffer ≡ n) ↔ FirstGiven (checks c h table buffer) n
    -- "counts 0, header, table and buffer untouched"
    pub refusal :
        Refusal (number_after c h table buffer)
        → Untouched h table buffer (program c h table buffer) × ((program c h table buffer).reply.rows ≡ 0)
    -- "7 and 8 report their true counts"
    pub true_counts :
        (number_after c h table buffer ≡ 7) ⊎ (number_after c h table buffer ≡ 8)
        → (program c h table buffer).reply.rows ≡ rows_of (ways_of c h table)
    -- 8 changes nothing
    pub eight : number_after c h table buffer ≡ 8 → Untouched h table buffer (program c h table buffer)
    -- 7 stores the new serial and changes nothing else
    pub seven : number_after c h table buffer ≡ 7 → SerialStored c h table buffer (program c h table buffer)
    -- "Words past the last whole row, or past that limit, are never changed."
    pub past_the_rows : SameFrom (row_words * capacity table) table (program c h table buffer).table
    -- "`list` [..] leaves the rest of the buffer"
    pub past_the_listing : SameFrom h.count buffer (program c h table buffer).buffer

  -- the demand: for every call, header, table and buffer
  abbrev pub Demand1 : Type 0
  Demand1 = (c : Call) (h : Header) (table buffer : List ℕ) → Refusals c h table buffer
