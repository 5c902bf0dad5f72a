-- Demand 2: on a sound table of the set S every call answers as the ordered dictionary does on S. It leaves a sound table of the dictionary's
-- next set, with the right width and count. By induction this holds for every sequence of calls.
-- Document 01: "all shut out by demand 2, which compares reply and set after every call".
use Rattle.std.specs.Prelude.{ℕ, ◌*◌, ◌^◌, ◌<◌, ◌≤◌, ◌≡◌, false, List, [], ◌∷◌, ◌++◌, length}
use Rattle.ordered.specs.Dictionary.{Entry, words, Increasing}
use Rattle.ordered.specs.Source004.{◌∈◌}
use Rattle.pretree.specs.declared.Header.{Header}
use Rattle.pretree.specs.declared.Reply.{Reply}
use Rattle.pretree.specs.declared.Call.{Call}
use Rattle.pretree.specs.Answer.{number_of, key_of, serial_of}
use Rattle.pretree.specs.Table.{row_words, capacity}
use Rattle.pretree.specs.Reply.{fresh, wrong_width, wrong_header}
use Rattle.pretree.specs.Call.{After}
use Rattle.demands.specs.Program.{Program, Asked, State, outcome, state_after, end_state}
use Rattle.demands.specs.SoundIs.{HoldsSet}
use Rattle.demands.specs.Expected.{AnswerFields, Kept, lending, expected, kept_after, kept_after_call, kept_at_end}

-- a header that is not refused with answer 2, and a table that holds the set S. The count is the number of words of S.
pub record Holding (h : Header) (table : List ℕ) (S : List Entry) : Type 0 where
  pub right_header : wrong_header h table ≡ false
  pub holds : HoldsSet h table S

-- the number, the key and the serial of a reply
abbrev pub fields_in : Reply → AnswerFields
fields_in r = record { number = number_of r.answer; key = key_of r.answer; serial = serial_of r.answer }

-- `left` is what a call leaves. Its answer has these fields, and it holds the set that the dictionary keeps.
pub record Keeps (fields : AnswerFields) (kept : Kept) (table : List ℕ) (left : After) : Type 0 where
  pub answer : fields_in left.reply ≡ fields
  pub width : left.reply.header.width ≡ kept.width
  pub held : Holding left.reply.header left.table kept.set
  pub written : left.buffer ≡ kept.buffer
  -- so the capacity stays the same
  pub same_length : length left.table ≡ length table

abbrev pub kept_by : Header → List Entry → List ℕ → Kept
kept_by h S buffer = record { width = h.width; set = S; buffer = buffer }

-- a state holds the set that the dictionary keeps
pub record HoldsKept (s : State) (k : Kept) : Type 0 where
  pub width : s.header.width ≡ k.width
  pub held : Holding s.header s.table k.set

-- an empty set of a width from 1 to 32, in any table: a state, and what the dictionary keeps of it
abbrev pub empty_state : ℕ → List ℕ → State
empty_state W table = record { header = fresh W; table = table }

abbrev pub empty_kept : ℕ → Kept
empty_kept W = kept_by (fresh W) [] []

module _ (program : Program) where
  abbrev pub KeepsDictionary : Call → Header → List ℕ → List ℕ → List Entry → Type 0
  KeepsDictionary c h table buffer S =
      Keeps (expected c (capacity table) (kept_by h S buffer)) (kept_after c (capacity table) (kept_by h S buffer)) table (program c h table buffer)

  -- the demand: for every call, header, table and buffer, and every set that the table holds
  abbrev pub Demand2 : Type 0
  Demand2 = (c : Call) (h : Header) (table buffer : List ℕ) (S : List Entry) → Holding h table S → KeepsDictionary c h table buffer S

  -- P holds at each call of a list. P is given the call, the state before it, and what the dictionary keeps before it.
  unfoldable pub Throughout : (Asked → State → Kept → Type 0) → List Asked → ℕ → State → Kept → Type 0
  Throughout P [] room s k = Unit {0}
  Throughout P (a ∷ cs) room s k = P a s k × Throughout P cs room (state_after program a s) (kept_after_call a room k)

  -- a call answers as the dictionary does, and leaves what the dictionary keeps
  abbrev pub AnswersAs : ℕ → Asked → State → Kept → Type 0
  AnswersAs room a s k =
      let lent : Kept = lending a.buffer k in
      Keeps (expected a.call room lent) (kept_after a.call room lent) s.table (outcome program a s)

  -- the demand for a sequence of calls: every answer is the dictionary's, and at the end the table holds the dictionary's set
  pub record Sequence (cs : List Asked) (s : State) (k : Kept) : Type 0 where
    pub answers : Throughout (AnswersAs (capacity s.table)) cs (capacity s.table) s k
    pub at_end : HoldsKept (end_state program cs s) (kept_at_end cs (capacity s.table) k)
    pub same_length : length (end_state program cs s).table ≡ length s.table

  abbrev pub Sequences : Type 0
  Sequences = (cs : List Asked) (s : State) (k : Kept) → HoldsKept s k → Sequence cs s k

  -- "Start with an empty set in one table", whatever words are in it
  abbrev pub SequencesFromEmpty : Type 0
  SequencesFromEmpty = (cs : List Asked) (W : ℕ) (table : List ℕ) → wrong_width W ≡ false → Sequence cs (empty_state W table) (empty_kept W)

-- The demand is not empty: every set of at most 65535 words of a width from 1 to 32 is held by some rows, whatever words follow them.
pub record HeldIn (W : ℕ) (S : List Entry) (rest : List ℕ) : Type 0 where
  pub rows : List ℕ
  pub as_many : length rows ≡ row_words * length S
  pub held : Holding (record { width = W; count = length S }) (rows ++ rest) S

abbrev pub EverySetHeld : Type 0
EverySetHeld =
    (W : ℕ) (S : List Entry) (rest : List ℕ) → wrong_width W ≡ false → Increasing (words S) → ((x : ℕ) → x ∈ words S → x < 2 ^ W)
    → length S ≤ 65535 → HeldIn W S rest
