-- What the ordered dictionary answers to each call on a set S of words of width W: the answer's number, key and serial, and the set afterwards.
-- Document 01: "The meaning of the operations is the ordered dictionary of source document 004; `new` (an empty set), `gap`, `audit`, `list`
-- and the answers 7 and 8 are set here, over the same set." Answers 2 and 4 do not appear here: on a sound table they are never given.
use Rattle.std.specs.Prelude.{ℕ, ◌^◌, ◌||◌, List, [], ◌∷◌, ◌++◌, ltb, leb, eqb, length, drop, if◌then◌else◌}
use Rattle.ordered.specs.Such.{Perhaps, no_such, such, is_there}
use Rattle.ordered.specs.Dictionary.{Entry, words, word_of, insert, delete, lookup, min, max, successor, predecessor}
use Rattle.ordered.specs.Reading.{nearest}
use Rattle.pretree.specs.Reply.{wrong_width}
use Rattle.pretree.specs.Add.{entry_for}
use Rattle.pretree.specs.declared.Call.{Call}
use Rattle.pretree.specs.declared.Call.TheVariants.{New, Add, Del, Has, Next, Prev, Gap, First, Last, Audit}
use Rattle.demands.specs.Program.{Asked}

pub record AnswerFields : Type 0 where
  pub number : ℕ
  pub key : Perhaps ℕ
  pub serial : Perhaps ℕ

-- a number with no key and no serial
abbrev pub only : ℕ → AnswerFields
only n = record { number = n; key = no_such; serial = no_such }

-- "the serial for a `has` that found its word", or 8
abbrev pub found : Perhaps Entry → AnswerFields
found (such e) = record { number = 0; key = no_such; serial = such e.serial }
found no_such = only 8

-- "the word for `next`, `prev`, `first`, `last`; the distance for `gap`", or 8: "no such word", "empty set"
abbrev pub word : Perhaps ℕ → AnswerFields
word (such x) = record { number = 0; key = such x; serial = no_such }
word no_such = only 8

-- 3: "k is 2^W or more"
abbrev pub of_width : ℕ → ℕ → AnswerFields → AnswerFields
of_width W k fields = if leb (2 ^ W) k then only 3 else fields

-- what the dictionary keeps from call to call, the set and the width of its words; and the buffer that is lent with a call
pub record Kept : Type 0 where
  pub width : ℕ
  pub set : List Entry
  pub buffer : List ℕ

-- the same set, with another buffer lent
abbrev pub lending : List ℕ → Kept → Kept
lending buffer s = record { width = s.width; set = s.set; buffer = buffer }

-- the expected answer, if the table has room for `capacity` words
unfoldable pub expected : Call → ℕ → Kept → AnswerFields
expected (New w) capacity s = if wrong_width w then only 1 else only 0
expected (Add k serial) capacity s =
    of_width s.width k (if is_there (lookup k s.set) then only 7 else if eqb (length s.set) capacity then only 5 else only 0)
expected (Del k) capacity s = of_width s.width k (if is_there (lookup k s.set) then only 0 else only 8)
expected (Has k) capacity s = of_width s.width k (found (lookup k s.set))
expected (Next k) capacity s = of_width s.width k (word (word_of (successor k s.set)))
expected (Prev k) capacity s = of_width s.width k (word (word_of (predecessor k s.set)))
expected (Gap k) capacity s =
    of_width s.width k
    (word (if is_there (lookup k s.set) then such 0 else nearest k (word_of (predecessor k s.set)) (word_of (successor k s.set))))
expected First capacity s = word (word_of (min s.set))
expected Last capacity s = word (word_of (max s.set))
expected Audit capacity s = only 0
expected Call.List capacity s = if ltb (length s.buffer) (length s.set) then only 6 else only 0

-- what a call changes, if it is not refused: "insert(x), which adds x to S"; "delete(x), which removes x from S"; "`new` (an empty set)";
-- "`list` writes it to a lent buffer of 32-bit words and leaves the rest of the buffer"
unfoldable pub changed : Call → Kept → Kept
changed (New w) s = record { width = w; set = []; buffer = s.buffer }
changed (Add k serial) s = record { width = s.width; set = insert (entry_for k serial) s.set; buffer = s.buffer }
changed (Del k) s = record { width = s.width; set = delete k s.set; buffer = s.buffer }
changed (Has k) s = s
changed (Next k) s = s
changed (Prev k) s = s
changed (Gap k) s = s
changed First s = s
changed Last s = s
changed Audit s = s
changed Call.List s = record { width = s.width; set = s.set; buffer = words s.set ++ drop (length s.set) s.buffer }

-- "1 to 6 and 9 are refusals: [..] header, table and buffer untouched." Document 02 §1: "An `add` of a word already there still answers 7, but now
-- stores the new serial." 8 changes nothing.
unfoldable pub kept_after : Call → ℕ → Kept → Kept
kept_after c capacity s =
    let number : ℕ = (expected c capacity s).number in
    if eqb number 0 || eqb number 7 then changed c s else s

-- what the dictionary keeps after a call, and after a list of calls. Each call has its own buffer.
abbrev pub kept_after_call : Asked → ℕ → Kept → Kept
kept_after_call a capacity s = kept_after a.call capacity (lending a.buffer s)

unfoldable pub kept_at_end : List Asked → ℕ → Kept → Kept
kept_at_end [] capacity s = s
kept_at_end (a ∷ cs) capacity s = kept_at_end cs capacity (kept_after_call a capacity s)
