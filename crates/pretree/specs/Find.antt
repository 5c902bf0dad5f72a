-- The replies of the reading calls on every header, table and word: `has`, `next`, `prev`, `first`, `last`, `gap`. They leave the table as it is.
-- Document 01: "Order: 9, 1, 2, 3, 4, then 7 or 8".
use Rattle.std.specs.Prelude.{ℕ, Bool, false, List, if◌then◌else◌}
use Rattle.ordered.specs.Such.{Perhaps, no_such, such}
use Rattle.ordered.specs.Reading.{Found, word_in, Reading, rows_of, broken_in, has, next, prev, first, last, gap}
use Rattle.pretree.specs.declared.Header.{Header}
use Rattle.pretree.specs.declared.Answer.{Answer}
use Rattle.pretree.specs.declared.Answer.TheVariants.{Serial, Word, Distance, WrongHeader, WordTooWide, Damage, NoSuchWord}
use Rattle.pretree.specs.declared.Reply.{Reply}
use Rattle.pretree.specs.Unfold.{shown}
use Rattle.pretree.specs.Reply.{wrong_header, too_wide, refused, answered}

-- the answer: 0 if something was found, by the case of `Answer` that the call uses, else 8
abbrev pub saying : {A : Type 0} → (A → Answer) → Perhaps A → Answer
saying answer (such x) = answer x
saying answer no_such = NoSuchWord

abbrev pub serial : Found → Answer
serial f = Serial f.entry.serial

abbrev pub word : Found → Answer
word f = Word (word_in f)

-- the reply of a reading call: first the checks, in document 01's order
abbrev pub read_reply : {A : Type 0} → Header → List ℕ → Bool → (A → Answer) → Reading A → Reply
read_reply h table wide answer r =
    if wrong_header h table then refused h WrongHeader
    else if wide then refused h WordTooWide
    else if broken_in r.ways then refused h Damage
    else answered h (saying answer r.answer) (rows_of r.ways)

unfoldable pub has_reply : Header → List ℕ → ℕ → Reply
has_reply h table k = read_reply h table (too_wide h k) serial (has h.width k (shown h table))

unfoldable pub next_reply : Header → List ℕ → ℕ → Reply
next_reply h table k = read_reply h table (too_wide h k) word (next h.width k (shown h table))

unfoldable pub prev_reply : Header → List ℕ → ℕ → Reply
prev_reply h table k = read_reply h table (too_wide h k) word (prev h.width k (shown h table))

unfoldable pub first_reply : Header → List ℕ → Reply
first_reply h table = read_reply h table false word (first h.width (shown h table))

unfoldable pub last_reply : Header → List ℕ → Reply
last_reply h table = read_reply h table false word (last h.width (shown h table))

unfoldable pub gap_reply : Header → List ℕ → ℕ → Reply
gap_reply h table k = read_reply h table (too_wide h k) Distance (gap h.width k (shown h table))
