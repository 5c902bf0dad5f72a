-- What a reply looks like, as bytes.
-- Document 01: "Each line gives one reply line: line number from 1, answer number, key or `-`, rows read, moving count, parted by tabs. After
-- a `list` with answer 0 come lines `key`, tab, word."
-- Document 02 §1: "every reply line ends with one more field: the serial for a `has` that found its word, `-` elsewhere."
use Rattle.std.specs.Prelude.{ℕ, zero, suc, ◌+◌, ◌/◌, ◌%◌, List, [], ◌∷◌, ◌++◌, ltb, if◌then◌else◌, Option, None, Some}
use Rattle.pretree.specs.declared.Reply.{Reply}
use Rattle.pretree.specs.Answer.{number_of, key_of, serial_of}
use Rattle.lines.specs.declared.ReplyFields.{ReplyFields}
use Rattle.lines.specs.Text.{bytes}

abbrev pub digit : ℕ → ℕ
digit d = 48 + d

-- the digits of n, if there are at most k
unfoldable pub digits_within : ℕ → ℕ → List ℕ
digits_within zero n = []
digits_within (suc k) n =
    let more : List ℕ = digits_within k (n / 10) ++ digit (n % 10) ∷ [] in
    if ltb n 10 then digit n ∷ []
    else more

-- n in decimal, without leading zeros. It has at most n + 1 digits.
unfoldable pub digits : ℕ → List ℕ
digits n = digits_within (suc n) n

-- a tab and a number
abbrev pub field : ℕ → List ℕ
field n = bytes "\t" ++ digits n

-- a tab and a number, or `-` where there is none: the key and the serial
abbrev pub field_or_dash : Option ℕ → List ℕ
field_or_dash None = bytes "\t-"
field_or_dash (Some n) = field n

-- the fields of a reply line after its line number
abbrev pub fields_of : Reply → ReplyFields
fields_of r =
    record {
      answer = number_of r.answer;
      key = key_of r.answer;
      rows = r.rows;
      moved = r.moved;
      serial = serial_of r.answer;
    }

-- answer 9: "program only: line not read"
abbrev pub not_read : ReplyFields
not_read = record { answer = 9; key = None; rows = 0; moved = 0; serial = None }

unfoldable pub reply_line : ℕ → ReplyFields → List ℕ
reply_line line s =
    digits line ++ field s.answer ++ field_or_dash s.key ++ field s.rows ++ field s.moved ++ field_or_dash s.serial ++ bytes "\n"

unfoldable pub key_line : ℕ → List ℕ
key_line k = bytes "key" ++ field k ++ bytes "\n"

unfoldable pub key_lines : List ℕ → List ℕ
key_lines [] = []
key_lines (k ∷ ks) = key_line k ++ key_lines ks
