-- A lent table is a list of table words. This file reads and writes it by rows.
-- Document 02 §1: "Each row gets a fourth word, the serial [..] A row is then four words, capacity the length divided by 4, at most 65,535". The
-- first three are document 01's: "key, left link, right link".
use Rattle.std.specs.Prelude.{ℕ, ◌+◌, ◌*◌, ◌/◌, min, Option, Some, None, List, [], ◌∷◌, length, get_or, set}
use Rattle.std.proofs.lemmas.List.Edits.{sets}
use Rattle.ordered.specs.Word.{Side, left, right, bit_of}
use Rattle.ordered.specs.Dictionary.{Entry, no_entry}
use Rattle.pretree.specs.declared.Entry as Code
use Rattle.pretree.specs.declared.Row.{Row}
use Rattle.pretree.specs.declared.leg.Side as Sides
use Rattle.pretree.specs.declared.leg.Side.TheVariants.{Left, Right}
use Rattle.pretree.specs.declared.leg.Hook.{Hook}

-- key, left link, right link, serial
abbrev pub row_words : ℕ
row_words = 4

unfoldable pub capacity : List ℕ → ℕ
capacity table = min (length table / row_words) 65535

unfoldable pub row_at : List ℕ → ℕ → Row
row_at table i =
    record {
      entry = record { key = get_or table (row_words * i) 0; serial = get_or table (row_words * i + 3) 0 };
      left = get_or table (row_words * i + 1) 0;
      right = get_or table (row_words * i + 2) 0;
    }

-- the entry from the code's struct, the code's struct from an entry, and the entry of a row
abbrev pub from_code : Code.Entry → Entry
from_code e = record { key = e.key; serial = e.serial }

abbrev pub to_code : Entry → Code.Entry
to_code e = record { key = e.key; serial = e.serial }

abbrev pub entry_of : Row → Entry
entry_of r = from_code r.entry

-- the side that the code's enum names
abbrev pub to_side : Sides.Side → Side
to_side Left = left
to_side Right = right

abbrev pub link : Row → Side → ℕ
link r left = r.left
link r right = r.right

-- the table with another serial, another entry, another link or another row at row i
unfoldable pub with_serial : ℕ → ℕ → List ℕ → List ℕ
with_serial i serial table = set table (row_words * i + 3) serial

unfoldable pub with_entry : ℕ → Entry → List ℕ → List ℕ
with_entry i e table = with_serial i e.serial (set table (row_words * i) e.key)

unfoldable pub with_link : ℕ → Side → ℕ → List ℕ → List ℕ
with_link i s j table = set table (row_words * i + 1 + bit_of s) j

-- another link at the hook, if there is one; else the table as it is
abbrev pub hooked : Option Hook → ℕ → List ℕ → List ℕ
hooked (Some k) j table = with_link k.above (to_side k.side) j table
hooked None j table = table

unfoldable pub with_row : ℕ → Row → List ℕ → List ℕ
with_row i r table = sets table (row_words * i) (r.entry.key ∷ r.left ∷ r.right ∷ r.entry.serial ∷ [])

-- a row with both links 0
abbrev pub leaf_row : Entry → Row
leaf_row e = record { entry = to_code e; left = 0; right = 0 }

-- "cleared rows hold four zeros"
abbrev pub cleared : Row
cleared = leaf_row no_entry
