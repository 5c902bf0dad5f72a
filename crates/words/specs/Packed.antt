-- A reply as seven numbers, for a caller that knows plain numbers only.
use Rattle.std.specs.Prelude.{ℕ, List, [], ◌∷◌, unwrap_or}
use Rattle.pretree.specs.declared.Header.{Header}
use Rattle.pretree.specs.declared.Reply.{Reply}
use Rattle.pretree.specs.Answer.{number_of, key_of, serial_of}

abbrev pub header_of : ℕ → ℕ → Header
header_of width count = record { width = width; count = count }

-- the answer's number, its key, the rows read, the moving count, the serial, and the header that is handed back.
-- "the word for [..]; the distance for `gap`; else none", and document 02 §1: "the serial for a `has` that found its word, `-` elsewhere".
-- None is 0 here: by its call one knows whether an answer 0 has a key or a serial.
unfoldable pub packed : Reply → List ℕ
packed r =
    number_of r.answer
    ∷ unwrap_or (key_of r.answer) 0
    ∷ r.rows
    ∷ r.moved
    ∷ unwrap_or (serial_of r.answer) 0
    ∷ r.header.width
    ∷ r.header.count
    ∷ []
