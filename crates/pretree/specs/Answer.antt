-- The documents' number, key and serial for each case of the answer.
use Rattle.std.specs.Prelude.{ℕ}
use Rattle.ordered.specs.Such.{Perhaps, no_such, such}
use Rattle.pretree.specs.declared.Answer.{Answer}
use Rattle.pretree.specs.declared.Answer.TheVariants.{Done, Serial, Word, Distance, WrongWidth, WrongHeader, WordTooWide, Damage, Full, ShortBuffer, AlreadyThere, NoSuchWord}

unfoldable pub number_of : Answer → ℕ
number_of Done = 0
number_of (Serial s) = 0
number_of (Word k) = 0
number_of (Distance d) = 0
number_of WrongWidth = 1
number_of WrongHeader = 2
number_of WordTooWide = 3
number_of Damage = 4
number_of Full = 5
number_of ShortBuffer = 6
number_of AlreadyThere = 7
number_of NoSuchWord = 8

-- "the word for `next`, `prev`, `first`, `last`; the distance for `gap`; else none"
unfoldable pub key_of : Answer → Perhaps ℕ
key_of Done = no_such
key_of (Serial s) = no_such
key_of (Word k) = such k
key_of (Distance d) = such d
key_of WrongWidth = no_such
key_of WrongHeader = no_such
key_of WordTooWide = no_such
key_of Damage = no_such
key_of Full = no_such
key_of ShortBuffer = no_such
key_of AlreadyThere = no_such
key_of NoSuchWord = no_such

-- document 02 §1: "the serial for a `has` that found its word, `-` elsewhere"
unfoldable pub serial_of : Answer → Perhaps ℕ
serial_of (Serial s) = such s
serial_of Done = no_such
serial_of (Word k) = no_such
serial_of (Distance d) = no_such
serial_of WrongWidth = no_such
serial_of WrongHeader = no_such
serial_of WordTooWide = no_such
serial_of Damage = no_such
serial_of Full = no_such
serial_of ShortBuffer = no_such
serial_of AlreadyThere = no_such
serial_of NoSuchWord = no_such
