-- What every call shares: a fresh header, the checks of header and word, and the reply of a refusal.
use Rattle.std.specs.Prelude.{ℕ, ◌^◌, Bool, ◌||◌, List, ltb, leb, eqb}
use Rattle.pretree.specs.declared.Header.{Header}
use Rattle.pretree.specs.declared.Answer.{Answer}
use Rattle.pretree.specs.declared.Reply.{Reply}
use Rattle.pretree.specs.Table.{capacity}

-- the header of an empty set
abbrev pub fresh : ℕ → Header
fresh width = record { width = width; count = 0 }

-- a width of 0 or above 32
abbrev pub wrong_width : ℕ → Bool
wrong_width width = eqb width 0 || ltb 32 width

-- answer 2: "header W 0 or above 32, or count above capacity"
unfoldable pub wrong_header : Header → List ℕ → Bool
wrong_header h table = wrong_width h.width || ltb (capacity table) h.count

-- answer 3: "k is 2^W or more"
unfoldable pub too_wide : Header → ℕ → Bool
too_wide h k = leb (2 ^ h.width) k

-- "1 to 6 and 9 are refusals: counts 0, header [..] untouched"
abbrev pub refused : Header → Answer → Reply
refused h a = record { header = h; answer = a; rows = 0; moved = 0 }

-- an answer that is no refusal, with the rows read
abbrev pub answered : Header → Answer → ℕ → Reply
answered h a n = record { header = h; answer = a; rows = n; moved = 0 }
