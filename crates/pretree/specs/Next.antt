-- The steps of `src/next.rt`: the place of the next greater word once the way of k has ended, and the reply.
use Rattle.std.specs.Prelude.{ℕ, suc, ◌+◌, ◌-◌, ltb, eqb, if◌then◌else◌, Option, Some, None}
use Rattle.std.specs.Int.Bits.{bit_and, bit_or}
use Rattle.pretree.specs.declared.Header.{Header}
use Rattle.pretree.specs.declared.Answer.TheVariants.{Word}
use Rattle.pretree.specs.declared.Reply.{Reply}
use Rattle.pretree.specs.declared.Row as Rows
use Rattle.pretree.specs.declared.leg.Place.{Place}
use Rattle.pretree.specs.declared.seek.Seek.{Seek}
use Rattle.pretree.specs.Table.{link}
use Rattle.pretree.specs.Reply.{answered}
use Rattle.pretree.specs.Leg.{link_end}
use Rattle.pretree.specs.Seek.{row_of, bits_left_by, turn, stepped}
use Rattle.pretree.specs.Found.{word_by}

-- the seek's next row, if a link led there; else the right link that it remembers
abbrev pub next_place : Seek → ℕ → Place
next_place s k =
    if eqb (row_of s) 0 then record { row = s.aside; mask = s.span; path = bit_or (k - bit_and k s.span) (suc s.span); low = suc k }
    else record { row = row_of s; mask = s.mask; path = k - s.tail; low = suc k }

-- the reply with the word there; n rows were read before
abbrev pub next_from : Header → (ℕ → Rows.Row) → ℕ → Seek → ℕ → Reply
next_from h rows k s n = word_by h n (link_end rows h.count (next_place s k))

-- `next` of k, by the row at the end of the way of k. Past a row with the key k the seek goes one row further down.
abbrev pub next_at : Header → (ℕ → Rows.Row) → ℕ → Seek → Option Rows.Row → Reply
next_at h rows k s None = next_from h rows k s (h.width - bits_left_by s.mask)
next_at h rows k s (Some r) =
    let passed : ℕ = h.width - bits_left_by s.mask in
    if ltb k r.entry.key then answered h (Word r.entry.key) (passed + 1)
    else next_from h rows k (stepped s (link r (turn s)) r.right) (passed + 1)
