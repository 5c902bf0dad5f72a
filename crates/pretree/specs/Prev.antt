-- The steps of `src/prev.rt`: the number of rows of the way of k, and the place of the left part of the last row that it passed.
use Rattle.std.specs.Prelude.{ℕ, suc, ◌+◌, ◌*◌, ◌-◌, ◌/◌, ◌%◌, ◌^◌, eqb, if◌then◌else◌, Option, Some, None}
use Rattle.std.specs.Int.Bits.{bit_and}
use Rattle.pretree.specs.declared.Row as Rows
use Rattle.pretree.specs.declared.leg.Place.{Place}

-- the number of rows that a way reads: those that it passed, and the row at its end
abbrev pub rows_to : Option Rows.Row → ℕ → ℕ
rows_to None passed = passed
rows_to (Some r) passed = passed + 1

-- the left link of the row r, with m bits left below it, if the way of k turned right there
abbrev pub left_if_right : ℕ → ℕ → Rows.Row → ℕ
left_if_right k m r = if eqb (k / 2 ^ m % 2) 0 then 0 else r.left

-- the place to which that link leads; the mask is that of the bits left there
abbrev pub left_place : Rows.Row → ℕ → Place
left_place r mask =
    record {
      row = r.left;
      mask = mask;
      path = r.entry.key - bit_and r.entry.key (2 * mask + 1);
      low = suc r.entry.key;
    }
