use Prim.Native.Nat.{ℕ, ◌*◌, ◌-◌, ◌≤◌, ◌<◌}
use mathlib.Core.Path.{◌≡◌, sym, ap, ◌∙◌}
use mathlib.Core.List.{List}
use native.Mathlib.Nat.{lt_of_lt_of_le}
use native.Mathlib.Omega.{arith}
use borrow.Author.Rules.{rules}
use Rattle.pretree.specs.declared.Header.{Header}
use Rattle.pretree.specs.declared.seek.Seek.{Seek}
use Rattle.pretree.specs.Table.{row_words, row_at}
use Rattle.pretree.specs.Unfold.{shown}
use Rattle.pretree.specs.Seek.{rows_before, begun, gone, OnSeek}
use Rattle.pretree.proofs.Checks.{right_header, narrow}
use Rattle.pretree.proofs.Between.{bits_are}
use Rattle.pretree.proofs.SeekWalk.{begins, Further, further}
use Rattle.pretree.proofs.table.Rows.sought.Invariants.{header}
use Rattle.pretree.proofs.table.Rows.sought.Goals as goal
use Rattle.pretree.proofs.table.Rows.sought.Goals.{In-loop-table}

from_start : {start : Seek} (table : List ℕ) (h : Header) (k : ℕ) (s : Seek) → h.width ≤ 32 → start ≡ begun h.width k
    → OnSeek (row_at table) (header start h.count) (shown (header start h.count) table) start.word s
    → OnSeek (row_at table) h (shown h table) k s
from_start table h k s few e g = rw (e, bits_are h.width few) at g

-- the rows before it are those in use
in_use : (count : ℕ) → 0 < count → rows_before (row_words * count - 3) ≡ count
in_use count some = omega arith

pub loop-table-init : goal.loop-table-init
loop-table-init c =
    let a = c.args in
    let fine = right_header a.self.now.header a.self.now.table.now (search rules) in
    let some : 0 < a.self.now.header.count = search rules in
    rw (in_use a.self.now.header.count some, c.start-s.ensures, bits_are a.self.now.header.width fine.at_most_32)
    (fine.has_room, omega (arith, some), begins a.self.now.table.now a.self.now.header a.word (search rules) (narrow a.self.now.header a.word (search rules)))

pub goes_on-requires : goal.goes_on-requires
goes_on-requires c =
    let i = c.loop-table.invariant in
    record { room = i.0; past = i.1; between = omega (arith, i.2.shows.between, i.2.shows.word); at = i.2.shows.at }

-- what is known in each turn of the loop
goes_further : (c : In-loop-table)
    → let a = c.args in
    Further a.self.now.table.now (header c.start-s.result (rows_before (row_words * a.self.now.header.count - 3))) c.start-s.result.word c.loop-table.s
goes_further c = further _ _ _ _ c.loop-table.invariant.2 (rw c.loop-table.invariant.2.shows.word at (sym c.goes_on.ensures ∙ c.loop-table-test.true))

pub gone-s-requires : goal.gone-s-requires
gone-s-requires c =
    let l = c.loop-table in
    let f = goes_further (goal.at.gone-s-requires c).In-loop-table in
    record { used = lt_of_lt_of_le f.used l.invariant.0; at = l.invariant.2.shows.at; less = rw l.invariant.2.shows.word f.less }

pub loop-table-smaller : goal.loop-table-smaller
loop-table-smaller c = rw c.gone-s.ensures (goes_further (goal.at.loop-table-smaller c).In-loop-table).falls

pub loop-table-preserved : goal.loop-table-preserved
loop-table-preserved c =
    let l = c.loop-table in
    let went : c.gone-s.result ≡ gone (row_at c.args.self.now.table.now) c.start-s.result.word l.s
    = c.gone-s.ensures ∙ ap (λ (k : ℕ). gone (row_at c.args.self.now.table.now) k l.s) l.invariant.2.shows.word in
    (l.invariant.0, l.invariant.1, rw went (goes_further (goal.at.loop-table-preserved c).In-loop-table).on_seek)

pub returns : goal.returns
returns c =
    let l = c.loop-table in
    let a = c.args in
    let some : 0 < a.self.now.header.count = search rules in
    record {
      on =
          from_start a.self.now.table.now a.self.now.header a.word l.s (right_header a.self.now.header a.self.now.table.now (search rules)).at_most_32
          c.start-s.ensures (rw (in_use a.self.now.header.count some) at l.invariant.2);
      stopped = rw (in_use a.self.now.header.count some, l.invariant.2.shows.word, c.start-s.ensures) at (sym c.goes_on.ensures ∙ c.loop-table-test.false);
    }
