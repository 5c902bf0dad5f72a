-- Three cases: nothing moves; the last key is no word; or a seek follows the second way.
use Prim.Native.Nat.{ℕ, pred, ◌-◌}
use mathlib.Core.Path.{◌≡◌, sym, ap, refl, ◌∙◌}
use mathlib.Core.Bool.{true}
use native.Mathlib.Numerals.{sub-one}
use borrow.Author.Tests.{eq-eqb, ne_eqb}
use borrow.Author.Rules.{rules}
use Rattle.pretree.specs.declared.Row.{Row}
use Rattle.pretree.specs.Table.{row_at}
use Rattle.pretree.specs.Seek.{row_of, WayEnds}
use Rattle.pretree.proofs.Sought.{mask_few}
use Rattle.pretree.proofs.WordWay.{sought_ends}
use Rattle.pretree.proofs.Erasing.{strays_on_error, ends_last, wide_strays, seek_strays, seek_moves, seek_hook_in_table}
use Rattle.pretree.proofs.table.Rows.move_of.Goals as goal
use Rattle.pretree.proofs.table.Rows.move_of.Goals.{After-row_at-key, After-seek_end, Else-hole-last}

-- the last row is not the hole
apart : (c : Else-hole-last) → c.args.hole ≡ pred c.args.self.now.header.count → ⊥
apart c e = c.if-hole-last.false (e ∙ sym (sub-one _))

-- the last row's key
key_is : (c : After-row_at-key) → let a = c.args in c.row_at-key.result.entry.key ≡ (row_at a.self.now.table.now (pred a.self.now.header.count)).entry.key
key_is c =
    let a = c.args in
    ap (λ (r : Row). r.entry.key) c.row_at-key.ensures ∙ ap (λ (n : ℕ). (row_at a.self.now.table.now n).entry.key) (sub-one a.self.now.header.count)

pub returns-then-is_too_wide-clause-judged : goal.returns-then-is_too_wide-clause-judged
returns-then-is_too_wide-clause-judged c =
    let a = c.args in
    let wide = sym c.is_too_wide.ensures ∙ c.if-is_too_wide.true in
    (apart (goal.at.returns-then-is_too_wide-clause-judged c).Else-hole-last, wide_strays a.self.now.header a.self.now.table.now (search rules) _ (key_is (goal.at.returns-then-is_too_wide-clause-judged c).After-row_at-key) wide)

-- the seek, and how it ended
done : (c : After-seek_end) → WayEnds c.args.self.now.header c.args.self.now.table.now c.row_at-key.result.entry.key c.sought-s.result c.seek_end.result
done c =
    let a = c.args in
    sought_ends a.self.now.header a.self.now.table.now c.row_at-key.result.entry.key (search rules) (sym c.is_too_wide.ensures ∙ c.if-is_too_wide.false) c.sought-s.result c.seek_end.result c.requires.some c.sought-s.ensures c.seek_end.ensures

pub overflow_sub-result : goal.overflow_sub-result
overflow_sub-result c =
    let small = sym c.is_too_wide.ensures ∙ c.if-is_too_wide.false in
    rw c.bits_of.ensures (mask_few c.args.self.now.table.now c.args.self.now.header _ (search rules) small c.sought-s.result c.sought-s.ensures)

pub returns-clause-hook : goal.returns-clause-hook
returns-clause-hook c =
    let at = goal.at.returns-clause-hook c in
    seek_hook_in_table (done at.After-seek_end) (key_is at.After-row_at-key) (rw (done at.After-seek_end).ends.word at c.leg.ensures) c.bits_of.ensures c.hook_of.ensures

pub returns-in_err-seek_end-clause-judged : goal.returns-in_err-seek_end-clause-judged
returns-in_err-seek_end-clause-judged c =
    let at = goal.at.returns-in_err-seek_end-clause-judged c in
    strays_on_error _ _ _ c.from_residual.ensures.0 (apart at.Else-hole-last)
    (seek_strays (done at.After-seek_end) (key_is at.After-row_at-key) (rw c.in_err-seek_end.was refl))

pub returns-in_default-clause-judged : goal.returns-in_default-clause-judged
returns-in_default-clause-judged c =
    let at = goal.at.returns-in_default-clause-judged c in
    (apart at.Else-hole-last, seek_strays (done at.After-seek_end) (key_is at.After-row_at-key) (rw c.in_ok-seek_end.was (rw c.in_default.is refl)))

pub returns-then-s-last-clause-judged : goal.returns-then-s-last-clause-judged
returns-then-s-last-clause-judged c =
    let at = goal.at.returns-then-s-last-clause-judged c in
    (apart at.Else-hole-last, seek_strays (done at.After-seek_end) (key_is at.After-row_at-key) (rw c.in_ok-seek_end.was (rw c.in-Some.is (ne_eqb _ _ c.if-s-last.true))))

pub returns-clause-judged : goal.returns-clause-judged
returns-clause-judged c =
    let at = goal.at.returns-clause-judged c in
    let ends : ends_last (row_of c.sought-s.result) (c.args.self.now.header.count - 1) c.seek_end.result ≡ true = rw c.in_ok-seek_end.was (rw c.in-Some.is (eq-eqb _ _ c.if-s-last.false)) in
    (apart at.Else-hole-last, seek_moves (done at.After-seek_end) (key_is at.After-row_at-key) (rw (done at.After-seek_end).ends.word at c.leg.ensures) c.bits_of.ensures c.hook_of.ensures ends)
