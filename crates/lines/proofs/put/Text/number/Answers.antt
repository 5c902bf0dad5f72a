use Prim.Native.Nat.{ℕ, ◌^◌, ◌<◌}
use mathlib.Core.Path.{ap, ◌∙◌}
use mathlib.Core.List.{List}
use native.Mathlib.Omega.{arith}
use lib.ListN.{length, length-append, length-drop}
use Rattle.lines.specs.Render.{digits}
use Rattle.lines.proofs.Digits.{digits_are}
use Rattle.lines.proofs.put.Text.number.Goals as goal

pub write_digits-self-inside-requires : goal.write_digits-self-inside-requires
write_digits-self-inside-requires g c =
    let s = c.self.inside in
    let small : c.args.n < 2 ^ 64 = omega arith in
    rw (← digits_are c.args.n small) (omega (arith, ap (λ (l : List ℕ). length l) c.self.view_is, length-drop s.from s.bytes), omega arith)

pub returns-clause-put : goal.returns-clause-put
returns-clause-put g c =
    let small : c.args.n < 2 ^ 64 = omega arith in
    rw (digits_are c.args.n small, ← c.self.view_is) c.write_digits-self-inside.ensures.written

-- its length, from that
pub returns-clause-len : goal.returns-clause-len
returns-clause-len g c = ap (λ (l : List ℕ). length l) (returns-clause-put g c) ∙ length-append (digits c.args.n) c.args.self.now
