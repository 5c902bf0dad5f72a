-- A line of 4 to 64 bytes means what its head and its rest mean.
use Prim.Native.Nat.{ℕ, ◌<◌}
use native.Mathlib.Omega.{arith}
use lib.ListN.{get_or}
use Rattle.lines.proofs.Heads.{by_head_is, packed_head}
use Rattle.lines.proofs.parse.parse.Goals as goal

pub returns : goal.returns
returns c =
    let line = c.args.line.now in
    let parts = c.in_ok-head.ensures.cases in
    let small : (i : ℕ) → get_or line i 0 < 256 = λ i. omega (arith, c.type_inv.line i) in
    rw
    (by_head_is line (omega (arith, parts.2)) (omega arith) small, ← packed_head line (omega (arith, parts.2)), ← parts.0, ← parts.1, ← c.from_be_bytes.ensures)
    c.by_head.ensures
