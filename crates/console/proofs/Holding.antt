use Prim.Native.Nat.{ℕ, ◌+◌, ◌-◌, ◌≤◌, min}
use mathlib.Core.Path.{◌≡◌}
use mathlib.Core.List.{List, ◌++◌}
use native.Mathlib.Omega.{arith}
use lib.ListN.{length, take}
use lib.Seq.{take-append-add}
use Rattle.std.proofs.lemmas.List.{take_min}
use Rattle.std.proofs.Math.Nat.{min_comm}

-- a part is held as far as there is room
pub held_after :
    {A : Type 0} {n : ℕ} (held part : List A) {fits : ℕ} → length held ≤ n → fits ≡ min (length part) (n - length held)
    → held ++ take fits part ≡ take n (held ++ part)
held_after {n = n} held part {fits} within e =
    let room : n ≡ length held + (n - length held) = omega arith in
    let some : take fits part ≡ take (n - length held) part = rw (e, min_comm (length part) (n - length held), take_min (n - length held) part) in
    rw (some, ← take-append-add held part (n - length held), ← room)
