use Prim.Native.Nat.{ℕ, ◌<◌}
use mathlib.Core.Path.{◌≡◌}
use mathlib.Core.List.{List}
use native.Mathlib.Omega.{arith}
use lib.Dec.{eqb}
use lib.ListN.{length}
use Rattle.std.specs.Prelude.{Option, None, Some, position}
use Rattle.std.specs.List.{position_or_len}
use Rattle.memchr.specs.Find.{IsFirstByte, is_byte}
use Rattle.std.proofs.lemmas.Bool.{false_from_ne_true}
use Rattle.std.proofs.lemmas.Bool.Decides.{nat_tests}
use Rattle.std.proofs.lemmas.List.Sums.{position_or_len_is}

-- the first such byte, as `memchr` says it
pub is_position : (b : ℕ) (text : List ℕ) (r : Option ℕ) → IsFirstByte (is_byte b) text r → r ≡ position (λ c. eqb c b) text
is_position b text None none =
    let end : position_or_len (λ c. eqb c b) text ≡ length text =
    position_or_len_is (λ c. eqb c b) text (length text) 0 (omega arith) (λ k h. false_from_ne_true _ (none k (omega arith) h)) (λ h. absurd (omega arith)) in
    grind (arith, nat_tests)
is_position b text (Some i) (before, here) =
    let place : position_or_len (λ c. eqb c b) text ≡ i =
    position_or_len_is (λ c. eqb c b) text i 0 (omega (arith, before.high)) (λ k h. false_from_ne_true _ (before.before k (omega arith) h)) (λ h. here) in
    let within : i < length text = before.high in
    grind (arith, nat_tests)
