use Rattle.std.proofs.Common.{sym, ap, subst, ◌∙◌, ◌≡◌, ℕ, List, Option, ◌≤◌, ◌+◌, ◌++◌, length, take}
use Rattle.std.specs.Io.KnownBytes.{Consumes}
use Rattle.std.proofs.KnownBytes.{Consumes-trans}
use Rattle.std.proofs.Math.Seq.{take-append-add}
use Rattle.std.proofs.lemmas.List.{take-append-le}

-- reads that gave `front`, and then one that gave the first n bytes of the part after it, gave both
pub Consumes-next : (a b c : Option (List ℕ)) (front part rest : List ℕ) (done n : ℕ) → length front ≡ done → n ≤ length part → Consumes a b front
    → Consumes b c (take n part) → Consumes a c (take (done + n) (front ++ (part ++ rest)))
Consumes-next a b c front part rest done n long within before read =
    let joined : take (done + n) (front ++ (part ++ rest)) ≡ front ++ take n part =
    ap (λ k. take (k + n) (front ++ (part ++ rest))) (sym long) ∙ take-append-add front (part ++ rest) n ∙ ap (λ l. front ++ l) (take-append-le n part rest within) in
    subst (Consumes a c) (sym joined) (Consumes-trans a b c front (take n part) before read)
