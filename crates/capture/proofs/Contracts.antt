-- The contracts of `leading` and `stale`, as the code has them, ask nothing and allow exactly one outcome.
-- The checker makes `F.Reads.Post` from the `ensures` clauses of F in src/lib.rt: what they claim of the arguments, the result and the
-- parameters at exit. `F.Reads.Asked` is what the `requires` clauses ask of a caller, and `ended` of specs/contracts/F, which the
-- checker makes too, is the signature. If a clause is
-- removed from the code, it is missing here too, and the theorem is refused.
-- Document 01: "show that any two outcomes it allows are equal".
use Prim.Native.Nat.{ℕ}
use mathlib.Core.Path.{◌≡◌, sym, ◌∙◌}
use mathlib.Core.Bool.{Bool}
use mathlib.Core.List.{List}
use mathlib.Core.Logic.{◌↔◌}
use base.Fml.{Lft}
use denote.Ref.{Bor}
use denote.Triple.Clauses.{at_exit}
use Rattle.capture.specs.Capture.{leading, is_stale}
use Rattle.capture.proofs.Laws.{has_part, no_other}
use Rattle.capture.specs.contracts.leading as leading_clauses
use Rattle.capture.specs.contracts.stale as stale_clauses
use Rattle.capture.proofs.leading as leading_fn
use Rattle.capture.proofs.stale as stale_fn

-- Two captures, lent as `&[u8]` with separate lifetimes. `Bor` is the reference, and its `now` the bytes.
module _ (new earlier : Bor (List ℕ)) (n e : Lft) where
  abbrev lifetimes : Lft × (Lft × Unit {0})
  lifetimes = (n, (e, tt))

  abbrev captures : Bor (List ℕ) × (Bor (List ℕ) × Unit {0})
  captures = (new, (earlier, tt))

  -- What a contract says of a result. It says nothing of the captures at exit (`tt`): shared references leave them unchanged.
  abbrev pub LeadingContract : Bor (List ℕ) → Type 0
  LeadingContract part = leading_fn.Reads.Post lifetimes captures part (at_exit leading_clauses.ended lifetimes captures (tt, (tt, tt)))

  abbrev pub StaleContract : Bool → Type 0
  StaleContract answer = stale_fn.Reads.Post lifetimes captures answer (at_exit stale_clauses.ended lifetimes captures (tt, (tt, tt)))

  -- A contract allows exactly the result that specs/Capture.antt computes.
  pub leading_contract : (part : Bor (List ℕ)) → LeadingContract part ↔ (part.now ≡ leading new.now earlier.now)
  leading_contract part = (no_other, λ same. rw same (has_part new.now earlier.now))

  pub stale_contract : (answer : Bool) → StaleContract answer ↔ (answer ≡ is_stale new.now earlier.now)
  stale_contract answer = (λ same. same, λ same. same)

  -- Any two results that a contract allows are equal.
  pub one_leading : (part part' : Bor (List ℕ)) → LeadingContract part → LeadingContract part' → part.now ≡ part'.now
  one_leading part part' allowed allowed' = (leading_contract part).0 allowed ∙ sym ((leading_contract part').0 allowed')

  pub one_answer : (answer answer' : Bool) → StaleContract answer → StaleContract answer' → answer ≡ answer'
  one_answer answer answer' allowed allowed' = (stale_contract answer).0 allowed ∙ sym ((stale_contract answer').0 allowed')

  pub asks_nothing : leading_fn.Reads.Asked lifetimes captures × stale_fn.Reads.Asked lifetimes captures
  asks_nothing = (tt, tt)
