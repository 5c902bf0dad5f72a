-- `powerup::Report::of` meets its contract. Assumes nothing.
use Prim.Native.Nat.{ℕ}
use mathlib.Core.Path.{◌≡◌}
use mathlib.Core.Bool.{Bool, false}
use mathlib.Core.List.{List, map}
use lib.ListN.{replicate}
use Rattle.std.specs.Array.{AllOfLen}
use Rattle.std.specs.Prelude.{Result, Ok, Err}
use Rattle.std.specs.Result.{ResultUnwrapsOrElse}
use Rattle.std.specs.List.{range_with_len}
use Rattle.std.proofs.lemmas.List.FromFn.{fill_by_all}
use Rattle.powerup.specs.declared.Report.{Report}
use Rattle.powerup.specs.declared.Refusal.{Refusal}
use Rattle.powerup.specs.Reply.{nothing, shown}
use Rattle.powerup.proofs.Report.of.Goals as goal

-- an array of default numbers
zeros : (n : ℕ) (xs : List ℕ) → AllOfLen (λ x. x ≡ 0) xs n → xs ≡ map (λ _. 0) (range_with_len 0 n)
zeros n xs a = fill_by_all (λ _. 0) xs n 0 a.long (λ k. a.at k 0)

-- a report of default fields
empty :
    {ones sum longest : ℕ} {poker zero_runs one_runs : List ℕ} {a b c d : Bool}
    → ones ≡ 0 → poker ≡ replicate 16 0 → sum ≡ 0 → zero_runs ≡ replicate 6 0 → one_runs ≡ replicate 6 0 → longest ≡ 0
    → a ≡ false → b ≡ false → c ≡ false → d ≡ false
    → record {
      counts = record { ones = ones; poker = poker; sum = sum; runs = record { zeros = zero_runs; ones = one_runs; longest = longest } };
      verdicts = record { monobit = a; poker = b; runs = c; long = d };
    } ≡ nothing
unfolding nothing
empty e f g h i j k l m n = cc

cases :
    {P : Report → Type 0} (reply : Result Report Refusal) (r : Report) → ((x : Report) → P x → x ≡ nothing)
    → ResultUnwrapsOrElse reply P r → r ≡ shown reply
cases (Ok x) r f u = u
cases (Err e) r f u = f r u

pub returns : goal.returns
returns c =
    cases c.args.reply c.unwrap_or_default.result
    (λ x d.
    let counts = d.0 in
    let runs = counts.1.1.1 in
    let verdicts = d.1 in
    empty counts.0 (zeros 16 x.counts.poker counts.1.0) counts.1.1.0 (zeros 6 x.counts.runs.zeros runs.0) (zeros 6 x.counts.runs.ones runs.1.0) runs.1.1
    verdicts.0 verdicts.1.0 verdicts.1.1.0 verdicts.1.1.1)
    c.unwrap_or_default.ensures
