-- The loops of NIST SP 800-90B as the standard writes them, sample by sample. proofs/Procedures.antt proves that they give the counts of Standard.antt.
use Rattle.std.specs.Prelude.{ℕ, suc, cond, List, [], ◌∷◌, eqb}

-- the standard's variables: A, the sample that is counted, and B, its count
pub record Counter : Type 0 where
  pub A : ℕ
  pub B : ℕ

-- 4.4.1: if X is A, B grows by 1; else A becomes X, and B becomes 1
abbrev pub repetition_step : Counter → ℕ → Counter
repetition_step c X = cond (eqb X c.A) (record { A = c.A; B = suc c.B }) (record { A = X; B = 1 })

-- 4.4.2: if the next sample X is A, B grows by 1
abbrev pub proportion_step : Counter → ℕ → Counter
proportion_step c X = cond (eqb X c.A) (record { A = c.A; B = suc c.B }) c

-- the counter after all of these samples, one step for each
unfoldable pub after_all : (Counter → ℕ → Counter) → Counter → List ℕ → Counter
after_all step c [] = c
after_all step c (X ∷ rest) = after_all step (step c X) rest

-- Both loops start with the first sample as A, and 1 as B.
abbrev pub start_at : ℕ → Counter
start_at A = record { A = A; B = 1 }
