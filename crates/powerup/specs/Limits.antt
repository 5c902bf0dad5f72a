-- The numbers of the two editions. They differ in nothing else. Document 02 §9: "from FIPS 140-1 and from FIPS 140-2 before its Change Notice 2; the
-- numbers here decide."
use Rattle.std.specs.Prelude.{ℕ, [], ◌∷◌, cond, eqb, Result, Ok, Err}
use Rattle.powerup.specs.declared.Interval.{Interval}
use Rattle.powerup.specs.declared.Limits.{Limits}
use Rattle.powerup.specs.declared.Refusal.{Refusal}
use Rattle.powerup.specs.declared.Refusal.TheVariants.{WrongEdition}
use Rattle.powerup.specs.declared.editions.Edition.{Edition}
use Rattle.powerup.specs.declared.editions.Edition.TheVariants.{First, Second}

abbrev pub ◌to◌ : ℕ → ℕ → Interval
l to h = record { low = l; high = h }

infix 40 ◌to◌
-- "Ones must lie strictly between 9,654 and 10,346 in the first edition [..]. The poker sum of the sixteen squared counts must be 1,562,822 to
-- 1,580,437 [..]. A run of 34 or more [..] equal bits fails. [..] first edition 2,267 to 2,733, 1,079 to 1,421, 502 to 748, 223 to 402, 90 to 223,
-- 90 to 223"
unfoldable pub first_edition : Limits
first_edition = record {
  ones = 9654 to 10346;
  poker = 1562822 to 1580437;
  runs = (2267 to 2733) ∷ (1079 to 1421) ∷ (502 to 748) ∷ (223 to 402) ∷ (90 to 223) ∷ (90 to 223) ∷ [];
  long = 34;
}

-- "9,725 and 10,275 in the second. [..] respectively 1,563,176 to 1,576,928. [..] respectively 26 or more [..]. [..] second 2,315 to 2,685, 1,114 to
-- 1,386, 527 to 723, 240 to 384, 103 to 209, 103 to 209"
unfoldable pub second_edition : Limits
second_edition = record {
  ones = 9725 to 10275;
  poker = 1563176 to 1576928;
  runs = (2315 to 2685) ∷ (1114 to 1386) ∷ (527 to 723) ∷ (240 to 384) ∷ (103 to 209) ∷ (103 to 209) ∷ [];
  long = 26;
}

-- the edition that a number names
abbrev pub edition_of : ℕ → Result Edition Refusal
edition_of n = cond (eqb n 1) (Ok First) (cond (eqb n 2) (Ok Second) (Err WrongEdition))

abbrev pub limits_of : Edition → Limits
limits_of First = first_edition
limits_of Second = second_edition
