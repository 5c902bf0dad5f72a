-- Examples of the definitions, proved by computation.
use Rattle.std.specs.Prelude.{◌≡◌, refl, true, false, [], ◌∷◌}
use Rattle.powerup.specs.Bits.{bits}
use Rattle.powerup.specs.Counts.{run, half_bytes, runs_from, runs, is_of, how_many, longest}
use Rattle.powerup.specs.Limits.{first_edition, second_edition}
use Rattle.powerup.specs.Verdicts.{between, within}

-- highest bit first
pub bits_of_three : bits (3 ∷ []) ≡ 0 ∷ 0 ∷ 0 ∷ 0 ∷ 0 ∷ 0 ∷ 1 ∷ 1 ∷ []
unfolding bits
bits_of_three = refl

pub half_bytes_of_c5 : half_bytes (bits (0xc5 ∷ [])) ≡ 12 ∷ 5 ∷ []
unfolding bits half_bytes
half_bytes_of_c5 = refl

-- the ones at the end of the first byte and at the start of the second are one run; the last run counts too
pub runs_across : runs (bits (0x03 ∷ 0xe0 ∷ [])) ≡ run 0 6 ∷ run 1 5 ∷ run 0 5 ∷ []
unfolding bits runs runs_from
runs_across = refl

pub ones_of_five : how_many 1 5 (runs (bits (0x03 ∷ 0xe0 ∷ []))) ≡ 1
unfolding bits runs runs_from is_of how_many
ones_of_five = refl

-- seven zeros are a run of "6 or more"
pub seven_zeros : how_many 0 6 (runs (bits (0x01 ∷ []))) ≡ 1
unfolding bits runs runs_from is_of how_many
seven_zeros = refl

pub longest_across : longest (runs (bits (0x0f ∷ 0xff ∷ []))) ≡ 12
unfolding bits runs runs_from longest
longest_across = refl

-- "Ones must lie strictly between 9,654 and 10,346"; "The poker sum [..] must be [..] 1,563,176 to 1,576,928."
pub at_the_end : between first_edition.ones 9654 ≡ false
unfolding between first_edition
at_the_end = refl

pub next_to_it : between first_edition.ones 9655 ≡ true
unfolding between first_edition
next_to_it = refl

pub last_sum : within second_edition.poker 1576928 ≡ true
unfolding within second_edition
last_sum = refl
