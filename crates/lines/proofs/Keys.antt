-- An answer that is neither a word nor a distance has no key. An answer that is not a serial has no serial. No other proof cites these laws.
use Prim.Native.Nat.{ℕ}
use mathlib.Core.Path.{◌≡◌, refl}
use mathlib.Core.List.{List, [], ◌∷◌}
use denote.Enum.Declared.{tag_of}
use types.Run.{OneOf, miss}
use Rattle.ordered.specs.Such.{no_such}
use Rattle.pretree.specs.declared.Answer.{Answer}
use Rattle.pretree.specs.declared.Answer.TheVariants.{Done, Serial, Word, Distance, WrongWidth, WrongHeader, WordTooWide, Damage, Full, ShortBuffer, AlreadyThere, NoSuchWord}
use Rattle.pretree.specs.Answer.{key_of, serial_of}
use Rattle.pretree.specs.contracts.Answer.{the_type}

-- the tags of the answers without a key, and of those without a serial
abbrev keyless : List ℕ
keyless = 0 ∷ 1 ∷ 4 ∷ 5 ∷ 6 ∷ 7 ∷ 8 ∷ 9 ∷ 10 ∷ 11 ∷ []

abbrev serialless : List ℕ
serialless = 0 ∷ 2 ∷ 3 ∷ 4 ∷ 5 ∷ 6 ∷ 7 ∷ 8 ∷ 9 ∷ 10 ∷ 11 ∷ []

pub no_key : (answer : Answer) → OneOf keyless (tag_of the_type answer) → key_of answer ≡ no_such
unfolding key_of
no_key Done o = refl
no_key (Serial s) o = refl
no_key (Word k) o = absurd (miss keyless 2 tt o)
no_key (Distance d) o = absurd (miss keyless 3 tt o)
no_key WrongWidth o = refl
no_key WrongHeader o = refl
no_key WordTooWide o = refl
no_key Damage o = refl
no_key Full o = refl
no_key ShortBuffer o = refl
no_key AlreadyThere o = refl
no_key NoSuchWord o = refl

pub no_serial : (answer : Answer) → OneOf serialless (tag_of the_type answer) → serial_of answer ≡ no_such
unfolding serial_of
no_serial Done o = refl
no_serial (Serial s) o = absurd (miss serialless 1 tt o)
no_serial (Word k) o = refl
no_serial (Distance d) o = refl
no_serial WrongWidth o = refl
no_serial WrongHeader o = refl
no_serial WordTooWide o = refl
no_serial Damage o = refl
no_serial Full o = refl
no_serial ShortBuffer o = refl
no_serial AlreadyThere o = refl
no_serial NoSuchWord o = refl
