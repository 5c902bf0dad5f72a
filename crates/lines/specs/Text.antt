-- The bytes of a quoted text. With it the specs have the words of the line language as document 01 prints them.
-- Also the place of a byte in a text.
use Rattle.std.specs.Prelude.{ℕ, suc, List, eqb, if◌then◌else◌}
use Prim.Native.Char.{code}
use Prim.Native.String.{String}

abbrev pub bytes : String → List ℕ
bytes String.[] = List.[]
bytes (String.◌∷◌ c s) = List.◌∷◌ (code c) (bytes s)

-- how many bytes come before the first byte b
unfoldable pub until_byte : ℕ → List ℕ → ℕ
until_byte b List.[] = 0
until_byte b (List.◌∷◌ c text) =
    let more : ℕ = suc (until_byte b text) in
    if eqb c b then 0
    else more
