-- Laws of the words of a list of entries.
use Prim.Native.Nat.{ℕ}
use mathlib.Core.Path.{refl}
use mathlib.Core.List.{List, [], ◌∷◌}
use mathlib.Core.List.Memᴰ
use Rattle.ordered.specs.Dictionary.{Entry, words}
use Rattle.ordered.specs.Source004.{◌∈◌}
use Rattle.ordered.proofs.Parts.{AllWords, none_all, one_all}

-- from all words to each one, and back
pub each_word : (P : ℕ → Type 0) {es : List Entry} {x : ℕ} → AllWords P es → x ∈ words es → P x
each_word P (one_all h hs) (Memᴰ.head e) = rw e h
each_word P (one_all h hs) (Memᴰ.tail there) = each_word P hs there
each_word P none_all there = elim there [ ]

pub all_words : {P : ℕ → Type 0} (es : List Entry) → ((x : ℕ) → x ∈ words es → P x) → AllWords P es
all_words [] f = none_all
all_words (e ∷ es) f = one_all (f e.key (Memᴰ.head refl)) (all_words es (λ x there. f x (Memᴰ.tail there)))
