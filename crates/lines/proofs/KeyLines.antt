-- The lines of the listed words, one after the other.
use Prim.Native.Nat.{ℕ, ◌+◌, ◌≤◌, ◌<◌}
use mathlib.Core.Path.{◌≡◌, refl}
use mathlib.Core.List.{List, [], ◌∷◌, ◌++◌, append_assoc, append-nil}
use native.Mathlib.Numerals.{add-one}
use lib.ListN.{length, get_or, take}
use lib.Seq.{take-suc, take_all}
use Rattle.lines.specs.Render.{key_line, key_lines}
use Rattle.lines.proofs.Puts.{Put}

pub key_lines_append : (ks js : List ℕ) → key_lines (ks ++ js) ≡ key_lines ks ++ key_lines js
unfolding key_lines
key_lines_append [] js = refl
key_lines_append (k ∷ ks) js = rw (key_lines_append ks js, append_assoc)

pub last_line : (ks : List ℕ) (k : ℕ) → key_lines (ks ++ k ∷ []) ≡ key_lines ks ++ key_line k
unfolding key_lines
last_line ks k = rw (key_lines_append ks (k ∷ []), append-nil)

pub next_line : (words : List ℕ) (i : ℕ) → i < length words → key_lines (take (i + 1) words) ≡ key_lines (take i words) ++ key_line (get_or words i 0)
unfolding key_lines
next_line words i more =
    rw (add-one, take-suc words i 0 more, key_lines_append (take i words) (get_or words i 0 ∷ []), append-nil)

-- once the lines of the first i words are put, and there are no more words, the lines of all are put
pub all_listed :
    (words : List ℕ) (i : ℕ) {before out : List ℕ} {at next : ℕ} → Put before at (key_lines (take i words)) out next → length words ≤ i
    → Put before at (key_lines words) out next
all_listed words i put end = rw (take_all i words end) at put
