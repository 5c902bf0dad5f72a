-- Where lines end, and what is held of a line that has not ended.
use Prim.Native.Nat.{ℕ, zero, suc, ◌+◌, ◌-◌, ◌≤◌, ◌<◌, min}
use mathlib.Core.Path.{◌≡◌, refl, sym, ap, ◌∙◌}
use mathlib.Core.Bool.{true, false}
use mathlib.Core.List.{List, [], ◌∷◌, ◌++◌, append_assoc, append-nil}
use mathlib.Core.Logic.{⊎_elim}
use native.Mathlib.Omega.{arith}
use borrow.Author.Tests.{ltb-true, ltb-false}
use lib.Dec.{ltb, eqb}
use lib.ListN.{length, take, length-take}
use lib.Seq.{take_all}
use Rattle.lines.specs.Line.{parse}
use Rattle.lines.specs.Output.{ended, unended}
use Rattle.lines.specs.Gather.{until_end, HoldsLine}
use Rattle.std.proofs.lemmas.Bool.{cases_Bool}
use Rattle.lines.proofs.Finding.{until_first, until_later}
use Rattle.lines.proofs.Heads.{long_unread}
use Rattle.lines.proofs.Puts.{Put}
use Rattle.lines.proofs.Pieces.{ended_later, unended_later}

-- an input in which no line ends
pub no_line_ends :
    (line input : List ℕ) → length input ≤ until_end input → (ended line input ≡ []) × (unended line input ≡ line ++ input)
unfolding ended unended
no_line_ends line [] h = (refl, sym (append-nil line))
no_line_ends line (b ∷ input) h =
    ⊎_elim
    (λ (t : eqb b 10 ≡ true). absurd (omega (arith, until_first 10 b input t)))
    (λ (f : eqb b 10 ≡ false).
    let r = no_line_ends (line ++ b ∷ []) input (omega (arith, until_later 10 b input f)) in
    (ended_later line b input f ∙ r.0, unended_later line b input f ∙ r.1 ∙ rw append_assoc))
    (cases_Bool (eqb b 10))

-- what is held of a line, with one more part after it
take_both : {A : Type 0} (n : ℕ) (xs ys : List A) → take n (take n xs ++ ys) ≡ take n (xs ++ ys)
take_both zero xs ys = refl
take_both (suc n) [] ys = refl
take_both (suc n) (x ∷ xs) ys = rw (take_both n xs ys)

pub held_more : {held : List ℕ} (line : List ℕ) → HoldsLine held line → (part : List ℕ) → HoldsLine (take 65 (held ++ part)) (line ++ part)
held_more line h part = rw h (take_both 65 line part)

-- a line reads the same from what is held of it
pub parse_held : (line : List ℕ) → parse (take 65 line) ≡ parse line
parse_held line =
    ⊎_elim
    (λ (t : ltb 64 (length line) ≡ true).
    let long : 64 < length line = ltb-true 64 (length line) t in
    long_unread (take 65 line) (omega (arith, length-take 65 line)) ∙ sym (long_unread line long))
    (λ (f : ltb 64 (length line) ≡ false). ap parse (take_all 65 line (omega (arith, ltb-false 64 (length line) f))))
    (cases_Bool (ltb 64 (length line)))

-- a line that ended, from what was held of it and the part before its end
pub parse_gathered : {held : List ℕ} (line : List ℕ) → HoldsLine held line → (part : List ℕ) → parse (take 65 (held ++ part)) ≡ parse (line ++ part)
parse_gathered line h part = ap parse (held_more line h part) ∙ parse_held (line ++ part)

-- from that part alone, if nothing was held
pub parse_whole : {held : List ℕ} (line : List ℕ) → HoldsLine held line → held ≡ [] → (part : List ℕ) → parse part ≡ parse (line ++ part)
parse_whole line h e part = sym (parse_held part) ∙ (rw e at (parse_gathered line h part))

-- once as many bytes of a part are put after `count` bytes as the buffer has room for, all that fit of it are put
pub all_copied :
    (part : List ℕ) {before buffer : List ℕ} {count most i : ℕ} → Put before count (take i part) buffer (count + i) → i ≤ most
    → most ≡ min (length part) (length before - count) → most ≤ i
    → Put before count (take (length before - count) part) buffer (count + most)
all_copied part {before} {buffer} {count} {most} {i} put within some h =
    let e : take i part ≡ take (length before - count) part =
    ⊎_elim
    (λ (t : ltb (length before - count) (length part) ≡ true).
    let q : i ≡ length before - count = omega (arith, ltb-true) in ap (λ (n : ℕ). take n part) q)
    (λ (f : ltb (length before - count) (length part) ≡ false).
    let q : length part ≤ i = omega (arith, ltb-false) in
    let r : length part ≤ length before - count = ltb-false _ _ f in
    take_all i part q ∙ sym (take_all (length before - count) part r))
    (cases_Bool (ltb (length before - count) (length part))) in
    record { content = rw e at put.content; place = rw (← e) (omega (arith, put.place)) }
