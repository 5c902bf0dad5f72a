-- A line of 4 to 64 bytes means what its head and its rest mean; a shorter or a longer one is not read.
use Prim.Native.Nat.{ℕ, ◌≤◌, ◌<◌}
use mathlib.Core.Path.{◌≡◌, refl}
use mathlib.Core.Bool.{Bool, true, false, ◌&&◌}
use mathlib.Core.List.{List, [], ◌∷◌, ◌++◌}
use mathlib.Core.Logic.{⊎_elim}
use native.Mathlib.Omega.{arith}
use borrow.Author.Tests.{eq-eqb, ne_eqb, eqb-true, eqb-false, lt-ltb, le-ltb}
use lib.Dec.{T, ltb, eqb, ltb→lt}
use lib.ListN.{length, get_or, take, drop}
use Rattle.std.specs.Prelude.{if◌then◌else◌, Option, None, Some}
use Rattle.std.specs.Option.{option_or}
use Rattle.std.specs.Int.{from_be_bytes, w32}
use Rattle.pretree.specs.declared.Call.{Call}
use Rattle.lines.specs.Text.{bytes}
use Rattle.lines.specs.Line.{parse, after_word, Form, with_number, with_two_numbers, alone, operations, first_read, if_nothing}
use Rattle.lines.specs.Head.{packed, head_of, after_head, by_head}
use Rattle.std.proofs.lemmas.Bool.{cases_Bool}
use Rattle.lines.proofs.Tests.{both}

-- a word begins with four bytes
abbrev is_long : List ℕ → Bool
is_long [] = false
is_long (a ∷ []) = false
is_long (a ∷ b ∷ []) = false
is_long (a ∷ b ∷ c ∷ []) = false
is_long (a ∷ b ∷ c ∷ d ∷ word) = ltb a 256 && (ltb b 256 && (ltb c 256 && ltb d 256))

abbrev all_long : List Form → Bool
all_long [] = true
all_long (with_number word call ∷ fs) = is_long (bytes word ++ bytes "\t") && all_long fs
all_long (with_two_numbers word call ∷ fs) = is_long (bytes word ++ bytes "\t") && all_long fs
all_long (alone word call ∷ fs) = is_long (bytes word) && all_long fs

-- two ways to find what comes after a word read the same call if they agree on such words
pub same_read :
    (p q : List ℕ → Option (List ℕ)) → ((word : List ℕ) → T (is_long word) → p word ≡ q word) → (fs : List Form) → T (all_long fs)
    → first_read p fs ≡ first_read q fs
same_read p q h [] t = refl
same_read p q h (with_number word call ∷ fs) t =
    let b = both (is_long (bytes word ++ bytes "\t")) (all_long fs) t in
    rw (h (bytes word ++ bytes "\t") b.0, same_read p q h fs b.1)
same_read p q h (with_two_numbers word call ∷ fs) t =
    let b = both (is_long (bytes word ++ bytes "\t")) (all_long fs) t in
    rw (h (bytes word ++ bytes "\t") b.0, same_read p q h fs b.1)
same_read p q h (alone word call ∷ fs) t =
    let b = both (is_long (bytes word)) (all_long fs) t in
    rw (h (bytes word) b.0, same_read p q h fs b.1)

-- a word does not begin a shorter line
pub too_short : (word line : List ℕ) → length line < length word → after_word word line ≡ None
unfolding after_word
too_short [] line h = absurd (omega arith)
too_short (b ∷ word) [] h = refl
too_short (b ∷ word) (c ∷ line) h =
    ⊎_elim (λ t. simp (t, too_short word line (omega arith))) (λ (f : eqb b c ≡ false). simp f) (cases_Bool (eqb b c))

long_word : (word : List ℕ) → T (is_long word) → 4 ≤ length word
long_word [] t = absurd t
long_word (a ∷ []) t = absurd t
long_word (a ∷ b ∷ []) t = absurd t
long_word (a ∷ b ∷ c ∷ []) t = absurd t
long_word (a ∷ b ∷ c ∷ d ∷ word) t = omega arith

pub short_unread : (line : List ℕ) → length line < 4 → parse line ≡ None
unfolding parse
short_unread line h =
    let none : (word : List ℕ) → T (is_long word) → after_word word line ≡ None = λ word t. too_short word line (omega (arith, long_word word t)) in
    simp (le-ltb 64 (length line) (omega arith), same_read (λ word. after_word word line) (λ word. None) none operations tt)

pub long_unread : (line : List ℕ) → 64 < length line → parse line ≡ None
unfolding parse
long_unread line h = simp (lt-ltb 64 (length line) h)

-- four bytes are told apart by the number into which they are packed
module _ (a e : ℕ) {b c d f g h : ℕ} (bs : b < 256) (cs : c < 256) (ds : d < 256) (fs : f < 256) (gs : g < 256) (hs : h < 256) where
  unpacked : packed e f g h ≡ packed a b c d → (a ≡ e) × (b ≡ f) × (c ≡ g) × (d ≡ h)
  unpacked same =
      let first : a ≡ e = omega arith in
      let second : b ≡ f = omega arith in
      let third : c ≡ g = omega arith in
      (first, second, third, omega arith)

  after_four :
      (word rest : List ℕ)
      → after_word (a ∷ b ∷ c ∷ d ∷ word) (e ∷ f ∷ g ∷ h ∷ rest) ≡ (if eqb (packed e f g h) (packed a b c d) then after_word word rest else None)
  unfolding after_word
  after_four word rest =
      ⊎_elim
      (λ (t : eqb (packed e f g h) (packed a b c d) ≡ true).
      let u = unpacked (eqb-true _ _ t) in
      simp (t, eq-eqb a e u.0, eq-eqb b f u.1, eq-eqb c g u.2, eq-eqb d h u.3))
      (λ (t : eqb (packed e f g h) (packed a b c d) ≡ false). rw t (differing t))
      (cases_Bool (eqb (packed e f g h) (packed a b c d)))
    where
      differing :
          eqb (packed e f g h) (packed a b c d) ≡ false → after_word (a ∷ b ∷ c ∷ d ∷ word) (e ∷ f ∷ g ∷ h ∷ rest) ≡ None
      differing t =
          ⊎_elim
          (λ (q : eqb a e ≡ true).
          ⊎_elim
          (λ (r : eqb b f ≡ true).
          ⊎_elim
          (λ (u : eqb c g ≡ true).
          let v : eqb d h ≡ false = ne_eqb d h (λ w. eqb-false (packed e f g h) (packed a b c d) t (cc (eqb-true a e q, eqb-true b f r, eqb-true c g u))) in
          simp (q, r, u, v))
          (λ (u : eqb c g ≡ false). simp (q, r, u))
          (cases_Bool (eqb c g)))
          (λ (r : eqb b f ≡ false). simp (q, r))
          (cases_Bool (eqb b f)))
          (λ (q : eqb a e ≡ false). simp q)
          (cases_Bool (eqb a e))

-- a line of 4 to 64 bytes is read by its head and its rest
pub by_head_is :
    (line : List ℕ) → 4 ≤ length line → length line ≤ 64 → ((i : ℕ) → get_or line i 0 < 256) → parse line ≡ by_head (head_of line) (drop 4 line)
unfolding parse by_head
by_head_is [] l m small = absurd (omega arith)
by_head_is (e ∷ []) l m small = absurd (omega arith)
by_head_is (e ∷ f ∷ []) l m small = absurd (omega arith)
by_head_is (e ∷ f ∷ g ∷ []) l m small = absurd (omega arith)
by_head_is (e ∷ f ∷ g ∷ h ∷ rest) l m small =
    simp (le-ltb 64 (length (e ∷ f ∷ g ∷ h ∷ rest)) m, same_read (λ word. after_word word (e ∷ f ∷ g ∷ h ∷ rest)) (after_head (packed e f g h) rest) agree operations tt)
  where
    agree : (word : List ℕ) → T (is_long word) → after_word word (e ∷ f ∷ g ∷ h ∷ rest) ≡ after_head (packed e f g h) rest word
    agree [] t = absurd t
    agree (a ∷ []) t = absurd t
    agree (a ∷ b ∷ []) t = absurd t
    agree (a ∷ b ∷ c ∷ []) t = absurd t
    agree (a ∷ b ∷ c ∷ d ∷ word) t =
        let p = both (ltb a 256) (ltb b 256 && (ltb c 256 && ltb d 256)) t in
        let q = both (ltb b 256) (ltb c 256 && ltb d 256) p.1 in
        let r = both (ltb c 256) (ltb d 256) q.1 in
        after_four a e (ltb→lt b 256 q.0) (ltb→lt c 256 r.0) (ltb→lt d 256 r.1) (small 1) (small 2) (small 3) word rest

-- four bytes are packed as `u32::from_be_bytes` does it
pub packed_head : (line : List ℕ) → 4 ≤ length line → from_be_bytes w32 (take 4 line) ≡ head_of line
packed_head [] l = absurd (omega arith)
packed_head (a ∷ []) l = absurd (omega arith)
packed_head (a ∷ b ∷ []) l = absurd (omega arith)
packed_head (a ∷ b ∷ c ∷ []) l = absurd (omega arith)
packed_head (a ∷ b ∷ c ∷ d ∷ rest) l = omega arith

-- if no other form fits
pub only : {line : Option Call} (p : Option Call) → line ≡ p → line ≡ option_or p None
only None h = h
only (Some call) h = h

-- a call that has nothing after its word
pub nothing_behind : (call : Call) (rest : List ℕ) → length rest ≡ 0 → if_nothing call rest ≡ Some call
nothing_behind call [] h = refl
nothing_behind call (x ∷ rest) h = absurd (omega arith)

pub more_behind : (call : Call) (rest : List ℕ) → (length rest ≡ 0 → ⊥) → if_nothing call rest ≡ None
more_behind call [] h = absurd (h refl)
more_behind call (x ∷ rest) h = refl
