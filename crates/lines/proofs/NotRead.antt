-- A line is read exactly when it spells a call, and is answered 9 exactly when it is not read.
use Prim.Native.Nat.{ℕ, ◌≤◌}
use mathlib.Core.Path.{◌≡◌, refl, sym, ap, ◌∙◌}
use mathlib.Core.Bool.{Bool, true, false, ◌&&◌}
use mathlib.Core.List.Memᴰ
use mathlib.Core.List.{List, [], ◌∷◌, ◌++◌, append_assoc, append-nil}
use mathlib.Core.Logic.{◌↔◌, ⊎_elim}
use native.Mathlib.Omega.{arith}
use borrow.Author.Tests.{eq-eqb, eqb-true, le-ltb, ltb-true, ltb-false}
use lib.Dec.{T, ltb, eqb}
use lib.ListN.{length, take, drop, take-append-drop}
use Rattle.std.specs.Prelude.{if◌then◌else◌, Option, None, Some, option_map, option_and_then}
use Rattle.std.proofs.lemmas.Option.{none-some}
use Rattle.ordered.specs.Source004.{◌∈◌}
use Rattle.pretree.specs.declared.Answer.{Answer}
use Rattle.pretree.specs.declared.Answer.TheVariants.{Done, Serial, Word, Distance, WrongWidth, WrongHeader, WordTooWide, Damage, Full, ShortBuffer, AlreadyThere, NoSuchWord}
use Rattle.pretree.specs.Answer.{number_of}
use Rattle.pretree.specs.declared.Call.{Call}
use Rattle.pretree.specs.Call.{after}
use Rattle.numbers.specs.Decimal.{read_number, SpellsNumber}
use Rattle.numbers.proofs.Laws.{read_spells, spells_read}
use Rattle.lines.specs.Text.{bytes, until_byte}
use Rattle.lines.specs.Line.{after_word, Form, with_number, with_two_numbers, alone, operations}
use Rattle.lines.specs.Line.{read_two, if_nothing, read_as, first_read, parse}
use Rattle.lines.specs.Output.{State, answer}
use Rattle.lines.specs.NotRead.{Spells, numbered, twice_numbered, bare, Refused, AnswersNine}
use Rattle.std.proofs.lemmas.Bool.{cases_Bool}
use Rattle.lines.proofs.Tests.{both}
use Rattle.lines.proofs.Heads.{long_unread}
use Rattle.lines.proofs.TwoNumbers.{reads_two}

-- a line begins with a word, and `rest` comes after it
is_behind : (word rest : List ℕ) → after_word word (word ++ rest) ≡ Some rest
unfolding after_word
is_behind [] rest = refl
is_behind (b ∷ word) rest = simp (eq-eqb b b refl) (is_behind word rest)

behind_is : (word line : List ℕ) {rest : List ℕ} → after_word word line ≡ Some rest → line ≡ word ++ rest
unfolding after_word
behind_is [] line e = cc
behind_is (b ∷ word) [] e = absurd (none-some _ e)
behind_is (b ∷ word) (c ∷ line) e =
    ⊎_elim
    (λ (t : eqb b c ≡ true). let same : b ≡ c = eqb-true b c t in rw same (ap (λ (l : List ℕ). c ∷ l) (behind_is word line (rw t at e))))
    (λ (f : eqb b c ≡ false). absurd (none-some _ (rw f at e)))
    (cases_Bool (eqb b c))

-- two words that differ at a place that both have cannot both begin a line
abbrev differ : List ℕ → List ℕ → Bool
differ [] y = false
differ (a ∷ x) [] = false
differ (a ∷ x) (b ∷ y) = if eqb a b then differ x y else true

not_both : (x y line : List ℕ) → T (differ x y) → {rest : List ℕ} → after_word x line ≡ Some rest → after_word y line ≡ None
unfolding after_word
not_both [] y line d e = absurd d
not_both (a ∷ x) [] line d e = absurd d
not_both (a ∷ x) (b ∷ y) [] d e = refl
not_both (a ∷ x) (b ∷ y) (c ∷ line) d e =
    ⊎_elim
    (λ (t : eqb a c ≡ true).
    let same : a ≡ c = eqb-true a c t in
    ⊎_elim
    (λ (u : eqb b c ≡ true).
    let also : b ≡ c = eqb-true b c u in rw u (not_both x y line (rw (eq-eqb a b (same ∙ sym also)) at d) (rw t at e)))
    (λ (f : eqb b c ≡ false). rw f)
    (cases_Bool (eqb b c)))
    (λ (f : eqb a c ≡ false). absurd (none-some _ (rw f at e)))
    (cases_Bool (eqb a c))

-- how every line of a form begins, and the call from what comes after that
abbrev opening : Form → List ℕ
opening (with_number word of) = bytes word ++ bytes "\t"
opening (with_two_numbers word of) = bytes word ++ bytes "\t"
opening (alone word of) = bytes word

abbrev call_by : Form → List ℕ → Option Call
call_by (with_number word of) rest = option_map of (read_number rest)
call_by (with_two_numbers word of) rest = read_two of rest
call_by (alone word of) rest = if_nothing of rest

abbrev differs : Form → List Form → Bool
differs f [] = true
differs f (g ∷ gs) = differ (opening g) (opening f) && differs f gs

-- no line fits two of the forms
abbrev all_differ : List Form → Bool
all_differ [] = true
all_differ (f ∷ fs) = differs f fs && all_differ fs

differs_from : (f : Form) {g : Form} {gs : List Form} → g ∈ gs → T (differs f gs) → T (differ (opening g) (opening f))
differs_from f (Memᴰ.head {x} {xs} e) d = rw e (both (differ (opening x) (opening f)) (differs f xs) d).0
differs_from f (Memᴰ.tail {x} {xs} m) d = differs_from f m (both (differ (opening x) (opening f)) (differs f xs) d).1

-- a text that reads as two numbers spells them
record TwoSpelt (of : ℕ → ℕ → Call) (rest : List ℕ) (call : Call) : Type 0 where
  k : ℕ
  s : ℕ
  k_digits : List ℕ
  s_digits : List ℕ
  parts : rest ≡ k_digits ++ 9 ∷ s_digits
  k_spells : SpellsNumber k k_digits
  s_spells : SpellsNumber s s_digits
  made : call ≡ of k s

two_read : (of : ℕ → ℕ → Call) (rest : List ℕ) {call : Call} → read_two of rest ≡ Some call → TwoSpelt of rest call
unfolding read_two
two_read of rest {call} e = by_tab (after_word (bytes "\t") (drop (until_byte 9 rest) rest)) refl
  where
    ks : List ℕ
    ks = take (until_byte 9 rest) rest

    by_tab : (p : Option (List ℕ)) → after_word (bytes "\t") (drop (until_byte 9 rest) rest) ≡ p → TwoSpelt of rest call
    by_tab None a = absurd (none-some _ (rw a at e))
    by_tab (Some ss) a = by_first (read_number ks) refl
      where
        by_second : {k : ℕ} → read_number ks ≡ Some k → (n : Option ℕ) → read_number ss ≡ n → TwoSpelt of rest call
        by_second {k} h None g = absurd (none-some _ (rw (a, h, g) at e))
        by_second {k} h (Some s) g =
            let same : of k s ≡ call = cc (rw (a, h, g) at e) in
            record {
              k = k;
              s = s;
              k_digits = ks;
              s_digits = ss;
              parts = sym (take-append-drop (until_byte 9 rest) rest) ∙ ap (λ (l : List ℕ). ks ++ l) (behind_is (bytes "\t") (drop (until_byte 9 rest) rest) a);
              k_spells = read_spells ks h;
              s_spells = read_spells ss g;
              made = sym same;
            }

        by_first : (n : Option ℕ) → read_number ks ≡ n → TwoSpelt of rest call
        by_first None h = absurd (none-some _ (rw (a, h) at e))
        by_first (Some k) h = by_second h (read_number ss) refl

-- a line of this form, as its opening and the rest
four_parts : (front ks ss : List ℕ) → front ++ ks ++ bytes "\t" ++ ss ≡ front ++ (ks ++ 9 ∷ ss)
four_parts front ks ss =
    ap (λ (l : List ℕ). l ++ ss) (append_assoc front ks (bytes "\t")) ∙ append_assoc front (ks ++ bytes "\t") ss
    ∙ ap (λ (l : List ℕ). front ++ l) (append_assoc ks (bytes "\t") ss)

module _ (line : List ℕ) where
  abbrev behind : List ℕ → Option (List ℕ)
  behind word = after_word word line

  as_opened : (f : Form) → read_as behind f ≡ option_and_then (call_by f) (behind (opening f))
  as_opened (with_number word of) = refl
  as_opened (with_two_numbers word of) = refl
  as_opened (alone word of) = refl

  opened_by :
      (f : Form) {call : Call} → read_as behind f ≡ Some call → (rest : List ℕ) × (behind (opening f) ≡ Some rest) × (call_by f rest ≡ Some call)
  opened_by f {call} e = by_cases (behind (opening f)) refl
    where
      by_cases : (p : Option (List ℕ)) → behind (opening f) ≡ p → (rest : List ℕ) × (behind (opening f) ≡ Some rest) × (call_by f rest ≡ Some call)
      by_cases None a = absurd (none-some _ (rw (as_opened f, a) at e))
      by_cases (Some rest) a = (rest, a, rw (as_opened f, a) at e)

  not_opened : (f : Form) → behind (opening f) ≡ None → read_as behind f ≡ None
  not_opened f a = rw (as_opened f, a)

  -- the first form that reads a line is the only one
  read_first : {f : Form} {fs : List Form} {call : Call} → f ∈ fs → T (all_differ fs) → read_as behind f ≡ Some call → first_read behind fs ≡ Some call
  read_first (Memᴰ.head {x} {xs} e) d r = rw (← e, r)
  read_first {f} (Memᴰ.tail {x} {xs} m) d r =
      let parts = both (differs x xs) (all_differ xs) d in
      let other = not_both (opening f) (opening x) line (differs_from x m parts.0) (opened_by f r).1 in
      rw (not_opened x other) (read_first m parts.1 r)

  read_among : (fs : List Form) {call : Call} → first_read behind fs ≡ Some call → (f : Form) × (f ∈ fs) × (read_as behind f ≡ Some call)
  read_among [] e = absurd (none-some _ e)
  read_among (f ∷ fs) {call} e = by_cases (read_as behind f) refl (read_among fs)
    where
      by_cases : (p : Option Call) → read_as behind f ≡ p → (first_read behind fs ≡ Some call → (g : Form) × (g ∈ fs) × (read_as behind g ≡ Some call))
          → (g : Form) × (g ∈ f ∷ fs) × (read_as behind g ≡ Some call)
      by_cases None a later = let r = later (rw a at e) in (r.0, Memᴰ.tail r.1, r.2)
      by_cases (Some c) a later = (f, Memᴰ.head refl, a ∙ (rw a at e))

  -- a line that a form reads spells the call, and conversely
  rest_spells :
      (f : Form) (rest : List ℕ) {call : Call} → f ∈ operations → line ≡ opening f ++ rest → call_by f rest ≡ Some call → length line ≤ 64
      → Spells call line
  rest_spells (with_number word of) rest {call} m e c short = by_cases (read_number rest) refl
    where
      by_cases : (p : Option ℕ) → read_number rest ≡ p → Spells call line
      by_cases None a = absurd (none-some _ (rw a at c))
      by_cases (Some n) a = let same : of n ≡ call = cc (rw a at c) in numbered m e (read_spells rest a) (sym same) short
  rest_spells (with_two_numbers word of) rest {call} m e c short =
      let r = two_read of rest c in
      let parts : line ≡ bytes word ++ bytes "\t" ++ r.k_digits ++ bytes "\t" ++ r.s_digits = e ∙ ap (λ (l : List ℕ). (bytes word ++ bytes "\t") ++ l) r.parts ∙ sym (four_parts (bytes word ++ bytes "\t") r.k_digits r.s_digits) in
      twice_numbered m parts r.k_spells r.s_spells r.made short
  rest_spells (alone word of) [] {call} m e c short = let same : of ≡ call = cc in bare m (e ∙ append-nil (bytes word)) (sym same) short
  rest_spells (alone word of) (b ∷ rest) m e c short = absurd (none-some _ c)

  form_spells : (f : Form) {call : Call} → f ∈ operations → read_as behind f ≡ Some call → length line ≤ 64 → Spells call line
  form_spells f m e short = let o = opened_by f e in rest_spells f o.0 m (behind_is (opening f) line o.1) o.2 short

  spells_form : {call : Call} → Spells call line → (f : Form) × (f ∈ operations) × (read_as behind f ≡ Some call) × (length line ≤ 64)
  spells_form (numbered {word} {of} {n} {ds} m e s c short) =
      let front : behind (bytes word ++ bytes "\t") ≡ Some ds = rw e (is_behind (bytes word ++ bytes "\t") ds) in
      (with_number word of, m, rw (front, spells_read ds s, c), short)
  spells_form (twice_numbered {word} {of} {k} {s} {ks} {ss} m e ek es c short) =
      let whole = bytes word ++ bytes "\t" in
      let front : behind whole ≡ Some (ks ++ 9 ∷ ss) = rw (e ∙ four_parts whole ks ss) (is_behind whole (ks ++ 9 ∷ ss)) in
      (with_two_numbers word of, m, rw (front, reads_two of ks ss ek.digits, spells_read ks ek, spells_read ss es, c), short)
  spells_form (bare {word} {of} m e c short) =
      let front : behind (bytes word) ≡ Some [] = rw e (rw append-nil at (is_behind (bytes word) [])) in
      (alone word of, m, rw (front, c), short)

  parse_short : length line ≤ 64 → parse line ≡ first_read behind operations
  unfolding parse
  parse_short short = simp (le-ltb 64 (length line) short)

  -- a line is read exactly as the call that it spells
  pub reads : (call : Call) → (parse line ≡ Some call) ↔ Spells call line
  reads call = (to, from)
    where
      to : parse line ≡ Some call → Spells call line
      to e =
          ⊎_elim
          (λ (t : ltb 64 (length line) ≡ true). absurd (none-some _ (sym (long_unread line (ltb-true 64 (length line) t)) ∙ e)))
          (λ (f : ltb 64 (length line) ≡ false).
          let short : length line ≤ 64 = ltb-false 64 (length line) f in
          let r = read_among operations (sym (parse_short short) ∙ e) in
          form_spells r.0 r.1 r.2 short)
          (cases_Bool (ltb 64 (length line)))

      from : Spells call line → parse line ≡ Some call
      from s = let r = spells_form s in parse_short r.3 ∙ read_first r.1 tt r.2

  -- a line is not read exactly when it spells no call
  pub spells_none : (parse line ≡ None) ↔ ((call : Call) → Spells call line → ⊥)
  spells_none = (λ e call s. none-some _ (sym e ∙ (reads call).1 s), λ none. by_cases (parse line) refl none)
    where
      by_cases : (l : Option Call) → parse line ≡ l → ((call : Call) → Spells call line → ⊥) → parse line ≡ None
      by_cases (Some call) e none = absurd (none call ((reads call).0 e))
      by_cases None e none = e

-- no call answers 9
below_nine : (a : Answer) → number_of a ≤ 8
unfolding number_of
below_nine Done = omega arith
below_nine (Serial s) = omega arith
below_nine (Word k) = omega arith
below_nine (Distance d) = omega arith
below_nine WrongWidth = omega arith
below_nine WrongHeader = omega arith
below_nine WordTooWide = omega arith
below_nine Damage = omega arith
below_nine Full = omega arith
below_nine ShortBuffer = omega arith
below_nine AlreadyThere = omega arith
below_nine NoSuchWord = omega arith

nine_none : (s : State) (l : Option Call) → (answer s l).fields.answer ≡ 9 → l ≡ None
unfolding answer
nine_none s (Some call) e = absurd (omega (arith, below_nine (after call s.header s.table s.buffer).reply.answer))
nine_none s None e = refl

none_refused : (s : State) → ((answer s None).fields.answer ≡ 9) × Refused s (answer s None)
unfolding answer
none_refused s =
    (refl, record { key = refl; rows = refl; moved = refl; serial = refl; listed = refl; header = refl; table = refl; buffer = refl; lines = refl })

pub answers_nine : (s : State) (line : List ℕ) → AnswersNine s line
answers_nine s line =
    record {
      read = reads line;
      unread = spells_none line;
      nine = (nine_none s (parse line), λ e. rw e (none_refused s).0);
      refused = λ e. rw e (none_refused s).1;
    }
