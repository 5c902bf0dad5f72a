-- A session takes its input part by part.
use Prim.Native.Nat.{ℕ, suc, ◌+◌, ◌≤◌, ◌<◌}
use mathlib.Core.Path.{◌≡◌, refl, sym, ap, ◌∙◌}
use mathlib.Core.Bool.{true, false}
use mathlib.Core.List.{List, [], ◌∷◌, ◌++◌, append_assoc, append-nil}
use mathlib.Core.Logic.{⊎_elim}
use native.Mathlib.Omega.{arith}
use lib.Dec.{eqb}
use lib.ListN.{length, take, drop, length-take, length-append, take-append-drop}
use Rattle.lines.specs.Line.{parse}
use Rattle.std.specs.Prelude.{Option, None, Some}
use Rattle.pretree.specs.declared.Call.{Call}
use Rattle.lines.specs.Output.{State, Session, answer, written_for, state_after, ended, unended, session_after, written_for_piece}
use Rattle.lines.specs.Gather.{until_end, HoldsLine}
use Rattle.lines.specs.declared.session.Session.{Session as CodeSession}
use Rattle.lines.specs.Answering.{state_of, Answers, Keeps, Feeds, FeedsFromHeld, Advances}
use Rattle.std.proofs.lemmas.Bool.{cases_Bool}
use Rattle.lines.proofs.Finding.{until_first, until_later}
use Rattle.lines.proofs.Pieces.{ended_here, ended_later, unended_here, unended_later, session_append, written_piece_append}
use Rattle.lines.proofs.Gathering.{no_line_ends, held_more}

-- an input up to the end of its first line
one_line :
    (line input : List ℕ) → until_end input < length input
    → (ended line (take (suc (until_end input)) input) ≡ (line ++ take (until_end input) input) ∷ [])
    × (unended line (take (suc (until_end input)) input) ≡ [])
unfolding ended unended
one_line line [] h = absurd (omega arith)
one_line line (b ∷ input) h =
    ⊎_elim
    (λ (t : eqb b 10 ≡ true). (rw (until_first 10 b input t, append-nil) (ended_here line b [] t), rw (until_first 10 b input t) (unended_here line b [] t)))
    (λ (f : eqb b 10 ≡ false).
    let r = one_line (line ++ b ∷ []) input (omega (arith, until_later 10 b input f)) in (
      rw (until_later 10 b input f) (ended_later line b (take (suc (until_end input)) input) f ∙ r.0 ∙ rw append_assoc),
      rw (until_later 10 b input f) (unended_later line b (take (suc (until_end input)) input) f ∙ r.1),
    ))
    (cases_Bool (eqb b 10))

module _ {s : Session} {k : CodeSession} (keeps : Keeps s k) where
  -- an empty input changes nothing
  pub feeds_nothing : {after : CodeSession} → state_of after ≡ state_of k → after.held ≡ k.held → after.out.items ≡ [] → Feeds s [] [] after
  unfolding session_after written_for_piece state_after written_for ended unended
  feeds_nothing e h o = record { keeps = record { state = e ∙ keeps.state; held = rw h keeps.held }; put = o }

  -- a part in which no line ends is held
  pub feeds_part :
      (input : List ℕ) {after : CodeSession} → length input ≤ until_end input → state_of after ≡ state_of k → after.out ≡ k.out
      → HoldsLine after.held.items (s.line ++ input)
      → Feeds s input k.out.items after
  unfolding session_after written_for_piece state_after written_for
  feeds_part input none e o h =
      let r = no_line_ends s.line input none in
      record { keeps = record { state = rw r.0 (e ∙ keeps.state); held = rw r.1 h }; put = rw (r.0, append-nil) (ap (λ out. out.items) o) }

  -- a line that ends is answered
  pub feeds_line :
      (input line : List ℕ) {end : ℕ} {middle after : CodeSession} → end ≡ until_end input → end < length input
      → state_of middle ≡ state_of k → middle.out ≡ k.out → middle.held.items ≡ [] → parse line ≡ parse (s.line ++ take end input)
      → Answers (answer (state_of middle) (parse line)) middle after
      → Feeds s (take (end + 1) input) k.out.items after
  unfolding session_after written_for_piece state_after written_for
  feeds_line input line {end} found some e o n p a =
      let r = one_line s.line input (omega arith) in
      let past : end + 1 ≡ suc (until_end input) = omega arith in
      let q : parse line ≡ parse (s.line ++ take (until_end input) input) = rw found at p in
      record {
        keeps = record { state = rw (past, r.0) (a.state ∙ rw (e, keeps.state, q)); held = rw (past, r.1, a.held) n };
        put = rw (past, r.0, append-nil) (a.put ∙ rw (o, e, keeps.state, q));
      }

-- each line is counted
one_more_line : (s : State) (read : Option Call) → (answer s read).state.lines ≡ suc s.lines
unfolding answer
one_more_line s (Some call) = refl
one_more_line s None = refl

counted :
    (k : CodeSession) (line : List ℕ) {middle after : CodeSession} → state_of middle ≡ state_of k → Answers (answer (state_of middle) (parse line)) middle after
    → after.lines ≡ suc k.lines
counted k line {middle = middle} e a =
    ap (λ (s : State). s.lines) a.state ∙ one_more_line (state_of middle) (parse line) ∙ ap (λ (s : State). suc s.lines) e

-- one step
pub part_advances :
    (piece : List ℕ) {before after : CodeSession} → 0 < length piece → length piece ≤ until_end piece → state_of after ≡ state_of before
    → after.out ≡ before.out → after.held.items ≡ take 65 (before.held.items ++ piece)
    → Advances piece [] before.out.items before after
part_advances piece some none e o h =
    record {
      part = piece;
      whole = sym (append-nil piece);
      onward = some;
      feeds = λ s keeps. feeds_part keeps piece none e o (rw h (held_more s.line keeps.held piece));
      lines = omega (arith, ap (λ (s : State). s.lines) e);
    }

pub line_advances :
    (piece line : List ℕ) {end : ℕ} {before middle after : CodeSession} → end ≡ until_end piece → end < length piece
    → state_of middle ≡ state_of before → middle.out ≡ before.out → middle.held.items ≡ []
    → ((whole : List ℕ) → HoldsLine before.held.items whole → parse line ≡ parse (whole ++ take end piece))
    → Answers (answer (state_of middle) (parse line)) middle after
    → Advances piece (drop (end + 1) piece) before.out.items before after
line_advances piece line {end} {before = before} found some e o n p a =
    record {
      part = take (end + 1) piece;
      whole = sym (take-append-drop (end + 1) piece);
      onward = omega (arith, length-take (end + 1) piece);
      feeds = λ s keeps. feeds_line keeps piece line found some e o n (p s.line keeps.held) a;
      lines = omega (arith, length-take (end + 1) piece, counted before line e a);
    }

-- a second input after the first
pub feeds_then :
    {s : Session} {input out : List ℕ} {middle : CodeSession} (more : List ℕ) {after : CodeSession} → Feeds s input out middle → FeedsFromHeld middle middle.out.items more after
    → Feeds s (input ++ more) out after
feeds_then {s} {input} {out} more f g =
    let h = g (session_after s input) f.keeps in
    record { keeps = rw session_append h.keeps; put = rw (written_piece_append s input more, ← append_assoc, ← f.put) h.put }

-- the invariant of the loop of `feed`: a part was taken in, and `rest` is left
pub record FeedLoop (piece rest : List ℕ) (before now : CodeSession) : Type 0 where
  pub part : List ℕ
  pub whole : piece ≡ part ++ rest
  pub first : length part ≡ 0 → now.out.items ≡ []
  pub feeds : FeedsFromHeld before [] part now
  pub lines : now.lines ≤ before.lines + length part

-- after one more step
pub after_step :
    {piece rest left : List ℕ} {before now after : CodeSession} → FeedLoop piece rest before now → Advances rest left now.out.items now after
    → FeedLoop piece left before after
after_step {left = left} l a =
    record {
      part = l.part ++ a.part;
      whole = l.whole ∙ rw (a.whole, append_assoc);
      first = λ e. absurd (omega (arith, a.onward, length-append l.part a.part, e));
      feeds = λ s keeps. feeds_then a.part (l.feeds s keeps) a.feeds;
      lines = omega (arith, a.lines, l.lines, length-append l.part a.part);
    }

-- where the loop ends it has advanced
pub loop_advances :
    {piece rest : List ℕ} {before now : CodeSession} → (l : FeedLoop piece rest before now) → (length l.part ≡ 0 → ⊥) → Advances piece rest [] before now
loop_advances l h = record { part = l.part; whole = l.whole; onward = omega arith; feeds = l.feeds; lines = l.lines }
