-- What the loops over standard input keep: from the start on, the memory keeps the session after the input taken in so far.
use Prim.Native.Nat.{ℕ, zero, suc, ◌+◌, ◌*◌, ◌^◌, ◌≤◌, ◌<◌}
use mathlib.Core.Path.{◌≡◌, refl, ap, ◌∙◌}
use mathlib.Core.Bool.{false≢true}
use mathlib.Core.List.{List, [], ◌∷◌, ◌++◌, append_assoc, append-nil}
use mathlib.Core.Logic.{inl, inr}
use native.Mathlib.Omega.{arith}
use lib.ListN.{length, take, length-take, length-append}
use lib.Seq.{take-append_seam, take-length, length-take-le}
use Rattle.std.specs.Prelude.{Option, Result, Ok, Err, IsOk, IsErr}
use Rattle.std.specs.Io.KnownBytes.{Consumes, IsAtEnd}
use Rattle.std.proofs.KnownBytes.{Consumes-nil, Consumes-trans}
use Rattle.lines.specs.declared.session.Session.{Session as CodeSession}
use Rattle.lines.specs.Output.{State, Session, start_session, session_after, written_for_piece, written_at_end, ended, unended, state_after}
use Rattle.lines.specs.Answering.{Keeps, Advances}
use Rattle.lines.specs.Serving.{Reached, IsOutput, piece_of, Takes, session_at_end, TakesInAll}
use Rattle.lines.proofs.Pieces.{session_append, written_by_end}

-- at the end of input, what is written for the last piece is what is written at the end
pub written_at_end_is :
    {s : Session} {k : CodeSession} (input : List ℕ) → Keeps s k → written_for_piece s (piece_of 0 (length k.held.items) input) ≡ written_at_end s
unfolding piece_of written_for_piece written_at_end ended
written_at_end_is {s} {k} input keeps = by_cases s.line refl (length k.held.items) (ap (λ (l : List ℕ). length l) keeps.held)
  where
    by_cases : (line : List ℕ) → s.line ≡ line → (held : ℕ) → held ≡ length (take 65 s.line) → written_for_piece s (piece_of 0 held input) ≡ written_at_end s
    by_cases [] e zero h = rw e
    by_cases [] e (suc held) h = absurd (omega (arith, rw e at h))
    by_cases (b ∷ line) e zero h = absurd (omega (arith, rw e at h))
    by_cases (b ∷ line) e (suc held) h = written_by_end s b line e

-- and the session after that piece is the session at the end
pub session_at_end_is :
    {s : Session} {k : CodeSession} (input : List ℕ) → Keeps s k → session_after s (piece_of 0 (length k.held.items) input) ≡ session_at_end s
unfolding piece_of session_after session_at_end state_after ended unended
session_at_end_is {s} {k} input keeps = by_cases s.line refl (length k.held.items) (ap (λ (l : List ℕ). length l) keeps.held)
  where
    by_cases : (line : List ℕ) → s.line ≡ line → (held : ℕ) → held ≡ length (take 65 s.line) → session_after s (piece_of 0 held input) ≡ session_at_end s
    by_cases [] e zero h = rw e
    by_cases [] e (suc held) h = absurd (omega (arith, rw e at h))
    by_cases (b ∷ line) e zero h = absurd (omega (arith, rw e at h))
    by_cases (b ∷ line) e (suc held) h = rw e

pub no_lines : {k : CodeSession} → Keeps start_session k → k.lines ≡ 0
no_lines keeps = ap (λ (s : State). s.lines) keeps.state

-- one more piece leads from one reached session to another
pub reached_after : {before after : CodeSession} (piece : List ℕ) → Reached before → ((s : Session) → Keeps s before → Keeps (session_after s piece) after) → Reached after
reached_after piece r f = record { input = r.input ++ piece; keeps = rw session_append (f (session_after start_session r.input) r.keeps) }

-- the invariant of the loop of `take_in`: a part of the piece was taken in, and `rest` is left
pub record PieceLoop (piece rest : List ℕ) (before now : CodeSession) : Type 0 where
  pub part : List ℕ
  pub whole : piece ≡ part ++ rest
  pub keeps : (s : Session) → Keeps s before → Keeps (session_after s part) now
  pub lines : now.lines ≤ before.lines + length part

pub piece_start : (piece : List ℕ) (k : CodeSession) → PieceLoop piece piece k k
unfolding session_after state_after ended unended
piece_start piece k = record { part = []; whole = refl; keeps = λ s keeps. keeps; lines = omega arith }

-- one more part
pub piece_after_feed :
    {piece rest left : List ℕ} {before now after : CodeSession} → PieceLoop piece rest before now → Advances rest left [] now after
    → PieceLoop piece left before after
piece_after_feed l a =
    record {
      part = l.part ++ a.part;
      whole = l.whole ∙ rw (a.whole, append_assoc);
      keeps = λ s keeps. rw session_append (a.feeds (session_after s l.part) (l.keeps s keeps)).keeps;
      lines = omega (arith, a.lines, l.lines, length-append l.part a.part);
    }

pub is_output :
    {piece rest left : List ℕ} {before now after : CodeSession} → PieceLoop piece rest before now → Advances rest left [] now after → Reached before
    → IsOutput after.out.items
is_output l a r =
    let here = reached_after l.part r l.keeps in
    record { before = here.input; input = a.part; written = (a.feeds (session_after start_session here.input) here.keeps).put }

pub left_over : {piece rest : List ℕ} {before now : CodeSession} → (l : PieceLoop piece rest before now) → length piece ≡ length l.part + length rest
left_over {rest = rest} l = ap (λ (xs : List ℕ). length xs) l.whole ∙ length-append l.part rest

pub taken :
    {piece rest : List ℕ} {before now : CodeSession} {written : Type 0} → PieceLoop piece rest before now → (written → length rest ≡ 0) → Takes piece before now written
taken {piece} {rest} l all =
    record {
      bytes = length l.part;
      all = λ w. omega (arith, all w, left_over l);
      keeps = λ s keeps. rw (l.whole, take-append_seam) (l.keeps s keeps);
      lines = omega (arith, l.lines, left_over l);
    }

pub not_both : {T E : Type 0} (r : Result T E) → IsOk r → IsErr r → ⊥
not_both (Ok x) ok err = false≢true err
not_both (Err e) ok err = false≢true ok

-- the piece after a read
module _ (input : List ℕ) where
  pub piece_read : (count held : ℕ) → (count ≡ 0 → ⊥) → take count input ≡ piece_of count held input
  unfolding piece_of
  piece_read zero held some = absurd (some refl)
  piece_read (suc count) held some = refl

  pub piece_end : (held : ℕ) → (held ≡ 0 → ⊥) → 10 ∷ [] ≡ piece_of 0 held input
  unfolding piece_of
  piece_end zero some = absurd (some refl)
  piece_end (suc held) some = refl

  -- it is no longer than the buffer into which it was read
  pub piece_within : (count held : ℕ) → 0 < length input → length (piece_of count held input) ≤ length input
  unfolding piece_of
  piece_within zero zero some = omega arith
  piece_within zero (suc held) some = omega arith
  piece_within (suc count) held some = omega (arith, length-take (suc count) input)

-- a piece to which every reply was written was taken in whole
all_taken :
    {piece : List ℕ} {before after : CodeSession} {written : Type 0} → Takes piece before after written → written
    → (s : Session) → Keeps s before → Keeps (session_after s piece) after
all_taken {piece} t w s keeps = rw (t.all w, take-length piece) at t.keeps s keeps

-- The invariant of the loop of `serve`: the reader gave `input`, a byte or more in each turn, and the session took in all of it. It has no more
-- lines than the turns so far can have brought.
pub record ServeLoop (left_before left_now : Option (List ℕ)) (now : CodeSession) (turn : ℕ) : Type 0 where
  pub input : List ℕ
  pub consumed : Consumes left_before left_now input
  pub keeps : Keeps (session_after start_session input) now
  pub turns : turn ≤ length input
  pub lines : now.lines ≤ 65536 * turn

pub serve_start : (left : Option (List ℕ)) {k : CodeSession} → Keeps start_session k → ServeLoop left left k 0
unfolding session_after state_after ended unended
serve_start left keeps =
    record { input = []; consumed = Consumes-nil left; keeps = keeps; turns = omega arith; lines = omega (arith, no_lines keeps) }

module _
    {left_before left_now left_after : Option (List ℕ)} {now after : CodeSession} {turn : ℕ} (l : ServeLoop left_before left_now now turn) (input : List ℕ)
    {count : ℕ} (read : Consumes left_now left_after (take count input)) {written : Type 0}
    (t : Takes (piece_of count (length now.held.items) input) now after written) (w : written)
  where
    -- one more turn
    pub after_turn : (count ≡ 0 → ⊥) → count ≤ length input → length input ≡ 65536 → ServeLoop left_before left_after after (turn + 1)
    after_turn some within size =
        let part = take count input in
        let long : length part ≡ count = length-take-le count input within in
        record {
          input = l.input ++ part;
          consumed = Consumes-trans _ _ _ l.input part l.consumed read;
          keeps = rw (session_append, piece_read input count (length now.held.items) some) (all_taken t w (session_after start_session l.input) l.keeps);
          turns = omega (arith, l.turns, length-append l.input part, long, some);
          lines = omega (arith, l.lines, t.lines, piece_within input count (length now.held.items) (omega (arith, size)), size);
        }

    -- the turn at the end of input
    pub at_end : count ≡ 0 → IsAtEnd left_after → TakesInAll left_before left_after after
    at_end none end =
        let whole = all_taken t w (session_after start_session l.input) l.keeps in
        record {
          input = l.input;
          consumed = rw (none, append-nil) at (Consumes-trans _ _ _ l.input (take count input) l.consumed read);
          end = inl (end, rw (none, session_at_end_is input l.keeps) at whole);
        }

-- after the last turn
pub no_turn_left :
    {left_before left_now : Option (List ℕ)} {now : CodeSession} {turn : ℕ} → ServeLoop left_before left_now now turn → 2 ^ 47 ≤ turn
    → TakesInAll left_before left_now now
no_turn_left l many = record { input = l.input; consumed = l.consumed; end = inr (omega (arith, l.turns, many), l.keeps) }
