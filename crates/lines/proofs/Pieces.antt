-- How an input is cut into pieces does not matter: what is written for the pieces, and at their end, is what is written for the whole.
use Prim.Native.Nat.{ℕ}
use mathlib.Core.Path.{◌≡◌, refl}
use mathlib.Core.Bool.{true, false}
use mathlib.Core.List.{List, [], ◌∷◌, ◌++◌, append_assoc}
use mathlib.Core.Logic.{⊎_elim}
use lib.Dec.{eqb}
use Rattle.lines.specs.Line.{parse}
use Rattle.lines.specs.Output.{State, answer, written_for, state_after, ended, unended, lines_of, output}
use Rattle.lines.specs.Output.{Session, start_session, session_after, written_for_piece, written_at_end, output_in_pieces, joined}
use Rattle.std.proofs.lemmas.Bool.{cases_Bool}

-- byte 10 ends a line, and any other byte continues it
module _ (line : List ℕ) (b : ℕ) (input : List ℕ) where
  pub ended_here : eqb b 10 ≡ true → ended line (b ∷ input) ≡ line ∷ ended [] input
  unfolding ended
  ended_here t = simp t

  pub ended_later : eqb b 10 ≡ false → ended line (b ∷ input) ≡ ended (line ++ b ∷ []) input
  unfolding ended
  ended_later f = simp f

  pub unended_here : eqb b 10 ≡ true → unended line (b ∷ input) ≡ unended [] input
  unfolding unended
  unended_here t = simp t

  pub unended_later : eqb b 10 ≡ false → unended line (b ∷ input) ≡ unended (line ++ b ∷ []) input
  unfolding unended
  unended_later f = simp f

-- the lines that end in two pieces, and the bytes left after them
pub ended_append : (line xs ys : List ℕ) → ended line (xs ++ ys) ≡ ended line xs ++ ended (unended line xs) ys
unfolding ended unended
ended_append line [] ys = refl
ended_append line (b ∷ xs) ys =
    ⊎_elim
    (λ t. cc (ended_here line b xs t, unended_here line b xs t, ended_append [] xs ys))
    (λ f. cc (ended_later line b xs f, unended_later line b xs f, ended_append (line ++ b ∷ []) xs ys))
    (cases_Bool (eqb b 10))

pub unended_append : (line xs ys : List ℕ) → unended line (xs ++ ys) ≡ unended (unended line xs) ys
unfolding unended
unended_append line [] ys = refl
unended_append line (b ∷ xs) ys =
    ⊎_elim
    (λ t. cc (unended_here line b xs t, unended_append [] xs ys))
    (λ f. cc (unended_later line b xs f, unended_append (line ++ b ∷ []) xs ys))
    (cases_Bool (eqb b 10))

-- lines answered one after the other
pub state_append : (s : State) (ls ms : List (List ℕ)) → state_after s (ls ++ ms) ≡ state_after (state_after s ls) ms
unfolding state_after
state_append s [] ms = refl
state_append s (l ∷ ls) ms = state_append (answer s (parse l)).state ls ms

pub written_append : (s : State) (ls ms : List (List ℕ)) → written_for s (ls ++ ms) ≡ written_for s ls ++ written_for (state_after s ls) ms
unfolding written_for state_after
written_append s [] ms = refl
written_append s (l ∷ ls) ms = rw (written_append (answer s (parse l)).state ls ms, append_assoc)

module _ (s : Session) where
  -- a piece may be cut in two
  pub session_append : (xs ys : List ℕ) → session_after s (xs ++ ys) ≡ session_after (session_after s xs) ys
  unfolding session_after
  session_append xs ys = rw (ended_append s.line xs ys, unended_append s.line xs ys, state_append)

  pub written_piece_append : (xs ys : List ℕ) → written_for_piece s (xs ++ ys) ≡ written_for_piece s xs ++ written_for_piece (session_after s xs) ys
  unfolding written_for_piece session_after
  written_piece_append xs ys = rw (ended_append s.line xs ys, written_append)

-- what is written for pieces is what is written for all of them joined
pub pieces_as_one : (s : Session) (pieces : List (List ℕ)) → output_in_pieces s pieces ≡ written_for_piece s (joined pieces) ++ written_at_end (session_after s (joined pieces))
unfolding output_in_pieces joined written_for_piece session_after ended unended written_for state_after
pieces_as_one s [] = refl
pieces_as_one s (p ∷ ps) = rw (pieces_as_one (session_after s p) ps, written_piece_append s p (joined ps), session_append s p (joined ps), append_assoc)

-- the output of an input does not depend on how it was cut into pieces
pub any_pieces : (pieces : List (List ℕ)) → output_in_pieces start_session pieces ≡ output (joined pieces)
unfolding output lines_of written_for_piece session_after written_at_end
any_pieces pieces = rw (pieces_as_one start_session pieces, written_append)

-- If bytes are left, a byte 10 after them gives what is written for them at the end of input. So `put_piece` ends their line.
pub written_by_end : (s : Session) (b : ℕ) (line : List ℕ) → s.line ≡ b ∷ line → written_for_piece s (10 ∷ []) ≡ written_at_end s
unfolding written_for_piece written_at_end ended
written_by_end s b line h = rw h
