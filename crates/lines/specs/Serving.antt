-- What the loop over standard input keeps from piece to piece, and what it writes.
use Rattle.std.specs.Prelude.{ℕ, zero, suc, ◌+◌, ◌^◌, ◌≤◌, ◌≡◌, ◌⊎◌, List, [], ◌∷◌, length, take, Option}
use Rattle.std.specs.Io.KnownBytes.{Consumes, IsAtEnd}
use Rattle.lines.specs.declared.session.Session.{Session as CodeSession}
use Rattle.lines.specs.Output.{Session, start_session, session_after, written_for_piece, state_after, last}
use Rattle.lines.specs.Answering.{Keeps}

-- the memory keeps the session after some input from the start
pub record Reached (k : CodeSession) : Type 0 where
  pub input : List ℕ
  pub keeps : Keeps (session_after start_session input) k

-- a text is what has to be written for some input, after some input before it
pub record IsOutput (text : List ℕ) : Type 0 where
  pub before : List ℕ
  pub input : List ℕ
  pub written : text ≡ written_for_piece (session_after start_session before) input

-- The piece after a read of `count` bytes, when `held` bytes of a line are held. "A line ends with byte 10, or at the end of input if bytes are
-- left": a read of no bytes is the end of input, and there a byte 10 ends the line.
unfoldable pub piece_of : ℕ → ℕ → List ℕ → List ℕ
piece_of zero zero input = []
piece_of zero (suc held) input = 10 ∷ []
piece_of (suc count) held input = take (suc count) input

-- A piece was taken in: all of it if every reply to it was written, otherwise its first bytes. There are no more lines than bytes.
pub record Takes (piece : List ℕ) (before after : CodeSession) (written : Type 0) : Type 0 where
  pub bytes : ℕ
  pub all : written → bytes ≡ length piece
  pub keeps : (s : Session) → Keeps s before → Keeps (session_after s (take bytes piece)) after
  pub lines : after.lines ≤ before.lines + length piece

-- the session at the end of input: the bytes that are left are a line too, and none are held
unfoldable pub session_at_end : Session → Session
session_at_end s = record { state = state_after s.state (last s.line); line = [] }

-- The whole input was taken in: the reader gave `input` and is at its end, and so is the session. The loop has a last turn, which no run comes to.
-- After that turn the reader may have more, but it gave a byte or more in each turn, and the session took in all of them.
pub record TakesInAll (left_before left_after : Option (List ℕ)) (after : CodeSession) : Type 0 where
  pub input : List ℕ
  pub consumed : Consumes left_before left_after input
  pub end :
      (IsAtEnd left_after × Keeps (session_at_end (session_after start_session input)) after)
      ⊎ ((2 ^ 47 ≤ length input) × Keeps (session_after start_session input) after)
