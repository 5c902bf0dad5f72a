-- What the functions of `src/answer.rt` and `src/session.rt` return and leave, in the terms of Output.antt.
use Rattle.std.specs.Prelude.{ℕ, ◌+◌, ◌<◌, ◌≤◌, ◌≡◌, List, ◌++◌, length}
use Rattle.pretree.specs.Call.{After}
use Rattle.pretree.specs.declared.Call.{Call}
use Rattle.lines.specs.declared.answer.CallResult.{CallResult}
use Rattle.lines.specs.declared.session.Session.{Session as CodeSession}
use Rattle.lines.specs.Output.{State, listed_by, Step, written, Session, session_after, written_for_piece}
use Rattle.lines.specs.Gather.{HoldsLine}

-- a call was run: its reply, how many words are listed after it, and what it left
pub record Runs (call : Call) (a : After) (r : CallResult) (rows words : List ℕ) : Type 0 where
  pub reply : r.reply ≡ a.reply
  pub listed : r.listed ≡ listed_by call a.reply
  pub within : r.listed ≤ length words
  pub table : rows ≡ a.table
  pub buffer : words ≡ a.buffer

abbrev pub state_of : CodeSession → State
state_of k = record { header = k.header; table = k.table; buffer = k.words; lines = k.lines }

-- a line was answered: the state is the one after it, and what is written for it was put at the end of `out`
pub record Answers (s : Step) (before after : CodeSession) : Type 0 where
  pub state : state_of after ≡ s.state
  pub held : after.held ≡ before.held
  pub put : after.out.items ≡ before.out.items ++ written s

-- the program's memory keeps a session: its state, and the bytes that are held of its line
pub record Keeps (s : Session) (k : CodeSession) : Type 0 where
  pub state : state_of k ≡ s.state
  pub held : HoldsLine k.held.items s.line

-- an input was taken in: the memory keeps the session after it, and the replies were put after `out`
pub record Feeds (s : Session) (input out : List ℕ) (after : CodeSession) : Type 0 where
  pub keeps : Keeps (session_after s input) after
  pub put : after.out.items ≡ out ++ written_for_piece s input

-- `Feeds` for every session that the memory kept before
abbrev pub FeedsFromHeld : CodeSession → List ℕ → List ℕ → CodeSession → Type 0
FeedsFromHeld before out input after = (s : Session) → Keeps s before → Feeds s input out after

-- a session advanced: it took in a part of a piece, which is not empty and has no fewer bytes than lines, and `rest` is left
pub record Advances (piece rest out : List ℕ) (before after : CodeSession) : Type 0 where
  pub part : List ℕ
  pub whole : piece ≡ part ++ rest
  pub onward : 0 < length part
  pub feeds : FeedsFromHeld before out part after
  pub lines : after.lines ≤ before.lines + length part
