-- The calls that change neither the table nor the buffer: what `after` gives for them, and that nothing is listed after them. No other proof
-- cites these laws.
use Prim.Native.Nat.{ℕ}
use mathlib.Core.Path.{◌≡◌, refl}
use mathlib.Core.List.{List, [], ◌∷◌}
use denote.Enum.Declared.{tag_of}
use types.Run.{OneOf, miss}
use Rattle.pretree.specs.declared.Header.{Header}
use Rattle.pretree.specs.Find.{has_reply, next_reply, prev_reply, first_reply, last_reply, gap_reply}
use Rattle.pretree.specs.Whole.{audit_reply}
use Rattle.pretree.specs.declared.Call.{Call}
use Rattle.pretree.specs.declared.Call.TheVariants.{New, Add, Del, Has, Next, Prev, Gap, First, Last, Audit}
use Rattle.pretree.specs.declared.Reply.{Reply}
use Rattle.pretree.specs.Call.{after}
use Rattle.lines.specs.Output.{listed_by}
use Rattle.pretree.specs.contracts.Call.{the_type}

-- the reply of a call that changes neither the table nor the buffer; any other call is taken for `audit`
unfoldable pub read_only_reply : Header → List ℕ → Call → Reply
read_only_reply h t (New k) = audit_reply h t
read_only_reply h t (Add k s) = audit_reply h t
read_only_reply h t (Del k) = audit_reply h t
read_only_reply h t (Has k) = has_reply h t k
read_only_reply h t (Next k) = next_reply h t k
read_only_reply h t (Prev k) = prev_reply h t k
read_only_reply h t (Gap k) = gap_reply h t k
read_only_reply h t First = first_reply h t
read_only_reply h t Last = last_reply h t
read_only_reply h t Call.List = audit_reply h t
read_only_reply h t Audit = audit_reply h t

-- the tags of the calls that only read, and of those that `read_only_reply` takes for `audit`
abbrev read_only : List ℕ
read_only = 3 ∷ 4 ∷ 5 ∷ 6 ∷ 7 ∷ 8 ∷ 10 ∷ []

abbrev audits : List ℕ
audits = 0 ∷ 1 ∷ 2 ∷ 9 ∷ 10 ∷ []

module _ (h : Header) (t : List ℕ) where
  pub read_only_after : (b : List ℕ) (call : Call) → OneOf read_only (tag_of the_type call) → after call h t b ≡ record { reply = read_only_reply h t call; table = t; buffer = b }
  unfolding after read_only_reply
  read_only_after b (New k) o = absurd (miss read_only 0 tt o)
  read_only_after b (Add k s) o = absurd (miss read_only 1 tt o)
  read_only_after b (Del k) o = absurd (miss read_only 2 tt o)
  read_only_after b (Has k) o = refl
  read_only_after b (Next k) o = refl
  read_only_after b (Prev k) o = refl
  read_only_after b (Gap k) o = refl
  read_only_after b First o = refl
  read_only_after b Last o = refl
  read_only_after b Call.List o = absurd (miss read_only 9 tt o)
  read_only_after b Audit o = refl

  pub other_calls_audit : (call : Call) → OneOf audits (tag_of the_type call) → read_only_reply h t call ≡ audit_reply h t
  unfolding read_only_reply
  other_calls_audit (New k) o = refl
  other_calls_audit (Add k s) o = refl
  other_calls_audit (Del k) o = refl
  other_calls_audit (Has k) o = absurd (miss audits 3 tt o)
  other_calls_audit (Next k) o = absurd (miss audits 4 tt o)
  other_calls_audit (Prev k) o = absurd (miss audits 5 tt o)
  other_calls_audit (Gap k) o = absurd (miss audits 6 tt o)
  other_calls_audit First o = absurd (miss audits 7 tt o)
  other_calls_audit Last o = absurd (miss audits 8 tt o)
  other_calls_audit Call.List o = refl
  other_calls_audit Audit o = refl

pub read_only_unlisted : (call : Call) (r : Reply) → OneOf read_only (tag_of the_type call) → listed_by call r ≡ 0
unfolding listed_by
read_only_unlisted (New k) r o = refl
read_only_unlisted (Add k s) r o = refl
read_only_unlisted (Del k) r o = refl
read_only_unlisted (Has k) r o = refl
read_only_unlisted (Next k) r o = refl
read_only_unlisted (Prev k) r o = refl
read_only_unlisted (Gap k) r o = refl
read_only_unlisted First r o = refl
read_only_unlisted Last r o = refl
read_only_unlisted Call.List r o = absurd (miss read_only 9 tt o)
read_only_unlisted Audit r o = refl
