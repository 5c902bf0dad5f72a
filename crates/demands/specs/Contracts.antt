-- The contract of each public function of pretree, as the code itself has it. The checker makes `F.Reads.Post` from the `ensures` clauses of F
-- in pretree/src: what they claim of the arguments, the result and the parameters at exit. `F.Reads.Asked` is what the `requires` clauses ask
-- of a caller, and `F_clauses.ended` is the signature. If a clause is removed from the code, it is missing here too, and `contract_is_after` is
-- refused.
-- Document 01: "Each public function states one result, one header and one content of every lent table and buffer, for all inputs including
-- damaged ones; show that any two outcomes it allows are equal". (For the comparison of two captures, proofs/Contracts of crate `capture`.)
use Rattle.std.specs.Prelude.{ℕ, ◌≡◌, ◌↔◌, List}
use base.Fml.{Lft, GName}
use contract.Lifetimes.{Lfts}
use Rattle.std.specs.Borrow.{Bor, MutBor}
use denote.Triple.Entry.{Args, Res}
use denote.Triple.Clauses.{Ended, AtExit, Lasts, at_exit}
use Rattle.pretree.specs.declared.Header.{Header}
use Rattle.pretree.specs.declared.Call.{Call}
use Rattle.pretree.specs.declared.Call.TheVariants.{New, Add, Del, Has, Next, Prev, Gap, First, Last, Audit}
use Rattle.pretree.specs.Reply.{fresh as fresh_header}
use Rattle.pretree.specs.Call.{After, after}
use Rattle.demands.specs.Program.{Program}
use Rattle.pretree.specs.contracts.Header.fresh as fresh_clauses
use Rattle.pretree.specs.contracts.Header.new as new_clauses
use Rattle.pretree.specs.contracts.Header.add as add_clauses
use Rattle.pretree.specs.contracts.Header.del as del_clauses
use Rattle.pretree.specs.contracts.Header.has as has_clauses
use Rattle.pretree.specs.contracts.Header.next as next_clauses
use Rattle.pretree.specs.contracts.Header.prev as prev_clauses
use Rattle.pretree.specs.contracts.Header.gap as gap_clauses
use Rattle.pretree.specs.contracts.Header.first as first_clauses
use Rattle.pretree.specs.contracts.Header.last as last_clauses
use Rattle.pretree.specs.contracts.Header.audit as audit_clauses
use Rattle.pretree.specs.contracts.Header.list as list_clauses
use Rattle.pretree.proofs.Header.fresh
use Rattle.pretree.proofs.Header.new
use Rattle.pretree.proofs.Header.add
use Rattle.pretree.proofs.Header.del
use Rattle.pretree.proofs.Header.has
use Rattle.pretree.proofs.Header.next
use Rattle.pretree.proofs.Header.prev
use Rattle.pretree.proofs.Header.gap
use Rattle.pretree.proofs.Header.first
use Rattle.pretree.proofs.Header.last
use Rattle.pretree.proofs.Header.audit
use Rattle.pretree.proofs.Header.list

-- What a contract claims for these arguments and this result, if `left` is what the call leaves in the words lent as `&mut`. Every other
-- parameter stays as it was, by the signature; its place in `left` is `tt`.
abbrev says : (F : Ended) → ((κs : Lfts F.signature.lifetimes) → Args F.signature κs → Res F.signature κs → AtExit F κs → Type 0)
    → (κs : Lfts F.signature.lifetimes) (given : Args F.signature κs) → Res F.signature κs → Lasts F κs given → Type 0
says F Post κs given result left = Post κs given result (at_exit F κs given left)

-- How words are lent: where they are in memory, the name by which the checker tracks words lent as `&mut`, and the lifetime. Every statement is for
-- all loans.
pub record Loan : Type 0 where
  pub place : ℕ × ℕ
  pub name : GName
  pub lifetime : Lft

-- t is the loan of the table, and b that of the buffer
module _ (t b : Loan) where
  -- words as an argument: a table as `&[u32]`, a table and a buffer as `&mut [u32]`
  abbrev table_of : List ℕ → Bor (List ℕ)
  table_of words = record { ref_ptr = t.place; now = words }

  abbrev open_table : List ℕ → MutBor (List ℕ)
  open_table words = record { ref_ptr = t.place; ghost_name = t.name; now = words }

  abbrev buffer_of : List ℕ → MutBor (List ℕ)
  buffer_of words = record { ref_ptr = b.place; ghost_name = b.name; now = words }

  -- the lifetimes that a function names: the table's, and for `list` the buffer's
  abbrev one_loan : Lft × Unit {0}
  one_loan = (t.lifetime, tt)

  abbrev two_loans : Lft × (Lft × Unit {0})
  two_loans = (t.lifetime, (b.lifetime, tt))

  -- the arguments of a call: header and table; and a number, two numbers or a buffer. `writes_` where the call may write in the table.
  abbrev alone : Header → List ℕ → Header × (Bor (List ℕ) × Unit {0})
  alone h table = (h, (table_of table, tt))

  abbrev with_number : Header → List ℕ → ℕ → Header × (Bor (List ℕ) × (ℕ × Unit {0}))
  with_number h table k = (h, (table_of table, (k, tt)))

  abbrev writes_with_number : Header → List ℕ → ℕ → Header × (MutBor (List ℕ) × (ℕ × Unit {0}))
  writes_with_number h table k = (h, (open_table table, (k, tt)))

  abbrev writes_with_two : Header → List ℕ → ℕ → ℕ → Header × (MutBor (List ℕ) × (ℕ × (ℕ × Unit {0})))
  writes_with_two h table k serial = (h, (open_table table, (k, (serial, tt))))

  abbrev with_buffer : Header → List ℕ → List ℕ → Header × (Bor (List ℕ) × (MutBor (List ℕ) × Unit {0}))
  with_buffer h table buffer = (h, (table_of table, (buffer_of buffer, tt)))

  unfoldable pub Contract : Call → Header → List ℕ → List ℕ → After → Type 0
  Contract (New W) h table buffer a =
      says new_clauses.ended new.Reads.Post one_loan (writes_with_number h table W) a.reply (tt, (a.table, (tt, tt))) × (a.buffer ≡ buffer)
  Contract (Add k serial) h table buffer a =
      says add_clauses.ended add.Reads.Post one_loan (writes_with_two h table k serial) a.reply (tt, (a.table, (tt, (tt, tt)))) × (a.buffer ≡ buffer)
  Contract (Del k) h table buffer a =
      says del_clauses.ended del.Reads.Post one_loan (writes_with_number h table k) a.reply (tt, (a.table, (tt, tt))) × (a.buffer ≡ buffer)
  Contract (Has k) h table buffer a =
      says has_clauses.ended has.Reads.Post one_loan (with_number h table k) a.reply (tt, (tt, (tt, tt))) × (a.table ≡ table) × (a.buffer ≡ buffer)
  Contract (Next k) h table buffer a =
      says next_clauses.ended next.Reads.Post one_loan (with_number h table k) a.reply (tt, (tt, (tt, tt))) × (a.table ≡ table) × (a.buffer ≡ buffer)
  Contract (Prev k) h table buffer a =
      says prev_clauses.ended prev.Reads.Post one_loan (with_number h table k) a.reply (tt, (tt, (tt, tt))) × (a.table ≡ table) × (a.buffer ≡ buffer)
  Contract (Gap k) h table buffer a =
      says gap_clauses.ended gap.Reads.Post one_loan (with_number h table k) a.reply (tt, (tt, (tt, tt))) × (a.table ≡ table) × (a.buffer ≡ buffer)
  Contract First h table buffer a =
      says first_clauses.ended first.Reads.Post one_loan (alone h table) a.reply (tt, (tt, tt)) × (a.table ≡ table) × (a.buffer ≡ buffer)
  Contract Last h table buffer a =
      says last_clauses.ended last.Reads.Post one_loan (alone h table) a.reply (tt, (tt, tt)) × (a.table ≡ table) × (a.buffer ≡ buffer)
  Contract Audit h table buffer a =
      says audit_clauses.ended audit.Reads.Post one_loan (alone h table) a.reply (tt, (tt, tt)) × (a.table ≡ table) × (a.buffer ≡ buffer)
  Contract Call.List h table buffer a =
      says list_clauses.ended list.Reads.Post two_loans (with_buffer h table buffer) a.reply (tt, (tt, (a.buffer, tt))) × (a.table ≡ table)

  -- what a call's function asks of its caller
  unfoldable pub Requires : Call → Header → List ℕ → List ℕ → Type 0
  Requires (New W) h table buffer = new.Reads.Asked one_loan (writes_with_number h table W)
  Requires (Add k serial) h table buffer = add.Reads.Asked one_loan (writes_with_two h table k serial)
  Requires (Del k) h table buffer = del.Reads.Asked one_loan (writes_with_number h table k)
  Requires (Has k) h table buffer = has.Reads.Asked one_loan (with_number h table k)
  Requires (Next k) h table buffer = next.Reads.Asked one_loan (with_number h table k)
  Requires (Prev k) h table buffer = prev.Reads.Asked one_loan (with_number h table k)
  Requires (Gap k) h table buffer = gap.Reads.Asked one_loan (with_number h table k)
  Requires First h table buffer = first.Reads.Asked one_loan (alone h table)
  Requires Last h table buffer = last.Reads.Asked one_loan (alone h table)
  Requires Audit h table buffer = audit.Reads.Asked one_loan (alone h table)
  Requires Call.List h table buffer = list.Reads.Asked two_loans (with_buffer h table buffer)

-- "for all inputs including damaged ones": no call requires anything of its caller
abbrev pub AsksNothing : Type 0
AsksNothing = (t b : Loan) (c : Call) (h : Header) (table buffer : List ℕ) → Requires t b c h table buffer

-- A call's contract says exactly its line of `after`. So what the demands say of `after` holds of the code.
abbrev pub ContractIsAfter : Type 0
ContractIsAfter =
    (t b : Loan) (c : Call) (h : Header) (table buffer : List ℕ) (a : After)
    → Contract t b c h table buffer a ↔ (a ≡ after c h table buffer)

-- "any two outcomes it allows are equal"
abbrev pub OneOutcome : Type 0
OneOutcome =
    (t b : Loan) (c : Call) (h : Header) (table buffer : List ℕ) (x y : After)
    → Contract t b c h table buffer x → Contract t b c h table buffer y → x ≡ y

-- `Header::fresh` is the one public function that is not a call. It requires nothing, and its contract allows only the fresh header.
abbrev pub FreshIs : Type 0
FreshIs = (W : ℕ) (h : Header) → fresh.Reads.Asked tt (W, tt) × (says fresh_clauses.ended fresh.Reads.Post tt (W, tt) h (tt, tt) ↔ (h ≡ fresh_header W))

-- a program that keeps the contract of every call
abbrev pub Contracted : Program → Type 0
Contracted p = (t b : Loan) (c : Call) (h : Header) (table buffer : List ℕ) → Contract t b c h table buffer (p c h table buffer)

-- `after` is the only program that keeps the contracts.
abbrev pub OneProgram : Type 0
OneProgram = (p : Program) → Contracted p ↔ (p ≡ after)
