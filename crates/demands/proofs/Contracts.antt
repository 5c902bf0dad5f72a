-- The proofs of specs/Contracts.antt. Each `Post` computes to what the `ensures` clauses claim: an equation for the reply, and one for the words
-- lent as `&mut`.
use mathlib.Core.Path.{◌≡◌, sym, ap, ◌∙◌, fun_ext}
use mathlib.Core.Logic.{◌↔◌}
use mathlib.Core.List.{[]}
use Rattle.pretree.specs.declared.Call.{Call}
use Rattle.pretree.specs.declared.Call.TheVariants.{New, Add, Del, Has, Next, Prev, Gap, First, Last, Audit}
use Rattle.pretree.specs.Call.{After, after}
use Rattle.demands.specs.Contracts.{Loan, Contract, Requires, AsksNothing, ContractIsAfter, OneOutcome, FreshIs, OneProgram}

-- two outcomes are equal if their reply, table and buffer are equal; a contract groups these three in different ways
module _ {x y : After} where
  only_replies : ((x.reply ≡ y.reply) × (x.table ≡ y.table) × (x.buffer ≡ y.buffer)) ↔ (x ≡ y)
  only_replies = (
    λ same i. record { reply = same.0 i; table = same.1 i; buffer = same.2 i },
    λ same. (ap (λ a. a.reply) same, ap (λ a. a.table) same, ap (λ a. a.buffer) same),
  )

  writes_table : (((x.reply ≡ y.reply) × (x.table ≡ y.table)) × (x.buffer ≡ y.buffer)) ↔ (x ≡ y)
  writes_table = (
    λ same. only_replies.0 (same.0.0, same.0.1, same.1),
    λ same. let parts = only_replies.1 same in ((parts.0, parts.1), parts.2),
  )

  writes_buffer : (((x.reply ≡ y.reply) × (x.buffer ≡ y.buffer)) × (x.table ≡ y.table)) ↔ (x ≡ y)
  writes_buffer = (
    λ same. only_replies.0 (same.0.0, same.1, same.0.1),
    λ same. let parts = only_replies.1 same in ((parts.0, parts.2), parts.1),
  )

pub contract_is_after : ContractIsAfter
unfolding Contract after
contract_is_after t b (New W) h table buffer a = writes_table
contract_is_after t b (Add k serial) h table buffer a = writes_table
contract_is_after t b (Del k) h table buffer a = writes_table
contract_is_after t b (Has k) h table buffer a = only_replies
contract_is_after t b (Next k) h table buffer a = only_replies
contract_is_after t b (Prev k) h table buffer a = only_replies
contract_is_after t b (Gap k) h table buffer a = only_replies
contract_is_after t b First h table buffer a = only_replies
contract_is_after t b Last h table buffer a = only_replies
contract_is_after t b Audit h table buffer a = only_replies
contract_is_after t b Call.List h table buffer a = writes_buffer

pub asks_nothing : AsksNothing
unfolding Requires
asks_nothing t b (New W) h table buffer = tt
asks_nothing t b (Add k serial) h table buffer = tt
asks_nothing t b (Del k) h table buffer = tt
asks_nothing t b (Has k) h table buffer = tt
asks_nothing t b (Next k) h table buffer = tt
asks_nothing t b (Prev k) h table buffer = tt
asks_nothing t b (Gap k) h table buffer = tt
asks_nothing t b First h table buffer = tt
asks_nothing t b Last h table buffer = tt
asks_nothing t b Audit h table buffer = tt
asks_nothing t b Call.List h table buffer = tt

pub one_outcome : OneOutcome
one_outcome t b c h table buffer x y allowed allowed' =
    (contract_is_after t b c h table buffer x).0 allowed ∙ sym ((contract_is_after t b c h table buffer y).0 allowed')

pub fresh_is : FreshIs
fresh_is W h = (tt, (λ same. same, λ same. same))

pub one_program : OneProgram
one_program p = (
  λ keeps.
      fun_ext (λ c. fun_ext (λ h. fun_ext (λ table. fun_ext (λ buffer.
      (contract_is_after loan loan c h table buffer (p c h table buffer)).0 (keeps loan loan c h table buffer))))),
  λ same t b c h table buffer. (contract_is_after t b c h table buffer (p c h table buffer)).1 (ap (λ q. q c h table buffer) same),
)
  where
    loan : Loan
    loan = record { place = (0, 0); name = 0; lifetime = [] }
