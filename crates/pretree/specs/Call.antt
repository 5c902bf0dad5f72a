-- The eleven calls as one type, and what each answers and leaves: the reply, the table and the buffer, for every header, table and buffer.
-- The demands and the line language speak about all calls by this one function.
use Rattle.std.specs.Prelude.{ℕ, List}
use Rattle.pretree.specs.declared.Header.{Header}
use Rattle.pretree.specs.declared.Reply.{Reply}
use Rattle.pretree.specs.declared.Call.{Call}
use Rattle.pretree.specs.declared.Call.TheVariants.{New, Add, Del, Has, Next, Prev, Gap, First, Last, Audit}
use Rattle.pretree.specs.Find.{has_reply, next_reply, prev_reply, first_reply, last_reply, gap_reply}
use Rattle.pretree.specs.Add.{entry_for, Outcome, add_outcome}
use Rattle.pretree.specs.Del.{del_outcome}
use Rattle.pretree.specs.Whole.{new_reply, new_table, audit_reply, list_reply, list_buffer}

-- what a call answers, and what the lent table and buffer are after it
pub record After : Type 0 where
  pub reply : Reply
  pub table : List ℕ
  pub buffer : List ℕ

-- each line is the contract of that call
unfoldable pub after : Call → Header → List ℕ → List ℕ → After
after (New w) h table buffer = record { reply = new_reply h w; table = new_table table w; buffer = buffer }
after (Add k serial) h table buffer =
    let added : Outcome = add_outcome h table (entry_for k serial) in
    record { reply = added.reply; table = added.table; buffer = buffer }
after (Del k) h table buffer = record { reply = (del_outcome h table k).reply; table = (del_outcome h table k).table; buffer = buffer }
after (Has k) h table buffer = record { reply = has_reply h table k; table = table; buffer = buffer }
after (Next k) h table buffer = record { reply = next_reply h table k; table = table; buffer = buffer }
after (Prev k) h table buffer = record { reply = prev_reply h table k; table = table; buffer = buffer }
after (Gap k) h table buffer = record { reply = gap_reply h table k; table = table; buffer = buffer }
after First h table buffer = record { reply = first_reply h table; table = table; buffer = buffer }
after Last h table buffer = record { reply = last_reply h table; table = table; buffer = buffer }
after Audit h table buffer = record { reply = audit_reply h table; table = table; buffer = buffer }
after Call.List h table buffer = record { reply = list_reply h table buffer; table = table; buffer = list_buffer h table buffer }
