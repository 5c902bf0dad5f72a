-- A line that is read runs its call, and any other is answer 9.
use mathlib.Core.Path.{refl, ◌∙◌}
use mathlib.Core.List.{append_assoc}
use Rattle.lines.specs.Answering.{state_of}
use Rattle.lines.proofs.Running.{read_state, read_written, unread_state, unread_written}
use Rattle.lines.proofs.session.Session.answer.Goals as goal

pub returns-in-Some : goal.returns-in-Some
returns-in-Some c =
    let s = state_of c.args.self.now in
    let r = c.run-done.ensures in
    rw (← c.parse.ensures, c.in-Some.is)
    (record {
      state = read_state s c.in-Some.call r;
      held = refl;
      put = c.put_answer.ensures ∙ rw (c.reply_fields.ensures, append_assoc, read_written s c.in-Some.call r);
    })

pub returns-in-None : goal.returns-in-None
returns-in-None c =
    let s = state_of c.args.self.now in
    rw (← c.parse.ensures, c.in-None.is)
    (record {
      state = unread_state s;
      held = refl;
      put = c.put_reply.ensures.put ∙ rw (c.not_read.ensures, unread_written s);
    })
