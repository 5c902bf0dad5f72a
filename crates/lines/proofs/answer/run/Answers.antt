-- A `list` with answer 0 is done.
use mathlib.Core.Path.{refl, ◌∙◌, sym}
use native.Mathlib.Omega.{arith}
use Rattle.pretree.specs.Answer.{number_of}
use Rattle.pretree.specs.Call.{after}
use Rattle.lines.specs.Output.{listed_by}
use Rattle.lines.proofs.Running.{list_lists}
use Rattle.lines.proofs.answer.run.Goals as goal

pub returns-in-Done : goal.returns-in-Done
unfolding after listed_by number_of
returns-in-Done c =
    let l = c.list-reply.ensures in
    let a = c.args in
    rw c.in-List.is
    (record {
      reply = l.0;
      listed = rw (← l.0, c.in-Done.is);
      within = omega (arith, rw (← l.0, c.in-Done.is) at (list_lists a.header a.table.now a.words.now).1, c.list-reply.auto.buffer);
      table = refl;
      buffer = l.1;
    })

pub returns-in_default : goal.returns-in_default
unfolding after listed_by number_of
returns-in_default c =
    let l = c.list-reply.ensures in
    let u = c.unlisted-in_default.ensures in
    let a = c.args in
    rw c.in-List.is
    (record {
      reply = u.0 ∙ l.0;
      listed = u.1 ∙ sym ((list_lists a.header a.table.now a.words.now).0 (rw l.0 at c.in_default.not-Done));
      within = omega (arith, u.1);
      table = refl;
      buffer = l.1;
    })
