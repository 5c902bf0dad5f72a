use Rattle.lines.proofs.session.Session.start.Goals as goal

pub returns : goal.returns
returns c = record { state = rw c.fresh.ensures; held = c.new.ensures }
