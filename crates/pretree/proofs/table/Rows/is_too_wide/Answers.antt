-- The shift loses no bit.
use borrow.Author.Rules.{rules}
use Rattle.pretree.specs.Reply.{too_wide}
use Rattle.pretree.proofs.Checks.{shifted}
use Rattle.pretree.proofs.table.Rows.is_too_wide.Goals as goal

pub returns : goal.returns
unfolding too_wide
returns c = rw (shifted c.args.self.now.header c.args.self.now.table.now (search rules))
