-- Each step follows every walk that was where the leg is, so the leg does.
use Rattle.std.proofs.Common.{rules}
use Rattle.ordered.specs.Way.{pushing}
use Rattle.pretree.specs.Table.{row_at}
use Rattle.pretree.specs.Walk.{stage_at}
use Rattle.pretree.proofs.Legs.{led_follows, has_room, pushed_follows, pushed_stops}
use Rattle.pretree.proofs.table.Rows.pushed.Goals as goal

pub followed-requires-clause-may : goal.followed-requires-clause-may
followed-requires-clause-may c l led =
    let table = row_at c.args.self.now.table.now in
    let count = c.args.self.now.header.count in
    let room =
    has_room table pushing count stage_at c.args.start l c.requires.begun
    (led_follows table pushing count stage_at _ (λ m n goes. pushed_follows table count m n (search rules)) c.args.start l led) in
    search rules

pub returns : goal.returns
returns c =
    let table = row_at c.args.self.now.table.now in
    let count = c.args.self.now.header.count in
    record {
      stopped = pushed_stops table count c.followed.result (search rules);
      walks = led_follows table pushing count stage_at _ (λ m n goes. pushed_follows table count m n (search rules)) c.args.start c.followed.result c.followed.ensures.0;
    }
