-- Each step follows every walk that was where the leg is, so the leg does.
use Rattle.std.proofs.Common.{rules}
use Rattle.ordered.specs.Way.{down}
use Rattle.pretree.specs.Table.{row_at, to_side}
use Rattle.pretree.specs.Leg.{stage_here}
use Rattle.pretree.proofs.Legs.{led_follows, has_room, linked_follows, linked_stops}
use Rattle.pretree.proofs.table.Rows.down.Goals as goal

pub followed-requires-clause-may : goal.followed-requires-clause-may
followed-requires-clause-may c l led =
    let table = row_at c.args.self.now.table.now in
    let count = c.args.self.now.header.count in
    let room =
    has_room table (down (to_side c.args.side)) count stage_here c.args.start l c.requires.begun
    (led_follows table (down (to_side c.args.side)) count stage_here _ (λ m n goes. linked_follows table count (to_side c.args.side) m n (search rules)) c.args.start l led) in
    search rules

pub returns : goal.returns
returns c =
    let table = row_at c.args.self.now.table.now in
    let count = c.args.self.now.header.count in
    record {
      stopped = linked_stops table count (to_side c.args.side) c.followed.result (search rules);
      walks = led_follows table (down (to_side c.args.side)) count stage_here _ (λ m n goes. linked_follows table count (to_side c.args.side) m n (search rules)) c.args.start c.followed.result c.followed.ensures.0;
    }
