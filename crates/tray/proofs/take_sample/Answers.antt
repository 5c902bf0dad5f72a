-- A seat in the tray is `take`'s. For any other seat the tray stays as it was.
use Rattle.tray.proofs.Trays.{sampled_present, sampled_missing}
use Rattle.tray.proofs.take_sample.Goals as goal

pub returns-then-seat-tray : goal.returns-then-seat-tray
returns-then-seat-tray c =
    let a = c.args in sampled_present a.tray.now a.seat a.sample c.if-seat-tray.true c.take.ensures.answers c.take.ensures.leaves

pub returns-else-seat-tray : goal.returns-else-seat-tray
returns-else-seat-tray c = let a = c.args in sampled_missing a.tray.now a.seat a.sample c.if-seat-tray.false c.absent.ensures
