-- `powerup::count::read_all` meets its contract. The loop's invariant: the counts so far plus the counts of the remaining bytes are the counts of all
-- bytes (`Counting`). Assumes nothing.
use Prim.Native.Nat.{◌*◌}
use lib.ListN.{drop}
use Rattle.powerup.specs.Bits.{bits}
use Rattle.powerup.proofs.Counting.{Counting}
use Rattle.powerup.proofs.count.read_all.Given as goal

abbrev pub invariant-loop-byte : goal.invariant-loop-byte
invariant-loop-byte l = Counting (bits l.block) (bits (drop l.byte-index l.block)) (2 * l.byte-index) l.tally.pairs l.tally.ended l.run
