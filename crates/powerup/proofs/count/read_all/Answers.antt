use native.Mathlib.Omega.{arith}
use Prim.Native.Nat.{ℕ, suc, ◌+◌, ◌*◌, ◌/◌, ◌%◌, ◌<◌}
use mathlib.Core.Path.{◌≡◌}
use mathlib.Core.List.{List, [], ◌++◌}
use lib.ListN.{length, get_or, drop, drop_of_length-le}
use Rattle.powerup.specs.declared.count.LastRun.{LastRun}
use Rattle.powerup.specs.Bits.{bits}
use Rattle.powerup.specs.Steps.{raised, closed, pair, stepped, half_bits}
use Rattle.powerup.proofs.Counting.{Counting, step, ready, bits_left, none_read, all_read}
use Rattle.powerup.proofs.count.read_all.Goals as goal

pub loop-byte-init : goal.loop-byte-init
loop-byte-init c = none_read (bits c.args.block.now)

-- `Counting` before the high half of the byte at i is read (`at_high`), and before its low half (`at_low`)
module _
    (bytes : List ℕ) (i : ℕ) (h : i < length bytes) (small : get_or bytes i 0 < 256) {pairs ended : List ℕ} {run : LastRun}
    (counting : Counting (bits bytes) (bits (drop i bytes)) (2 * i) pairs ended run) where
  -- the byte that is read
  abbrev byte : ℕ
  byte = get_or bytes i 0

  at_high : Counting (bits bytes) (half_bits (byte / 16) ++ half_bits (byte % 16) ++ bits (drop (i + 1) bytes)) (2 * i) pairs ended run
  at_high = rw (bits_left bytes i h small) at counting

  at_low :
      Counting (bits bytes) (half_bits (byte % 16) ++ bits (drop (i + 1) bytes))
      (suc (2 * i)) (raised pairs (pair run.bit (byte / 16))) (closed ended run.bit (stepped run (byte / 16)).ended) (stepped run (byte / 16)).next
  at_low = step (byte / 16) (omega arith) at_high

pub with_half-run-requires : goal.with_half-run-requires
with_half-run-requires c = ready c.loop-byte.invariant (omega arith) (c.from-byte.result / 16) (omega (arith, c.fits-block c.loop-byte.byte-index))

pub with_half-run-requires-in-loop-byte : goal.with_half-run-requires-in-loop-byte
with_half-run-requires-in-loop-byte c =
    let e = c.with_half-run.ensures in
    let bytes = c.args.block.now in
    let i = c.loop-byte.byte-index in
    let small : get_or bytes i 0 < 256 = omega (arith, c.fits-block i) in
    rw (e.value, e.pairs_after, e.ended_after, c.from-byte.ensures)
    (ready (at_low bytes i (omega arith) small c.loop-byte.invariant) (omega arith) (get_or bytes i 0 % 16) (omega arith))

pub loop-byte-preserved : goal.loop-byte-preserved
loop-byte-preserved c =
    let e = c.with_half-run-in-loop-byte.ensures in
    let f = c.with_half-run.ensures in
    let bytes = c.args.block.now in
    let i = c.loop-byte.byte-index in
    let small : get_or bytes i 0 < 256 = omega (arith, c.fits-block i) in
    let n : 2 * (i + 1) ≡ suc (suc (2 * i)) = omega arith in
    rw (n, e.value, e.pairs_after, e.ended_after, f.value, f.pairs_after, f.ended_after, c.from-byte.ensures)
    (step (get_or bytes i 0 % 16) (omega arith) (at_low bytes i (omega arith) small c.loop-byte.invariant))

pub returns : goal.returns
unfolding bits raised
returns c =
    let bytes = c.args.block.now in
    let none : drop c.loop-byte.byte-index bytes ≡ [] = drop_of_length-le bytes {i = c.loop-byte.byte-index} (omega arith) in
    rw (c.max.ensures, c.place.ensures) (all_read (rw none at c.loop-byte.invariant) (omega arith))
