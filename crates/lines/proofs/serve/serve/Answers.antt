use native.Mathlib.Omega.{arith}
use Rattle.std.proofs.Common.{rules, IsOk}
use Rattle.lines.proofs.Serving.{serve_start, after_turn, at_end, no_turn_left}
use Rattle.lines.proofs.serve.serve.Goals as goal

pub loop-turn-init : goal.loop-turn-init
loop-turn-init g c = serve_start (g.R.Read.remaining c.args.reader.now) c.requires

pub loop-turn-preserved : goal.loop-turn-preserved
loop-turn-preserved g c =
    let read = c.in_ok-count.ensures in
    let written : IsOk c.take_in.result = search rules in
    after_turn c.loop-turn.invariant c.read.new.input read.bytes.0 c.take_in.ensures written c.if-count-eq0.false read.count (omega (arith, c.read.ensures.size))

pub returns-then-count-eq0 : goal.returns-then-count-eq0
returns-then-count-eq0 g c =
    let read = c.in_ok-count.ensures in
    let none = c.if-count-eq0.true in
    let written : IsOk c.take_in.result = search rules in
    at_end c.loop-turn.invariant c.read.new.input read.bytes.0 c.take_in.ensures written none (read.bytes.1 none (omega (arith, c.read.ensures.size)))

pub returns-after-loop-turn : goal.returns-after-loop-turn
returns-after-loop-turn g c = no_turn_left c.loop-turn.invariant c.loop-turn-test.false
