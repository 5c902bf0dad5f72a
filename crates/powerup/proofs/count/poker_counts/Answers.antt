use Prim.Native.Nat.{◌+◌}
use lib.ListN.{get_or}
use borrow.Author.Rules.{rules}
use Rattle.powerup.specs.Steps.{poker_of}
use Rattle.std.proofs.lemmas.List.FromFn.{fill_by_all}
use Rattle.powerup.proofs.count.poker_counts.Goals as goal

pub returns : goal.returns
unfolding poker_of
returns c =
    let pairs = c.args.pairs.now in
    let made = c.from_fn.ensures.items in
    fill_by_all (λ v. get_or pairs v 0 + get_or pairs (16 + v) 0) c.from_fn.result 16 0 made.long (λ v h. let at = made.at v 0 h in search rules)
