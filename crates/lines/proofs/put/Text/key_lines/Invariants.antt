-- The loop's invariant: with the lines of the words that are left, the text is whole.
use Prim.Native.Nat.{◌+◌, ◌*◌, ◌≤◌}
use mathlib.Core.Path.{◌≡◌}
use mathlib.Core.List.{◌++◌}
use lib.ListN.{length}
use Rattle.std.specs.Slice.Iter.{iter_rest}
use Rattle.std.specs.Iterator.Adapters.{rev_source}
use Rattle.lines.specs.Render.{key_lines}
use Rattle.lines.proofs.put.Text.key_lines.Given as goal

abbrev pub invariant-loop-word : goal.invariant-loop-word
invariant-loop-word g l =
    let left = iter_rest (rev_source l.word-iterator) in
    record {
      put : key_lines left ++ l.self ≡ key_lines l.words ++ l.initial.self;
      room : length l.self + 15 * length left ≤ length l.initial.self + 15 * length l.words;
    }
