-- The loop's invariant: with the lines of the words that are left, all are put.
use Prim.Native.Nat.{◌+◌, ◌*◌, ◌≤◌}
use mathlib.Core.Path.{◌≡◌}
use mathlib.Core.List.{◌++◌}
use lib.ListN.{length}
use Rattle.std.specs.Slice.Iter.{chunks_rest, chunks_size}
use Rattle.arrayvec.specs.ArrayVec.{array_vec_len}
use Rattle.lines.specs.Render.{key_lines}
use Rattle.lines.proofs.put.put_keys.Given as goal

abbrev pub invariant-loop-few : goal.invariant-loop-few
invariant-loop-few l =
    let left = chunks_rest l.few-iterator in
    record {
      size : chunks_size l.few-iterator ≡ 16;
      put : l.out.items ++ key_lines left ≡ l.initial.out.items ++ key_lines l.words;
      room : array_vec_len l.out + 15 * length left ≤ array_vec_len l.initial.out + 15 * length l.words;
    }
