-- The promise for the tray program: over any lines, from a tray of 64 fresh seats, the replies are the standard's. It assumes nothing.
use Prim.Native.Nat.{◌≤◌}
use mathlib.Core.Path.{◌≡◌, refl}
use mathlib.Core.List.{List, [], ◌∷◌, ◌++◌}
use lib.ListN.{replicate}
use Rattle.tray.specs.declared.Seat.{Seat}
use Rattle.tray.specs.declared.Sample.{Sample}
use Rattle.tray.specs.Seat.{fresh, top}
use Rattle.tray.specs.Sequence.{Arrival}
use Rattle.tray.proofs.Promise.{AllFollow, one, all_fresh}
use Rattle.tray_lines.specs.declared.parse.Line.{Line}
use Rattle.std.specs.Prelude.{Option, Some, None}
use Rattle.tray_lines.specs.Reply.{replies, standard_replies, tray_on}

module _ (settings : Sample) (fits : settings.repetition ≤ top) where
  all_lines : (before : List Arrival) (tray : List Seat) → AllFollow settings.width settings.repetition settings.proportion fits 64 before tray
      → (lines : List (Option Line)) → replies settings tray lines ≡ standard_replies settings before lines
  unfolding replies standard_replies
  all_lines before tray follow [] = refl
  all_lines before tray follow (Some line ∷ rest) =
      let a : Arrival = record { seat = line.seat; word = line.word } in
      let right = one settings.width settings.repetition settings.proportion fits 64 before tray follow a in
      rw (right.answers, all_lines (before ++ a ∷ []) (tray_on tray (Some line) settings) right.leaves rest)
  all_lines before tray follow (None ∷ rest) = rw (all_lines before tray follow rest)

  pub replies_are_the_standard's : (lines : List (Option Line)) → replies settings (replicate 64 fresh) lines ≡ standard_replies settings [] lines
  replies_are_the_standard's lines = all_lines [] (replicate 64 fresh) (all_fresh settings.width settings.repetition settings.proportion fits 64) lines
