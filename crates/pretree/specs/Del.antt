-- `del` on every header, table and word: its reply, and the table after it.
-- Document 01: "The order is: keys up, unlink, move, set the link. The rows of the second way are the moving count; it is 0 where nothing
-- moves, and in every other call." Document 02 §1: "cleared rows hold four zeros".
use Rattle.std.specs.Prelude.{ℕ, pred, Bool, not, ◌&&◌, ◌||◌, List, eqb, if◌then◌else◌}
use Rattle.ordered.specs.Way.{Way, rows, broken, way, following}
use Rattle.ordered.specs.Change.{Erasing, erasing, way_ends_at, number_at, above_end}
use Rattle.pretree.specs.declared.Header.{Header}
use Rattle.pretree.specs.declared.Answer.TheVariants.{Done, WrongHeader, WordTooWide, Damage, NoSuchWord}
use Rattle.pretree.specs.Table.{row_at, with_row, cleared}
use Rattle.pretree.specs.Unfold.{shown}
use Rattle.pretree.specs.Reply.{wrong_header, too_wide, refused, answered}
use Rattle.pretree.specs.Add.{Outcome, taking, hooking}

-- "a second way, the way of the last row's key on the table as it was before the call, gives the link to be set"
unfoldable pub second_way : Header → List ℕ → Way
second_way h table = way (following (row_at table (pred h.count)).entry.key) h.width (shown h table)

-- "the second way of `del` doesn't end at row count−1 with its key"
unfoldable pub astray : Header → List ℕ → Way → Bool
astray h table w =
    let last : ℕ = pred h.count in
    not (way_ends_at (row_at table last).entry.key w && eqb (number_at w.end) last)

-- the last row moved into the hole, and linked there
unfoldable pub moving : ℕ → ℕ → Way → List ℕ → List ℕ
moving hole last second table = hooking (above_end second) hole (with_row hole (row_at table last) table)

-- keys up, unlink, move, set the link, clear
unfoldable pub shrunk : ℕ → Erasing → Way → Bool → List ℕ → List ℕ
shrunk last e second moves table =
    let unlinked : List ℕ = hooking e.hook 0 (taking e.takes table) in
    let moved : List ℕ = moving e.hole last second unlinked in
    with_row last cleared (if moves then moved else unlinked)

unfoldable pub del_outcome : Header → List ℕ → ℕ → Outcome
del_outcome h table k =
    let e : Erasing = erasing h.width k (shown h table) in
    let last : ℕ = pred h.count in
    let moves : Bool = not (eqb e.hole last) in
    let second : Way = second_way h table in
    let less : Header = record { width = h.width; count = last } in
    let after : List ℕ = shrunk last e second moves table in
    if wrong_header h table then record { reply = refused h WrongHeader; table = table }
    else if too_wide h k then record { reply = refused h WordTooWide; table = table }
    else if broken e.rows_read then record { reply = refused h Damage; table = table }
    else if not e.present then record { reply = answered h NoSuchWord (rows e.rows_read); table = table }
    else if moves && (broken second || astray h table second) then record { reply = refused h Damage; table = table }
    else
    record {
      reply =
          record { header = less; answer = Done; rows = rows e.rows_read; moved = if moves then rows second else 0 };
      table = after;
    }
