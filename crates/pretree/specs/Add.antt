-- `add` on every header, table and entry: its reply, and the table after it.
-- Document 01: "Order: 9, 1, 2, 3, 4, then 7 or 8, then 5"; "All of it is judged before anything is written."
-- Document 02 §1: "An `add` of a word already there still answers 7, but now stores the new serial."
use Rattle.std.specs.Prelude.{ℕ, suc, List, [], ◌∷◌, eqb, if◌then◌else◌}
use Rattle.ordered.specs.Such.{Perhaps, no_such, such}
use Rattle.ordered.specs.Dictionary.{Entry}
use Rattle.ordered.specs.Way.{Step, rows, broken}
use Rattle.ordered.specs.Change.{Take, Adding, adding}
use Rattle.pretree.specs.declared.Header.{Header}
use Rattle.pretree.specs.declared.Answer.TheVariants.{Done, WrongHeader, WordTooWide, Damage, Full, AlreadyThere}
use Rattle.pretree.specs.declared.Reply.{Reply}
use Rattle.pretree.specs.Table.{capacity, leaf_row, with_entry, with_link, with_row}
use Rattle.pretree.specs.Unfold.{shown}
use Rattle.pretree.specs.Reply.{wrong_header, too_wide, refused, answered}

-- the entry that `add` of a word puts into the set
abbrev pub entry_for : ℕ → ℕ → Entry
entry_for k serial = record { key = k; serial = serial }

-- each row takes its entry
unfoldable pub taking : List Take → List ℕ → List ℕ
taking [] table = table
taking (t ∷ ts) table = taking ts (with_entry t.at t.entry table)

-- row i is linked at the last step of a way; if there is no step, row i is the root and no link is set
abbrev pub hooking : Perhaps Step → ℕ → List ℕ → List ℕ
hooking no_such i table = table
hooking (such s) i table = with_link s.at s.turn i table

-- "that row takes k and its old key is pushed down [..] The new row is row `count`, with both links 0, linked where the way or the push ended"
unfoldable pub grown : ℕ → Adding → List ℕ → List ℕ
grown count a table =
    with_row count (leaf_row a.new_entry)
    (hooking a.hook count (taking a.takes table))

pub record Outcome : Type 0 where
  pub reply : Reply
  pub table : List ℕ

unfoldable pub add_outcome : Header → List ℕ → Entry → Outcome
add_outcome h table e =
    let a : Adding = adding h.width e (shown h table) in
    let more : Header = record { width = h.width; count = suc h.count } in
    let after : List ℕ = grown h.count a table in
    let stored : List ℕ = taking a.takes table in
    if wrong_header h table then record { reply = refused h WrongHeader; table = table }
    else if too_wide h e.key then record { reply = refused h WordTooWide; table = table }
    else if broken a.rows_read then record { reply = refused h Damage; table = table }
    else if a.present then record { reply = answered h AlreadyThere (rows a.rows_read); table = stored }
    else if eqb h.count (capacity table) then record { reply = refused h Full; table = table }
    else record { reply = answered more Done (rows a.rows_read); table = after }
