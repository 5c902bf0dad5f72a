-- The starred examples of document 01 hold for the definitions. Their tables are sound, are the trees of their sets, and are what `add` makes from
-- an empty table.
use Prim.Native.Nat.{ℕ}
use mathlib.Core.Path.{◌≡◌, refl}
use mathlib.Core.List.{List, [], ◌∷◌}
use lib.ListN.{length, replicate}
use Rattle.ordered.specs.Example.{Example, ◌is◌, AllAgree}
use Rattle.ordered.specs.Such.{last_such}
use Rattle.ordered.specs.Word.{side}
use Rattle.ordered.specs.Tree.{unnumbered, tree_of, going}
use Rattle.ordered.specs.Way.{way, rows, broken, joined, following, passing_equal, pushing, down, staying}
use Rattle.ordered.specs.Reading.{rows_of, broken_in, has, next, prev, last, gap}
use Rattle.ordered.specs.Change.{adding, pushed, left_over}
use Rattle.pretree.specs.declared.Header.{Header}
use Rattle.pretree.specs.Table.{capacity, row_at, with_entry, with_serial, with_link, with_row}
use Rattle.pretree.specs.Unfold.{unfolded, shown}
use Rattle.pretree.specs.Sound.{met, times, keys_of, Sound}
use Rattle.pretree.specs.Answer.{number_of, key_of, serial_of}
use Rattle.pretree.specs.Reply.{wrong_header, too_wide, fresh}
use Rattle.pretree.specs.Find.{has_reply, next_reply, prev_reply, last_reply, gap_reply}
use Rattle.pretree.specs.Add.{Outcome, add_outcome, grown, taking}
use Rattle.pretree.specs.Starred.{entry, Held, A, B, C, starred}
use Rattle.pretree.proofs.SoundTest.{sound_rows}

pub starred_agree : AllAgree starred
unfolding has_reply next_reply prev_reply last_reply gap_reply has next prev last gap number_of key_of serial_of unnumbered
    shown unfolded row_at capacity wrong_header too_wide rows_of broken_in way rows broken following passing_equal down staying last_such side
starred_agree = refl

-- what is proved for each of the three tables
pub record Good (s : Held) : Type 0 where
  pub sound : Sound s.header s.table
  pub tree : unnumbered (shown s.header s.table) ≡ tree_of s.header.width s.set

pub good_A : Good A
unfolding Sound met times keys_of unnumbered shown unfolded row_at tree_of going side
good_A = record { sound = sound_rows _ _ _ tt; tree = refl }

pub good_B : Good B
unfolding Sound met times keys_of unnumbered shown unfolded row_at tree_of going side
good_B = record { sound = sound_rows _ _ _ tt; tree = refl }

pub good_C : Good C
unfolding Sound met times keys_of unnumbered shown unfolded row_at tree_of going side
good_C = record { sound = sound_rows _ _ _ tt; tree = refl }

-- `add` of one word after another
unfoldable pub adds : Header → List ℕ → List ℕ → Header × List ℕ
adds h table [] = (h, table)
adds h table (k ∷ ks) = let o : Outcome = add_outcome h table (entry k) in adds o.reply.header o.table ks

abbrev pub made : Held → List ℕ → Example (Header × List ℕ)
made s order = adds (fresh s.header.width) (replicate (length s.table) 0) order is (s.header, s.table)

pub made_by_adds : AllAgree (made A (8 ∷ 4 ∷ 11 ∷ 15 ∷ []) ∷ made B (0 ∷ 1 ∷ 2 ∷ 3 ∷ 4 ∷ []) ∷ made C (1 ∷ 0 ∷ []) ∷ [])
unfolding adds add_outcome adding pushed left_over grown taking with_entry with_serial with_link with_row
    shown unfolded row_at capacity wrong_header too_wide way rows broken joined following pushing last_such side
made_by_adds = refl
