-- The calls on the whole table, for every header, table and buffer: `new`, `audit`, `list`.
use Rattle.std.specs.Prelude.{ℕ, ◌*◌, List, ◌++◌, ltb, length, drop, replicate, if◌then◌else◌}
use Rattle.ordered.specs.Tree.{listing}
use Rattle.pretree.specs.declared.Header.{Header}
use Rattle.pretree.specs.declared.Answer.TheVariants.{Done, WrongWidth, WrongHeader, Damage, ShortBuffer}
use Rattle.pretree.specs.declared.Reply.{Reply}
use Rattle.pretree.specs.Table.{row_words, capacity}
use Rattle.pretree.specs.Unfold.{shown}
use Rattle.pretree.specs.Sound.{is_sound}
use Rattle.pretree.specs.Reply.{fresh, wrong_width, wrong_header, refused, answered}

-- "`new` makes no check but 1; it clears every row and hands back its W with a count of 0."
unfoldable pub new_reply : Header → ℕ → Reply
new_reply h width =
    if wrong_width width then refused h WrongWidth
    else answered (fresh width) Done 0

-- "Words past the last whole row, or past that limit, are never changed."
unfoldable pub new_table : List ℕ → ℕ → List ℕ
new_table table width =
    let words : ℕ = row_words * capacity table in
    if wrong_width width then table
    else replicate words 0 ++ drop words table

-- "`audit` says whether the table is sound"; it counts `count` rows
unfoldable pub audit_reply : Header → List ℕ → Reply
audit_reply h table =
    if wrong_header h table then refused h WrongHeader
    else if is_sound h table then answered h Done h.count
    else refused h Damage

-- "For `list`: 2, 4, 6."
unfoldable pub list_reply : Header → List ℕ → List ℕ → Reply
list_reply h table buffer =
    if wrong_header h table then refused h WrongHeader
    else if is_sound h table then
    (if ltb (length buffer) h.count then refused h ShortBuffer
    else answered h Done h.count)
    else refused h Damage

-- "`list` writes it to a lent buffer of 32-bit words and leaves the rest of the buffer"
unfoldable pub list_buffer : Header → List ℕ → List ℕ → List ℕ
list_buffer h table buffer =
    let after : List ℕ = listing (shown h table) ++ drop h.count buffer in
    if wrong_header h table then buffer
    else if is_sound h table then (if ltb (length buffer) h.count then buffer else after)
    else buffer
