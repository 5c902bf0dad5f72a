-- What a table shows: its rows unfolded from the root into a tree, with damage at each place where a way would meet it.
use Rattle.std.specs.Prelude.{ℕ, zero, suc, ◌+◌, ◌*◌, ◌/◌, ◌^◌, Bool, true, ◌&&◌, List, ltb, leb, eqb, if◌then◌else◌}
use Rattle.ordered.specs.Word.{Side, left, right, bit_of}
use Rattle.ordered.specs.Tree.{Tree, none, row, damaged}
use Rattle.pretree.specs.declared.Header.{Header}
use Rattle.pretree.specs.declared.Row.{Row}
use Rattle.pretree.specs.Table.{row_at, entry_of, link}

-- at depth W both links are 0
abbrev pub ends_there : ℕ → Row → Bool
ends_there zero r = eqb r.left 0 && eqb r.right 0
ends_there (suc m) r = true

-- Damage is "a link that the way follows is count or more; a row read has a key of 2^W or more, or not greater than that of the row it was
-- reached from, or without the bits of the path to it; a row read at depth W has a link other than 0".
-- Row i has m bits left, its path is a number of W − m bits, and `low` is one more than the key it was reached from (0 at the root).
-- A key with the bits of its path is below 2^W.
abbrev pub judged : ℕ → ℕ → ℕ → ℕ → ℕ → Row → Bool
judged n m path low i r = ltb i n && (leb low r.entry.key && (eqb (r.entry.key / 2 ^ m) path && ends_there m r))

-- "A link of 0 means none."
abbrev pub linked : (ℕ → Tree) → ℕ → Tree
linked part zero = none
linked part (suc i) = part (suc i)

-- what the rows of a table with n rows in use show from row i down
unfoldable pub unfolded : (ℕ → Row) → ℕ → ℕ → ℕ → ℕ → ℕ → Tree
unfolded rows n zero path low i =
    if judged n zero path low i (rows i) then row i (entry_of (rows i)) none none
    else damaged
unfolded rows n (suc m) path low i =
    let below : Side → Tree = λ s. linked (unfolded rows n m (path * 2 + bit_of s) (suc (rows i).entry.key)) (link (rows i) s) in
    let t : Tree = row i (entry_of (rows i)) (below left) (below right) in
    if judged n (suc m) path low i (rows i) then t
    else damaged

-- "The root is row 0 whenever the count is not 0"; "with a count of 0 every way is empty"
unfoldable pub shown : Header → List ℕ → Tree
shown h table =
    let t : Tree = unfolded (row_at table) h.count h.width 0 0 0 in
    if eqb h.count 0 then none
    else t
