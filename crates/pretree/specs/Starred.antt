-- The starred examples of document 01, "Bench examples at the edges": the replies of the calls on the tables of A, B and C, and their trees, as
-- one list. proofs/Starred.antt proves that all of them hold for the definitions, that the tables are sound, and that they are the trees of
-- their sets.
use Rattle.std.specs.Prelude.{ℕ, ◌+◌, List, [], ◌∷◌}
use Rattle.ordered.specs.Example.{Example, ◌is◌}
use Rattle.ordered.specs.Such.{Perhaps, no_such, such}
use Rattle.ordered.specs.Dictionary.{Entry}
use Rattle.ordered.specs.Tree.{Tree, none, row, unnumbered}
use Rattle.pretree.specs.declared.Header.{Header}
use Rattle.pretree.specs.declared.Reply.{Reply}
use Rattle.pretree.specs.Unfold.{shown}
use Rattle.pretree.specs.Answer.{number_of, key_of, serial_of}
use Rattle.pretree.specs.Find.{has_reply, next_reply, prev_reply, last_reply, gap_reply}

-- each word of the examples has a different serial
abbrev pub entry : ℕ → Entry
entry k = record { key = k; serial = k + 100 }

-- a set, with the header and the table that hold it
pub record Held : Type 0 where
  pub header : Header
  pub table : List ℕ
  pub set : List Entry

-- "A = W 4, words 4, 8, 11, 15. B = W 3, words 0 to 4. C = W 1, words 0, 1."
abbrev pub A : Held
A = record { header = record { width = 4; count = 4 }; table = 4 ∷ 0 ∷ 1 ∷ 104 ∷ 8 ∷ 2 ∷ 3 ∷ 108 ∷ 11 ∷ 0 ∷ 0 ∷ 111 ∷ 15 ∷ 0 ∷ 0 ∷ 115 ∷ []; set = entry 4 ∷ entry 8 ∷ entry 11 ∷ entry 15 ∷ [] }

abbrev pub B : Held
B =
    record {
      header = record { width = 3; count = 5 };
      table = 0 ∷ 1 ∷ 4 ∷ 100 ∷ 1 ∷ 0 ∷ 2 ∷ 101 ∷ 2 ∷ 0 ∷ 3 ∷ 102 ∷ 3 ∷ 0 ∷ 0 ∷ 103 ∷ 4 ∷ 0 ∷ 0 ∷ 104 ∷ [];
      set = entry 0 ∷ entry 1 ∷ entry 2 ∷ entry 3 ∷ entry 4 ∷ [];
    }

abbrev pub C : Held
C = record { header = record { width = 1; count = 2 }; table = 0 ∷ 0 ∷ 1 ∷ 100 ∷ 1 ∷ 0 ∷ 0 ∷ 101 ∷ []; set = entry 0 ∷ entry 1 ∷ [] }

-- a line of the examples: an answer number, its key, the rows read, the serial; or a tree
pub data Line : Type 0 where
  reply : ℕ → Perhaps ℕ → ℕ → Perhaps ℕ → Line
  tree : Tree → Line

abbrev pub line : Reply → Line
line r = reply (number_of r.answer) (key_of r.answer) r.rows (serial_of r.answer)

abbrev pub call : (Header → List ℕ → ℕ → Reply) → Held → ℕ → Line
call f s k = line (f s.header s.table k)

abbrev pub word : ℕ → Tree → Tree → Tree
word k l r = row 0 (entry k) l r

abbrev pub starred : List (Example Line)
starred =
    tree (unnumbered (shown A.header A.table)) is tree (word 4 none (word 8 (word 11 none none) (word 15 none none)))
    ∷ call has_reply A 11 is reply 0 no_such 3 (such 111)
    ∷ call prev_reply A 4 is reply 8 no_such 1 no_such
    ∷ call next_reply A 9 is reply 0 (such 11) 3 no_such
    ∷ call next_reply A 15 is reply 8 no_such 3 no_such
    ∷ call prev_reply A 9 is reply 0 (such 8) 3 no_such
    ∷ call gap_reply A 9 is reply 0 (such 1) 6 no_such
    ∷ call gap_reply A 0 is reply 0 (such 4) 2 no_such
    ∷ call prev_reply B 4 is reply 0 (such 3) 5 no_such
    ∷ call next_reply B 3 is reply 0 (such 4) 5 no_such
    ∷ line (last_reply B.header B.table) is reply 0 (such 4) 2 no_such
    ∷ call prev_reply C 1 is reply 0 (such 0) 2 no_such
    ∷ []
