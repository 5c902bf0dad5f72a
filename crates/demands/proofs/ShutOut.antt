-- The programs of specs/ShutOut.antt break the demands, in a table of one row with one-bit words: each at the empty set or at a set of one word.
use Prim.Native.Nat.{ℕ}
use mathlib.Core.Path.{◌≡◌, refl, sym, ap, ap₂, subst, ◌∙◌}
use mathlib.Core.List.{List, [], ◌∷◌}
use native.Mathlib.Omega.{arith}
use lib.ListN.{get_or}
use Rattle.ordered.specs.Dictionary.{words, no_entry, insert, lookup, min}
use Rattle.ordered.specs.Such.{first_such}
use Rattle.ordered.specs.Tree.{entries, intact, going, tree_of}
use Rattle.ordered.specs.Way.{rows, way, staying}
use Rattle.ordered.specs.Reading.{rows_of, first as first_over}
use Rattle.pretree.specs.declared.Header.{Header}
use Rattle.pretree.specs.declared.Reply.{Reply}
use Rattle.pretree.specs.declared.Call.TheVariants.{New, Add, First, Audit}
use Rattle.pretree.specs.Table.{capacity, row_at, cleared}
use Rattle.pretree.specs.Unfold.{shown, unfolded}
use Rattle.pretree.specs.Reply.{fresh, wrong_header}
use Rattle.pretree.specs.Answer.{number_of}
use Rattle.pretree.specs.Add.{entry_for}
use Rattle.pretree.specs.Call.{After}
use Rattle.pretree.proofs.Rows.{row_as_words}
use Rattle.demands.specs.Program.{Program}
use Rattle.demands.specs.SoundIs.{HoldsSet}
use Rattle.demands.specs.RowsRead.{RowsExact, rows_over, refused_over}
use Rattle.demands.specs.Expected.{expected, kept_after, changed}
use Rattle.demands.specs.Demand2.{Demand2, KeepsDictionary}
use Rattle.demands.specs.ShutOut.{ShutOut}
use Rattle.demands.proofs.Answered.{empty_held}
use Rattle.demands.proofs.SoundIs.{held_by_entries, one_tree_each}

abbrev one_row : List ℕ
one_row = row_as_words cleared

module _ (program : Program) (d : Demand2 program) where
  -- "`audit` says whether the table is sound", and "`first` [..]: no such word" in an empty set
  audit_of_empty : KeepsDictionary program Audit (fresh 1) one_row [] []
  audit_of_empty = d Audit (fresh 1) one_row [] [] (empty_held 1 one_row refl)

  first_of_empty : KeepsDictionary program First (fresh 1) one_row [] []
  first_of_empty = d First (fresh 1) one_row [] [] (empty_held 1 one_row refl)

  add_to_empty : KeepsDictionary program (Add 1 0) (fresh 1) one_row [] []
  add_to_empty = d (Add 1 0) (fresh 1) one_row [] [] (empty_held 1 one_row refl)

-- the set of the word 0, which a cleared row holds
abbrev one_word : Header
one_word = record { width = 1; count = 1 }

zero_held : HoldsSet one_word one_row (no_entry ∷ [])
unfolding shown unfolded row_at intact entries
zero_held = held_by_entries one_word one_row refl refl refl

module _ (program : Program) (exact : RowsExact program) where
  new_reads : (program (New 1) (fresh 1) one_row []).reply.rows ≡ 0
  unfolding refused_over rows_over
  new_reads = (exact (New 1) (fresh 1) one_row [] [] (empty_held 1 one_row refl).right_header (empty_held 1 one_row refl).holds).rows_read

  first_reads : (program First one_word one_row []).reply.rows ≡ 1
  unfolding refused_over rows_over rows_of rows first_over way staying tree_of going wrong_header capacity
  first_reads = (exact First one_word one_row [] (no_entry ∷ []) refl zero_held).rows_read

pub shut_out : (program : Program) → ShutOut program
unfolding expected kept_after changed lookup insert min first_such capacity shown unfolded row_at entries
shut_out program =
    record {
      refuses_everything = λ refuses d. omega (arith, ap (λ s. s.number) (audit_of_empty program d).answer, refuses Audit (fresh 1) one_row []);
      replies_alike =
          λ r alike d.
          let number : Reply → ℕ = λ q. number_of q.answer in
          let audited : number r ≡ 0 = ap number (sym (alike Audit (fresh 1) one_row [])) ∙ ap (λ s. s.number) (audit_of_empty program d).answer in
          let first : number r ≡ 8 = ap number (sym (alike First (fresh 1) one_row [])) ∙ ap (λ s. s.number) (first_of_empty program d).answer in
          omega arith;
      never_changes_the_table =
          λ same d.
          let k = add_to_empty program d in
          let left : After = program (Add 1 0) (fresh 1) one_row [] in
          let its_header : left.reply.header ≡ one_word = ap₂ (λ w n. record { width = w; count = n }) k.width (sym k.held.holds.number) in
          let held : HoldsSet one_word one_row (entry_for 1 0 ∷ []) =
          subst (λ h. HoldsSet h one_row (entry_for 1 0 ∷ [])) its_header
          (subst (λ t. HoldsSet left.reply.header t (entry_for 1 0 ∷ [])) (same (Add 1 0) (fresh 1) one_row []) k.held.holds) in
          omega (arith, ap (λ es. get_or (words es) 0 0) (one_tree_each.its_entries held));
      first_call_alone =
          λ same d. omega (arith, (add_to_empty program d).held.holds.number, ap (λ h. h.count) (same (Add 1 0) (fresh 1) one_row []));
      invents_its_counts =
          λ n same exact.
          omega (arith, new_reads program exact, first_reads program exact, same (New 1) (fresh 1) one_row [], same First one_word one_row []);
    }
