-- What sound means, and that a set has one tree: the proofs for specs/SoundIs.antt.
use Prim.Native.Nat.{ℕ, ◌^◌, ◌<◌}
use mathlib.Core.Path.{◌≡◌, sym, ap, ◌∙◌}
use mathlib.Core.Bool.{true}
use mathlib.Core.List.{List}
use native.Mathlib.Omega.{arith}
use lib.ListN.{length}
use Rattle.ordered.specs.Dictionary.{Entry, words, Increasing}
use Rattle.ordered.specs.Source004.{◌∈◌}
use Rattle.ordered.specs.Tree.{Tree, entries, intact, unnumbered, tree_of}
use Rattle.ordered.specs.Proper.{Fitting, Proper}
use Rattle.ordered.proofs.Bits.{on_root_path}
use Rattle.ordered.proofs.Parts.{AllWords}
use Rattle.ordered.proofs.OneTree.{keys_fit, keys_rise, one_tree, set_proper, set_entries, proper_intact, entries_length}
use Rattle.pretree.specs.declared.Header.{Header}
use Rattle.pretree.specs.Unfold.{shown}
use Rattle.pretree.specs.Sound.{is_sound}
use Rattle.demands.specs.SoundIs.{HoldsSet, SoundIs, OneTree}
use Rattle.demands.proofs.Words.{each_word, all_words}
use Rattle.demands.proofs.Numbers.{intact_unnumbered, entries_unnumbered}
use Rattle.demands.proofs.Tested.{shown_proper, test_passes, test_says, each_row_once, sound_tested}

module _ (h : Header) (table : List ℕ) where
  -- a table that passes the test holds the set of the entries in its rows
  held_by_test : is_sound h table ≡ true → HoldsSet h table (entries (shown h table))
  held_by_test passed =
      let t : Tree = shown h table in
      let proper : Proper h.width 0 0 t = shown_proper h table (test_says h table passed).0 in
      record {
        increasing = keys_rise h.width 0 0 t proper;
        below = λ x there. (on_root_path h.width x).1 (each_word (Fitting h.width 0 0) (keys_fit h.width 0 0 t proper) there).on_path;
        number = entries_length t ∙ (test_says h table passed).1;
        tree = one_tree h.width 0 0 t proper;
        each_row_once = each_row_once h table passed;
      }

  -- so a table holds S if it shows no damage and the entries of S, and the count is right
  pub held_by_entries : {S : List Entry} → intact (shown h table) ≡ true → entries (shown h table) ≡ S → length S ≡ h.count → HoldsSet h table S
  held_by_entries undamaged shows whole =
      rw shows at (held_by_test (test_passes h table undamaged (sym (entries_length (shown h table)) ∙ ap length shows ∙ whole)))

-- the words of a set of width W fit into the whole tree
pub set_fits : (W : ℕ) (S : List Entry) → ((x : ℕ) → x ∈ words S → x < 2 ^ W) → AllWords (Fitting W 0 0) S
set_fits W S below = all_words S (λ x there. record { not_below = omega arith; on_path = (on_root_path W x).0 (below x there) })

-- a table that shows the tree of a set shows no damage, and the entries of the set
module _
    (h : Header) (table : List ℕ) (S : List Entry) (rising : Increasing (words S)) (below : (x : ℕ) → x ∈ words S → x < 2 ^ h.width)
    (tree : unnumbered (shown h table) ≡ tree_of h.width S)
  where
    pub tree_intact : intact (shown h table) ≡ true
    tree_intact =
        sym (intact_unnumbered (shown h table)) ∙ ap intact tree
        ∙ proper_intact h.width 0 0 (tree_of h.width S) (set_proper h.width 0 0 S rising (set_fits h.width S below))

    pub tree_entries : entries (shown h table) ≡ S
    tree_entries =
        sym (entries_unnumbered (shown h table)) ∙ ap entries tree ∙ set_entries h.width 0 0 S rising (set_fits h.width S below)

module _ {h : Header} {table : List ℕ} {S : List Entry} (s : HoldsSet h table S) where
  entries_of_set : entries (shown h table) ≡ S
  entries_of_set = tree_entries h table S s.increasing s.below s.tree

  -- a table that holds a set passes the test
  pub test_of_set : is_sound h table ≡ true
  test_of_set =
      test_passes h table (tree_intact h table S s.increasing s.below s.tree)
      (sym (entries_length (shown h table)) ∙ ap length entries_of_set ∙ s.number)

pub sound_is : (h : Header) (table : List ℕ) → SoundIs h table
sound_is h table =
    record {
      the_test = sound_tested h table;
      of_a_set = (
        λ sound. (entries (shown h table), held_by_test h table ((sound_tested h table).0 sound)),
        λ held. (sound_tested h table).1 (test_of_set held.1),
      );
    }

pub one_tree_each : OneTree
one_tree_each =
    record {
      one_tree = λ {h} {h'} {table} {table'} {S} same s s'. s.tree ∙ ap (λ W. tree_of W S) same ∙ sym s'.tree;
      its_entries = λ s. entries_of_set s;
      one_set = λ s s'. sym (entries_of_set s) ∙ entries_of_set s';
    }
