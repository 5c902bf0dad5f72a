-- After `new` and an `add` of each word of a set, in increasing order, the dictionary keeps that set. So the calls lead to a table that holds
-- it. Its last row has the greatest word.
use Prim.Native.Nat.{ℕ, suc, pred, ◌^◌, ◌≤◌, ◌<◌}
use mathlib.Core.Path.{◌≡◌, refl, sym, ap, subst, ◌∙◌}
use mathlib.Core.Bool.{false}
use mathlib.Core.List.Memᴰ
use mathlib.Core.List.{List, [], ◌∷◌, ◌++◌, append-nil, append_assoc}
use native.Mathlib.Omega.{arith}
use lib.Dec.{leb, eqb}
use lib.ListN.{length, length-append}
use borrow.Author.Tests.{lt-leb, ne_eqb}
use Rattle.ordered.specs.Dictionary.{Entry, words, Increasing, insert}
use Rattle.ordered.specs.Source004.{◌∈◌}
use Rattle.ordered.proofs.Lists.{increasing_parts}
use Rattle.ordered.proofs.Parts.{none_all, insert_between}
use Rattle.pretree.specs.Table.{capacity, row_at}
use Rattle.pretree.specs.Add.{entry_for}
use Rattle.pretree.specs.Reply.{wrong_width}
use Rattle.pretree.specs.Whole.{new_reply, new_table}
use Rattle.pretree.specs.Call.{after}
use Rattle.pretree.proofs.Writing.{same_capacity}
use Rattle.pretree.specs.declared.Call.TheVariants.{New, Add}
use Rattle.demands.specs.Expected.{Kept, expected, changed, kept_after, kept_at_end}
use Rattle.demands.specs.Program.{State, state_after, end_state}
use Rattle.demands.specs.Demand2.{HoldsKept, Sequence, empty_state, empty_kept}
use Rattle.demands.specs.Reached.{SetOf, entries_for, asked, adds, making}
use Rattle.demands.proofs.Words.{all_words}
use Rattle.demands.proofs.Owned.{new_kept}
use Rattle.demands.proofs.Added.{greatest_absent, last_row_takes}
use Rattle.demands.proofs.Demand2.{empty_holds, sequences}

-- the set S, with no buffer
abbrev pub keeping : ℕ → List Entry → Kept
keeping W S = record { width = W; set = S; buffer = [] }

-- the words and the length of `entries_for`
pub words_for : (xs : List ℕ) → words (entries_for xs) ≡ xs
words_for [] = refl
words_for (x ∷ xs) = ap (λ ys. x ∷ ys) (words_for xs)

length_for : (xs : List ℕ) → length (entries_for xs) ≡ length xs
length_for [] = refl
length_for (x ∷ xs) = ap suc (length_for xs)

pub append_for : (xs ys : List ℕ) → entries_for (xs ++ ys) ≡ entries_for xs ++ entries_for ys
append_for [] ys = refl
append_for (x ∷ xs) ys = ap (λ es. entry_for x 0 ∷ es) (append_for xs ys)

-- an `add` of a word that is greater than all others, if there is room
module _
    (W room x : ℕ) (S : List Entry) (narrow : x < 2 ^ W) (greatest : (y : ℕ) → y ∈ words S → y < x) (few : length S < room)
  where
    abbrev new : Entry
    new = entry_for x 0

    put_last : insert new S ≡ S ++ (new ∷ [])
    unfolding insert
    put_last = ap (insert new) (sym (append-nil S)) ∙ insert_between new S [] [] (all_words S greatest) none_all

    add_keeps : kept_after (Add x 0) room (keeping W S) ≡ keeping W (S ++ (new ∷ []))
    unfolding kept_after expected changed
    add_keeps = rw (lt-leb (2 ^ W) x narrow, greatest_absent x S greatest, ne_eqb (length S) room (λ same. omega arith), put_last)

adds_keep :
    (W room : ℕ) (S xs : List ℕ) → Increasing (S ++ xs) → ((x : ℕ) → x ∈ S ++ xs → x < 2 ^ W) → length (S ++ xs) ≤ room
    → kept_at_end (adds xs) room (keeping W (entries_for S)) ≡ keeping W (entries_for (S ++ xs))
unfolding kept_at_end adds
adds_keep W room S [] rising below few = rw append-nil
adds_keep W room S (x ∷ xs) rising below few =
    let same : (S ++ (x ∷ [])) ++ xs ≡ S ++ (x ∷ xs) = append_assoc S (x ∷ []) xs in
    let one : kept_after (Add x 0) room (keeping W (entries_for S)) ≡ keeping W (entries_for (S ++ (x ∷ []))) =
    add_keeps W room x (entries_for S) (below x (Memᴰ.append_right S (Memᴰ.head refl)))
    (λ y there. (increasing_parts S (x ∷ xs) rising).2 y x (rw (words_for S) at there) (Memᴰ.head refl))
    (omega (arith, length-append S (x ∷ xs), length_for S))
    ∙ ap (keeping W) (sym (append_for S (x ∷ []))) in
    ap (kept_at_end (adds xs) room) one ∙ adds_keep W room (S ++ (x ∷ [])) xs (rw same rising) (rw same below) (rw same few)
    ∙ ap (λ ys. keeping W (entries_for ys)) same

-- `new` leaves an empty set, whatever was there before
new_empties : (W : ℕ) (s : State) → wrong_width W ≡ false → state_after after (asked (New W)) s ≡ empty_state W (new_table s.table W)
unfolding after new_reply
new_empties W s right = rw right

module _ (W : ℕ) (S : List ℕ) (s : State) (right : wrong_width W ≡ false) (set : SetOf W S) (room : length S ≤ capacity s.table) where
  abbrev empty : State
  empty = empty_state W (new_table s.table W)

  room_after_new : capacity empty.table ≡ capacity s.table
  room_after_new = same_capacity (new_table s.table W) s.table (new_kept s.table W).same_length

  abbrev added : State
  added = end_state after (adds S) empty

  all_added : Sequence after (adds S) empty (empty_kept W)
  all_added = sequences (adds S) empty (empty_kept W) (empty_holds W (new_table s.table W) right)

  as_added : end_state after (making W S) s ≡ added
  unfolding end_state
  as_added = ap (end_state after (adds S)) (new_empties W s right)

  pub made : HoldsKept (end_state after (making W S) s) (keeping W (entries_for S))
  made =
      let all : kept_at_end (adds S) (capacity empty.table) (empty_kept W) ≡ keeping W (entries_for S) =
      adds_keep W (capacity empty.table) [] S set.increasing set.below (omega (arith, room_after_new)) in
      rw as_added (subst (HoldsKept added) all all_added.at_end)

  same_room : capacity (end_state after (making W S) s).table ≡ capacity s.table
  same_room = rw as_added (same_capacity added.table empty.table all_added.same_length ∙ room_after_new)

adds_both : (S xs : List ℕ) (s : State) → end_state after (adds (S ++ xs)) s ≡ end_state after (adds xs) (end_state after (adds S) s)
unfolding end_state adds
adds_both [] xs s = refl
adds_both (x ∷ S) xs s = adds_both S xs (state_after after (asked (Add x 0)) s)

-- the key of the last row
abbrev pub last_key : State → ℕ
last_key s = (row_at s.table (pred s.header.count)).entry.key

-- the words are added in increasing order, so the last row has the greatest word
module _ (W : ℕ) (S : List ℕ) (x : ℕ) (s : State) (right : wrong_width W ≡ false) (set : SetOf W (S ++ (x ∷ [])))
    (room : length (S ++ (x ∷ [])) ≤ capacity s.table)
  where
    others : SetOf W S
    others =
        record {
          increasing = (increasing_parts S (x ∷ []) set.increasing).0;
          below = λ y there. set.below y (Memᴰ.append_left (x ∷ []) there);
        }

    abbrev before_last : State
    before_last = end_state after (making W S) s

    pub greatest_last : last_key (end_state after (making W (S ++ (x ∷ []))) s) ≡ x
    unfolding end_state adds after
    greatest_last =
        let fewer : length S < capacity s.table = omega (arith, length-append S (x ∷ [])) in
        let here = made W S s right others (omega arith) in
        let small : leb (2 ^ before_last.header.width) x ≡ false =
        rw here.width (lt-leb (2 ^ W) x (set.below x (Memᴰ.append_right S (Memᴰ.head refl)))) in
        let not_full : eqb before_last.header.count (capacity before_last.table) ≡ false =
        ne_eqb before_last.header.count (capacity before_last.table) (λ same.
        omega (arith, here.held.holds.number, length_for S, same_room W S s right others (omega arith))) in
        ap last_key (adds_both S (x ∷ []) (state_after after (asked (New W)) s))
        ∙ last_row_takes before_last.header before_last.table (entries_for S) here.held (entry_for x 0) small not_full
        (λ y there. (increasing_parts S (x ∷ []) set.increasing).2 y x (rw (words_for S) at there) (Memᴰ.head refl))
