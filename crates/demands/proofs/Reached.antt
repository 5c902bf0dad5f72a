-- The bounds of demand 3 are reached at every width: the proofs for specs/Reached.antt, over the trees of its three sets.
use Prim.Native.Nat.{ℕ, zero, suc, ◌+◌, ◌*◌, ◌-◌, ◌^◌, ◌≤◌, ◌<◌}
use mathlib.Core.Path.{◌≡◌, refl, sym, ap, ◌∙◌}
use mathlib.Core.Bool.{Bool, true, false}
use mathlib.Core.List.{List, [], ◌∷◌, append-nil}
use native.Mathlib.Nat.{add-mul, mul_assoc, one-mul, zero-mul, pow-succ'}
use native.Mathlib.Omega.{arith}
use lib.Dec.{ltb}
use lib.Pow.{pow_pos, pow_mono, shl-shr, high, ones_lt}
use lib.ListN.{length}
use borrow.Author.Tests.{lt-ltb, le-ltb, le-leb}
use Rattle.ordered.specs.Such.{Perhaps, no_such, such, last_such}
use Rattle.ordered.specs.Dictionary.{Entry, words}
use Rattle.ordered.specs.Word.{Side, left, right, side}
use Rattle.ordered.specs.Tree.{Tree, none, row, exists, entries, listing, unnumbered, tree_of}
use Rattle.ordered.specs.Proper.{Fitting, Proper}
use Rattle.ordered.specs.Way.{Way, Step, Rule, to, ending, passing, way, rows, joined, following, passing_equal, pushing, down, staying}
use Rattle.ordered.specs.Reading.{Found, rows_of, end_if, skipped_right, next_by, has as has_over, next as next_over, prev as prev_over, first as first_over, last as last_over}
use Rattle.ordered.specs.Change.{way_ends_at, adding_by, adding, erasing_by, erasing}
use Rattle.ordered.proofs.Bits.{on_root_path, whole_path, side_of_part}
use Rattle.ordered.proofs.OneTree.{keys_fit, keys_rise, one_tree}
use Rattle.pretree.specs.declared.Row.{Row}
use Rattle.pretree.specs.Add.{entry_for}
use Rattle.demands.specs.RowsRead.{rows_over}
use Rattle.demands.specs.Reached.{chain, parted_chain, forked_chain, entries_for, SetOf, Reached, ReachedBeyond}
use Rattle.demands.proofs.Words.{each_word}
use Rattle.demands.proofs.Unfolding.{none_proper}
use Rattle.demands.proofs.Spelled.{Spelled, no_row, a_row}
use Rattle.demands.proofs.Making.{words_for, append_for}

-- the tree of a chain
pub ladder : ℕ → ℕ → Tree
ladder zero p = row 0 (entry_for p 0) none none
ladder (suc m) p = row 0 (entry_for (p * 2 ^ suc m) 0) none (ladder m (p * 2 + 1))

ladder_entries : (m p : ℕ) → entries (ladder m p) ≡ entries_for (chain m p)
unfolding ladder entries chain
ladder_entries zero p = refl
ladder_entries (suc m) p = rw (ladder_entries m (p * 2 + 1))

ladder_unnumbered : (m p : ℕ) → unnumbered (ladder m p) ≡ ladder m p
unfolding ladder unnumbered
ladder_unnumbered zero p = refl
ladder_unnumbered (suc m) p = rw (ladder_unnumbered m (p * 2 + 1))

ladder_exists : (m p : ℕ) → exists (ladder m p) ≡ true
unfolding ladder
ladder_exists zero p = refl
ladder_exists (suc m) p = refl

-- a path with one more bit, a 1, and then zeros
one_more : (m p : ℕ) → (p * 2 + 1) * 2 ^ m ≡ p * 2 ^ suc m + 2 ^ m
one_more m p = add-mul (p * 2) 1 (2 ^ m) ∙ rw (mul_assoc p 2 (2 ^ m), ← pow-succ' 2 m, one-mul (2 ^ m))

ladder_proper : (m p low : ℕ) → low ≤ p * 2 ^ m → Proper m p low (ladder m p)
unfolding ladder Proper
ladder_proper zero p low h =
    record { key_fits = record { not_below = omega arith; on_path = whole_path p }; parts = elim [ left ↦ refl | right ↦ refl ] }
ladder_proper (suc m) p low h =
    record {
      key_fits = record { not_below = h; on_path = shl-shr p (suc m) };
      parts =
          elim [
            | left ↦ none_proper m (p * 2 + 0) (suc (p * 2 ^ suc m))
            | right ↦ ladder_proper m (p * 2 + 1) (suc (p * 2 ^ suc m)) (omega (arith, one_more m p, pow_pos m))
          ];
    }

-- the last word of a chain: the path, and then ones
abbrev pub top : ℕ → ℕ → ℕ
top m p = p * 2 ^ m + (2 ^ m - 1)

pub top_step : (m p : ℕ) → top m (p * 2 + 1) ≡ top (suc m) p
top_step m p = omega (arith, one_more m p, pow_pos m)

-- a way down a chain to its last word, which it reads at depth W
record Rightmost (m k : ℕ) (w : Way) : Type 0 where
  steps : length w.passed ≡ m
  bits_left : w.bits ≡ 0
  pub ends : w.end ≡ row 0 (entry_for k 0) none none
  nothing_aside : last_such skipped_right w.passed ≡ no_such

-- a rule that turns right at each row above the word k
abbrev TurnsRight : ℕ → Rule → Type 0
TurnsRight k f =
    (m p : ℕ) → top m (p * 2 + 1) ≡ k → f m (entry_for (p * 2 ^ suc m) 0) none (ladder m (p * 2 + 1)) ≡ to right

rightmost : (k : ℕ) (f : Rule) → TurnsRight k f → (m p : ℕ) → top m p ≡ k → Rightmost m k (way f m (ladder m p))
unfolding ladder way last_such
rightmost k f turns zero p is_top =
    let same : p ≡ k = omega arith in
    record { steps = refl; bits_left = refl; ends = rw same; nothing_aside = refl }
rightmost k f turns (suc m) p is_top =
    let here : top m (p * 2 + 1) ≡ k = top_step m p ∙ is_top in
    let r = rightmost k f turns m (p * 2 + 1) here in
    rw (turns m p here)
    (record { steps = ap suc r.steps; bits_left = r.bits_left; ends = r.ends; nothing_aside = rw r.nothing_aside })

module _ (k m p : ℕ) (below : top m (p * 2 + 1) ≡ k) where
  goes_right : side m k ≡ right
  goes_right = side_of_part m k p right (rw (← below) (high (p * 2 + 1) m (ones_lt m)))

  is_over : p * 2 ^ suc m < k
  is_over = omega (arith, one_more m p, pow_pos m)

following_right : (k : ℕ) → TurnsRight k (following k)
unfolding following
following_right k m p below = rw (lt-ltb (p * 2 ^ suc m) k (is_over k m p below), goes_right k m p below)

passing_right : (k : ℕ) → TurnsRight k (passing_equal k)
unfolding passing_equal
passing_right k m p below =
    let over : p * 2 ^ suc m < k = is_over k m p below in
    rw (le-leb (p * 2 ^ suc m) k (omega arith), goes_right k m p below)

down_right : (k : ℕ) → TurnsRight k (down right)
unfolding down
down_right k m p below = rw (ladder_exists m (p * 2 + 1))

rightmost_rows : {m k : ℕ} {w : Way} → Rightmost m k w → rows w ≡ m + 1
unfolding rows
rightmost_rows r = rw r.ends (omega arith)

-- If a proper tree without row numbers lists the words of S, it is the PreTree of S, and S is a set.
module _ (W : ℕ) (t : Tree) (S : List ℕ) (proper : Proper W 0 0 t) (lists : entries t ≡ entries_for S) where
  its_tree : unnumbered t ≡ t → tree_of W (entries_for S) ≡ t
  its_tree bare = ap (tree_of W) (sym lists) ∙ sym (one_tree W 0 0 t proper) ∙ bare

  its_set : SetOf W S
  its_set =
      let set : SetOf W (listing t) =
      record {
        increasing = keys_rise W 0 0 t proper;
        below = λ x there. (on_root_path W x).1 (each_word (Fitting W 0 0) (keys_fit W 0 0 t proper) there).on_path;
      } in
      rw (ap words lists ∙ words_for S) at set

module _ (W : ℕ) where
  chain_proper : Proper W 0 0 (ladder W 0)
  chain_proper = ladder_proper W 0 0 (omega arith)

  chain_tree : tree_of W (entries_for (chain W 0)) ≡ ladder W 0
  chain_tree = its_tree W (ladder W 0) (chain W 0) chain_proper (ladder_entries W 0) (ladder_unnumbered W 0)

  down_chain : (f : Rule) → TurnsRight (2 ^ W - 1) f → Rightmost W (2 ^ W - 1) (way f W (ladder W 0))
  down_chain f turns = rightmost (2 ^ W - 1) f turns W 0 (rw (zero-mul (2 ^ W)) (omega arith))

-- no way goes on from the last row, at depth W
joined_at_end : {m k : ℕ} {w : Way} (f : Rule) → Rightmost m k w → rows (joined w (way f w.bits w.end)) ≡ m + 1
unfolding joined way rows
joined_at_end f r = rw (r.bits_left, r.ends, append-nil) (omega arith)

-- so `add` and `del` of the last word read only the chain, whether the word is found or not
module _ {m k : ℕ} {w : Way} (r : Rightmost m k w) where
  add_ends : (e : Entry) (b : Bool)
      → let push : Way = way pushing w.bits w.end in rows (adding_by e w push (joined w push) b).rows_read ≡ m + 1
  add_ends e true = rightmost_rows r
  add_ends e false = joined_at_end pushing r

  del_ends : (b : Bool)
      → let stretch : Way = way (down left) w.bits w.end in rows (erasing_by w stretch (joined w stretch) b).rows_read ≡ m + 1
  del_ends true = joined_at_end (down left) r
  del_ends false = rightmost_rows r

root_alone : (m p : ℕ) → rows (way staying m (ladder m p)) ≡ 1
unfolding ladder way staying rows
root_alone zero p = refl
root_alone (suc m) p = refl

pub reached : (W : ℕ) → Reached W
unfolding rows_over rows_of has_over first_over last_over adding erasing
reached W =
    let k : ℕ = 2 ^ W - 1 in
    let w : Way = way (following k) W (ladder W 0) in
    let r : Rightmost W k w = down_chain W (following k) (following_right k) in
    record {
      a_set = its_set W (ladder W 0) (chain W 0) (chain_proper W) (ladder_entries W 0);
      has_reads = rw (chain_tree W) (omega (arith, rightmost_rows r));
      add_reads = λ serial. rw (chain_tree W) (add_ends r (entry_for k serial) (way_ends_at k w));
      del_reads = rw (chain_tree W) (del_ends r (way_ends_at k w));
      first_reads = rw (chain_tree W) (omega (arith, root_alone W 0));
      last_reads = rw (chain_tree W) (omega (arith, rightmost_rows (down_chain W (down right) (down_right k))));
    }

rows_passing : (s : Step) (w : Way) → rows (passing s w) ≡ suc (rows w)
unfolding rows
rows_passing s w = omega arith

-- "Otherwise take the deepest row where the way went left and a right link exists; its right child is read"
child_read : (w : Way) (s : Step) {q : Perhaps Found} {p : Perhaps Step} → q ≡ no_such → p ≡ such s
    → rows_of (next_by w q p).ways ≡ rows w + rows (way staying s.below s.right_part)
unfolding rows_of
child_read w s none_greater deepest = rw (none_greater, deepest) (omega arith)

-- the tree of a parted chain, with n + 2 bits
module _ (n : ℕ) where
  abbrev lone : Tree
  lone = row 0 (entry_for (2 ^ suc n) 0) none none

  abbrev low_part : Tree
  low_part = row 0 (entry_for 1 0) none (ladder n 1)

  abbrev parted : Tree
  parted = row 0 (entry_for 0 0) low_part lone

  pub less_one : suc (suc n) - 1 ≡ suc n
  less_one = omega arith

  less_two : suc (suc n) - 2 ≡ n
  less_two = omega arith

  parted_lists : entries parted ≡ entries_for (parted_chain (suc (suc n)))
  unfolding entries parted_chain
  parted_lists = rw (less_two, less_one, ladder_entries n 1, append_for (chain n 1) (2 ^ suc n ∷ []))

  parted_unnumbered : unnumbered parted ≡ parted
  unfolding unnumbered
  parted_unnumbered = rw (ladder_unnumbered n 1)

  parted_proper : 1 ≤ n → Proper (suc (suc n)) 0 0 parted
  unfolding Proper
  parted_proper some =
      let two : 2 ^ 1 ≤ 2 ^ n = pow_mono some in
      record {
        key_fits = record { not_below = omega arith; on_path = (on_root_path (suc (suc n)) 0).0 (pow_pos (suc (suc n))) };
        parts =
            elim [
              | left ↦
                  record {
                    key_fits = record { not_below = omega arith; on_path = (on_root_path (suc n) 1).0 (omega arith) };
                    parts = elim [ left ↦ none_proper n 0 2 | right ↦ ladder_proper n 1 2 (omega arith) ];
                  }
              | right ↦
                  record {
                    key_fits = record { not_below = pow_pos (suc n); on_path = rw one-mul at (shl-shr 1 (suc n)) };
                    parts = elim [ left ↦ none_proper n 2 (suc (2 ^ suc n)) | right ↦ none_proper n 3 (suc (2 ^ suc n)) ];
                  }
            ];
      }

  abbrev root_step : Side → Step
  root_step s = record { at = 0; entry = entry_for 0 0; turn = s; left_part = low_part; right_part = lone; below = suc n }

  abbrev low_step : Step
  low_step = record { at = 0; entry = entry_for 1 0; turn = right; left_part = none; right_part = ladder n 1; below = n }

  -- 2^(n+1) goes right at the root, and the greatest word below it goes left
  right_side : side (suc n) (2 ^ suc n) ≡ right
  right_side = side_of_part (suc n) (2 ^ suc n) 0 right (rw one-mul at (shl-shr 1 (suc n)))

  left_side : side (suc n) (2 ^ suc n - 1) ≡ left
  left_side = side_of_part (suc n) (2 ^ suc n - 1) 0 left ((on_root_path (suc n) (2 ^ suc n - 1)).0 (ones_lt (suc n)))

  last_left : top n 1 ≡ 2 ^ suc n - 1
  last_left = omega (arith, pow_pos n)

  -- "go down from that child, right link first": the whole chain on the left
  low_rows : rows (way (down right) (suc n) low_part) ≡ n + 2
  unfolding way down
  low_rows =
      let r = rightmost (top n 1) (down right) (down_right (top n 1)) n 1 refl in
      rw (ladder_exists n 1) (rows_passing low_step (way (down right) n (ladder n 1)) ∙ omega (arith, rightmost_rows r))

  prev_way : way (following (2 ^ suc n)) (suc (suc n)) parted ≡ passing (root_step right) (ending (suc n) lone)
  unfolding way following
  prev_way = rw (lt-ltb 0 (2 ^ suc n) (pow_pos (suc n)), right_side, le-ltb (2 ^ suc n) (2 ^ suc n) (omega arith))

  prev_parted : rows_of (prev_over (suc (suc n)) (2 ^ suc n) parted).ways ≡ suc (suc n) + 2
  unfolding prev_over rows_of rows last_such
  prev_parted =
      rw (prev_way, le-ltb (2 ^ suc n) (2 ^ suc n) (omega arith), lt-ltb 0 (2 ^ suc n) (pow_pos (suc n))) (omega (arith, low_rows))

  abbrev last_word : ℕ
  last_word = 2 ^ suc n - 1

  abbrev chain_way : Way
  chain_way = way (passing_equal last_word) n (ladder n 1)

  next_way : way (passing_equal last_word) (suc (suc n)) parted ≡ passing (root_step left) (passing low_step chain_way)
  unfolding way passing_equal
  next_way =
      rw (
        le-leb 0 last_word (omega arith),
        left_side,
        le-leb 1 last_word (omega (arith, pow_pos n)),
        side_of_part n last_word 0 right (rw (← last_left) (high 1 n (ones_lt n))),
      )

  lone_row : rows (way staying (suc n) lone) ≡ 1
  unfolding way staying rows
  lone_row = refl

  next_parted : rows_of (next_over (suc (suc n)) last_word parted).ways ≡ suc (suc n) + 2
  unfolding next_over last_such
  next_parted =
      let w : Way = passing (root_step left) (passing low_step chain_way) in
      let r : Rightmost n last_word chain_way = rightmost last_word (passing_equal last_word) (passing_right last_word) n 1 last_left in
      let none_greater : end_if (ltb last_word) w ≡ no_such = rw (r.ends, le-ltb last_word last_word (omega arith)) in
      let deepest : last_such skipped_right w.passed ≡ such (root_step left) = rw r.nothing_aside in
      rw next_way
      (child_read w (root_step left) none_greater deepest
      ∙ omega (arith, rows_passing (root_step left) (passing low_step chain_way), rows_passing low_step chain_way, rightmost_rows r, lone_row))

  parted_reached : 1 ≤ n → ReachedBeyond (suc (suc n))
  unfolding rows_over
  parted_reached some =
      let W : ℕ = suc (suc n) in
      let tree : tree_of W (entries_for (parted_chain W)) ≡ parted = its_tree W parted (parted_chain W) (parted_proper some) parted_lists parted_unnumbered in
      record {
        a_set = its_set W parted (parted_chain W) (parted_proper some) parted_lists;
        next_reads = rw (tree, less_one) next_parted;
        prev_reads = rw (tree, less_one) prev_parted;
      }

  -- the tree of a forked chain
  abbrev row_of_one : Tree
  row_of_one = row 0 (entry_for 1 0) none none

  abbrev fork : Tree
  fork = row 0 (entry_for 0 0) row_of_one (ladder (suc n) 1)

  abbrev fork_step : Step
  fork_step = record { at = 0; entry = entry_for 0 0; turn = right; left_part = row_of_one; right_part = ladder (suc n) 1; below = suc n }

  fork_lists : entries fork ≡ entries_for (forked_chain (suc (suc n)))
  unfolding entries forked_chain
  fork_lists = rw (less_one, ladder_entries (suc n) 1)

  fork_unnumbered : unnumbered fork ≡ fork
  unfolding unnumbered
  fork_unnumbered = rw (ladder_unnumbered (suc n) 1)

  fork_proper : Proper (suc (suc n)) 0 0 fork
  unfolding Proper
  fork_proper =
      record {
        key_fits = record { not_below = omega arith; on_path = (on_root_path (suc (suc n)) 0).0 (pow_pos (suc (suc n))) };
        parts =
            elim [
              | left ↦
                  record {
                    key_fits = record { not_below = omega arith; on_path = (on_root_path (suc n) 1).0 (omega (arith, pow_pos n)) };
                    parts = elim [ left ↦ none_proper n 0 2 | right ↦ none_proper n 1 2 ];
                  }
              | right ↦ ladder_proper (suc n) 1 1 (omega (arith, pow_pos n))
            ];
      }

  pub fork_tree : tree_of (suc (suc n)) (entries_for (forked_chain (suc (suc n)))) ≡ fork
  fork_tree = its_tree (suc (suc n)) fork (forked_chain (suc (suc n))) fork_proper fork_lists fork_unnumbered

  pub fork_set : SetOf (suc (suc n)) (forked_chain (suc (suc n)))
  fork_set = its_set (suc (suc n)) fork (forked_chain (suc (suc n))) fork_proper fork_lists

  abbrev pub greatest : ℕ
  greatest = 2 ^ suc (suc n) - 1

  pub greatest_top : top (suc n) 1 ≡ greatest
  greatest_top = omega (arith, pow_pos n)

  -- the way of the greatest word turns right at the root, and goes down the chain
  pub greatest_rows : rows (way (following greatest) (suc (suc n)) fork) ≡ suc (suc n) + 1
  unfolding way following
  greatest_rows =
      let r = rightmost greatest (following greatest) (following_right greatest) (suc n) 1 greatest_top in
      rw (lt-ltb 0 greatest (omega (arith, pow_pos n)), goes_right greatest (suc n) 0 greatest_top)
      (rows_passing fork_step (way (following greatest) (suc n) (ladder (suc n) 1)) ∙ omega (arith, rightmost_rows r))

  -- 1 turns left at the root, and its row has no parts
  one_left : side (suc n) 1 ≡ left
  one_left = side_of_part (suc n) 1 0 left ((on_root_path (suc n) 1).0 (omega (arith, pow_pos n)))

  own_hole : (i j : ℕ) (r : Tree) → (erasing (suc (suc n)) 1 (row i (entry_for 0 0) (row j (entry_for 1 0) none none) r)).hole ≡ j
  unfolding erasing way following down
  own_hole i j r = rw one_left

  -- so `del` 1 makes the row of 1 the hole, in any table
  pub hole_of_one : {rows : ℕ → Row} {c : ℕ} {t : Tree} → Spelled rows c t → unnumbered t ≡ fork → (rows (erasing (suc (suc n)) 1 t).hole).entry.key ≡ 1
  unfolding unnumbered
  hole_of_one (a_row {i} {e} {r} s (a_row {i = j} {e = f} u no_row no_row) v) same =
      let root : e ≡ entry_for 0 0 = cc in
      let one : f ≡ entry_for 1 0 = cc in
      rw (root, one, own_hole i j r) (ap (λ x. x.entry.key) u.row_is ∙ ap (λ x. x.key) one)
  hole_of_one no_row same = let never : ◌≡◌ {A = ℕ} 0 1 = cc in absurd (omega arith)
  hole_of_one (a_row s no_row v) same = let never : ◌≡◌ {A = ℕ} 0 1 = cc in absurd (omega arith)
  hole_of_one (a_row s (a_row u no_row (a_row x y z)) v) same = let never : ◌≡◌ {A = ℕ} 0 1 = cc in absurd (omega arith)
  hole_of_one (a_row s (a_row u (a_row x y z) q) v) same = let never : ◌≡◌ {A = ℕ} 0 1 = cc in absurd (omega arith)

pub reached_beyond : (W : ℕ) → 3 ≤ W → ReachedBeyond W
reached_beyond zero three = absurd (omega arith)
reached_beyond (suc zero) three = absurd (omega arith)
reached_beyond (suc (suc n)) three = parted_reached n (omega arith)
