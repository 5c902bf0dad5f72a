-- The bounds of demand 3 are reached by calls, and none can be lowered: the proofs of the second half of specs/Reached.antt.
use Prim.Native.Nat.{ℕ, zero, suc, pred, ◌+◌, ◌*◌, ◌-◌, ◌^◌, ◌≤◌, ◌<◌}
use mathlib.Core.Path.{◌≡◌, refl, sym, ap, subst, ◌∙◌}
use mathlib.Core.Bool.{Bool, true, false, not, ◌&&◌}
use mathlib.Core.List.Memᴰ
use mathlib.Core.List.{List, [], ◌∷◌, ◌++◌}
use native.Mathlib.Nat.{zero-add, zero-mul}
use native.Mathlib.Omega.{arith}
use lib.Dec.{leb, eqb}
use lib.Pow.{pow_pos, pow_mono, pow-lt, ones_lt}
use lib.ListN.{length, replicate, length-append, length-replicate}
use borrow.Author.Tests.{le-ltb, lt-leb, eqb-false, ne_eqb}
use Rattle.std.specs.Prelude.{if◌then◌else◌}
use Rattle.ordered.specs.Such.{first_such, is_there}
use Rattle.ordered.specs.Dictionary.{Entry, Increasing, none_increasing, one_increasing, lookup}
use Rattle.ordered.specs.Source004.{◌∈◌}
use Rattle.ordered.specs.Tree.{tree_of}
use Rattle.ordered.specs.Way.{way, rows, following}
use Rattle.ordered.specs.Change.{erasing}
use Rattle.ordered.proofs.Lists.{above_less}
use Rattle.ordered.proofs.Dictionary.{lookup_whether}
use Rattle.ordered.proofs.OneTree.{words_length}
use Rattle.pretree.specs.declared.Header.{Header}
use Rattle.pretree.specs.declared.Reply.{Reply}
use Rattle.pretree.specs.Table.{row_words, capacity, row_at}
use Rattle.pretree.specs.Unfold.{shown}
use Rattle.pretree.specs.Reply.{fresh, wrong_width}
use Rattle.pretree.specs.Call.{after}
use Rattle.pretree.specs.declared.Call.{Call}
use Rattle.pretree.specs.declared.Call.TheVariants.{Add, Del, Has, Next, Prev, First, Last}
use Rattle.demands.specs.Program.{State, outcome, end_state}
use Rattle.demands.specs.Demand2.{Holding, HoldsKept}
use Rattle.demands.specs.RowsRead.{rows_over, moves, moved_over, refused_over, most_rows, most_moved}
use Rattle.demands.specs.Reached.{chain, parted_chain, forked_chain, entries_for, SetOf, making, rows_read, moving_count, ReadOnce, ReachedByCalls, Bounds, LeastBounds}
use Rattle.demands.proofs.RowsRead.{rows_exact, rows_bounded}
use Rattle.demands.proofs.Added.{shown_spelled}
use Rattle.demands.proofs.Removed.{three_rows}
use Rattle.demands.proofs.Making.{keeping, words_for, made, last_key, greatest_last}
use Rattle.demands.proofs.Reached.{top, top_step, reached, less_one, fork_tree, fork_set, greatest, greatest_top, greatest_rows, hole_of_one, reached_beyond}

chain_length : (m p : ℕ) → length (chain m p) ≡ m + 1
unfolding chain
chain_length zero p = refl
chain_length (suc m) p = omega (arith, chain_length m (p * 2 + 1))

parted_length : (W : ℕ) → 3 ≤ W → length (parted_chain W) ≡ W + 2
unfolding parted_chain
parted_length W three = rw length-append (omega (arith, chain_length (W - 2) 1))

forked_length : (W : ℕ) → 2 ≤ W → length (forked_chain W) ≡ W + 2
unfolding forked_chain
forked_length W two = omega (arith, chain_length (W - 1) 1)

top_in : (m p : ℕ) → top m p ∈ chain m p
unfolding chain
top_in zero p = let same : top 0 p ≡ p = omega arith in Memᴰ.head same
top_in (suc m) p = Memᴰ.tail (rw (top_step m p) at (top_in m (p * 2 + 1)))

top_there : (m p : ℕ) → is_there (lookup (top m p) (entries_for (chain m p))) ≡ true
top_there m p = (lookup_whether (top m p) (entries_for (chain m p))).1 (rw (words_for (chain m p)) (top_in m p))

right_width : (W : ℕ) → 1 ≤ W → W ≤ 32 → wrong_width W ≡ false
right_width W some fits = rw (ne_eqb W 0 (λ e. omega arith), le-ltb 32 W fits)

-- The calls that make a set lead to a table that holds it. On that table a call that is not refused reads the rows of its ways.
module _ (W : ℕ) (some : 1 ≤ W) (fits : W ≤ 32) (S : List ℕ) (set : SetOf W S) where
  read_once : (c : Call) → ((room space : ℕ) → refused_over c W (entries_for S) room space ≡ false)
      → ReadOnce after rows_read W S c (rows_over c W (entries_for S))
  read_once c accepted s room =
      let end : State = end_state after (making W S) s in
      let made_here : HoldsKept end (keeping W (entries_for S)) = made W S s (right_width W some fits) set room in
      let P : ℕ → Type 0 = λ width. (buffer : List ℕ) → (outcome after (record { call = c; buffer = buffer }) end).reply.rows
      ≡ (if refused_over c width (entries_for S) (capacity end.table) (length buffer) then 0 else rows_over c width (entries_for S)) in
      let exact : P end.header.width =
      λ buffer. (rows_exact c end.header end.table buffer (entries_for S) made_here.held.right_header made_here.held.holds).rows_read in
      let exact_here : P W = subst P made_here.width exact in
      record {
        width = made_here.width;
        held = made_here.held;
        reads = λ buffer. exact_here buffer ∙ rw (accepted (capacity end.table) (length buffer));
      }

-- the last word of a chain is its top
chain_ends : (m p : ℕ) → (T : List ℕ) × (chain m p ≡ T ++ (top m p ∷ []))
unfolding chain
chain_ends zero p =
    let same : p ≡ top 0 p = omega arith in
    ([], ap (λ x. x ∷ []) same)
chain_ends (suc m) p =
    let below = chain_ends m (p * 2 + 1) in
    (p * 2 ^ suc m ∷ below.0, ap (λ xs. p * 2 ^ suc m ∷ xs) (rw (top_step m p) at below.1))

module _ (n : ℕ) where
  abbrev forked : List ℕ
  forked = forked_chain (suc (suc n))

  one_less : 1 < greatest n
  one_less = omega (arith, pow_pos n)

  -- the moving count of `del` 1 on every table that holds a forked chain with its greatest word in the last row
  fork_moved :
      (h : Header) (table buffer : List ℕ) → Holding h table (entries_for forked) → h.width ≡ suc (suc n) → (row_at table (pred h.count)).entry.key ≡ greatest n
      → (after (Del 1) h table buffer).reply.moved ≡ suc (suc n) + 1
  unfolding refused_over moved_over moves forked_chain lookup first_such
  fork_moved h table buffer H width last =
      let hole : ℕ = (erasing h.width 1 (shown h table)).hole in
      let small : leb (2 ^ h.width) 1 ≡ false = rw width (lt-leb (2 ^ suc (suc n)) 1 (omega (arith, one_less))) in
      let holds_one : (row_at table hole).entry.key ≡ 1 =
      ap (λ W. (row_at table (erasing W 1 (shown h table)).hole).entry.key) width
      ∙ hole_of_one n (shown_spelled H) (H.holds.tree ∙ ap (λ W. tree_of W (entries_for forked)) width ∙ fork_tree n) in
      let goes : eqb hole (pred h.count) ≡ false =
      ne_eqb hole (pred h.count) (λ same. omega (arith, one_less, ap (λ j. (row_at table j).entry.key) same)) in
      (rows_exact (Del 1) h table buffer (entries_for forked) H.right_header H.holds).moving_count ∙ rw (small, goes, last, width, fork_tree n) (greatest_rows n)

  -- the same after `new` and an `add` of each word: then the greatest word is in the last row
  fork_reads : suc (suc n) ≤ 32 → ReadOnce after moving_count (suc (suc n)) forked (Del 1) (suc (suc n) + 1)
  unfolding forked_chain
  fork_reads fits s room =
      let W : ℕ = suc (suc n) in
      let right : wrong_width W ≡ false = right_width W (omega arith) fits in
      let end : State = end_state after (making W forked) s in
      let here : HoldsKept end (keeping W (entries_for forked)) = made W forked s right (fork_set n) room in
      let below = chain_ends (suc n) 1 in
      let ends : forked ≡ (0 ∷ 1 ∷ below.0) ++ (greatest n ∷ []) =
      rw (less_one n) (ap (λ xs. 0 ∷ 1 ∷ xs) (rw (greatest_top n) at below.1)) in
      let last : last_key end ≡ greatest n =
      subst (λ xs. SetOf W xs → length xs ≤ capacity s.table → last_key (end_state after (making W xs) s) ≡ greatest n) (sym ends)
      (greatest_last W (0 ∷ 1 ∷ below.0) (greatest n) s right) (fork_set n) room in
      record {
        width = here.width;
        held = here.held;
        reads = λ buffer. fork_moved end.header end.table buffer here.held here.width last;
      }

moved_once : (W : ℕ) → 2 ≤ W → W ≤ 32 → ReadOnce after moving_count W (forked_chain W) (Del 1) (W + 1)
moved_once zero two fits = absurd (omega arith)
moved_once (suc zero) two fits = absurd (omega arith)
moved_once (suc (suc n)) two fits = fork_reads n fits

pub reached_by_calls : (W : ℕ) → 1 ≤ W → W ≤ 32 → ReachedByCalls after W
unfolding refused_over
reached_by_calls W some fits =
    let on_chain = read_once W some fits (chain W 0) (reached W).a_set in
    let small : leb (2 ^ W) (2 ^ W - 1) ≡ false = lt-leb (2 ^ W) (2 ^ W - 1) (ones_lt W) in
    let half : 2 ^ (W - 1) < 2 ^ W = pow-lt (omega arith) in
    let there : is_there (lookup (2 ^ W - 1) (entries_for (chain W 0))) ≡ true = rw (zero-mul, zero-add) at (top_there W 0) in
    record {
      has_reads = rw (reached W).has_reads at (on_chain (Has (2 ^ W - 1)) (λ room space. small));
      add_reads = λ serial. rw ((reached W).add_reads serial) at (on_chain (Add (2 ^ W - 1) serial) (λ room space. rw (small, there)));
      del_reads = rw (reached W).del_reads at (on_chain (Del (2 ^ W - 1)) (λ room space. small));
      first_reads = rw (reached W).first_reads at (on_chain First (λ room space. refl));
      last_reads = rw (reached W).last_reads at (on_chain Last (λ room space. refl));
      next_reads =
          λ three.
          rw (reached_beyond W three).next_reads at
          (on_parted three (Next (2 ^ (W - 1) - 1)) (λ room space. lt-leb (2 ^ W) (2 ^ (W - 1) - 1) (omega arith)));
      prev_reads =
          λ three.
          rw (reached_beyond W three).prev_reads at (on_parted three (Prev (2 ^ (W - 1))) (λ room space. lt-leb (2 ^ W) (2 ^ (W - 1)) half));
      del_moves = λ two. moved_once W two fits;
    }
  where
    on_parted : 3 ≤ W → (c : Call) → ((room space : ℕ) → refused_over c W (entries_for (parted_chain W)) room space ≡ false)
        → ReadOnce after rows_read W (parted_chain W) c (rows_over c W (entries_for (parted_chain W)))
    on_parted three = read_once W some fits (parted_chain W) (reached_beyond W three).a_set

-- an increasing list of words from `low` up to but not including n is no longer than n − low
increasing_few : (low n : ℕ) {xs : List ℕ} → Increasing xs → ((x : ℕ) → x ∈ xs → low ≤ x) → ((x : ℕ) → x ∈ xs → x < n) → length xs ≤ n - low
increasing_few low n none_increasing from below = omega arith
increasing_few low n (one_increasing {x} a h) from below =
    omega (
      arith,
      from x (Memᴰ.head refl),
      below x (Memᴰ.head refl),
      increasing_few (suc x) n h (λ y there. above_less a there) (λ y there. below y (Memᴰ.tail there)),
    )

-- a set of one-bit words has at most two words, and a move needs three rows
module _ (k : ℕ) (h : Header) (table buffer : List ℕ) (S : List Entry) (H : Holding h table S) (narrow : h.width < 2) where
  few_rows : h.count ≤ 2
  few_rows =
      let two : 2 ^ h.width ≤ 2 ^ 1 = pow_mono {j = 1} (omega arith) in
      omega (arith, increasing_few 0 (2 ^ h.width) H.holds.increasing (λ x there. omega arith) H.holds.below, words_length S, H.holds.number)

  nothing_moves : (after (Del k) h table buffer).reply.moved ≡ 0
  unfolding refused_over moved_over moves
  nothing_moves =
      (rows_exact (Del k) h table buffer S H.right_header H.holds).moving_count
      ∙ by_cases (leb (2 ^ h.width) k) refl (is_there (lookup k S)) refl (eqb hole last) refl
    where
      hole : ℕ
      hole = (erasing h.width k (shown h table)).hole

      last : ℕ
      last = pred h.count

      second : ℕ
      second = rows (way (following (row_at table last).entry.key) h.width (tree_of h.width S))

      by_cases : (wide : Bool) → leb (2 ^ h.width) k ≡ wide → (there : Bool) → is_there (lookup k S) ≡ there → (same : Bool) → eqb hole last ≡ same
          → (if wide then 0 else if there && not same then second else 0) ≡ 0
      by_cases true small there is same how = refl
      by_cases false small false is same how = refl
      by_cases false small true is true how = refl
      by_cases false small true is false how = absurd (omega (arith, few_rows, three_rows h table S H k small is (eqb-false hole last how)))

-- a table with room for n words
roomy : ℕ → State
roomy n = record { header = fresh 1; table = replicate (row_words * n) 0 }

roomy_capacity : (n : ℕ) → n ≤ 65535 → capacity (roomy n).table ≡ n
unfolding roomy capacity
roomy_capacity n few = rw length-replicate (omega arith)

-- a count that is reported on a table that holds a set is at most any bound
module _ {W m : ℕ} {S : List ℕ} (count : Reply → ℕ) (call : ℕ → Call) (k : ℕ) (few : length S ≤ 65535) (read : ReadOnce after count W S (call k) m)
  where
    no_less : (n : ℕ) → Bounds after count call W n → m ≤ n
    no_less n bounds =
        let r = read (roomy (length S)) (omega (arith, roomy_capacity (length S) few)) in
        let end : State = end_state after (making W S) (roomy (length S)) in
        omega (arith, r.reads [], bounds k end.header end.table [] (entries_for S) r.held r.width)

pub least_bounds : (W : ℕ) → 1 ≤ W → W ≤ 32 → LeastBounds after W
unfolding most_rows most_moved
least_bounds W some fits =
    let r = reached_by_calls W some fits in
    let few : length (chain W 0) ≤ 65535 = omega (arith, chain_length W 0) in
    let top_word : ℕ = 2 ^ W - 1 in
    record {
      has_bound = record { bounds = bounded Has (λ k h e. omega arith); no_lower = no_less rows_read Has top_word few r.has_reads };
      add_bound =
          λ serial.
          record {
            bounds = bounded (λ k. Add k serial) (λ k h e. omega arith);
            no_lower = no_less rows_read (λ k. Add k serial) top_word few (r.add_reads serial);
          };
      del_bound = record { bounds = bounded Del (λ k h e. omega arith); no_lower = no_less rows_read Del top_word few r.del_reads };
      first_bound = record { bounds = bounded (λ k. First) (λ k h e. omega arith); no_lower = no_less rows_read (λ k. First) 0 few r.first_reads };
      last_bound = record { bounds = bounded (λ k. Last) (λ k h e. omega arith); no_lower = no_less rows_read (λ k. Last) 0 few r.last_reads };
      next_bound = λ three. record { bounds = bounded Next (λ k h e. omega arith); no_lower = no_less rows_read Next (2 ^ (W - 1) - 1) (parted_few three) (r.next_reads three) };
      prev_bound = λ three. record { bounds = bounded Prev (λ k h e. omega arith); no_lower = no_less rows_read Prev (2 ^ (W - 1)) (parted_few three) (r.prev_reads three) };
      move_bound =
          λ two. record {
            bounds = λ k h table buffer S held width. omega (arith, (rows_bounded (Del k) h table buffer).few_moved);
            no_lower = no_less moving_count Del 1 (omega (arith, forked_length W two)) (r.del_moves two);
          };
      no_move =
          λ one. record {
            bounds = λ k h table buffer S held width. omega (arith, nothing_moves k h table buffer S held (omega arith));
            no_lower = λ n bounds. omega arith;
          };
    }
  where
    parted_few : 3 ≤ W → length (parted_chain W) ≤ 65535
    parted_few three = omega (arith, parted_length W three)

    -- on every table, by `rows_bounded`
    bounded : (call : ℕ → Call) {m : ℕ} → ((k : ℕ) (h : Header) → h.width ≡ W → most_rows (call k) h ≤ m) → Bounds after rows_read call W m
    bounded call most k h table buffer S held width = omega (arith, (rows_bounded (call k) h table buffer).few_read, most k h width)
