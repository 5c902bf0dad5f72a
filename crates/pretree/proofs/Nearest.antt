-- The reply of `gap`, from those of `prev` and `next` and the end of the way of the word.
use Prim.Native.Nat.{ℕ, ◌+◌, ◌-◌, ◌≤◌}
use mathlib.Core.Path.{◌≡◌, refl, sym, ap, ◌∙◌, subst}
use mathlib.Core.Bool.{Bool, true, false, ◌||◌, or_assoc}
use mathlib.Core.List.{List, [], ◌∷◌, ◌++◌}
use native.Mathlib.Nat.{add-zero}
use native.Mathlib.Omega.{arith}
use lib.Dec.{eqb}
use Rattle.std.specs.Prelude.{if◌then◌else◌, Ok, Err, Some, None, Option, Result}
use Rattle.ordered.specs.Such.{Perhaps, such, no_such, its, only_if, last_such}
use Rattle.ordered.specs.Word.{right}
use Rattle.ordered.specs.Tree.{Tree}
use Rattle.ordered.specs.Way.{Way, Step, way, rows, broken, following, passing_equal, down}
use Rattle.ordered.specs.Reading.{Found, word_in, passed_row, Reading, rows_of, broken_in, root_row, end_if, to_its_end, skipped_left, prev_by, nearest, gap_by, has, prev, next, gap}
use Rattle.ordered.proofs.Rows.{rows_append, prev_rows, next_rows}
use Rattle.pretree.specs.declared.Header.{Header}
use Rattle.pretree.specs.declared.Answer.{Answer}
use Rattle.pretree.specs.declared.Answer.TheVariants.{Distance, Damage, NoSuchWord}
use Rattle.pretree.specs.declared.Reply.{Reply}
use Rattle.pretree.specs.declared.Row.{Row}
use Rattle.pretree.specs.declared.seek.Seek.{Seek}
use Rattle.pretree.specs.Table.{row_at}
use Rattle.pretree.specs.Unfold.{shown}
use Rattle.pretree.specs.Reply.{wrong_header, too_wide, refused, answered}
use Rattle.pretree.specs.Find.{saying, word, prev_reply, next_reply, gap_reply}
use Rattle.pretree.specs.declared.leg.Damaged.{Damaged}
use Rattle.pretree.specs.Gap.{neighbour, distance, gap_at, between}
use Rattle.pretree.specs.Walk.{Walk, Stage, seeking, Walked}
use Rattle.pretree.specs.Leg.{EndsAs, End, damage}
use Rattle.pretree.specs.Seek.{bits_left_by, WayEnds, Refused, by_header, by_word, by_damage}
use Rattle.pretree.proofs.Checks.{right_header}
use Rattle.pretree.proofs.Ended.{ends_in, way_end, way_rows}
use Rattle.pretree.proofs.SeekTurn.{following_is}
use Rattle.pretree.proofs.Sought.{bits_are}
use Rattle.pretree.proofs.Found.{empty_way}
use Rattle.pretree.proofs.WordWay.{by_way}

-- the reply of a reading call, once the checks are passed
abbrev reply_with : {A : Type 0} → Header → (A → Answer) → Reading A → Reply
reply_with h answer r =
    if broken_in r.ways then refused h Damage
    else answered h (saying answer r.answer) (rows_of r.ways)

-- `between`, from the distance that the replies p and n give
pub between_is : (h : Header) (k : ℕ) (p n : Reply) {p' n' : Reply} → p ≡ p' → n ≡ n' → (d : Result (Option ℕ) Damaged)
    → d ≡ distance k (neighbour p.answer) (neighbour n.answer) → gap_at h (p.rows + n.rows) d ≡ between h k p' n'
unfolding between
between_is h k p n below above d is = rw (← below, ← above, is)

broken_append : (vs ws : List Way) → broken_in (vs ++ ws) ≡ (broken_in vs || broken_in ws)
unfolding broken_in
broken_append [] ws = refl
broken_append (v ∷ vs) ws = rw (broken_append vs ws) (sym (or_assoc (broken v) (broken_in vs) (broken_in ws)))

-- the reply from the replies of both neighbours is the reply from both readings together
module _ (h : Header) (k : ℕ) (p n : Reading Found) where
  abbrev both : Reading ℕ
  both = record { ways = p.ways ++ n.ways; answer = nearest k (its word_in p.answer) (its word_in n.answer) }

  both_say : between h k (reply_with h word p) (reply_with h word n) ≡ reply_with h Distance both
  unfolding between
  both_say = rw (broken_append p.ways n.ways, rows_append p.ways n.ways) (go (broken_in p.ways) (broken_in n.ways) p.answer n.answer)
    where
      go : (b c : Bool) (x y : Perhaps Found)
          → between h k (if b then refused h Damage else answered h (saying word x) (rows_of p.ways)) (if c then refused h Damage else answered h (saying word y) (rows_of n.ways))
          ≡ (if b || c then refused h Damage else answered h (saying Distance (nearest k (its word_in x) (its word_in y))) (rows_of p.ways + rows_of n.ways))
      go true c x y = refl
      go false true no_such y = refl
      go false true (such x) y = refl
      go false false no_such no_such = refl
      go false false no_such (such y) = refl
      go false false (such x) no_such = refl
      go false false (such x) (such y) = refl

-- `gap` of k, by the end of its way: n rows were passed
abbrev pub gap_reply_by : Header → List ℕ → ℕ → ℕ → Option Row → Reply
gap_reply_by h table k n None = between h k (prev_reply h table k) (next_reply h table k)
gap_reply_by h table k n (Some r) =
    if eqb k r.entry.key then answered h (Distance 0) (n + 1)
    else between h k (prev_reply h table k) (next_reply h table k)

-- the first way of `prev` is the way of k, so damage there breaks `prev`
prev_broken : (w : Way) (a : Perhaps Found) (p : Perhaps Step) → broken w ≡ true → broken_in (prev_by w a p).ways ≡ true
unfolding broken_in
prev_broken w (such x) p b = rw b
prev_broken w no_such no_such b = rw b
prev_broken w no_such (such p) b = go (skipped_left p)
  where
    go : (c : Bool)
        → broken_in (if c then to_its_end (w ∷ []) (way (down right) p.below p.left_part) else record { ways = w ∷ []; answer = such (passed_row p) }).ways
        ≡ true
    go true = rw b
    go false = rw b

module _ (h : Header) (table : List ℕ) (k : ℕ) (fine : wrong_header h table ≡ false) (small : too_wide h k ≡ false) where
  abbrev lower : Reading Found
  lower = prev h.width k (shown h table)

  abbrev upper : Reading Found
  upper = next h.width k (shown h table)

  prev_reply_is : prev_reply h table k ≡ reply_with h word lower
  unfolding prev_reply
  prev_reply_is = rw (fine, small)

  next_reply_is : next_reply h table k ≡ reply_with h word upper
  unfolding next_reply
  next_reply_is = rw (fine, small)

  -- the sum of the two counts is small
  few : (r : Reading Found) → rows_of r.ways ≤ h.width + 2 → (reply_with h word r).rows ≤ 34
  few r most = go (broken_in r.ways)
    where
      go : (b : Bool) → (if b then refused h Damage else answered h (saying word r.answer) (rows_of r.ways)).rows ≤ 34
      go true = omega arith
      go false = omega (arith, (right_header h table fine).at_most_32)

  pub few_below : (prev_reply h table k).rows ≤ 34
  few_below = rw prev_reply_is (few lower (prev_rows h.width k (shown h table)))

  pub few_above : (next_reply h table k).rows ≤ 34
  few_above = rw next_reply_is (few upper (next_rows h.width k (shown h table)))

  -- an absent word
  absent : between h k (prev_reply h table k) (next_reply h table k) ≡ reply_with h Distance (both h k lower upper)
  absent = rw (prev_reply_is, next_reply_is) (both_say h k lower upper)

  module _ (w : Walk) (gone : Walked (row_at table) (seeking k k) h.width h.count (shown h table) w) where
    abbrev way_of_k : Way
    way_of_k = way (seeking k k) h.width (shown h table)

    by_found : (a : Perhaps Found) → Reply
    by_found (such x) = reply_with h Distance (record { ways = way_of_k ∷ []; answer = such 0 })
    by_found no_such = reply_with h Distance (both h k lower upper)

    by_answer : (a : Perhaps Found) → reply_with h Distance (gap_by k lower upper a (way_of_k ∷ [])) ≡ by_found a
    unfolding by_found
    by_answer (such x) = refl
    by_answer no_such = refl

    at_end : gap_reply h table k ≡ by_found (end_if (eqb k) way_of_k)
    unfolding gap_reply gap has
    at_end = rw (fine, small, following_is k) (by_answer (end_if (eqb k) way_of_k))

    -- damage on the way of k is damage for `prev` too
    damaged_below : broken way_of_k ≡ true → reply_with h Distance (both h k lower upper) ≡ refused h Damage
    unfolding prev
    damaged_below b = rw (broken_append lower.ways upper.ways, prev_broken (way (following k) h.width (shown h table)) _ _ (rw (following_is k) b))

    abbrev Says : End → Stage → Type 0
    Says e stage = by_found (only_if (λ f. eqb k (word_in f)) (root_row way_of_k.bits (ends_in (row_at table) w stage))) ≡ by_way h (gap_reply_by h table k (h.width - w.bits)) e

    by_end : (e : End) → EndsAs (row_at table) w e → way_of_k.end ≡ ends_in (row_at table) w w.stage → Says e w.stage
    unfolding by_found broken broken_in rows_of
    by_end (Ok None) at ends = subst (Says (Ok None)) (sym at) (sym absent)
    by_end (Err d) at ends = subst (Says damage) (sym at) (damaged_below (rw (ends, at)))
    by_end (Ok (Some r)) so ends = subst (Says (Ok (Some r))) (sym so.0) (rw (← ap (λ e. e.key) so.2) (by_key (eqb k w.entry.key)))
      where
        whole : broken way_of_k ≡ false
        whole = rw (ends, so.0)

        there : reply_with h Distance (record { ways = way_of_k ∷ []; answer = such 0 }) ≡ answered h (Distance 0) (h.width - w.bits + 1)
        there = rw (whole, way_rows _ _ _ _ _ w gone, add-zero, so.0)

        by_key : (b : Bool)
            → by_found (if b then such (record { entry = w.entry; bits = way_of_k.bits }) else no_such)
            ≡ (if b then answered h (Distance 0) (h.width - w.bits + 1) else between h k (prev_reply h table k) (next_reply h table k))
        by_key true = there
        by_key false = sym absent

    gap_ends : (e : End) → EndsAs (row_at table) w e → gap_reply h table k ≡ by_way h (gap_reply_by h table k (h.width - w.bits)) e
    gap_ends e so =
        at_end
        ∙ ap (λ (end : Tree). by_found (only_if (λ f. eqb k (word_in f)) (root_row way_of_k.bits end))) (way_end _ _ _ _ _ w gone).end
        ∙ by_end e so (way_end _ _ _ _ _ w gone).end

  -- in an empty set there is no nearest word
  pub none_near : h.count ≡ 0 → answered h NoSuchWord 0 ≡ gap_reply h table k
  unfolding gap_reply gap has prev next broken_in broken rows_of rows last_such
  none_near empty = simp (fine, small, empty_way h table (following k) empty, empty_way h table (passing_equal k) empty)

-- the reply of `gap`, by the way of its word, and where it is refused
pub gap_way : {h : Header} {table : List ℕ} {k : ℕ} {s : Seek} {e : End} → WayEnds h table k s e
    → by_way h (gap_reply_by h table k (h.width - bits_left_by s.mask)) e ≡ gap_reply h table k
gap_way {h} {table} {k} {s} {e} q =
    rw (bits_are table h k q.fine q.small s e q.ends) (sym (gap_ends h table k q.fine q.small q.ends.walk q.ends.walked e q.ends.ends))

pub gap_refused : {h : Header} {table : List ℕ} {k : ℕ} {a : Answer} → Refused h table k a → refused h a ≡ gap_reply h table k
unfolding gap_reply
gap_refused (by_header e) = rw e
gap_refused (by_word e f) = rw (e, f)
gap_refused (by_damage q) = gap_way q
