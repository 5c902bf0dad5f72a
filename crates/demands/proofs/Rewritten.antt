-- What `add` and `del` write along a way: its rows take other entries, and its last row takes another link. If the rows of the table spelled the
-- tree before, they then spell the way with the new entries, chained to the new part at its end.
-- Document 01: "that row takes k and its old key is pushed down [..], taking each next row's place in turn"; "each row taking the key below".
use Prim.Native.Nat.{ℕ, ◌+◌, ◌*◌, ◌≤◌, ◌<◌}
use mathlib.Core.Path.{◌≡◌, refl, sym, ap, ◌∙◌}
use mathlib.Core.Bool.{Bool, true, false, false≢true}
use mathlib.Core.List.{List, [], ◌∷◌, ◌++◌}
use mathlib.Core.List.Memᴰ
use native.Mathlib.Omega.{arith}
use lib.Dec.{eqb}
use lib.ListN.{length}
use borrow.Author.Tests.{eqb-true, eq-eqb}
use Rattle.std.specs.Prelude.{if◌then◌else◌}
use Rattle.ordered.specs.Such.{Perhaps, no_such, such, first_of, last_such, anything}
use Rattle.ordered.specs.Word.{Side, left, right, other}
use Rattle.ordered.specs.Source004.{◌∈◌}
use Rattle.ordered.specs.Dictionary.{Entry}
use Rattle.ordered.specs.Tree.{Tree, none, part, exists}
use Rattle.ordered.specs.Way.{Step}
use Rattle.ordered.specs.Change.{number_at}
use Rattle.ordered.specs.Grown.{linking as turned, chained, step_with_entry, shifted, entry_below, lifted}
use Rattle.ordered.proofs.Parts.{All, none_all, one_all, IfSuch, last_such_one, first_of_such}
use Rattle.ordered.proofs.PushPop.{taken_by}
use Rattle.pretree.specs.declared.Row.{Row}
use Rattle.pretree.specs.Table.{row_words, row_at, to_code, link, with_entry}
use Rattle.pretree.specs.Add.{taking, hooking}
use Rattle.pretree.proofs.Rows.{holding, linking, has_row, entry_written, entry_elsewhere, entry_length, link_written, link_elsewhere, own_entry}
use Rattle.demands.specs.Numbers.{numbers, often}
use Rattle.demands.proofs.Links.{often_append}
use Rattle.demands.proofs.Spelled.{row_of, Part, RowSpelled, Spelled, a_row, spelled_frame}

-- no row is in the tree twice
abbrev pub Once : Tree → Type 0
Once t = (j : ℕ) → often j (numbers t) ≤ 1

pub in_often : {j : ℕ} {xs : List ℕ} → j ∈ xs → 1 ≤ often j xs
unfolding often
in_often {j} (Memᴰ.head {x} e) = rw (eq-eqb j x e) (omega arith)
in_often (Memᴰ.tail there) = omega (arith, in_often there)

-- how often a number is in the tree at a row of a way; g is the part to which the way turns there
turned_often :
    (i : ℕ) (e : Entry) (s : Side) (l r g : Tree) (j : ℕ)
    → often j (numbers (turned i e s l r g)) ≡ (if eqb j i then 1 else 0) + (often j (numbers (part (other s) l r)) + often j (numbers g))
unfolding numbers often
turned_often i e left l r g j = rw (often_append j) (omega arith)
turned_often i e right l r g j = rw (often_append j) (omega arith)

module _ (i : ℕ) (e : Entry) (s : Side) (l r g : Tree) where
  abbrev aside : Tree
  aside = part (other s) l r

  module _ (once : Once (turned i e s l r g)) where
    once_on : Once g
    once_on j = omega (arith, once j, turned_often i e s l r g j)

    at_not_on : i ∈ numbers g → ⊥
    at_not_on there = omega (arith, once i, rw (eq-eqb i i refl) at (turned_often i e s l r g i), in_often there)

    at_not_aside : i ∈ numbers aside → ⊥
    at_not_aside there = omega (arith, once i, rw (eq-eqb i i refl) at (turned_often i e s l r g i), in_often there)

    aside_not_on : (j : ℕ) → j ∈ numbers aside → j ∈ numbers g → ⊥
    aside_not_on j there too = omega (arith, once j, turned_often i e s l r g j, in_often there, in_often too)

at_in : (i : ℕ) (e : Entry) (s : Side) (l r g : Tree) → i ∈ numbers (turned i e s l r g)
unfolding numbers
at_in i e left l r g = Memᴰ.head refl
at_in i e right l r g = Memᴰ.head refl

on_in : (i : ℕ) (e : Entry) (s : Side) (l r g : Tree) {j : ℕ} → j ∈ numbers g → j ∈ numbers (turned i e s l r g)
unfolding numbers
on_in i e left l r g there = Memᴰ.tail (Memᴰ.append_left (numbers r) there)
on_in i e right l r g there = Memᴰ.tail (Memᴰ.append_right (numbers l) there)

-- that row as a table holds it
abbrev turned_row : Entry → Side → Tree → Tree → Tree → Row
turned_row e left l r g = row_of e g r
turned_row e right l r g = row_of e l g

record Turned (rows : ℕ → Row) (n i : ℕ) (e : Entry) (s : Side) (l r g : Tree) : Type 0 where
  in_use : i < n
  row_is : rows i ≡ turned_row e s l r g
  aside_part : Part (part (other s) l r)
  on_part : Part g
  aside_spelled : Spelled rows n (part (other s) l r)
  on_spelled : Spelled rows n g

module _ {rows : ℕ → Row} {n : ℕ} (i : ℕ) (e : Entry) where
  opened_turn : (s : Side) (l r g : Tree) → Spelled rows n (turned i e s l r g) → Turned rows n i e s l r g
  opened_turn left l r g (a_row t u v) =
      record { in_use = t.in_use; row_is = t.row_is; aside_part = t.named right; on_part = t.named left; aside_spelled = v; on_spelled = u }
  opened_turn right l r g (a_row t u v) =
      record { in_use = t.in_use; row_is = t.row_is; aside_part = t.named left; on_part = t.named right; aside_spelled = u; on_spelled = v }

  closed_turn : (s : Side) (l r g : Tree) → Turned rows n i e s l r g → Spelled rows n (turned i e s l r g)
  closed_turn left l r g t =
      let spelled_row : RowSpelled rows n i e g r =
      record { in_use = t.in_use; row_is = t.row_is; named = elim [ left ↦ t.on_part | right ↦ t.aside_part ] } in
      a_row spelled_row t.on_spelled t.aside_spelled
  closed_turn right l r g t =
      let spelled_row : RowSpelled rows n i e l g =
      record { in_use = t.in_use; row_is = t.row_is; named = elim [ left ↦ t.aside_part | right ↦ t.on_part ] } in
      a_row spelled_row t.aside_spelled t.on_spelled

reheld : (e e' : Entry) (s : Side) (l r g g' : Tree) → number_at g' ≡ number_at g → holding e' (turned_row e s l r g) ≡ turned_row e' s l r g'
reheld e e' left l r g g' same = rw same
reheld e e' right l r g g' same = rw same

rehooked : (e : Entry) (s : Side) (l r g g' : Tree) → linking s (number_at g') (turned_row e s l r g) ≡ turned_row e s l r g'
rehooked e left l r g g' = refl
rehooked e right l r g g' = refl

renumbered : (e : Entry) (s : Side) (l r g g' : Tree) → number_at g' ≡ number_at g → turned_row e s l r g ≡ turned_row e s l r g'
renumbered e left l r g g' same = rw same
renumbered e right l r g g' same = rw same

pub none_part : Part none
none_part = record { not_root = λ there e. absurd (false≢true there) }

-- the same rows, with other entries
pub data SamePlaces : List Step → List Step → Type 0 where
  no_place : SamePlaces [] []
  one_place : {s : Step} {ss us : List Step} (e : Entry) → SamePlaces ss us → SamePlaces (s ∷ ss) (step_with_entry e s ∷ us)

pub same_places : (ss : List Step) → SamePlaces ss ss
same_places [] = no_place
same_places (s ∷ ss) = one_place {s = s} s.entry (same_places ss)

pub shifted_places : (e : Entry) (ss : List Step) → SamePlaces ss (shifted e ss)
unfolding shifted
shifted_places e [] = no_place
shifted_places e (s ∷ ss) = one_place e (shifted_places s.entry ss)

pub lifted_places : (ss : List Step) (hole : Entry) → SamePlaces ss (lifted ss hole)
unfolding lifted
lifted_places [] hole = no_place
lifted_places (s ∷ ss) hole = one_place (entry_below ss hole) (lifted_places ss hole)

pub joined_places : {ss us ss' us' : List Step} → SamePlaces ss us → SamePlaces ss' us' → SamePlaces (ss ++ ss') (us ++ us')
joined_places no_place q = q
joined_places (one_place e p) q = one_place e (joined_places p q)

same_symmetric : {ss us : List Step} → SamePlaces ss us → SamePlaces us ss
same_symmetric no_place = no_place
same_symmetric (one_place {s} {us} e p) = one_place {s = step_with_entry e s} s.entry (same_symmetric p)

-- the root keeps its number
root_place : (i : ℕ) (e e' : Entry) (s : Side) (l r g g' : Tree) → (number_at (turned i e' s l r g') ≡ number_at (turned i e s l r g)) × (exists (turned i e' s l r g') ≡ exists (turned i e s l r g))
root_place i e e' left l r g g' = (refl, refl)
root_place i e e' right l r g g' = (refl, refl)

pub first_place : {ss us : List Step} → SamePlaces ss us → (u : Tree) → (number_at (chained us u) ≡ number_at (chained ss u)) × (exists (chained us u) ≡ exists (chained ss u))
unfolding chained
first_place no_place u = (refl, refl)
first_place (one_place {s} {ss} {us} e p) u =
    root_place s.at s.entry e s.turn s.left_part s.right_part (chained ss u) (chained us u)

turned_numbers : (i : ℕ) (e e' : Entry) (s : Side) (l r g g' : Tree) → numbers g' ≡ numbers g → numbers (turned i e' s l r g') ≡ numbers (turned i e s l r g)
unfolding numbers
turned_numbers i e e' left l r g g' same = rw same
turned_numbers i e e' right l r g g' same = rw same

pub same_numbers : {ss us : List Step} → SamePlaces ss us → (u : Tree) → numbers (chained us u) ≡ numbers (chained ss u)
unfolding chained
same_numbers no_place u = refl
same_numbers (one_place {s} {ss} {us} e p) u =
    turned_numbers s.at s.entry e s.turn s.left_part s.right_part (chained ss u) (chained us u) (same_numbers p u)

part_so : {t t' : Tree} → (number_at t' ≡ number_at t) × (exists t' ≡ exists t) → Part t → Part t'
part_so same p = record { not_root = λ there e. p.not_root (sym same.1 ∙ there) (sym same.0 ∙ e) }

-- a row that is not among the rows of a way
apart_from : {ss us : List Step} → SamePlaces ss us → (u : Tree) (j : ℕ) → (j ∈ numbers (chained ss u) → ⊥) → All (λ s. s.at ≡ j → ⊥) us
unfolding chained
apart_from no_place u j out = none_all
apart_from (one_place {s} {ss} {us} e p) u j out =
    let here : s.at ≡ j → ⊥ = λ same. out (Memᴰ.cast (sym same) (at_in s.at s.entry s.turn s.left_part s.right_part (chained ss u))) in
    one_all here (apart_from p u j (λ there. out (on_in s.at s.entry s.turn s.left_part s.right_part (chained ss u) there)))

taking_elsewhere : (us : List Step) (table : List ℕ) (j : ℕ) → All (λ s. s.at ≡ j → ⊥) us → row_at (taking (taken_by us) table) j ≡ row_at table j
unfolding taking
taking_elsewhere [] table j none_all = refl
taking_elsewhere (u ∷ us) table j (one_all h hs) =
    taking_elsewhere us (with_entry u.at u.entry table) j hs ∙ entry_elsewhere u.at table j (λ e. h (sym e)) u.entry

-- an erase or a push: the rows of a way take other entries
pub entries_taken :
    (n : ℕ) {ss us : List Step} → SamePlaces ss us → (u : Tree) (table : List ℕ) → row_words * n ≤ length table → Once (chained ss u)
    → Spelled (row_at table) n (chained ss u) → Spelled (row_at (taking (taken_by us) table)) n (chained us u)
unfolding chained taking
entries_taken n no_place u table room once spelled = spelled
entries_taken n (one_place {s} {ss} {us} e p) u table room once spelled =
    let i : ℕ = s.at in
    let l : Tree = s.left_part in
    let r : Tree = s.right_part in
    let g : Tree = chained ss u in
    let g' : Tree = chained us u in
    let o : Turned (row_at table) n i s.entry s.turn l r g = opened_turn i s.entry s.turn l r g spelled in
    let first : List ℕ = with_entry i e table in
    let after : List ℕ = taking (taken_by us) first in
    let on : Spelled (row_at first) n g =
    spelled_frame g o.on_spelled (λ j there below.
    (below, entry_elsewhere i table j (λ same. at_not_on i s.entry s.turn l r g once (Memᴰ.cast (sym same) there)) e)) in
    let on' : Spelled (row_at after) n g' =
    entries_taken n p u first (omega (arith, entry_length i e table)) (once_on i s.entry s.turn l r g once) on in
    let aside' : Spelled (row_at after) n (part (other s.turn) l r) =
    spelled_frame (part (other s.turn) l r) o.aside_spelled (λ j there below. (
      below,
      taking_elsewhere us first j (apart_from p u j (aside_not_on i s.entry s.turn l r g once j there))
          ∙ entry_elsewhere i table j (λ same. at_not_aside i s.entry s.turn l r g once (Memᴰ.cast (sym same) there)) e,
    )) in
    closed_turn i e s.turn l r g' (record {
      in_use = o.in_use;
      row_is =
          taking_elsewhere us first i (apart_from p u i (at_not_on i s.entry s.turn l r g once)) ∙ entry_written i table (has_row table i n o.in_use room) e
          ∙ ap (holding e) o.row_is ∙ reheld s.entry e s.turn l r g g' (first_place p u).0;
      aside_part = o.aside_part;
      on_part = part_so (first_place p u) o.on_part;
      aside_spelled = aside';
      on_spelled = on';
    })

hooking_elsewhere : (p : Perhaps Step) (v : ℕ) (table : List ℕ) (j : ℕ) → IfSuch (λ s. s.at ≡ j → ⊥) p → row_at (hooking p v table) j ≡ row_at table j
hooking_elsewhere no_such v table j h = refl
hooking_elsewhere (such s) v table j h = link_elsewhere s.at table j (λ e. h (sym e)) s.turn v

-- Another part is linked where the way ended. Any other row that is written was not in use before.
module _ (n n' : ℕ) (u u' : Tree) (table : List ℕ) (rows' : ℕ → Row) (room : row_words * n ≤ length table) (more : n ≤ n')
    (new_spelled : Spelled rows' n' u') (new_part : 0 < n → Part u')
  where
    pub end_hooked :
        {ss us : List Step} → SamePlaces ss us → Once (chained us u) → Spelled (row_at table) n (chained us u)
        → ((j : ℕ) → j < n → rows' j ≡ row_at (hooking (last_such anything ss) (number_at u') table) j)
        → Spelled rows' n' (chained us u')
    unfolding chained last_such
    end_hooked no_place once spelled so = new_spelled
    end_hooked (one_place {s} e no_place) once spelled so =
        let i : ℕ = s.at in
        let l : Tree = s.left_part in
        let r : Tree = s.right_part in
        let o : Turned (row_at table) n i e s.turn l r u = opened_turn i e s.turn l r u spelled in
        closed_turn i e s.turn l r u' (record {
          in_use = omega (arith, o.in_use);
          row_is =
              so i o.in_use ∙ link_written i table (has_row table i n o.in_use room) s.turn (number_at u')
              ∙ ap (linking s.turn (number_at u')) o.row_is ∙ rehooked e s.turn l r u u';
          aside_part = o.aside_part;
          on_part = new_part (omega (arith, o.in_use));
          aside_spelled =
              spelled_frame (part (other s.turn) l r) o.aside_spelled (λ j there below. (
                omega arith,
                so j below ∙ link_elsewhere i table j (λ same. at_not_aside i e s.turn l r u once (Memᴰ.cast (sym same) there)) s.turn (number_at u'),
              ));
          on_spelled = new_spelled;
        })
    end_hooked (one_place {s} e (one_place {s = t} {ss} {us} e' p)) once spelled so =
        let i : ℕ = s.at in
        let l : Tree = s.left_part in
        let r : Tree = s.right_part in
        let ts : List Step = t ∷ ss in
        let vs : List Step = step_with_entry e' t ∷ us in
        let g : Tree = chained vs u in
        let g' : Tree = chained vs u' in
        let onward : SamePlaces ts vs = one_place {s = t} e' p in
        let o : Turned (row_at table) n i e s.turn l r g = opened_turn i e s.turn l r g spelled in
        let same_hook : last_such anything (s ∷ ts) ≡ last_such anything ts = first_of_such (last_such anything ss) t (such s) in
        let so' : (j : ℕ) → j < n → rows' j ≡ row_at (hooking (last_such anything ts) (number_at u') table) j =
        λ j below. so j below ∙ ap (λ q. row_at (hooking q (number_at u') table) j) same_hook in
        let stays : (j : ℕ) → (j ∈ numbers g → ⊥) → j < n → rows' j ≡ row_at table j =
        λ j out below.
        so' j below
        ∙ hooking_elsewhere (last_such anything ts) (number_at u') table j (last_such_one anything (apart_from (same_symmetric onward) u j out)) in
        closed_turn i e s.turn l r g' (record {
          in_use = omega (arith, o.in_use);
          row_is =
              stays i (at_not_on i e s.turn l r g once) o.in_use ∙ o.row_is
              ∙ renumbered e s.turn l r g g' (root_place t.at e' e' t.turn t.left_part t.right_part (chained us u) (chained us u')).0;
          aside_part = o.aside_part;
          on_part = part_so (root_place t.at e' e' t.turn t.left_part t.right_part (chained us u) (chained us u')) o.on_part;
          aside_spelled =
              spelled_frame (part (other s.turn) l r) o.aside_spelled (λ j there below. (
                omega arith,
                stays j (aside_not_on i e s.turn l r g once j there) below,
              ));
          on_spelled = end_hooked (one_place {s = t} e' p) (once_on i e s.turn l r g once) o.on_spelled so';
        })

-- writing each row of a way with its own entry changes nothing
pub unchanged_taken : (n : ℕ) (ss : List Step) (u : Tree) (table : List ℕ) → Spelled (row_at table) n (chained ss u) → taking (taken_by ss) table ≡ table
unfolding chained taking
unchanged_taken n [] u table spelled = refl
unchanged_taken n (s ∷ ss) u table spelled =
    let o : Turned (row_at table) n s.at s.entry s.turn s.left_part s.right_part (chained ss u) =
    opened_turn s.at s.entry s.turn s.left_part s.right_part (chained ss u) spelled in
    let own : to_code s.entry ≡ (row_at table s.at).entry =
    sym (ap (λ r. r.entry) o.row_is ∙ turned_entry s.entry s.turn s.left_part s.right_part (chained ss u)) in
    ap (taking (taken_by ss)) (own_entry s.at s.entry table own) ∙ unchanged_taken n ss u table o.on_spelled
  where
    turned_entry : (e : Entry) (s : Side) (l r g : Tree) → (turned_row e s l r g).entry ≡ to_code e
    turned_entry e left l r g = refl
    turned_entry e right l r g = refl

-- writing the entries of two ways, one after the other
pub taking_both : (ss us : List Step) (table : List ℕ) → taking (taken_by (ss ++ us)) table ≡ taking (taken_by us) (taking (taken_by ss) table)
unfolding taking
taking_both [] us table = refl
taking_both (s ∷ ss) us table = taking_both ss us (with_entry s.at s.entry table)

-- how often a row is in a tree: in the part at the end of a way, and above it
pub chained_often : (ss : List Step) (u : Tree) (j : ℕ) → often j (numbers (chained ss u)) ≡ often j (numbers (chained ss none)) + often j (numbers u)
unfolding chained numbers often
chained_often [] u j = omega arith
chained_often (s ∷ ss) u j =
    omega (
      arith,
      turned_often s.at s.entry s.turn s.left_part s.right_part (chained ss u) j,
      turned_often s.at s.entry s.turn s.left_part s.right_part (chained ss none) j,
      chained_often ss u j,
    )

module _ (rows : ℕ → Row) (n : ℕ) where
  pub end_spelled : (ss : List Step) (u : Tree) → Spelled rows n (chained ss u) → Spelled rows n u
  unfolding chained
  end_spelled [] u spelled = spelled
  end_spelled (s ∷ ss) u spelled =
      end_spelled ss u (opened_turn s.at s.entry s.turn s.left_part s.right_part (chained ss u) spelled).on_spelled

  turned_link : (e : Entry) (s : Side) (l r g : Tree) → link (turned_row e s l r g) s ≡ number_at g
  turned_link e left l r g = refl
  turned_link e right l r g = refl

  -- the last row that a way passes names its end
  pub data HookRow (ss : List Step) (u : Tree) : Perhaps Step → Type 0 where
    no_hook : ss ≡ [] → HookRow ss u no_such
    hook_row : {p : Step} → p.at ∈ numbers (chained ss none) → p.at < n → link (rows p.at) p.turn ≡ number_at u → HookRow ss u (such p)

  pub hook_is : (ss : List Step) (u : Tree) → Spelled rows n (chained ss u) → HookRow ss u (last_such anything ss)
  unfolding chained last_such
  hook_is [] u spelled = no_hook refl
  hook_is (s ∷ []) u spelled =
      let o : Turned rows n s.at s.entry s.turn s.left_part s.right_part u =
      opened_turn s.at s.entry s.turn s.left_part s.right_part u spelled in
      hook_row (at_in s.at s.entry s.turn s.left_part s.right_part none) o.in_use
      (ap (λ x. link x s.turn) o.row_is ∙ turned_link s.entry s.turn s.left_part s.right_part u)
  hook_is (s ∷ (t ∷ ss)) u spelled =
      above (last_such anything (t ∷ ss))
      (hook_is (t ∷ ss) u (opened_turn s.at s.entry s.turn s.left_part s.right_part (chained (t ∷ ss) u) spelled).on_spelled)
    where
      above : (q : Perhaps Step) → HookRow (t ∷ ss) u q → HookRow (s ∷ (t ∷ ss)) u (first_of q (such s))
      above no_such (no_hook e) = let never : ◌≡◌ {A = ℕ} 0 1 = cc in absurd (omega arith)
      above (such p) (hook_row there in_use names) =
          hook_row (on_in s.at s.entry s.turn s.left_part s.right_part (chained (t ∷ ss) none) there) in_use names

-- a number that occurs at least once is in the list
pub often_in : (j : ℕ) (xs : List ℕ) → 1 ≤ often j xs → j ∈ xs
unfolding often
often_in j [] h = absurd (omega arith)
often_in j (x ∷ xs) h = by_cases (eqb j x) refl h (often_in j xs)
  where
    by_cases : (b : Bool) → eqb j x ≡ b → 1 ≤ (if b then 1 else 0) + often j xs → (1 ≤ often j xs → j ∈ xs) → j ∈ x ∷ xs
    by_cases true e h rest = Memᴰ.head (eqb-true j x e)
    by_cases false e h rest = Memᴰ.tail (rest (omega arith))
