-- What the way of a word tells, once a seek has followed it (`Header::way`).
use Rattle.std.proofs.Common.{◌≡◌, refl, sym, subst, ℕ, ◌-◌, ◌≤◌, ◌<◌, Bool, true, false, not, ◌&&◌, ltb, eqb, List, Option, Some, None, Result, Ok, Err}
use native.Mathlib.Nat.{add-zero, mod-le, mod-eq_of_lt, div-eq_of_lt}
use borrow.Author.Tests.{ltb-false, eqb-true, eq-eqb}
use Rattle.std.specs.Prelude.{if◌then◌else◌, IsErrAnd, MatchResult}
use Rattle.pretree.specs.declared.Header.{Header}
use Rattle.pretree.specs.declared.Answer.{Answer}
use Rattle.pretree.specs.declared.Answer.TheVariants.{Damage}
use Rattle.pretree.specs.declared.Reply.{Reply}
use Rattle.pretree.specs.declared.Row as Rows
use Rattle.pretree.specs.declared.seek.Seek.{Seek}
use Rattle.pretree.specs.Table.{row_at}
use Rattle.pretree.specs.Unfold.{shown}
use Rattle.pretree.specs.Reply.{wrong_header, too_wide, refused}
use Rattle.pretree.specs.Leg.{End, damage}
use Rattle.pretree.specs.Walk.{started, seeking}
use Rattle.pretree.specs.Seek.{row_of, bits_left_by, begun, end_of, end_at, Sought, Tells, WayEnds, Refused}
use Rattle.pretree.proofs.Checks.{right_header, narrow}
use Rattle.pretree.proofs.Walking.{begins_root}
use Rattle.pretree.proofs.Sought.{seek_ends, bits_are}

-- the reply of a call, by the end of the way of its word
abbrev pub by_way : Header → (Option Rows.Row → Reply) → End → Reply
by_way h reply (Ok row) = reply row
by_way h reply (Err d) = refused h Damage

module _ {h : Header} {table : List ℕ} {k : ℕ} {s : Seek} {e : End} (q : WayEnds h table k s e) where
  pub width_few : h.width ≤ 32
  width_few = (right_header h table q.fine).at_most_32

  pub bits_fit : bits_left_by s.mask ≤ h.width
  bits_fit = rw (bits_are table h k q.fine q.small s e q.ends) q.ends.walked.walking.fits

  pub tail_fits : s.tail ≤ s.word
  tail_fits = rw (q.ends.word, q.ends.tail) (mod-le k _)

-- in a later arm of a `match`: the row has another key, as an earlier arm found
pub another : {row : Option Rows.Row} {k : ℕ} (r q : Rows.Row) → row ≡ Some r → row ≡ Some q → (r.entry.key ≡ k → ⊥) → q.entry.key ≡ k → ⊥
another r q at is apart same = let one : r ≡ q = cc in apart (rw one same)

-- where a seek stopped, what the code finds at its next row tells
module _ (rows : ℕ → Rows.Row) (count k : ℕ) (s : Seek) where
  abbrev there : Rows.Row
  there = rows (row_of s)

  end_tells : Tells rows k s (end_at rows count k s)
  end_tells = by_count (ltb (row_of s) count)
    where
      no_row : (a b : Bool) → eqb (row_of s) 0 ≡ a → Tells rows k s (if a && b then Ok None else damage)
      no_row true true e = eqb-true (row_of s) 0 e
      no_row true false e = tt
      no_row false b e = tt

      not_less : (a b c : Bool) → k ≤ there.entry.key
          → Tells rows k s (if a then (if b then damage else Ok (Some there)) else if c then damage else Ok (Some there))
      not_less true true c e = tt
      not_less true false c e = e
      not_less false b true e = tt
      not_less false b false e = e

      by_key : (a : Bool) → ltb there.entry.key k ≡ a
          → Tells rows k s
          (if a then (if eqb (row_of s) 0 && not (eqb s.between k) then Ok None else damage)
          else if ltb k there.entry.key then (if ltb (s.mask - s.tail) (there.entry.key - k) then damage else Ok (Some there))
          else if eqb s.mask 0 && not (eqb there.left 0 && eqb there.right 0) then damage
          else Ok (Some there))
      by_key true e = no_row (eqb (row_of s) 0) (not (eqb s.between k)) refl
      by_key false e = not_less (ltb k there.entry.key) (ltb (s.mask - s.tail) (there.entry.key - k)) (eqb s.mask 0 && not (eqb there.left 0 && eqb there.right 0)) (ltb-false there.entry.key k e)

      by_count : (a : Bool) → Tells rows k s (if a then end_of s k there else damage)
      by_count true = by_key (ltb there.entry.key k) refl
      by_count false = tt

module _ (h : Header) (table : List ℕ) (k : ℕ) (fine : wrong_header h table ≡ false) (small : too_wide h k ≡ false) where
  pub sought_ends : (s : Seek) (e : End) → 0 < h.count → Sought (row_at table) h (shown h table) k s → e ≡ end_at (row_at table) h.count s.word s
      → WayEnds h table k s e
  sought_ends s e some g is =
      subst (WayEnds h table k s) (sym (rw g.on.shows.word at is))
      (record {
        fine = fine;
        small = small;
        ends = seek_ends table h k fine small s g some;
        tells = end_tells (row_at table) h.count k s;
      })

  -- "with a count of 0 every way is empty"
  pub empty_ends : h.count ≡ 0 → WayEnds h table k (begun h.width k) (Ok None)
  empty_ends empty =
      let none_used : eqb h.count 0 ≡ true = eq-eqb h.count 0 empty in
      record {
        fine = fine;
        small = small;
        ends =
            record {
              walk = started h;
              walked = record { walking = begins_root h table (seeking k k); ended = rw none_used };
              ends = rw none_used;
              word = refl;
              row = refl;
              mask = refl;
              tail = sym (mod-eq_of_lt (narrow h k small));
              between = add-zero k;
              path = sym (div-eq_of_lt (narrow h k small));
              above = refl;
              aside = refl;
              span = refl;
            };
        tells = refl;
      }

-- the refusal that a `?` hands on
pub refused_way : {h : Header} {table : List ℕ} {k : ℕ} {a : Answer} {A : Type 0} (P : A → Type 0) (r : Result A Answer) → IsErrAnd r (λ b. b ≡ a)
    → Refused h table k a → MatchResult r P (Refused h table k)
refused_way {h} {table} {k} P (Err b) is q = subst (Refused h table k) (sym is) q
refused_way P (Ok x) is q = elim is [ ]
