-- Laws of every way, whatever its rule: induction along a way, how a way divides the entries of its tree, and what it passes in a proper tree.
use Prim.Native.Nat.{ℕ, zero, suc, ◌+◌, ◌*◌, ◌/◌, ◌^◌}
use mathlib.Core.Path.{◌≡◌, refl, sym, ap, ◌∙◌}
use mathlib.Core.Bool.{Bool, true, false, ◌&&◌}
use mathlib.Core.List.{List, [], ◌∷◌, ◌++◌, append-nil, append_assoc}
use lib.Dec.{ltb, leb}
use Rattle.std.specs.Prelude.{if◌then◌else◌}
use Rattle.ordered.specs.Word.{Side, left, right, bit_of, side}
use Rattle.ordered.specs.Dictionary.{Entry}
use Rattle.ordered.specs.Tree.{Tree, none, row, damaged, part, exists, entries, intact}
use Rattle.ordered.specs.Proper.{Proper}
use Rattle.ordered.specs.Way.{Step, Way, Rule, Turn, stop, to, way, ending, passing, turning, broken, is_damaged, following, passing_equal, pushing, down, staying}
use Rattle.ordered.specs.Grown.{linking, chained}
use Rattle.ordered.proofs.Parts.{All, none_all, one_all}

-- where a way by the rule f can end: with no bit left, at an empty link, at damage, or at a row where the rule stops
pub data Stops (f : Rule) : ℕ → Tree → Type 0 where
  at_bottom : {t : Tree} → Stops f zero t
  at_none : {m : ℕ} → Stops f (suc m) none
  at_damage : {m : ℕ} → Stops f (suc m) damaged
  at_stop : {m i : ℕ} {e : Entry} {l r : Tree} → f m e l r ≡ stop → Stops f (suc m) (row i e l r)

abbrev pub step : ℕ → ℕ → Entry → Tree → Tree → Side → Step
step m i e l r s = record { at = i; entry = e; turn = s; left_part = l; right_part = r; below = m }

-- Induction along a way: P holds of the whole way if it holds at the end, and if it holds from a row on whenever it holds from the part to
-- which the rule turns there.
module _ (f : Rule) (P : ℕ → Tree → Way → Type 0) where
  abbrev pub AtEnd : Type 0
  AtEnd = (m : ℕ) (t : Tree) → Stops f m t → P m t (ending m t)

  abbrev pub Onward : Type 0
  Onward =
      (m i : ℕ) (e : Entry) (l r : Tree) (s : Side) → f m e l r ≡ to s
      → P m (part s l r) (way f m (part s l r)) → P (suc m) (row i e l r) (passing (step m i e l r s) (way f m (part s l r)))

pub along : (f : Rule) (P : ℕ → Tree → Way → Type 0) → AtEnd f P → Onward f P → (m : ℕ) (t : Tree) → P m t (way f m t)
unfolding way
along f P ends goes zero t = ends zero t at_bottom
along f P ends goes (suc m) none = ends (suc m) none at_none
along f P ends goes (suc m) damaged = ends (suc m) damaged at_damage
along f P ends goes (suc m) (row i e l r) = turned (f m e l r) refl (λ s. along f P ends goes m (part s l r))
  where
    turned : (c : Turn) → f m e l r ≡ c → ((s : Side) → P m (part s l r) (way f m (part s l r)))
        → P (suc m) (row i e l r) (turning (way f m) m i e l r c)
    turned stop says rest = ends (suc m) (row i e l r) (at_stop says)
    turned (to s) says rest = goes m i e l r s says (rest s)

-- at a row where a way turns to a side: the entries of the part to the left of the way, and of the part to the right
abbrev pub left_aside : Side → Tree → List Entry
left_aside left l = []
left_aside right l = entries l

abbrev pub right_aside : Side → Tree → List Entry
right_aside left r = entries r
right_aside right r = []

-- all entries to the left of a way, and all entries to the right
unfoldable pub lower : List Step → List Entry
lower [] = []
lower (s ∷ ss) = s.entry ∷ (left_aside s.turn s.left_part ++ lower ss)

unfoldable pub upper : List Step → List Entry
upper [] = []
upper (s ∷ ss) = upper ss ++ right_aside s.turn s.right_part

-- one more row around a list of entries in three parts
module _ (e : Entry) (aside : List Entry) {xs : List Entry} (a b c : List Entry) (rest : xs ≡ a ++ (b ++ c)) where
  around_left : e ∷ (xs ++ aside) ≡ (e ∷ a) ++ (b ++ (c ++ aside))
  around_left = rw rest (simp append_assoc)

  around_right : e ∷ (aside ++ xs) ≡ (e ∷ (aside ++ a)) ++ (b ++ (c ++ []))
  around_right = rw rest (simp (append_assoc, append-nil))

-- The entries of a tree chained from the rows of a way: those to the left of the way, those of the part at its end, and those to the right.
pub chained_entries : (ss : List Step) (t : Tree) → entries (chained ss t) ≡ lower ss ++ (entries t ++ upper ss)
unfolding entries lower upper chained
chained_entries [] t = sym (append-nil (entries t))
chained_entries (s ∷ ss) t = around s.turn (chained_entries ss t)
  where
    around : (turn : Side) → entries (chained ss t) ≡ lower ss ++ (entries t ++ upper ss)
        → entries (linking s.at s.entry turn s.left_part s.right_part (chained ss t))
        ≡ (s.entry ∷ (left_aside turn s.left_part ++ lower ss)) ++ (entries t ++ (upper ss ++ right_aside turn s.right_part))
    around left rest = around_left s.entry (entries s.right_part) (lower ss) (entries t) (upper ss) rest
    around right rest = around_right s.entry (entries s.left_part) (lower ss) (entries t) (upper ss) rest

-- the rows of a way, chained to the part at which it ended, are the tree
pub chained_again : (f : Rule) (m : ℕ) (t : Tree) → chained (way f m t).passed (way f m t).end ≡ t
unfolding chained
chained_again f =
    along f (λ m t w. chained w.passed w.end ≡ t) (λ m t ends. refl)
    (λ m i e l r s says rest. ap (linking i e s l r) rest ∙ own i e s l r)
  where
    own : (i : ℕ) (e : Entry) (s : Side) (l r : Tree) → linking i e s l r (part s l r) ≡ row i e l r
    own i e left l r = refl
    own i e right l r = refl

-- so every way divides the entries of its tree into three parts
pub parted : (f : Rule) (m : ℕ) (t : Tree)
    → let w : Way = way f m t in entries t ≡ lower w.passed ++ (entries w.end ++ upper w.passed)
parted f m t =
    let w : Way = way f m t in
    sym (ap entries (chained_again f m t)) ∙ chained_entries w.passed w.end

-- a row that is passed has proper parts on both sides
abbrev pub ProperStep : Step → Type 0
ProperStep s =
    (σ : Side)
    → Proper s.below (s.entry.key / 2 ^ suc s.below * 2 + bit_of σ) (suc s.entry.key) (part σ s.left_part s.right_part)

pub passed_proper : (f : Rule) (m : ℕ) (t : Tree) (path low : ℕ) → Proper m path low t → All ProperStep (way f m t).passed
unfolding Proper
passed_proper f =
    along f (λ m t w. (path low : ℕ) → Proper m path low t → All ProperStep w.passed) (λ m t ends path low h. none_all) goes
  where
    goes : Onward f (λ m t w. (path low : ℕ) → Proper m path low t → All ProperStep w.passed)
    goes m i e l r s says rest path low h =
        one_all {x = step m i e l r s} (rw h.key_fits.on_path h.parts) (rest (path * 2 + bit_of s) (suc e.key) (h.parts s))

pub and_true : (a b : Bool) → (a && b) ≡ true → (a ≡ true) × (b ≡ true)
and_true true b h = (refl, h)
and_true false b h = (h, cc)

-- no way meets damage in a tree without damage
pub intact_part : (s : Side) (l r : Tree) → (intact l && intact r) ≡ true → intact (part s l r) ≡ true
intact_part left l r h = (and_true (intact l) (intact r) h).0
intact_part right l r h = (and_true (intact l) (intact r) h).1

pub intact_here : (t : Tree) → intact t ≡ true → is_damaged t ≡ false
unfolding intact
intact_here none h = refl
intact_here (row i e l r) h = refl
intact_here damaged h = sym h

pub unbroken : (f : Rule) (m : ℕ) (t : Tree) → intact t ≡ true → broken (way f m t) ≡ false
unfolding intact broken
unbroken f =
    along f (λ m t w. intact t ≡ true → broken w ≡ false) (λ m t ends h. intact_here t h)
    (λ m i e l r s says rest h. rest (intact_part s l r h))

-- a rule that follows the bits of k at the rows whose key passes a test, and stops at the others
abbrev pub Seeks : Rule → (ℕ → Bool) → ℕ → Type 0
Seeks f test k = (m : ℕ) (e : Entry) (l r : Tree) → f m e l r ≡ (if test e.key then to (side m k) else stop)

module _ (f : Rule) (test : ℕ → Bool) (k : ℕ) (seeks : Seeks f test k) where
  pub turns_so : (m : ℕ) (e : Entry) (l r : Tree) (s : Side) → f m e l r ≡ to s → (test e.key ≡ true) × (side m k ≡ s)
  turns_so m e l r s says = turned (test e.key) (sym (seeks m e l r) ∙ says)
    where
      turned : (b : Bool) → (if b then to (side m k) else stop) ≡ to s → (b ≡ true) × (side m k ≡ s)
      turned true says = (refl, cc)
      turned false says = (cc, cc)

  pub stops_so : (m : ℕ) (e : Entry) (l r : Tree) → f m e l r ≡ stop → test e.key ≡ false
  stops_so m e l r says = stopped (test e.key) (sym (seeks m e l r) ∙ says)
    where
      stopped : (b : Bool) → (if b then to (side m k) else stop) ≡ stop → b ≡ false
      stopped true says = cc
      stopped false says = refl

  pub passed_pass : (m : ℕ) (t : Tree) → All (λ s. test s.entry.key ≡ true) (way f m t).passed
  passed_pass =
      along f (λ m t w. All (λ s. test s.entry.key ≡ true) w.passed) (λ m t ends. none_all)
      (λ m i e l r s says rest. one_all (turns_so m e l r s says).0 rest)

pub following_seeks : (k : ℕ) → Seeks (following k) (λ x. ltb x k) k
unfolding following
following_seeks k m e l r = refl

pub passing_equal_seeks : (k : ℕ) → Seeks (passing_equal k) (λ x. leb x k) k
unfolding passing_equal
passing_equal_seeks k m e l r = refl

-- A rule that looks only at the word of a row and at whether its parts exist, not at the serial or at what is in the parts. All our rules
-- are blind.
abbrev pub Blind : Rule → Type 0
Blind f =
    (m : ℕ) (e e' : Entry) (l r l' r' : Tree) → e'.key ≡ e.key → exists l' ≡ exists l → exists r' ≡ exists r → f m e' l' r' ≡ f m e l r

pub following_blind : (k : ℕ) → Blind (following k)
unfolding following
following_blind k m e e' l r l' r' same lefts rights = rw same

pub passing_equal_blind : (k : ℕ) → Blind (passing_equal k)
unfolding passing_equal
passing_equal_blind k m e e' l r l' r' same lefts rights = rw same

pub pushing_blind : Blind pushing
unfolding pushing
pushing_blind m e e' l r l' r' same lefts rights = rw same

pub staying_blind : Blind staying
unfolding staying
staying_blind m e e' l r l' r' same lefts rights = refl

pub down_blind : (s : Side) → Blind (down s)
unfolding down
down_blind left m e e' l r l' r' same lefts rights = rw (lefts, rights)
down_blind right m e e' l r l' r' same lefts rights = rw (lefts, rights)
