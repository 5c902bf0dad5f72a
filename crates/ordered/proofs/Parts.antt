-- Laws of lists: what holds of every element, searches in a list, and both for a list joined from parts.
use Prim.Native.Nat.{ℕ, ◌<◌}
use mathlib.Core.Path.{◌≡◌, refl, sym, ap}
use mathlib.Core.Bool.{Bool, true, false}
use mathlib.Core.List.{List, [], ◌∷◌, ◌++◌, Memᴰ}
use native.Mathlib.Omega.{arith}
use lib.Dec.{ltb, eqb}
use borrow.Author.Tests.{lt-ltb, le-ltb, ne_eqb}
use Rattle.std.specs.Prelude.{if◌then◌else◌}
use Rattle.ordered.specs.Such.{Perhaps, no_such, such, first_of, only_if, first_such, last_such, anything}
use Rattle.ordered.specs.Dictionary.{Entry, words, Above, none_above, one_above, Increasing, one_increasing, insert, lookup, delete}

-- P holds of every element
pub data All {A : Type 0} (P : A → Type 0) : List A → Type 0 where
  none_all : All P []
  one_all : {x : A} {xs : List A} → P x → All P xs → All P (x ∷ xs)

module _ {A : Type 0} where
  pub all_map : {P Q : A → Type 0} {xs : List A} → ((x : A) → P x → Q x) → All P xs → All Q xs
  all_map f none_all = none_all
  all_map f (one_all {x} h hs) = one_all (f x h) (all_map f hs)

  pub all_append : {P : A → Type 0} {xs ys : List A} → All P xs → All P ys → All P (xs ++ ys)
  all_append none_all k = k
  all_append (one_all h hs) k = one_all h (all_append hs k)

  pub all_both : {P Q : A → Type 0} {xs : List A} → All P xs → All Q xs → All (λ x. P x × Q x) xs
  all_both none_all none_all = none_all
  all_both (one_all h hs) (one_all k ks) = one_all (h, k) (all_both hs ks)

  -- from all elements to each one, and back
  pub each_of_all : {P : A → Type 0} {xs : List A} {x : A} → All P xs → Memᴰ x xs → P x
  each_of_all none_all i = elim i [ ]
  each_of_all {P} (one_all h hs) (Memᴰ.head e) = rw e h
  each_of_all (one_all h hs) (Memᴰ.tail i) = each_of_all hs i

  all_of_each : {P : A → Type 0} (xs : List A) → ((x : A) → Memᴰ x xs → P x) → All P xs
  all_of_each [] f = none_all
  all_of_each (x ∷ xs) f = one_all (f x (Memᴰ.head refl)) (all_of_each xs (λ y i. f y (Memᴰ.tail i)))

abbrev pub AllWords : (ℕ → Type 0) → List Entry → Type 0
AllWords P es = All (λ e. P e.key) es

pub all_above : {x : ℕ} {es : List Entry} → AllWords (λ y. x < y) es → Above x (words es)
all_above none_all = none_above
all_above (one_all h hs) = one_above h (all_above hs)

pub above_all : {x : ℕ} (es : List Entry) → Above x (words es) → AllWords (λ y. x < y) es
above_all [] none_above = none_all
above_all (e ∷ es) (one_above h hs) = one_all h (above_all es hs)

pub words_append : (es fs : List Entry) → words (es ++ fs) ≡ words es ++ words fs
words_append [] fs = refl
words_append (e ∷ es) fs = ap (λ xs. e.key ∷ xs) (words_append es fs)

-- two sets joined are a set, if all words of the first are less than all words of the second
pub append_increasing : (es fs : List Entry) → Increasing (words es) → Increasing (words fs)
    → AllWords (λ x. Above x (words fs)) es → Increasing (words (es ++ fs))
append_increasing [] fs h k apart = k
append_increasing (e ∷ es) fs (one_increasing a h) k (one_all b apart) =
    one_increasing (all_above (all_append (above_all es a) (above_all fs b))) (append_increasing es fs h k apart)

module _ {A : Type 0} where
  pub first_of_assoc : (p q r : Perhaps A) → first_of (first_of p q) r ≡ first_of p (first_of q r)
  first_of_assoc no_such q r = refl
  first_of_assoc (such x) q r = refl

  pub first_of_no_such : (p : Perhaps A) → first_of p no_such ≡ p
  first_of_no_such no_such = refl
  first_of_no_such (such x) = refl

  pub first_of_such : (p : Perhaps A) (x : A) (q : Perhaps A) → first_of (first_of p (such x)) q ≡ first_of p (such x)
  first_of_such no_such x q = refl
  first_of_such (such y) x q = refl

  module _ (p : A → Bool) where
    pub first_such_append : (xs ys : List A) → first_such p (xs ++ ys) ≡ first_of (first_such p xs) (first_such p ys)
    unfolding first_such
    first_such_append [] ys = refl
    first_such_append (x ∷ xs) ys =
        rw (first_such_append xs ys) (sym (first_of_assoc (only_if p (such x)) (first_such p xs) (first_such p ys)))

    pub last_such_append : (xs ys : List A) → last_such p (xs ++ ys) ≡ first_of (last_such p ys) (last_such p xs)
    unfolding last_such
    last_such_append [] ys = sym (first_of_no_such (last_such p ys))
    last_such_append (x ∷ xs) ys = rw (last_such_append xs ys) (first_of_assoc (last_such p ys) (last_such p xs) (only_if p (such x)))

  -- two tests that agree on a list find the same element
  same_first : {p q : A → Bool} (xs : List A) → All (λ x. p x ≡ q x) xs → first_such p xs ≡ first_such q xs
  unfolding first_such
  same_first [] none_all = refl
  same_first (x ∷ xs) (one_all h hs) = rw (h, same_first xs hs)

  pub same_last : {p q : A → Bool} (xs : List A) → All (λ x. p x ≡ q x) xs → last_such p xs ≡ last_such q xs
  unfolding last_such
  same_last [] none_all = refl
  same_last (x ∷ xs) (one_all h hs) = rw (h, same_last xs hs)

  no_first : {p : A → Bool} (xs : List A) → All (λ x. p x ≡ false) xs → first_such p xs ≡ no_such
  unfolding first_such
  no_first [] none_all = refl
  no_first (x ∷ xs) (one_all h hs) = rw (h, no_first xs hs)

  pub no_last : {p : A → Bool} (xs : List A) → All (λ x. p x ≡ false) xs → last_such p xs ≡ no_such
  unfolding last_such
  no_last [] none_all = refl
  no_last (x ∷ xs) (one_all h hs) = rw (h, no_last xs hs)

  -- a search in three parts joined, where the test is the same for all of an outer part
  module _ (p : A → Bool) (xs ys zs : List A) where
    pub first_between : All (λ x. p x ≡ false) xs → All (λ z. p z ≡ true) zs
        → first_such p (xs ++ (ys ++ zs)) ≡ first_of (first_such p ys) (first_such anything zs)
    first_between fail pass = rw (first_such_append p xs (ys ++ zs), no_first xs fail, first_such_append p ys zs, same_first zs pass)

    pub last_between : All (λ x. p x ≡ true) xs → All (λ z. p z ≡ false) zs
        → last_such p (xs ++ (ys ++ zs)) ≡ first_of (last_such p ys) (last_such anything xs)
    last_between pass fail = rw (last_such_append p xs (ys ++ zs), last_such_append p ys zs, no_last zs fail, same_last xs pass)

  abbrev pub IfSuch : (A → Type 0) → Perhaps A → Type 0
  IfSuch P no_such = Unit {0}
  IfSuch P (such x) = P x

  -- what is found is an element of the list and passes the test
  pub last_such_all : {P : A → Type 0} (p : A → Bool) {xs : List A} → All P xs → IfSuch (λ x. P x × (p x ≡ true)) (last_such p xs)
  unfolding last_such
  last_such_all p none_all = tt
  last_such_all {P} p (one_all {x} {xs} h hs) = later (last_such p xs) (last_such_all p hs)
    where
      here : (b : Bool) → p x ≡ b → IfSuch (λ y. P y × (p y ≡ true)) (if b then such x else no_such)
      here true passes = (h, passes)
      here false fails = tt

      later : (q : Perhaps A) → IfSuch (λ y. P y × (p y ≡ true)) q → IfSuch (λ y. P y × (p y ≡ true)) (first_of q (only_if p (such x)))
      later no_such found = here (p x) refl
      later (such y) found = found

  pub last_such_one : {P : A → Type 0} (p : A → Bool) {xs : List A} → All P xs → IfSuch P (last_such p xs)
  last_such_one {P} p {xs} hs = only (last_such p xs) (last_such_all p hs)
    where
      only : (q : Perhaps A) → IfSuch (λ y. P y × (p y ≡ true)) q → IfSuch P q
      only no_such found = tt
      only (such y) found = found.0

-- a word that no entry has is not found
pub no_lookup : (x : ℕ) (es : List Entry) → AllWords (λ y. eqb x y ≡ false) es → lookup x es ≡ no_such
unfolding lookup
no_lookup x es absent = no_first es absent

pub lookup_between : (x : ℕ) (xs ys zs : List Entry) → AllWords (λ y. eqb x y ≡ false) xs → AllWords (λ y. eqb x y ≡ false) zs
    → lookup x (xs ++ (ys ++ zs)) ≡ lookup x ys
unfolding lookup
lookup_between x xs ys zs fail fail' =
    rw (first_such_append (λ e. eqb x e.key) xs (ys ++ zs), no_first xs fail, first_such_append (λ e. eqb x e.key) ys zs, no_first zs fail')
    (first_of_no_such (first_such (λ e. eqb x e.key) ys))

-- `insert` and `delete` in three parts joined: the first is below the word, the last is above it
module _ (e : Entry) where
  pub insert_before : (zs : List Entry) → AllWords (λ z. e.key < z) zs → insert e zs ≡ e ∷ zs
  unfolding insert
  insert_before [] none_all = refl
  insert_before (z ∷ zs) (one_all h hs) = rw (lt-ltb e.key z.key h)

  insert_after : (xs ys : List Entry) → AllWords (λ y. y < e.key) xs → insert e (xs ++ ys) ≡ xs ++ insert e ys
  unfolding insert
  insert_after [] ys none_all = refl
  insert_after (y ∷ xs) ys (one_all h hs) =
      rw (le-ltb e.key y.key (omega arith), ne_eqb e.key y.key (λ same. omega arith), insert_after xs ys hs)

  insert_append : (ys zs : List Entry) → AllWords (λ z. e.key < z) zs → insert e (ys ++ zs) ≡ insert e ys ++ zs
  unfolding insert
  insert_append [] zs above = insert_before zs above
  insert_append (y ∷ ys) zs above = rw (insert_append ys zs above) (either (ltb e.key y.key) (eqb e.key y.key))
    where
      either : (a b : Bool)
          → (if a then e ∷ y ∷ (ys ++ zs) else if b then e ∷ (ys ++ zs) else y ∷ (insert e ys ++ zs))
          ≡ (if a then e ∷ y ∷ ys else if b then e ∷ ys else y ∷ insert e ys) ++ zs
      either true b = refl
      either false true = refl
      either false false = refl

  pub insert_between : (xs ys zs : List Entry) → AllWords (λ y. y < e.key) xs → AllWords (λ z. e.key < z) zs
      → insert e (xs ++ (ys ++ zs)) ≡ xs ++ (insert e ys ++ zs)
  insert_between xs ys zs below above = rw (insert_after xs (ys ++ zs) below, insert_append ys zs above)

module _ (x : ℕ) where
  pub delete_absent : (xs : List Entry) → AllWords (λ y. eqb x y ≡ false) xs → delete x xs ≡ xs
  unfolding delete
  delete_absent [] none_all = refl
  delete_absent (y ∷ ys) (one_all h hs) = rw (h, delete_absent ys hs)

  delete_append : (xs ys : List Entry) → delete x (xs ++ ys) ≡ delete x xs ++ delete x ys
  unfolding delete
  delete_append [] ys = refl
  delete_append (y ∷ xs) ys = rw (delete_append xs ys) (either (eqb x y.key))
    where
      either : (b : Bool)
          → (if b then delete x xs ++ delete x ys else y ∷ (delete x xs ++ delete x ys))
          ≡ (if b then delete x xs else y ∷ delete x xs) ++ delete x ys
      either true = refl
      either false = refl

  pub delete_between : (xs ys zs : List Entry) → AllWords (λ y. eqb x y ≡ false) xs → AllWords (λ y. eqb x y ≡ false) zs
      → delete x (xs ++ (ys ++ zs)) ≡ xs ++ (delete x ys ++ zs)
  delete_between xs ys zs below above =
      rw (delete_append xs (ys ++ zs), delete_append ys zs, delete_absent xs below, delete_absent zs above)
