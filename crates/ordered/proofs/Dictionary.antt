-- The operations of the ordered dictionary do what source 004 says (specs/Source004.antt), in the source's order. What the source says allows
-- one answer only, and a set is determined by its elements.
use Prim.Native.Nat.{ℕ, ◌<◌}
use mathlib.Core.Path.{◌≡◌, refl, sym, ap, ap₂, subst, ◌∙◌}
use mathlib.Core.Logic.Iff
use mathlib.Core.Logic.{◌↔◌, ◌⊎◌, inl, inr, ⊎_elim, ⊎_swap}
use mathlib.Core.Bool.{Bool, true, false, ◌||◌, false≢true}
use mathlib.Core.List.{List, [], ◌∷◌}
use mathlib.Core.List.Memᴰ
use native.Mathlib.Nat.{le_antisymm, le_of_lt}
use native.Mathlib.Omega.{arith}
use lib.Dec.{ltb, eqb}
use borrow.Author.Tests.{eqb-true, eqb-false, eq-eqb, ne_eqb}
use Rattle.std.specs.Prelude.{if◌then◌else◌}
use Rattle.ordered.specs.Such.{Perhaps, no_such, such, its, is_there, first_of, only_if, first_such, last_such, anything}
use Rattle.ordered.specs.Dictionary.{Entry, words, word_of, Above, none_above, one_above, Increasing, none_increasing, one_increasing}
use Rattle.ordered.specs.Dictionary.{insert, is_empty, lookup, delete, max, min, successor, predecessor}
use Rattle.ordered.specs.Source004.{◌∈◌, Adds, Whether, Removes, Foremost, it_is, none_is, Least, Greatest}
use Rattle.ordered.proofs.Lists.{by_test, by_order, cons_elements, append_elements}
use Rattle.ordered.proofs.Lists.{above_less, less_above, above_smaller, head_least}

-- adding a word that is an element leaves the set as it is
element_adds : {x : ℕ} {s : List ℕ} → x ∈ s → Adds x s s
element_adds m y = (λ n. inr n, ⊎_elim (λ e. Memᴰ.cast e m) (λ n. n))

-- adding a word that is equal to the head
head_adds : {x y : ℕ} {s : List ℕ} → x ≡ y → Adds x (y ∷ s) (x ∷ s)
head_adds {x} {s} same = subst (λ y. Adds x (y ∷ s) (x ∷ s)) same (element_adds (Memᴰ.head refl))

-- adding a word to the tail adds it to the set
tail_adds : {x : ℕ} (y : ℕ) {s t : List ℕ} → Adds x s t → Adds x (y ∷ s) (y ∷ t)
tail_adds {x} y {s} {t} h z = (
  λ m. there (Memᴰ.cases_cons m),
  ⊎_elim (λ e. Memᴰ.tail ((h z).1 (inl e))) (λ m. back (Memᴰ.cases_cons m)),
)
  where
    there : (z ≡ y) ⊎ (z ∈ t) → (z ≡ x) ⊎ (z ∈ y ∷ s)
    there (inl e) = inr (Memᴰ.head e)
    there (inr m) = ⊎_elim (λ e. inl e) (λ n. inr (Memᴰ.tail n)) ((h z).0 m)

    back : (z ≡ y) ⊎ (z ∈ s) → z ∈ y ∷ t
    back (inl e) = Memᴰ.head e
    back (inr m) = Memᴰ.tail ((h z).1 (inr m))

-- "insert(x), which adds x to S"
pub insert_adds : (e : Entry) (s : List Entry) → Adds e.key (words s) (words (insert e s))
unfolding insert
insert_adds e [] = λ z. cons_elements
insert_adds e (f ∷ s) =
    by_order (λ t. Adds e.key (f.key ∷ words s) (words t)) e.key f.key
    (λ less z. cons_elements)
    (λ equal. head_adds equal)
    (λ greater. tail_adds f.key (insert_adds e s))

-- the result is a set again
pub insert_increasing : (e : Entry) (s : List Entry) → Increasing (words s) → Increasing (words (insert e s))
unfolding insert
insert_increasing e [] none_increasing = one_increasing none_above none_increasing
insert_increasing e (f ∷ s) (one_increasing a h) =
    by_order (λ t. Increasing (words t)) e.key f.key
    (λ less. one_increasing (one_above less (above_smaller (le_of_lt less) a)) (one_increasing a h))
    (λ equal. one_increasing (rw equal a) h)
    (λ greater. one_increasing (above greater) (insert_increasing e s h))
  where
    above : f.key < e.key → Above f.key (words (insert e s))
    above greater = less_above (words (insert e s)) (λ z m. ⊎_elim (λ q. rw q greater) (above_less a) ((insert_adds e s z).0 m))

-- "is-empty(), which returns whether S = ∅"
pub is_empty_whether : (s : List Entry) → Whether (words s ≡ []) (is_empty s)
unfolding is_empty
is_empty_whether [] = (λ e. refl, λ e. refl)
is_empty_whether (e ∷ s) = (λ q. absurd (false≢true q), λ q. cc)

-- `||` tests for "or"
whether_either : {P Q : Type 0} (b c : Bool) → Whether P b → Whether Q c → Whether (P ⊎ Q) (b || c)
whether_either true c h k = (λ e. inl (h.0 refl), λ d. refl)
whether_either false c h k = (λ e. inr (k.0 e), ⊎_elim (λ d. absurd (false≢true (h.1 d))) k.1)

-- `first_of` gives something if one of the two is there
there_either : (b : Bool) (e : Entry) (q : Perhaps Entry) → is_there (first_of (if b then such e else no_such) q) ≡ (b || is_there q)
there_either true e q = refl
there_either false e q = refl

-- "lookup(x), which returns whether x ∈ S"
pub lookup_whether : (x : ℕ) (s : List Entry) → Whether (x ∈ words s) (is_there (lookup x s))
unfolding lookup first_such
lookup_whether x [] = (λ e. absurd (false≢true e), λ m. absurd (Memᴰ.not-nil m))
lookup_whether x (e ∷ s) =
    rw (there_either (eqb x e.key) e (lookup x s))
    (Iff.trans (whether_either (eqb x e.key) (is_there (lookup x s)) (eqb-true x e.key, eq-eqb x e.key) (lookup_whether x s)) (Iff.symm cons_elements))

-- removing x where x is the head
head_removes : {x y : ℕ} {s t : List ℕ} → x ≡ y → Removes x s t → Removes x (y ∷ s) t
head_removes q h z = (
  λ m. (Memᴰ.tail ((h z).0 m).0, ((h z).0 m).1),
  λ k. ⊎_elim (λ e. absurd (k.1 (cc))) (λ m. (h z).1 (m, k.1)) (Memᴰ.cases_cons k.0),
)

-- removing x where the head is another word
tail_removes : {x y : ℕ} {s t : List ℕ} → (x ≡ y → ⊥) → Removes x s t → Removes x (y ∷ s) (y ∷ t)
tail_removes n h z = (
  λ m. ⊎_elim (λ e. (Memᴰ.head e, λ q. n (cc))) (λ k. (Memᴰ.tail ((h z).0 k).0, ((h z).0 k).1)) (Memᴰ.cases_cons m),
  λ k. ⊎_elim (λ e. Memᴰ.head e) (λ m. Memᴰ.tail ((h z).1 (m, k.1))) (Memᴰ.cases_cons k.0),
)

-- "delete(x), which removes x from S"
pub delete_removes : (x : ℕ) (s : List Entry) → Removes x (words s) (words (delete x s))
unfolding delete
delete_removes x [] = λ z. (λ m. absurd (Memᴰ.not-nil m), λ k. k.0)
delete_removes x (e ∷ s) =
    by_test (λ t. Removes x (e.key ∷ words s) (words t)) (eqb x e.key)
    (λ q. head_removes (eqb-true x e.key q) (delete_removes x s))
    (λ d. tail_removes (eqb-false x e.key d) (delete_removes x s))

-- the result is a set again
pub delete_increasing : (x : ℕ) (s : List Entry) → Increasing (words s) → Increasing (words (delete x s))
unfolding delete
delete_increasing x [] none_increasing = none_increasing
delete_increasing x (e ∷ s) (one_increasing a h) =
    by_test (λ t. Increasing (words t)) (eqb x e.key) (λ q. delete_increasing x s h)
    (λ d. one_increasing above (delete_increasing x s h))
  where
    above : Above e.key (words (delete x s))
    above = less_above (words (delete x s)) (λ z m. above_less a ((delete_removes x s z).0 m).0)

-- If all elements of one set come before all of another, the foremost of both sets together is the foremost of the first set, if it has one,
-- else that of the second.
foremost_of_both :
    {before : ℕ → ℕ → Type 0} {p : ℕ → Bool} {s t u : List ℕ} {a b : Perhaps ℕ}
    → Foremost before p s a → Foremost before p t b → ((x y : ℕ) → x ∈ s → y ∈ t → before x y)
    → ((z : ℕ) → z ∈ u ↔ ((z ∈ s) ⊎ (z ∈ t))) → Foremost before p u (first_of a b)
foremost_of_both (it_is {y} m e h) k across union =
    it_is ((union y).1 (inl m)) e (λ z n d. ⊎_elim (λ i. h z i d) (λ i. across y z m i) ((union z).0 n))
foremost_of_both (none_is h) (it_is {y} m e k) across union =
    it_is ((union y).1 (inr m)) e (λ z n d. ⊎_elim (λ i. absurd (h z i d)) (λ i. k z i d) ((union z).0 n))
foremost_of_both (none_is h) (none_is k) across union = none_is (λ z n d. ⊎_elim (λ i. h z i d) (λ i. k z i d) ((union z).0 n))

-- the foremost of a set of one word
foremost_of_one :
    {before : ℕ → ℕ → Type 0} (p : ℕ → Bool) {x : ℕ} → ((y : ℕ) → y ≡ x → before x y)
    → Foremost before p (x ∷ []) (only_if p (such x))
foremost_of_one {before} p {x} itself =
    by_test (Foremost before p (x ∷ [])) (p x)
    (λ e. it_is (Memᴰ.head refl) e (λ z m d. itself z (Memᴰ.eq_of_singleton m)))
    (λ e. none_is (λ z m d. false≢true (cc (Memᴰ.eq_of_singleton m))))

-- the first word of an increasing list that passes a test is the least that passes it
first_such_least : (p : ℕ → Bool) {s : List ℕ} → Increasing s → Least p s (first_such p s)
unfolding first_such
first_such_least p none_increasing = none_is (λ z m e. Memᴰ.not-nil m)
first_such_least p (one_increasing {x} {xs} a h) =
    foremost_of_both (foremost_of_one p (λ y e. omega arith)) (first_such_least p h)
    (λ y z m n. omega (arith, Memᴰ.eq_of_singleton m, above_less a n))
    (λ z. append_elements (x ∷ []) xs)

-- the last is the greatest that passes it
last_such_greatest : (p : ℕ → Bool) {s : List ℕ} → Increasing s → Greatest p s (last_such p s)
unfolding last_such
last_such_greatest p none_increasing = none_is (λ z m e. Memᴰ.not-nil m)
last_such_greatest p (one_increasing {x} {xs} a h) =
    foremost_of_both (last_such_greatest p h) (foremost_of_one p (λ y e. omega arith))
    (λ y z m n. omega (arith, Memᴰ.eq_of_singleton n, above_less a m))
    (λ z. Iff.trans (append_elements (x ∷ []) xs) (⊎_swap, ⊎_swap))

-- a search among entries by their words finds the same words as a search among the words
first_word : (p : ℕ → Bool) (s : List Entry) → its (λ e. e.key) (first_such (λ e. p e.key) s) ≡ first_such p (words s)
unfolding first_such
first_word p [] = refl
first_word p (e ∷ s) = either (p e.key) (first_word p s)
  where
    either : (b : Bool) → its (λ e. e.key) (first_such (λ e. p e.key) s) ≡ first_such p (words s)
        → its (λ e. e.key) (first_of (if b then such e else no_such) (first_such (λ e. p e.key) s))
        ≡ first_of (if b then such e.key else no_such) (first_such p (words s))
    either true rest = refl
    either false rest = rest

last_word : (p : ℕ → Bool) (s : List Entry) → its (λ e. e.key) (last_such (λ e. p e.key) s) ≡ last_such p (words s)
unfolding last_such
last_word p [] = refl
last_word p (e ∷ s) = rw (← last_word p s) (either (p e.key) (last_such (λ e. p e.key) s))
  where
    either : (b : Bool) (q : Perhaps Entry)
        → its (λ e. e.key) (first_of q (if b then such e else no_such))
        ≡ first_of (its (λ e. e.key) q) (if b then such e.key else no_such)
    either true no_such = refl
    either false no_such = refl
    either b (such f) = refl

-- "max() [..], which returns the maximum [..] element of S"
pub max_greatest : (s : List Entry) → Increasing (words s) → Greatest anything (words s) (word_of (max s))
unfolding max
max_greatest s h = rw (last_word anything s) (last_such_greatest anything h)

-- "min(), which returns the [..] minimum element of S"
pub min_least : (s : List Entry) → Increasing (words s) → Least anything (words s) (word_of (min s))
unfolding min
min_least s h = rw (first_word anything s) (first_such_least anything h)

-- "successor(x), which returns the smallest element of S greater than x"
pub successor_least : (x : ℕ) (s : List Entry) → Increasing (words s) → Least (ltb x) (words s) (word_of (successor x s))
unfolding successor
successor_least x s h = rw (first_word (ltb x) s) (first_such_least (ltb x) h)

-- "predecessor(x), which returns the largest element of S smaller than x"
pub predecessor_greatest :
    (x : ℕ) (s : List Entry) → Increasing (words s) → Greatest (λ y. ltb y x) (words s) (word_of (predecessor x s))
unfolding predecessor
predecessor_greatest x s h = rw (last_word (λ y. ltb y x) s) (last_such_greatest (λ y. ltb y x) h)

-- there is at most one foremost, if two words that come before each other are equal
foremost_unique :
    {before : ℕ → ℕ → Type 0} {p : ℕ → Bool} {s : List ℕ} {a b : Perhaps ℕ}
    → ((y z : ℕ) → before y z → before z y → y ≡ z) → Foremost before p s a → Foremost before p s b → a ≡ b
foremost_unique same (it_is {y} m e h) (it_is {y = z} n d k) = ap such (same y z (h z n d) (k y m e))
foremost_unique same (it_is {y} m e h) (none_is k) = absurd (k y m e)
foremost_unique same (none_is h) (it_is {y} m e k) = absurd (h y m e)
foremost_unique same (none_is h) (none_is k) = refl

-- there is at most one least word
pub least_unique : {p : ℕ → Bool} {s : List ℕ} {a b : Perhaps ℕ} → Least p s a → Least p s b → a ≡ b
least_unique h k = foremost_unique (λ y z l r. le_antisymm l r) h k

-- there is at most one greatest word
pub greatest_unique : {p : ℕ → Bool} {s : List ℕ} {a b : Perhaps ℕ} → Greatest p s a → Greatest p s b → a ≡ b
greatest_unique h k = foremost_unique (λ y z l r. le_antisymm r l) h k

-- if a set is contained in another with an equal head, its tail is contained in the other's tail
tail_among : {x y : ℕ} {s t : List ℕ} → x ≡ y → Above x s → ((z : ℕ) → z ∈ x ∷ s → z ∈ y ∷ t) → (z : ℕ) → z ∈ s → z ∈ t
tail_among q a h z m =
    ⊎_elim (λ e. absurd (omega (arith, above_less a m))) (λ n. n) (Memᴰ.cases_cons (h z (Memᴰ.tail m)))

-- two increasing lists with the same elements are equal: a set is determined by its elements
pub same_elements : {s t : List ℕ} → Increasing s → Increasing t → ((z : ℕ) → z ∈ s ↔ z ∈ t) → s ≡ t
same_elements none_increasing none_increasing same = refl
same_elements none_increasing (one_increasing {x = y} b k) same = absurd (Memᴰ.not-nil ((same y).1 (Memᴰ.head refl)))
same_elements (one_increasing {x} a h) none_increasing same = absurd (Memᴰ.not-nil ((same x).0 (Memᴰ.head refl)))
same_elements (one_increasing {x} {xs} a h) (one_increasing {x = y} {xs = ys} b k) same =
    ap₂ ◌∷◌ heads (same_elements h k (λ z. (tail_among heads a (λ w. (same w).0) z, tail_among (sym heads) b (λ w. (same w).1) z)))
  where
    heads : x ≡ y
    heads = le_antisymm (head_least a ((same y).1 (Memᴰ.head refl))) (head_least b ((same x).0 (Memᴰ.head refl)))

-- The dictionary is a map: a word has the entry that was inserted last, and no other word's entry changes.
pub lookup_inserted : (e : Entry) (s : List Entry) → lookup e.key (insert e s) ≡ such e
unfolding insert lookup first_such
lookup_inserted e [] = rw (eq-eqb e.key e.key refl)
lookup_inserted e (f ∷ s) =
    by_order (λ t. lookup e.key t ≡ such e) e.key f.key
    (λ less. rw (eq-eqb e.key e.key refl))
    (λ equal. rw (eq-eqb e.key e.key refl))
    (λ greater. rw (ne_eqb e.key f.key (λ same. omega arith)) (lookup_inserted e s))

pub lookup_another : (k : ℕ) (e : Entry) (s : List Entry) → (k ≡ e.key → ⊥) → lookup k (insert e s) ≡ lookup k s
unfolding insert lookup first_such
lookup_another k e [] apart = rw (ne_eqb k e.key apart)
lookup_another k e (f ∷ s) apart =
    by_order (λ t. lookup k t ≡ lookup k (f ∷ s)) e.key f.key
    (λ less. rw (ne_eqb k e.key apart))
    (λ equal. rw (ne_eqb k e.key apart, ne_eqb k f.key (λ same. apart (same ∙ sym equal))))
    (λ greater. ap (first_of (if eqb k f.key then such f else no_such)) (lookup_another k e s apart))

pub lookup_deleted : (x : ℕ) (s : List Entry) → lookup x (delete x s) ≡ no_such
unfolding delete lookup first_such
lookup_deleted x [] = refl
lookup_deleted x (f ∷ s) =
    by_test (λ t. lookup x t ≡ no_such) (eqb x f.key) (λ same. lookup_deleted x s) (λ differs. rw differs (lookup_deleted x s))

pub lookup_kept : (k x : ℕ) (s : List Entry) → (k ≡ x → ⊥) → lookup k (delete x s) ≡ lookup k s
unfolding delete lookup first_such
lookup_kept k x [] apart = refl
lookup_kept k x (f ∷ s) apart =
    by_test (λ t. lookup k t ≡ lookup k (f ∷ s)) (eqb x f.key)
    (λ same. lookup_kept k x s apart ∙ sym (rw (ne_eqb k f.key (λ also. apart (also ∙ sym (eqb-true x f.key same))))))
    (λ differs. ap (first_of (if eqb k f.key then such f else no_such)) (lookup_kept k x s apart))

-- whether a word is found depends only on the words, not on the serials
pub there_by_words : (k : ℕ) (s t : List Entry) → words s ≡ words t → is_there (lookup k s) ≡ is_there (lookup k t)
unfolding lookup first_such
there_by_words k [] [] same = refl
there_by_words k [] (f ∷ t) same = cc
there_by_words k (e ∷ s) [] same = cc
there_by_words k (e ∷ s) (f ∷ t) same =
    let heads : e.key ≡ f.key = cc in
    let tails : words s ≡ words t = cc in
    there_either (eqb k e.key) e (lookup k s)
    ∙ ap₂ (λ x b. eqb k x || b) heads (there_by_words k s t tails)
    ∙ sym (there_either (eqb k f.key) f (lookup k t))
