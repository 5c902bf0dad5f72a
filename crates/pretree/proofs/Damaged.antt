-- What the code tells of a result: by `is_err`, and in an arm of a `match`.
use Rattle.std.proofs.Common.{◌≡◌, true, false, refl, sym, ◌∙◌, ap, true≢false}
use Rattle.std.specs.Prelude.{Result, Ok, Err, Some, is_err, IsOkAnd, MatchResult}
use Rattle.pretree.specs.declared.leg.Damaged.{Damaged}
use Rattle.pretree.specs.declared.Row.{Row}
use Rattle.pretree.specs.Leg.{damage, End, as_end}

pub is_damage : {A : Type 0} (r : Result A Damaged) → is_err r ≡ true → r ≡ damage
is_damage (Ok x) err = absurd (true≢false (sym err))
is_damage (Err d) err = refl

pub not_damage : {A : Type 0} (r : Result A Damaged) → is_err r ≡ false → r ≡ damage → ⊥
not_damage r fine is = true≢false (ap is_err (sym is) ∙ fine)

pub ok_so : {A : Type 0} {r : Result A Damaged} {x y : A} → r ≡ Ok x → x ≡ y → r ≡ Ok y
ok_so is so = is ∙ ap Ok so

-- the end of a leg, from the row that `.map(Some)` makes it of
pub mapped : (r : Result Row Damaged) (e : End) → MatchResult r (λ x. IsOkAnd e (λ y. y ≡ Some x)) (λ d. e ≡ Err d) → e ≡ as_end r
mapped (Ok x) (Ok y) is = ap Ok is
mapped (Ok x) (Err _) is = elim is [ ]
mapped (Err d) e is = is
