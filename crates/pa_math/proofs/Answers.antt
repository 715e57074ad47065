-- Steps that may be refused, one after another, and refusals that are handed on.
use Rattle.std.proofs.Common.{◌≡◌, ◌⊎◌, inl, inr, Result, Ok, Err, IfErr, refl, subst, sym, ap}
use Rattle.std.specs.Result.{IsErrAnd}
use Rattle.pa_math.specs.Answers.{IsAnswer, and_then, told_as}

-- steps one after another, in whichever way they are grouped
pub and_then_assoc : {A B C E : Type 0} (r : Result A E) (f : A → Result B E) (g : B → Result C E) →
    and_then (and_then r f) g ≡ and_then r (λ a. and_then (f a) g)
and_then_assoc (Ok a) f g = refl
and_then_assoc (Err e) f g = refl

-- a value that two steps gave came of a value of the first
pub and_then_ok : {A B E : Type 0} (r : Result A E) (f : A → Result B E) (b : B) → Ok b ≡ and_then r f → (a : A) × (Ok a ≡ r) × (Ok b ≡ f a)
and_then_ok (Ok a) f b h = (a, refl, h)
and_then_ok (Err e) f b h = cc

-- equal answers have equal values
pub ok_same : {A E : Type 0} (x y : A) → (let r : Result A E = Ok x in r) ≡ Ok y → x ≡ y
ok_same x y h = cc

err_same : {A E : Type 0} (x y : E) → (let r : Result A E = Err x in r) ≡ Err y → x ≡ y
err_same x y h = cc

-- a value is not told in another way
pub told_as_ok : {A E F : Type 0} (tell : E → F) (r : Result A E) (a : A) → told_as tell r ≡ Ok a → r ≡ Ok a
told_as_ok tell (Ok x) a h = ap Ok (ok_same x a h)
told_as_ok tell (Err e) a h = absurd (cc)

-- a refusal that is free or due stays so behind a further step
pub refused_before : {A B E F : Type 0} (memory : F) (tell : E → F) (due : Result A E) (next : A → Result B E) (fault : F) →
    (fault ≡ memory) ⊎ (told_as tell due ≡ Err fault) → (fault ≡ memory) ⊎ (told_as tell (and_then due next) ≡ Err fault)
refused_before memory tell due next fault (inl free) = inl free
refused_before memory tell (Ok a) next fault (inr is) = absurd (cc)
refused_before memory tell (Err e) next fault (inr is) = inr (ap Err (err_same (tell e) fault is))

-- what is known of a refusal is known of an answer that hands it on
pub IfErr-handed_on : {T E : Type 0} (P : E → Type 0) (fault : E) (r : Result T E) → IsErrAnd r (λ e. e ≡ fault) → P fault → IfErr r P
IfErr-handed_on P fault (Ok value) is p = absurd is
IfErr-handed_on P fault (Err e) is p = subst P (sym is) p

-- a refusal that is free or due stays so
pub IsAnswer-handed_on : {T E : Type 0} (memory fault : E) (due r : Result T E) → IsErrAnd r (λ e. e ≡ fault) → (fault ≡ memory) ⊎ (due ≡ Err fault)
    → IsAnswer memory due r
IsAnswer-handed_on memory fault due (Ok value) is p = absurd is
IsAnswer-handed_on {E = E} memory fault due (Err e) is p = subst (λ (e : E). (e ≡ memory) ⊎ (due ≡ Err e)) (sym is) p
