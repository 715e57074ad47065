-- What tests one after another tell.
use Rattle.std.proofs.Common.{◌≡◌, refl, sym, ap, ◌∙◌, List, [], ◌∷◌, Bool, true, false, Result, Ok, Err, All, Decides, IfOk, true≢false}
use Rattle.std.proofs.lemmas.Bool.Decides.{Decides-like}
use Rattle.std.proofs.lemmas.List.Elements.{All-nil, All-cons, All-head, All-tail}
use Rattle.std.specs.List.{AllZip}
use Rattle.pa_frac.specs.declared.wide.Wide.{Wide}
use Rattle.pa_row.proofs.Dots.{ok_same}
use Rattle.pa_check.specs.Tests.{both, each, each_with, Tells}

pub tells_sure : {P : Type 0} (b : Bool) → Decides b P → Tells (Ok b) P
tells_sure {P = P} b d passed e = rw (sym (ok_same b passed e)) d

pub tells_like : {P Q : Type 0} (r : Result Bool Wide) → (P → Q) → (Q → P) → Tells r P → Tells r Q
tells_like r f g t passed e = Decides-like passed f g (t passed e)

pub tells_both : {P Q : Type 0} (r s : Result Bool Wide) → Tells r P → (P → Tells s Q) → Tells (both r s) (P × Q)
tells_both (Err w) s t u passed e = absurd (cc)
tells_both (Ok false) s t u passed e = rw (sym (ok_same false passed e)) (λ k. absurd (true≢false (sym k)), λ h. (t false refl).1 h.0)
tells_both (Ok true) s t u passed e =
    let p = (t true refl).0 refl in
    let d = u p passed e in
    (λ k. (p, d.0 k), λ h. d.1 h.1)

-- where the premise is known
pub tells_each : {A : Type 0} (test : A → Result Bool Wide) (Given P : A → Type 0) → ((x : A) → Given x → Tells (test x) (P x)) → (xs : List A)
    → All Given xs → Tells (each test xs) (All P xs)
tells_each test Given P t [] given = tells_sure true (λ e. All-nil P, λ h. refl)
tells_each test Given P t (x ∷ xs) given =
    tells_like (each test (x ∷ xs)) (λ h. All-cons P x xs h.0 h.1) (λ h. (All-head P x xs h, All-tail P x xs h))
    (tells_both (test x) (each test xs) (t x (All-head Given x xs given)) (λ p. tells_each test Given P t xs (All-tail Given x xs given)))

pub tells_each_with : {A B : Type 0} (test : A → B → Result Bool Wide) (GivenA : A → Type 0) (GivenB : B → Type 0) (R : A → B → Type 0)
    → ((x : A) (y : B) → GivenA x → GivenB y → Tells (test x y) (R x y))
    → (xs : List A) (ys : List B) → All GivenA xs → All GivenB ys → Tells (each_with test xs ys) (AllZip R xs ys)
tells_each_with test GivenA GivenB R t [] [] g h = tells_sure true (λ e. tt, λ z. refl)
tells_each_with test GivenA GivenB R t [] (y ∷ ys) g h = tells_sure false (λ e. absurd (true≢false (sym e)), λ z. absurd z)
tells_each_with test GivenA GivenB R t (x ∷ xs) [] g h = tells_sure false (λ e. absurd (true≢false (sym e)), λ z. absurd z)
tells_each_with test GivenA GivenB R t (x ∷ xs) (y ∷ ys) g h =
    tells_both (test x y) (each_with test xs ys) (t x y (All-head GivenA x xs g) (All-head GivenB y ys h))
    (λ p. tells_each_with test GivenA GivenB R t xs ys (All-tail GivenA x xs g) (All-tail GivenB y ys h))

-- an answer that is what is due tells the same
pub told : {P : Type 0} (answer due : Result Bool Wide) → answer ≡ due → Tells due P → IfOk answer (λ passed. Decides passed P)
told (Ok passed) due e t = t passed (sym e)
told (Err w) due e t = tt
