-- Names that pass a test: which of them are among those that pass, and that tests which agree on a list select the same.
use Rattle.std.proofs.Common.{◌≡◌, refl, sym, ap, ap₂, ◌∙◌, Bool, true, false, cond, not, ◌&&◌, ◌||◌, List, [], ◌∷◌, filter}
use Rattle.std.proofs.Common.{Option, None, Some}
use Rattle.std.proofs.lemmas.Cmp.{nat_list_eq_equiv}
use Rattle.std.proofs.lemmas.Slice.Eq.{bytes_eq-Decides}
use Rattle.std.specs.Str.{bytes_eq}
use Rattle.pa_meaning.specs.Contracts.{Name}
use Rattle.pa_meaning.specs.Composition.{is_among}
use Rattle.pa_holds.specs.Refusals.{first_missing}

and_false : (b : Bool) → false ≡ (b && false)
and_false true = refl
and_false false = refl

pub and_true : (b : Bool) → (b && true) ≡ b
and_true true = refl
and_true false = refl

-- a name is among those that pass where it is there and passes
pub among_passing : (test : Name → Bool) (n : Name) (ys : List Name) → is_among (filter test ys) n ≡ (test n && is_among ys n)
among_passing test n [] = and_false (test n)
among_passing test n (y ∷ ys) = by (bytes_eq n y) refl (test y) refl (among_passing test n ys)
  where
    passes : bytes_eq n y ≡ true → test n ≡ test y
    passes same = ap test ((bytes_eq-Decides n y).0 same)

    by : (same : Bool) → bytes_eq n y ≡ same → (b : Bool) → test y ≡ b → is_among (filter test ys) n ≡ (test n && is_among ys n)
        → is_among (cond b (y ∷ filter test ys) (filter test ys)) n ≡ (test n && (same || is_among ys n))
    by true e true t rest = ap (λ b. b || is_among (filter test ys) n) e ∙ sym (ap (λ b. b && true) (passes e ∙ t))
    by true e false t rest = rest ∙ ap (λ b. b && is_among ys n) (passes e ∙ t) ∙ sym (ap (λ b. b && true) (passes e ∙ t))
    by false e true t rest = ap (λ b. b || is_among (filter test ys) n) e ∙ rest
    by false e false t rest = rest

-- a name that is not there is not among those that pass
pub none_among : (test : Name → Bool) (n : Name) (ys : List Name) → is_among ys n ≡ false → is_among (filter test ys) n ≡ false
none_among test n ys none = among_passing test n ys ∙ ap (λ b. test n && b) none ∙ sym (and_false (test n))

or_true : (b : Bool) → (b || true) ≡ true
or_true true = refl
or_true false = refl

-- tests that agree on the names of a list select the same of them
pub same_passing : (f g : Name → Bool) (ys : List Name) → ((n : Name) → is_among ys n ≡ true → f n ≡ g n) → filter f ys ≡ filter g ys
same_passing f g [] h = refl
same_passing f g (y ∷ ys) h =
    ap₂ (λ b (rest : List Name). cond b (y ∷ rest) rest) (h y (ap (λ b. b || is_among ys y) (nat_list_eq_equiv.refl y)))
    (same_passing f g ys (λ n there. h n (ap (λ b. bytes_eq n y || b) there ∙ or_true (bytes_eq n y))))

-- those that are among the ones that pass are these
pub passing_among : (test : Name → Bool) (ys : List Name) → filter (is_among (filter test ys)) ys ≡ filter test ys
passing_among test ys = same_passing (is_among (filter test ys)) test ys
    (λ n there. among_passing test n ys ∙ ap (λ b. test n && b) there ∙ and_true (test n))

pub none_passing : (test : Name → Bool) (xs ys : List Name) → ((n : Name) → is_among ys n ≡ true → is_among xs n ≡ true)
    → first_missing xs (filter test ys) ≡ None
none_passing test xs [] h = refl
none_passing test xs (y ∷ ys) h =
    by (test y) (h y (ap (λ b. b || is_among ys y) (nat_list_eq_equiv.refl y)))
    (none_passing test xs ys (λ n there. h n (ap (λ b. bytes_eq n y || b) there ∙ or_true (bytes_eq n y))))
  where
    by : (b : Bool) → is_among xs y ≡ true → first_missing xs (filter test ys) ≡ None → first_missing xs (cond b (y ∷ filter test ys) (filter test ys)) ≡ None
    by true there rest = ap (λ b. cond (not b) (Some y) (first_missing xs (filter test ys))) there ∙ rest
    by false there rest = rest
