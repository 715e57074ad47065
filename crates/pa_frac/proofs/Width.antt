-- What the width rule says of one or several named numbers.
use Rattle.std.proofs.Common.{
  ◌≡◌,
  ◌≤◌,
  ◌⊎◌,
  inl,
  inr,
  lit≤,
  ℕ,
  Bool,
  true,
  false,
  List,
  [],
  ◌∷◌,
  Result,
  Ok,
  Err,
  refl,
  sym,
  ap,
  subst,
  ◌∙◌,
  cond,
  ◌^◌,
  arith,
}
use Rattle.std.specs.Prelude.{◌||◌, IsErr}
use Rattle.std.specs.List.{list_any}
use Rattle.std.proofs.lemmas.Bool.Decides.{nat_tests}
use Rattle.std.proofs.Math.Nat.{pow-le-pow_right}
use lib.IntN.{ℤ}
use Rattle.pa_frac.specs.declared.wide.Wide.{Wide}
use Rattle.pa_frac.specs.Width.{Fits, passes, exact_or_wide, within}

pub fits_from_passes : (w : ℕ) (z : ℤ) → passes w z ≡ false → Fits w z
fits_from_passes w z h = grind (arith, nat_tests)

pub passes_from_fits : (w : ℕ) (z : ℤ) → Fits w z → passes w z ≡ false
passes_from_fits w z h = grind (arith, nat_tests)

or_false : (b : Bool) → b || false ≡ b
or_false true = refl
or_false false = refl

or_true : (b : Bool) → b || true ≡ true
or_true true = refl
or_true false = refl

wide_cond : {A : Type 0} (b : Bool) (z : A) (e : Wide) → (let r : Result A Wide = Err e in r) ≡ cond b (Err (record {})) (Ok z) → b ≡ true
wide_cond true z e h = refl
wide_cond false z e h = cc

ok_cond : {A : Type 0} (b : Bool) (x z : A) → (let r : Result A Wide = Ok x in r) ≡ cond b (Err (record {})) (Ok z) → (b ≡ false) × (x ≡ z)
ok_cond true x z h = cc
ok_cond false x z h = (refl, cc)

-- an error is `Wide`, since there is no other
pub wide_from_err : {A : Type 0} (r : Result A Wide) → IsErr r → r ≡ Err (record {})
wide_from_err (Ok x) h = cc
wide_from_err (Err e) h = refl

-- an answer that is not `Wide` is the number, which fits
pub within_ok : (w : ℕ) (x z : ℤ) → Ok x ≡ within w z → (passes w z ≡ false) × (x ≡ z)
within_ok w x z h =
    let t = ok_cond (passes w z || false) x z h in
    (sym (or_false (passes w z)) ∙ t.0, t.1)

pub fits_from_answer : (w : ℕ) (x z : ℤ) → Ok x ≡ within w z → Fits w x
fits_from_answer w x z h =
    let t = within_ok w x z h in
    subst (Fits w) (sym t.1) (fits_from_passes w z t.0)

-- a number that fits a width fits a greater one
pub fits_widest : (v w : ℕ) (z : ℤ) → v ≤ w → Fits v z → Fits w z
fits_widest v w z h k =
    let powers : 2 ^ v ≤ 2 ^ w = pow-le-pow_right (lit≤ tt) h in
    omega arith

pub answer_widest : (v w : ℕ) (x z : ℤ) → v ≤ w → Ok x ≡ within v z → Fits w x
answer_widest v w x z h k = fits_widest v w x h (fits_from_answer v x z k)

-- a number that fits is its own answer
pub within_fits : (w : ℕ) (z : ℤ) → Fits w z → Ok z ≡ within w z
within_fits w z h = sym (ap (λ b. cond (b || false) (Err (record {})) (Ok z)) (passes_from_fits w z h))

-- `Wide` says that the number passes
pub within_wide : (w : ℕ) (z : ℤ) (e : Wide) → Err e ≡ within w z → passes w z ≡ true
within_wide w z e h = sym (or_false (passes w z)) ∙ wide_cond (passes w z || false) z e h

-- where the first named number passes, the answer is `Wide`
pub wide_first : {A : Type 0} (w : ℕ) (z : ℤ) (named : List ℤ) (x : A) → passes w z ≡ true → Err (record {}) ≡ exact_or_wide w (z ∷ named) x
wide_first w z named x h = sym (ap (λ b. cond (b || list_any (passes w) named) (Err (record {})) (Ok x)) h)

-- where a later one passes, too
pub wide_later : {A : Type 0} (w : ℕ) (z : ℤ) (named : List ℤ) (x : A) → Err (record {}) ≡ exact_or_wide w named x →
    Err (record {}) ≡ exact_or_wide w (z ∷ named) x
wide_later w z named x h =
    let t = wide_cond (list_any (passes w) named) x (record {}) h in
    sym (ap (λ b. cond (passes w z || b) (Err (record {})) (Ok x)) t ∙ ap (λ b. cond b (Err (record {})) (Ok x)) (or_true (passes w z)))

-- where no named number passes, the answer is the value
pub exact_first : {A : Type 0} (w : ℕ) (z : ℤ) (named : List ℤ) (x : A) → passes w z ≡ false → Ok x ≡ exact_or_wide w named x →
    Ok x ≡ exact_or_wide w (z ∷ named) x
exact_first w z named x h k = k ∙ sym (ap (λ b. cond (b || list_any (passes w) named) (Err (record {})) (Ok x)) h)

-- an answer that is not `Wide` is the value
pub exact_value : {A : Type 0} (w : ℕ) (named : List ℤ) (x v : A) → Ok x ≡ exact_or_wide w named v → x ≡ v
exact_value w named x v h = (ok_cond (list_any (passes w) named) x v h).1

-- what passes a greater width passes a lesser one
passes_below : (v w : ℕ) (z : ℤ) → v ≤ w → passes w z ≡ true → passes v z ≡ true
passes_below v w z h k =
    let powers : 2 ^ v ≤ 2 ^ w = pow-le-pow_right (lit≤ tt) h in
    grind (arith, nat_tests)

or_cases : (a b : Bool) → a || b ≡ true → (a ≡ true) ⊎ (b ≡ true)
or_cases true b h = inl refl
or_cases false b h = inr h

any_below : (v w : ℕ) → v ≤ w → (named : List ℤ) → list_any (passes w) named ≡ true → list_any (passes v) named ≡ true
any_below v w h [] k = cc
any_below v w h (z ∷ named) k = by_cases (or_cases (passes w z) (list_any (passes w) named) k) (any_below v w h named)
  where
    by_cases : (passes w z ≡ true) ⊎ (list_any (passes w) named ≡ true) → (list_any (passes w) named ≡ true → list_any (passes v) named ≡ true) →
        list_any (passes v) (z ∷ named) ≡ true
    by_cases (inl p) rest = ap (λ b. b || list_any (passes v) named) (passes_below v w z h p)
    by_cases (inr p) rest = ap (λ b. passes v z || b) (rest p) ∙ or_true (passes v z)

pub wide_below : {A : Type 0} (v w : ℕ) (named : List ℤ) (x : A) (e : Wide) → v ≤ w → Err e ≡ exact_or_wide w named x →
    Err (record {}) ≡ exact_or_wide v named x
wide_below v w named x e h k = sym (ap (λ b. cond b (Err (record {})) (Ok x)) (any_below v w h named (wide_cond (list_any (passes w) named) x e k)))

-- ---- a product that was tested against a greater width first
pub product_wide : (v w : ℕ) (z : ℤ) (e : Wide) → Err e ≡ within w z → v ≤ w → Err (record {}) ≡ within v z
product_wide v w z e h k = wide_below v w (z ∷ []) z e k h

pub product_below : (v w : ℕ) (r : Result ℤ Wide) (x z : ℤ) → Ok x ≡ within w z → r ≡ within v x → r ≡ within v z
product_below v w r x z h k = k ∙ ap (within v) (within_ok w x z h).1

pub product_most : (v w : ℕ) (x z : ℤ) → v ≤ w → w ≤ v → Ok x ≡ within w z → Ok x ≡ within v z
product_most v w x z h k e = let same : w ≡ v = omega arith in subst (λ u. Ok x ≡ within u z) same e

-- ---- two named numbers, which are checked one after the other
pub two_exact : {A : Type 0} (w : ℕ) (x y n m : ℤ) (v : A) → Ok n ≡ within w x → Ok m ≡ within w y → Ok v ≡ exact_or_wide w (x ∷ y ∷ []) v
two_exact w x y n m v h k = exact_first w x (y ∷ []) v (within_ok w n x h).0 (exact_first w y [] v (within_ok w m y k).0 refl)

pub two_wide_first : {A : Type 0} (w : ℕ) (x y : ℤ) (e : Wide) (v : A) → Err e ≡ within w x → Err (record {}) ≡ exact_or_wide w (x ∷ y ∷ []) v
two_wide_first w x y e v h = wide_first w x (y ∷ []) v (within_wide w x e h)

pub two_wide_second : {A : Type 0} (w : ℕ) (x y : ℤ) (e : Wide) (v : A) → Err e ≡ within w y → Err (record {}) ≡ exact_or_wide w (x ∷ y ∷ []) v
two_wide_second w x y e v h = wide_later w x (y ∷ []) v (wide_first w y [] v (within_wide w y e h))

-- ---- four of them
pub four_exact : {A : Type 0} (w : ℕ) (x y z t k l m n : ℤ) (v : A) → Ok k ≡ within w x → Ok l ≡ within w y → Ok m ≡ within w z → Ok n ≡ within w t →
    Ok v ≡ exact_or_wide w (x ∷ y ∷ z ∷ t ∷ []) v
four_exact w x y z t k l m n v hx hy hz ht =
    exact_first w x (y ∷ z ∷ t ∷ []) v (within_ok w k x hx).0 (exact_first w y (z ∷ t ∷ []) v (within_ok w l y hy).0 (two_exact w z t m n v hz ht))

pub four_wide_first : {A : Type 0} (w : ℕ) (x y z t : ℤ) (e : Wide) (v : A) → Err e ≡ within w x → Err (record {}) ≡ exact_or_wide w (x ∷ y ∷ z ∷ t ∷ []) v
four_wide_first w x y z t e v h = wide_first w x (y ∷ z ∷ t ∷ []) v (within_wide w x e h)

pub four_wide_second : {A : Type 0} (w : ℕ) (x y z t : ℤ) (e : Wide) (v : A) → Err e ≡ within w y → Err (record {}) ≡ exact_or_wide w (x ∷ y ∷ z ∷ t ∷ []) v
four_wide_second w x y z t e v h = wide_later w x (y ∷ z ∷ t ∷ []) v (wide_first w y (z ∷ t ∷ []) v (within_wide w y e h))

pub four_wide_third : {A : Type 0} (w : ℕ) (x y z t : ℤ) (e : Wide) (v : A) → Err e ≡ within w z → Err (record {}) ≡ exact_or_wide w (x ∷ y ∷ z ∷ t ∷ []) v
four_wide_third w x y z t e v h = wide_later w x (y ∷ z ∷ t ∷ []) v (wide_later w y (z ∷ t ∷ []) v (two_wide_first w z t e v h))

pub four_wide_fourth : {A : Type 0} (w : ℕ) (x y z t : ℤ) (e : Wide) (v : A) → Err e ≡ within w t → Err (record {}) ≡ exact_or_wide w (x ∷ y ∷ z ∷ t ∷ []) v
four_wide_fourth w x y z t e v h = wide_later w x (y ∷ z ∷ t ∷ []) v (wide_later w y (z ∷ t ∷ []) v (two_wide_second w z t e v h))
