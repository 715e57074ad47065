-- Terms of a commutative ring, and their normal form: a sorted sum of products of variables.
-- Two terms whose difference has only the coefficient 0 have the same value (`ring`).
use Rattle.std.proofs.Common.{◌≡◌, ℕ, zero, suc, Bool, true, false, List, [], ◌∷◌, refl, sym, ap, ◌∙◌}
use Prim.Native.Nat.{compare, Ordering}
use Prim.Native.Nat.compare
use mathlib.Core.Path.{ap₂, subst}
use lib.IntN.{ℤ, pos, negsuc, ◌+ℤ◌, ◌*ℤ◌}
use Rattle.pa_ring.specs.CommutativeRing.{CommutativeRing}

-- a term of a ring, whose variables are places of a list
pub data Term : Type 0 where
  var : ℕ → Term
  num : ℤ → Term
  plus minus times : Term → Term → Term
  negative : Term → Term

-- a sum of products: each has a coefficient and the ascending places of its variables
pub data Poly : Type 0 where
  none : Poly
  more : ℤ → List ℕ → Poly → Poly

-- ---- the computation, which knows no ring
-- a product times one variable
abbrev pub put : ℕ → List ℕ → List ℕ
put i [] = i ∷ []
put i (j ∷ m) = elim (compare i j) [ Ordering.gt ↦ j ∷ put i m | _ ↦ i ∷ j ∷ m ]

-- the product of two products of variables
abbrev pub join : List ℕ → List ℕ → List ℕ
join [] n = n
join (i ∷ m) n = put i (join m n)

-- the order of two products, place by place
abbrev pub order : List ℕ → List ℕ → Ordering
order [] [] = Ordering.eq
order [] (j ∷ n) = Ordering.lt
order (i ∷ m) [] = Ordering.gt
order (i ∷ m) (j ∷ n) = elim (compare i j) [ Ordering.lt ↦ Ordering.lt | Ordering.gt ↦ Ordering.gt | Ordering.eq ↦ order m n ]

-- a sum with one product more, and then the rest of the sum that it came from
abbrev pub insert_then : ℤ → List ℕ → (Poly → Poly) → Poly → Poly
insert_then k m rest none = more k m (rest none)
insert_then k m rest (more l n p) =
    elim (order m n) [ Ordering.lt ↦ more k m (rest (more l n p)) | Ordering.eq ↦ more (k +ℤ l) n (rest p) | Ordering.gt ↦ more l n (insert_then k m rest p) ]

-- the sum of two sums
abbrev pub sum : Poly → Poly → Poly
sum none q = q
sum (more k m p) q = insert_then k m (λ r. sum p r) q

-- a sum times a coefficient and a product of variables
abbrev pub scaled : ℤ → List ℕ → Poly → Poly
scaled k m none = none
scaled k m (more l n p) = sum (more (k *ℤ l) (join m n) none) (scaled k m p)

-- the product of two sums
abbrev pub product : Poly → Poly → Poly
product none q = none
product (more k m p) q = sum (scaled k m q) (product p q)

-- whether the first sum is no longer than the second
abbrev pub is_shorter : Poly → Poly → Bool
is_shorter none q = true
is_shorter (more k m p) none = false
is_shorter (more k m p) (more l n q) = is_shorter p q

-- the product of two sums, which goes through the shorter one
abbrev pub product_by_shorter : Poly → Poly → Poly
product_by_shorter p q = elim (is_shorter p q) [ true ↦ product p q | false ↦ product q p ]

-- the normal form of a term
abbrev pub normal : Term → Poly
normal (var i) = more (pos 1) (i ∷ []) none
normal (num k) = more k [] none
normal (plus a b) = sum (normal a) (normal b)
normal (minus a b) = sum (normal a) (scaled (negsuc 0) [] (normal b))
normal (times a b) = product_by_shorter (normal a) (normal b)
normal (negative a) = scaled (negsuc 0) [] (normal a)

-- never true: it names a product with a coefficient other than 0, where two terms turn out not to be the same
pub data Remains : ℤ → List ℕ → Type 0 where

-- each coefficient is 0
abbrev pub AllZero : Poly → Type 0
AllZero none = Unit {0}
AllZero (more (pos zero) m p) = AllZero p
AllZero (more (pos (suc n)) m p) = Remains (pos (suc n)) m
AllZero (more (negsuc n) m p) = Remains (negsuc n) m

compare_eq : (i j : ℕ) → compare i j ≡ Ordering.eq → i ≡ j
compare_eq zero zero e = refl
compare_eq zero (suc n) e = let z = compare.zero-suc n in cc
compare_eq (suc m) zero e = let z = compare.suc-zero m in cc
compare_eq (suc m) (suc n) e = ap suc (compare_eq m n (sym (compare.suc-suc m n) ∙ e))

order_head : (o r : Ordering) {i j : ℕ} {m n : List ℕ} → (o ≡ Ordering.eq → i ≡ j) → (r ≡ Ordering.eq → m ≡ n) →
    elim o as (λ _. Ordering) [ Ordering.lt ↦ Ordering.lt | Ordering.gt ↦ Ordering.gt | Ordering.eq ↦ r ] ≡ Ordering.eq → i ∷ m ≡ j ∷ n
order_head Ordering.lt r f g e = cc
order_head Ordering.gt r f g e = cc
order_head Ordering.eq r f g e = ap₂ ◌∷◌ (f refl) (g e)

-- products with the order `eq` are the same
order_eq : (m n : List ℕ) → order m n ≡ Ordering.eq → m ≡ n
order_eq [] [] e = refl
order_eq [] (j ∷ n) e = cc
order_eq (i ∷ m) [] e = cc
order_eq (i ∷ m) (j ∷ n) e = order_head (compare i j) (order m n) (compare_eq i j) (order_eq m n) e

module _ (R : CommutativeRing) where
  open R use {carrier, ◌+◌, ◌*◌, neg, of, add_comm, add_assoc, zero-add, add-neg, mul_comm, mul_assoc, one-mul, mul-add, of-add, of-mul}

  -- ---- laws that follow
  -- the first summand changes places with the second
  pub add_left_comm : (x y z : carrier) → x + (y + z) ≡ y + (x + z)
  add_left_comm x y z = sym (add_assoc x y z) ∙ ap (λ t. t + z) (add_comm x y) ∙ add_assoc y x z

  -- the first factor changes places with the second
  pub mul_left_comm : (x y z : carrier) → x * (y * z) ≡ y * (x * z)
  mul_left_comm x y z = sym (mul_assoc x y z) ∙ ap (λ t. t * z) (mul_comm x y) ∙ mul_assoc y x z

  -- a factor on the right goes over a sum
  pub add-mul : (x y z : carrier) → (x + y) * z ≡ x * z + y * z
  add-mul x y z = mul_comm (x + y) z ∙ mul-add z x y ∙ ap₂ ◌+◌ (mul_comm z x) (mul_comm z y)

  -- 0 is neutral for sums on the right too
  pub add-zero : (x : carrier) → x + of (pos 0) ≡ x
  add-zero x = add_comm x (of (pos 0)) ∙ zero-add x

  -- 1 is neutral for products on the right too
  pub mul-one : (x : carrier) → x * of (pos 1) ≡ x
  mul-one x = mul_comm x (of (pos 1)) ∙ one-mul x

  -- a summand on the left can be taken away
  pub add_cancel_left : (x y z : carrier) → x + y ≡ x + z → y ≡ z
  add_cancel_left x y z e =
      sym (zero-add y) ∙ ap (λ t. t + y) (sym (add-neg x) ∙ add_comm x (neg x)) ∙ add_assoc (neg x) x y
      ∙ ap (λ t. neg x + t) e
      ∙ sym (add_assoc (neg x) x z) ∙ ap (λ t. t + z) (add_comm (neg x) x ∙ add-neg x) ∙ zero-add z

  -- 0 times a number
  pub zero-mul : (x : carrier) → of (pos 0) * x ≡ of (pos 0)
  zero-mul x = add_cancel_left (of (pos 0) * x) (of (pos 0) * x) (of (pos 0))
      (sym (add-mul (of (pos 0)) (of (pos 0)) x) ∙ ap (λ t. t * x) (zero-add (of (pos 0))) ∙ sym (add-zero (of (pos 0) * x)))

  -- a number times 0
  pub mul-zero : (x : carrier) → x * of (pos 0) ≡ of (pos 0)
  mul-zero x = mul_comm x (of (pos 0)) ∙ zero-mul x

  -- -1 times a number
  pub minus_one-mul : (x : carrier) → of (negsuc 0) * x ≡ neg x
  minus_one-mul x = add_cancel_left x (of (negsuc 0) * x) (neg x)
      (ap (λ t. t + of (negsuc 0) * x) (sym (one-mul x)) ∙ sym (add-mul (of (pos 1)) (of (negsuc 0)) x) ∙ ap (λ t. t * x) (sym (of-add (pos 1) (negsuc 0)))
      ∙ zero-mul x ∙ sym (add-neg x))

  -- numbers whose difference is 0 are equal
  pub same_from_difference : (x y : carrier) → x + neg y ≡ of (pos 0) → x ≡ y
  same_from_difference x y e = add_cancel_left (neg y) x y (add_comm (neg y) x ∙ e ∙ sym (add-neg y) ∙ add_comm y (neg y))

  middle_exchanged : (a b c d : carrier) → a * b * (c * d) ≡ a * c * (b * d)
  middle_exchanged a b c d = mul_assoc a b (c * d) ∙ ap (λ t. a * t) (mul_left_comm b c d) ∙ sym (mul_assoc a c (b * d))

  -- ---- values
  -- the number at a place of the list of variables, and 0 past its end
  abbrev pub at : List carrier → ℕ → carrier
  at [] i = of (pos 0)
  at (x ∷ ρ) zero = x
  at (x ∷ ρ) (suc i) = at ρ i

  -- the value of a term, with the numbers of the list for the variables
  abbrev pub value : Term → List carrier → carrier
  value (var i) ρ = at ρ i
  value (num k) ρ = of k
  value (plus a b) ρ = value a ρ + value b ρ
  value (minus a b) ρ = value a ρ + neg (value b ρ)
  value (times a b) ρ = value a ρ * value b ρ
  value (negative a) ρ = neg (value a ρ)

  abbrev value_of_product : List ℕ → List carrier → carrier
  value_of_product [] ρ = of (pos 1)
  value_of_product (i ∷ m) ρ = at ρ i * value_of_product m ρ

  abbrev value_of_sum : Poly → List carrier → carrier
  value_of_sum none ρ = of (pos 0)
  value_of_sum (more k m p) ρ = of k * value_of_product m ρ + value_of_sum p ρ

  put_step : (o : Ordering) (i j : ℕ) (m n : List ℕ) (ρ : List carrier) → value_of_product n ρ ≡ at ρ i * value_of_product m ρ →
      value_of_product (elim o [ Ordering.gt ↦ j ∷ n | _ ↦ i ∷ j ∷ m ]) ρ ≡ at ρ i * (at ρ j * value_of_product m ρ)
  put_step Ordering.gt i j m n ρ e = ap (λ t. at ρ j * t) e ∙ mul_left_comm (at ρ j) (at ρ i) (value_of_product m ρ)
  put_step Ordering.eq i j m n ρ e = refl
  put_step Ordering.lt i j m n ρ e = refl

  put-value : (i : ℕ) (m : List ℕ) (ρ : List carrier) → value_of_product (put i m) ρ ≡ at ρ i * value_of_product m ρ
  put-value i [] ρ = refl
  put-value i (j ∷ m) ρ = put_step (compare i j) i j m (put i m) ρ (put-value i m ρ)

  join-value : (m n : List ℕ) (ρ : List carrier) → value_of_product (join m n) ρ ≡ value_of_product m ρ * value_of_product n ρ
  join-value [] n ρ = sym (one-mul (value_of_product n ρ))
  join-value (i ∷ m) n ρ =
      put-value i (join m n) ρ ∙ ap (λ t. at ρ i * t) (join-value m n ρ) ∙ sym (mul_assoc (at ρ i) (value_of_product m ρ) (value_of_product n ρ))

  insert_step : (o : Ordering) (k l : ℤ) (m n : List ℕ) (x : carrier) (r s p q : Poly) (ρ : List carrier) → (o ≡ Ordering.eq → m ≡ n) →
      value_of_sum r ρ ≡ x + (of l * value_of_product n ρ + value_of_sum p ρ) →
      value_of_sum s ρ ≡ x + value_of_sum p ρ →
      value_of_sum q ρ ≡ of k * value_of_product m ρ + x + value_of_sum p ρ →
      value_of_sum (elim o [ Ordering.lt ↦ more k m r | Ordering.eq ↦ more (k +ℤ l) n s | Ordering.gt ↦ more l n q ]) ρ
      ≡ of k * value_of_product m ρ + x + (of l * value_of_product n ρ + value_of_sum p ρ)
  insert_step Ordering.lt k l m n x r s p q ρ f e g h =
      ap (λ t. of k * value_of_product m ρ + t) e ∙ sym (add_assoc (of k * value_of_product m ρ) x (of l * value_of_product n ρ + value_of_sum p ρ))
  insert_step Ordering.eq k l m n x r s p q ρ f e g h =
      subst (λ t. of (k +ℤ l) * value_of_product n ρ + value_of_sum s ρ ≡ of k * value_of_product t ρ + x + (of l * value_of_product n ρ + value_of_sum p ρ))
      (sym (f refl))
      (ap₂ ◌+◌ (ap (λ t. t * value_of_product n ρ) (of-add k l) ∙ add-mul (of k) (of l) (value_of_product n ρ)) g
      ∙ sums (of k * value_of_product n ρ) (of l * value_of_product n ρ) x (value_of_sum p ρ))
    where
      sums : (a b c d : carrier) → a + b + (c + d) ≡ a + c + (b + d)
      sums a b c d = add_assoc a b (c + d) ∙ ap (λ t. a + t) (add_left_comm b c d) ∙ sym (add_assoc a c (b + d))
  insert_step Ordering.gt k l m n x r s p q ρ f e g h =
      ap (λ t. of l * value_of_product n ρ + t) h
      ∙ add_left_comm (of l * value_of_product n ρ) (of k * value_of_product m ρ + x) (value_of_sum p ρ)

  insert_then-value : (k : ℤ) (m : List ℕ) (rest : Poly → Poly) (x : carrier) (p : Poly) (ρ : List carrier) →
      ((q : Poly) → value_of_sum (rest q) ρ ≡ x + value_of_sum q ρ) →
      value_of_sum (insert_then k m rest p) ρ ≡ of k * value_of_product m ρ + x + value_of_sum p ρ
  insert_then-value k m rest x none ρ h = ap (λ t. of k * value_of_product m ρ + t) (h none) ∙ sym (add_assoc (of k * value_of_product m ρ) x (of (pos 0)))
  insert_then-value k m rest x (more l n p) ρ h =
      insert_step (order m n) k l m n x (rest (more l n p)) (rest p) p (insert_then k m rest p) ρ (order_eq m n) (h (more l n p)) (h p)
      (insert_then-value k m rest x p ρ h)

  sum-value : (p q : Poly) (ρ : List carrier) → value_of_sum (sum p q) ρ ≡ value_of_sum p ρ + value_of_sum q ρ
  sum-value none q ρ = sym (zero-add (value_of_sum q ρ))
  sum-value (more k m p) q ρ = insert_then-value k m (λ r. sum p r) (value_of_sum p ρ) q ρ (λ r. sum-value p r ρ)

  scaled-value : (k : ℤ) (m : List ℕ) (p : Poly) (ρ : List carrier) → value_of_sum (scaled k m p) ρ ≡ of k * value_of_product m ρ * value_of_sum p ρ
  scaled-value k m none ρ = sym (mul-zero (of k * value_of_product m ρ))
  scaled-value k m (more l n p) ρ =
      sum-value (more (k *ℤ l) (join m n) none) (scaled k m p) ρ
      ∙ ap₂ ◌+◌
      (add-zero (of (k *ℤ l) * value_of_product (join m n) ρ)
      ∙ ap₂ ◌*◌ (of-mul k l) (join-value m n ρ) ∙ middle_exchanged (of k) (of l) (value_of_product m ρ) (value_of_product n ρ))
      (scaled-value k m p ρ)
      ∙ sym (mul-add (of k * value_of_product m ρ) (of l * value_of_product n ρ) (value_of_sum p ρ))

  product-value : (p q : Poly) (ρ : List carrier) → value_of_sum (product p q) ρ ≡ value_of_sum p ρ * value_of_sum q ρ
  product-value none q ρ = sym (zero-mul (value_of_sum q ρ))
  product-value (more k m p) q ρ =
      sum-value (scaled k m q) (product p q) ρ
      ∙ ap₂ ◌+◌ (scaled-value k m q ρ) (product-value p q ρ)
      ∙ sym (add-mul (of k * value_of_product m ρ) (value_of_sum p ρ) (value_of_sum q ρ))

  product_by_shorter-value : (p q : Poly) (ρ : List carrier) → value_of_sum (product_by_shorter p q) ρ ≡ value_of_sum p ρ * value_of_sum q ρ
  product_by_shorter-value p q ρ = either (is_shorter p q)
    where
      either : (t : Bool) → value_of_sum (elim t [ true ↦ product p q | false ↦ product q p ]) ρ ≡ value_of_sum p ρ * value_of_sum q ρ
      either true = product-value p q ρ
      either false = product-value q p ρ ∙ mul_comm (value_of_sum q ρ) (value_of_sum p ρ)

  negated-value : (p : Poly) (ρ : List carrier) → value_of_sum (scaled (negsuc 0) [] p) ρ ≡ neg (value_of_sum p ρ)
  negated-value p ρ = scaled-value (negsuc 0) [] p ρ ∙ ap (λ t. t * value_of_sum p ρ) (mul-one (of (negsuc 0))) ∙ minus_one-mul (value_of_sum p ρ)

  -- the normal form has the value of the term
  normal-value : (e : Term) (ρ : List carrier) → value_of_sum (normal e) ρ ≡ value e ρ
  normal-value (var i) ρ = add-zero (of (pos 1) * (at ρ i * of (pos 1))) ∙ one-mul (at ρ i * of (pos 1)) ∙ mul-one (at ρ i)
  normal-value (num k) ρ = add-zero (of k * of (pos 1)) ∙ mul-one (of k)
  normal-value (plus a b) ρ = sum-value (normal a) (normal b) ρ ∙ ap₂ ◌+◌ (normal-value a ρ) (normal-value b ρ)
  normal-value (minus a b) ρ =
      sum-value (normal a) (scaled (negsuc 0) [] (normal b)) ρ ∙ ap₂ ◌+◌ (normal-value a ρ) (negated-value (normal b) ρ ∙ ap neg (normal-value b ρ))
  normal-value (times a b) ρ = product_by_shorter-value (normal a) (normal b) ρ ∙ ap₂ ◌*◌ (normal-value a ρ) (normal-value b ρ)
  normal-value (negative a) ρ = negated-value (normal a) ρ ∙ ap neg (normal-value a ρ)

  zero_value : (p : Poly) (ρ : List carrier) → AllZero p → value_of_sum p ρ ≡ of (pos 0)
  zero_value none ρ h = refl
  zero_value (more (pos zero) m p) ρ h = ap₂ ◌+◌ (zero-mul (value_of_product m ρ)) (zero_value p ρ h) ∙ zero-add (of (pos 0))
  zero_value (more (pos (suc n)) m p) ρ h = elim h [ ]
  zero_value (more (negsuc n) m p) ρ h = elim h [ ]

  -- terms whose difference has only the coefficient 0 have the same value
  pub ring : (ρ : List carrier) (e f : Term) → AllZero (normal (minus e f)) → value e ρ ≡ value f ρ
  ring ρ e f h = same_from_difference (value e ρ) (value f ρ) (sym (normal-value (minus e f) ρ) ∙ zero_value (normal (minus e f)) ρ h)
