-- Sums, products, quotients and comparisons of fractions in lowest terms, by the common divisors that keep their numbers small
-- (D. E. Knuth, The Art of Computer Programming, volume 2, section 4.5.1; P. Henrici, 1956).
use Rattle.std.proofs.Common.{◌≡◌, [], ◌∷◌, refl, sym, ap, ap₂, ◌∙◌, subst, subst₂, arith}
use Rattle.std.specs.declared.cmp.Ordering.{Ordering}
use Rattle.std.specs.declared.cmp.Ordering.TheVariants.{Less, Equal, Greater}
use Rattle.std.specs.Cmp.{int_ranks, int_cmp_is}
use Rattle.std.specs.Ordering.{MatchOrdering, int_cmp}
use Rattle.std.specs.Int.RustNames.{int_div}
use Rattle.std.proofs.lemmas.Int.{ints}
use lib.IntN.{ℤ, pos, ◌+ℤ◌, ◌-ℤ◌, ◌*ℤ◌, neg_ℤ, +ℤ_comm}
use lib.Signed.{◌<ℤ◌}
use Rattle.pa_ring.proofs.Integers.{<ℤ-*ℤ, positive-*ℤ, null, ◌⋆◌, ◌⊞◌}
use Rattle.pa_ring.proofs.IntegerTactics.{by_ring, by_equations, reads}
use Rattle.pa_math.specs.Divisors.{gcd_ℤ, Coprime, IsReduced}
use Rattle.pa_math.specs.Rational.{ℚ, den, over, whole, ◌+ℚ◌, ◌-ℚ◌, ◌*ℚ◌, reciprocal}
use Rattle.pa_math.specs.RationalOrder.{compare_ℚ}
use Rattle.pa_math.proofs.Divisors.{gcd_ℤ_positive, gcd_ℤ_comm, gcd_ℤ_right, gcd_ℤ_left_quotient}
use Rattle.pa_math.proofs.Divisors.{gcd_ℤ_right_quotient, quotient_positive, quotient_by_one, Divides_from_factor}
use Rattle.pa_math.proofs.Coprime.{coprime_one, coprime_swap, coprime_neg, coprime_product, coprime_product_right, coprime_divisor}
use Rattle.pa_math.proofs.Coprime.{coprime_divisor_right, coprime_quotients, coprime_shift, gcd_ℤ_coprime_factor}
use Rattle.pa_math.proofs.ReducedForms.{Reduces, reduces}
use Rattle.pa_math.proofs.Rationals.{ratio_self, ratio_over, ratio_whole, ratio_sum, ratio_product, same_from_ratios, over_neg, over_numbers, over_reduced}
use Rattle.pa_math.proofs.RationalOrders.{compare_from_ratios}
use Rattle.pa_math.proofs.Reciprocals.{ratio_reciprocal, ratio_reciprocal_negative}

-- ---- signs
-- a negation stays in lowest terms
pub reduced_neg : {n d : ℤ} → IsReduced n d → IsReduced (neg_ℤ n) d
reduced_neg s = record { positive = s.positive; coprime = coprime_neg s.coprime }

-- ---- sums: with g = gcd b d, the sum of `a / b` and `c / d` is `(a (d / g) + c (b / g)) / (b (d / g))`
abbrev pub sum_num : ℤ → ℤ → ℤ → ℤ → ℤ
sum_num a b c d = a *ℤ int_div d (gcd_ℤ b d) +ℤ c *ℤ int_div b (gcd_ℤ b d)

abbrev pub sum_den : ℤ → ℤ → ℤ
sum_den b d = b *ℤ int_div d (gcd_ℤ b d)

-- the numbers over the least common denominator
record Common (b d g p q : ℤ) : Type 0 where
  positive : pos 0 <ℤ g
  left : p *ℤ g ≡ b
  right : q *ℤ g ≡ d
  above : pos 0 <ℤ q
  coprime : Coprime p q

common : (b d : ℤ) → pos 0 <ℤ d → Common b d (gcd_ℤ b d) (int_div b (gcd_ℤ b d)) (int_div d (gcd_ℤ b d))
common b d h =
    let up : pos 0 <ℤ gcd_ℤ b d = gcd_ℤ_positive b d h in
    record {
      positive = up;
      left = gcd_ℤ_left_quotient b d;
      right = gcd_ℤ_right_quotient b d;
      above = quotient_positive up h (gcd_ℤ_right b d);
      coprime = coprime_quotients b d up;
    }

-- the denominator is positive
pub sum_den_positive : (b d : ℤ) → pos 0 <ℤ b → pos 0 <ℤ d → pos 0 <ℤ sum_den b d
sum_den_positive b d h k = positive-*ℤ b (int_div d (gcd_ℤ b d)) h (common b d k).above

-- the sum's value
pub sum_value : (a b c d : ℤ) → pos 0 <ℤ b → pos 0 <ℤ d → over a b +ℚ over c d ≡ over (sum_num a b c d) (sum_den b d)
sum_value a b c d h k =
    let s = common b d k in
    same_from_ratios (ratio_sum (ratio_over a b h) (ratio_over c d k)) (ratio_over (sum_num a b c d) (sum_den b d) (sum_den_positive b d h k))
    (cross a b c d (gcd_ℤ b d) (int_div b (gcd_ℤ b d)) (int_div d (gcd_ℤ b d)) s.left s.right)
  where
    cross : (a b c d g p q : ℤ) → p *ℤ g ≡ b → q *ℤ g ≡ d → (a *ℤ d +ℤ c *ℤ b) *ℤ (b *ℤ q) ≡ (a *ℤ q +ℤ c *ℤ p) *ℤ (b *ℤ d)
    cross a b c d g p q e f =
        by_equations (a ∷ b ∷ c ∷ d ∷ g ∷ p ∷ q ∷ []) (neg_ℤ (b *ℤ c *ℤ q) ⋆ null e ⊞ (b *ℤ c *ℤ p) ⋆ null f) (search reads depth 40) tt

-- the sum's two numbers have no common divisor but those of g
pub sum_common_divisor : (a b c d : ℤ) → IsReduced a b → IsReduced c d → gcd_ℤ (sum_num a b c d) (sum_den b d) ≡ gcd_ℤ (sum_num a b c d) (gcd_ℤ b d)
sum_common_divisor a b c d s t =
    let g : ℤ = gcd_ℤ b d in
    let p : ℤ = int_div b g in
    let q : ℤ = int_div d g in
    let n : ℤ = a *ℤ q +ℤ c *ℤ p in
    let is = common b d t.positive in
    let with_p : Coprime n p =
    coprime_shift c (coprime_product (coprime_divisor_right (Divides_from_factor p g b is.left) s.coprime) (coprime_swap is.coprime)) in
    let with_q : Coprime n q =
    subst (λ z. Coprime z q) (+ℤ_comm (c *ℤ p) (a *ℤ q))
    (coprime_shift a (coprime_product (coprime_divisor_right (Divides_from_factor q g d is.right) t.coprime) is.coprime)) in
    let den_is : sum_den b d ≡ g *ℤ (p *ℤ q) = by_equations (b ∷ g ∷ p ∷ q ∷ []) (neg_ℤ q ⋆ null is.left) (search reads depth 40) tt in
    ap (gcd_ℤ n) den_is ∙ gcd_ℤ_comm n (g *ℤ (p *ℤ q))
    ∙ gcd_ℤ_coprime_factor g (coprime_product (coprime_swap with_p) (coprime_swap with_q))
    ∙ gcd_ℤ_comm g n

-- at coprime denominators the sum `(a d + c b) / (b d)` is in lowest terms
pub sum_coprime_reduced : (a b c d : ℤ) → IsReduced a b → IsReduced c d → Coprime b d → IsReduced (a *ℤ d +ℤ c *ℤ b) (b *ℤ d)
sum_coprime_reduced a b c d s t h =
    let g : ℤ = gcd_ℤ b d in
    let left : int_div b g ≡ b = ap (int_div b) h.gcd_is_one ∙ quotient_by_one b in
    let right : int_div d g ≡ d = ap (int_div d) h.gcd_is_one ∙ quotient_by_one d in
    let one : gcd_ℤ (sum_num a b c d) (sum_den b d) ≡ pos 1 =
    sum_common_divisor a b c d s t ∙ ap (gcd_ℤ (sum_num a b c d)) h.gcd_is_one ∙ (coprime_one (sum_num a b c d)).gcd_is_one in
    subst₂ IsReduced (ap₂ (λ x y. a *ℤ x +ℤ c *ℤ y) right left) (ap (λ x. b *ℤ x) right)
    (record { positive = sum_den_positive b d s.positive t.positive; coprime = record { gcd_is_one = one } })

-- the numbers of the sum
pub sum_numbers : (a b c d : ℤ) → IsReduced a b → IsReduced c d →
    ((over a b +ℚ over c d).num ≡ int_div (sum_num a b c d) (gcd_ℤ (sum_num a b c d) (sum_den b d)))
    × (den (over a b +ℚ over c d) ≡ int_div (sum_den b d) (gcd_ℤ (sum_num a b c d) (sum_den b d)))
sum_numbers a b c d s t =
    let is = sum_value a b c d s.positive t.positive in
    let numbers = over_numbers (sum_num a b c d) (sum_den b d) (sum_den_positive b d s.positive t.positive) in
    (ap (λ q. q.num) is ∙ numbers.0, ap den is ∙ numbers.1)

-- a sum's numbers, divided by their greatest common divisor, are in lowest terms
pub sum_reduced : (a b c d : ℤ) → pos 0 <ℤ b → pos 0 <ℤ d →
    IsReduced (int_div (sum_num a b c d) (gcd_ℤ (sum_num a b c d) (sum_den b d))) (int_div (sum_den b d) (gcd_ℤ (sum_num a b c d) (sum_den b d)))
sum_reduced a b c d h k = (reduces (sum_num a b c d) (sum_den b d) (sum_den_positive b d h k)).reduced

-- ---- differences: a sum with the other numerator negated
abbrev pub difference_num : ℤ → ℤ → ℤ → ℤ → ℤ
difference_num a b c d = a *ℤ int_div d (gcd_ℤ b d) -ℤ c *ℤ int_div b (gcd_ℤ b d)

-- the difference's value
pub difference_value : (a b c d : ℤ) → pos 0 <ℤ b → pos 0 <ℤ d → over a b -ℚ over c d ≡ over (difference_num a b c d) (sum_den b d)
difference_value a b c d h k =
    ap (λ r. over a b +ℚ r) (over_neg c d k) ∙ sum_value a b (neg_ℤ c) d h k
    ∙ ap (λ n. over n (sum_den b d)) (negated (a *ℤ int_div d (gcd_ℤ b d)) c (int_div b (gcd_ℤ b d)))
  where
    negated : (x c p : ℤ) → x +ℤ neg_ℤ c *ℤ p ≡ x -ℤ c *ℤ p
    negated x c p = by_ring (x ∷ c ∷ p ∷ []) (search reads depth 40) tt

-- ---- products: with g = gcd a d and h = gcd c b, the product of `a / b` and `c / d` is `((a / g) (c / h)) / ((b / h) (d / g))`, in lowest terms
abbrev pub product_num : ℤ → ℤ → ℤ → ℤ → ℤ
product_num a b c d = int_div a (gcd_ℤ a d) *ℤ int_div c (gcd_ℤ c b)

abbrev pub product_den : ℤ → ℤ → ℤ → ℤ → ℤ
product_den a b c d = int_div b (gcd_ℤ c b) *ℤ int_div d (gcd_ℤ a d)

-- the numbers of the product are in lowest terms
pub product_reduced : (a b c d : ℤ) → IsReduced a b → IsReduced c d → IsReduced (product_num a b c d) (product_den a b c d)
product_reduced a b c d s t = reduced_of s t (reduces a d t.positive) (reduces c b s.positive)
  where
    coprime_parts : {a b m n : ℤ} (g h : ℤ) → m *ℤ g ≡ a → n *ℤ h ≡ b → Coprime a b → Coprime m n
    coprime_parts {a} {b} {m} {n} g h e f k = coprime_divisor_right (Divides_from_factor n h b f) (coprime_divisor (Divides_from_factor m g a e) k)

    reduced_of : {a b c d g h m n p q : ℤ} → IsReduced a b → IsReduced c d → Reduces a d g m q → Reduces c b h n p → IsReduced (m *ℤ n) (p *ℤ q)
    reduced_of {g = g} {h = h} {p = p} {q = q} s t u v = record {
      positive = positive-*ℤ p q v.reduced.positive u.reduced.positive;
      coprime = coprime_product_right
          (coprime_product (coprime_parts g h u.num_is v.den_is s.coprime) v.reduced.coprime)
          (coprime_product u.reduced.coprime (coprime_parts h g v.num_is u.den_is t.coprime));
    }

-- the product's value
pub product_value : (a b c d : ℤ) → IsReduced a b → IsReduced c d → over a b *ℚ over c d ≡ over (product_num a b c d) (product_den a b c d)
product_value a b c d s t =
    let u = reduces a d t.positive in
    let v = reduces c b s.positive in
    same_from_ratios (ratio_product (ratio_over a b s.positive) (ratio_over c d t.positive))
    (ratio_over (product_num a b c d) (product_den a b c d) (product_reduced a b c d s t).positive)
    (cross a b c d (gcd_ℤ a d) (gcd_ℤ c b) _ _ _ _ u.num_is v.num_is v.den_is u.den_is)
  where
    cross : (a b c d g h m n p q : ℤ) → m *ℤ g ≡ a → n *ℤ h ≡ c → p *ℤ h ≡ b → q *ℤ g ≡ d → a *ℤ c *ℤ (p *ℤ q) ≡ m *ℤ n *ℤ (b *ℤ d)
    cross a b c d g h m n p q e f i j =
        rw (← e, ← f, ← i, ← j) (by_ring (g ∷ h ∷ m ∷ n ∷ p ∷ q ∷ []) (search reads depth 40) tt)

-- the numbers of the product
pub product_numbers : (a b c d : ℤ) → IsReduced a b → IsReduced c d →
    ((over a b *ℚ over c d).num ≡ product_num a b c d) × (den (over a b *ℚ over c d) ≡ product_den a b c d)
product_numbers a b c d s t =
    let is = product_value a b c d s t in
    let numbers = over_reduced (product_num a b c d) (product_den a b c d) (product_reduced a b c d s t) in
    (ap (λ q. q.num) is ∙ numbers.0, ap den is ∙ numbers.1)

-- ---- quotients: a product with the reciprocal, whose denominator is positive
-- of a positive divisor
pub reciprocal_reduced : (c d : ℤ) → IsReduced c d → pos 0 <ℤ c → IsReduced d c
reciprocal_reduced c d s h = record { positive = h; coprime = coprime_swap s.coprime }

-- the reciprocal's value
pub reciprocal_value : (c d : ℤ) → pos 0 <ℤ d → pos 0 <ℤ c → reciprocal (over c d) ≡ over d c
reciprocal_value c d h k = same_from_ratios (ratio_reciprocal (ratio_over c d h) k) (ratio_over d c k) refl

-- of a negative divisor: both signs turn
pub reciprocal_reduced_negative : (c d : ℤ) → IsReduced c d → c <ℤ pos 0 → IsReduced (neg_ℤ d) (neg_ℤ c)
reciprocal_reduced_negative c d s h = record { positive = omega (arith, ints); coprime = coprime_neg (coprime_swap (coprime_neg s.coprime)) }

-- the reciprocal's value
pub reciprocal_value_negative : (c d : ℤ) → pos 0 <ℤ d → c <ℤ pos 0 → reciprocal (over c d) ≡ over (neg_ℤ d) (neg_ℤ c)
reciprocal_value_negative c d h k =
    same_from_ratios (ratio_reciprocal_negative (ratio_over c d h) k) (ratio_over (neg_ℤ d) (neg_ℤ c) (omega (arith, ints))) refl

-- ---- comparisons: with g = gcd b d, `a / b` against `c / d` is `a (d / g)` against `c (b / g)`
-- a positive factor on both sides changes no comparison
int_cmp_factor : (x y k : ℤ) → pos 0 <ℤ k → int_cmp (x *ℤ k) (y *ℤ k) ≡ int_cmp x y
int_cmp_factor x y k h = sym (int_cmp_is (x *ℤ k) (y *ℤ k) (int_cmp x y) (scaled (int_cmp x y) (int_ranks x y)))
  where
    scaled : (o : Ordering) → MatchOrdering o (x <ℤ y) (x ≡ y) (y <ℤ x) → MatchOrdering o ((x *ℤ k) <ℤ (y *ℤ k)) (x *ℤ k ≡ y *ℤ k) ((y *ℤ k) <ℤ (x *ℤ k))
    scaled Less p = <ℤ-*ℤ x y k p h
    scaled Equal p = ap (λ t. t *ℤ k) p
    scaled Greater p = <ℤ-*ℤ y x k p h

-- the comparison of the scaled numerators
pub compare_value : (a b c d : ℤ) → pos 0 <ℤ b → pos 0 <ℤ d →
    compare_ℚ (over a b) (over c d) ≡ int_cmp (a *ℤ int_div d (gcd_ℤ b d)) (c *ℤ int_div b (gcd_ℤ b d))
compare_value a b c d h k =
    let s = common b d k in
    sym (compare_from_ratios (ratio_over a b h) (ratio_over c d k))
    ∙ ap₂ int_cmp (factored a d (gcd_ℤ b d) _ s.right) (factored c b (gcd_ℤ b d) _ s.left)
    ∙ int_cmp_factor _ _ (gcd_ℤ b d) s.positive
  where
    factored : (a d g q : ℤ) → q *ℤ g ≡ d → a *ℤ d ≡ a *ℤ q *ℤ g
    factored a d g q e = by_equations (a ∷ d ∷ g ∷ q ∷ []) (neg_ℤ a ⋆ null e) (search reads depth 40) tt

-- against 0 the numerator alone counts
pub compare_zero : (q : ℚ) → compare_ℚ q (whole (pos 0)) ≡ int_cmp q.num (pos 0)
compare_zero q =
    sym (compare_from_ratios (ratio_self q) (ratio_whole (pos 0)))
    ∙ ap₂ int_cmp (one_factor q.num) (zero_factor (den q))
  where
    one_factor : (z : ℤ) → z *ℤ pos 1 ≡ z
    one_factor z = omega (arith, ints)

    zero_factor : (z : ℤ) → pos 0 *ℤ z ≡ pos 0
    zero_factor z = omega (arith, ints)
