-- What the named numbers of an operation are at most, by any numbers of its fractions: where these are below the width, no named number
-- passes. So a caller that knows fractions over one denominator may test its own products, and needs no common divisor.
use Rattle.std.proofs.Common.{◌≡◌, ℕ, zero, suc, [], ◌∷◌, Ok, sym, ap, subst, ◌∙◌, arith}
use Rattle.std.specs.Prelude.{unsigned_abs, ◌*◌, ◌≤◌}
use Rattle.std.specs.declared.cmp.Ordering.{Ordering}
use Rattle.std.specs.declared.cmp.Ordering.TheVariants.{Less, Equal, Greater}
use Rattle.std.specs.Cmp.{int_ranks, int_cmp_is}
use Rattle.std.specs.Ordering.{MatchOrdering, int_cmp}
use Rattle.std.specs.Int.RustNames.{int_div}
use Rattle.std.proofs.lemmas.Int.{ints, unsigned_abs-mul}
use lib.IntN.{ℤ, pos, negsuc, ◌+ℤ◌, ◌-ℤ◌, ◌*ℤ◌, neg_ℤ}
use lib.Signed.{◌<ℤ◌}
use Rattle.pa_ring.proofs.Integers.{*ℤ_cancel, <ℤ-*ℤ, null, ◌⋆◌, ◌⊞◌}
use Rattle.pa_ring.proofs.IntegerTactics.{by_ring, by_equations, reads}
use Rattle.pa_math.specs.Divisors.{gcd_ℤ}
use Rattle.pa_math.specs.Rational.{ℚ, den, over, ◌+ℚ◌, ◌-ℚ◌, ◌*ℚ◌, reciprocal, ◌/ℚ◌}
use Rattle.pa_math.specs.RationalOrder.{compare_ℚ}
use Rattle.pa_math.proofs.Divisors.{
  gcd_ℤ_comm,
  gcd_ℤ_positive,
  gcd_ℤ_left_quotient,
  gcd_ℤ_right,
  gcd_ℤ_right_quotient,
  quotient_exact,
  quotient_positive,
  Divides_from_multiple,
}
use Rattle.pa_math.proofs.Coprime.{Divides_coprime_factor, coprime_swap, coprime_quotients}
use Rattle.pa_math.proofs.ReducedForms.{reduced_divides}
use Rattle.pa_math.proofs.Rationals.{IsRatio, reduced_form, den_positive, over_parts, ratio_sum, ratio_difference, ratio_cross}
use Rattle.pa_math.proofs.RationalOrders.{compare_from_ratios}
use Rattle.pa_math.proofs.ReducedOperations.{product_numbers, product_num, product_den}
use Rattle.pa_frac.specs.Width.{Fits, exact_or_wide}
use Rattle.pa_frac.specs.Operations.{fraction_in, sum_in, difference_in, product_in, quotient_in, comparison_in, scaled_num, common_den}
use Rattle.pa_frac.proofs.Width.{within_fits, two_exact, four_exact}

-- ---- factors that fit
-- `n` is k times `a`, for a k of at least 1
pub record IsTimes (a k n : ℤ) : Type 0 where
  pub positive : pos 0 <ℤ k
  pub is : a *ℤ k ≡ n

at_most_product : (m k : ℕ) → m ≤ m * suc k
at_most_product m k = omega arith

-- a factor is at most the product, but for signs
pub times_at_most : {a k n : ℤ} → IsTimes a k n → unsigned_abs a ≤ unsigned_abs n
times_at_most {a} {k = pos zero} {n} t = absurd (omega (arith, ints, t.positive))
times_at_most {a} {k = pos (suc k)} {n} t =
    let product : unsigned_abs a * suc k ≡ unsigned_abs n = sym (unsigned_abs-mul a (pos (suc k))) ∙ ap unsigned_abs t.is in
    let below : unsigned_abs a ≤ unsigned_abs a * suc k = at_most_product (unsigned_abs a) k in
    omega (arith, product, below)
times_at_most {a} {k = negsuc k} {n} t = absurd (omega (arith, ints, t.positive))

-- what fits k times, fits
pub times_fits : (w : ℕ) {a k n : ℤ} → IsTimes a k n → Fits w n → Fits w a
times_fits w {a} {k} {n} t h = let most = times_at_most t in omega (arith, most, h)

-- named numbers that fit
two_fits : {A : Type 0} (w : ℕ) (x y : ℤ) (v : A) → Fits w x → Fits w y → Ok v ≡ exact_or_wide w (x ∷ y ∷ []) v
two_fits w x y v h k = two_exact w x y x y v (within_fits w x h) (within_fits w y k)

four_fits : {A : Type 0} (w : ℕ) (x y z t : ℤ) (v : A) → Fits w x → Fits w y → Fits w z → Fits w t → Ok v ≡ exact_or_wide w (x ∷ y ∷ z ∷ t ∷ []) v
four_fits w x y z t v h k l m = four_exact w x y z t x y z t v (within_fits w x h) (within_fits w y k) (within_fits w z l) (within_fits w t m)

-- ---- any numbers of a value are a multiple of its own
pub record AreTimes (q : ℚ) (n d k : ℤ) : Type 0 where
  pub num : IsTimes q.num k n
  pub den : IsTimes (den q) k d

-- how often
abbrev pub times_of : ℚ → ℤ → ℤ
times_of q d = int_div d (den q)

pub ratio_times : {q : ℚ} {n d : ℤ} → IsRatio q n d → AreTimes q n d (times_of q d)
ratio_times {q} {n} {d} s =
    let divides = reduced_divides q.num (den q) n d (reduced_form q) s.cross in
    let k : ℤ = int_div d (den q) in
    let e : k *ℤ den q ≡ d = quotient_exact divides in
    let up : pos 0 <ℤ k = quotient_positive (den_positive q) s.positive divides in
    record {
      num = record {
        positive = up;
        is =
            *ℤ_cancel _ _ (den q) (den_positive q) (by_equations (q.num ∷ den q ∷ k ∷ n ∷ d ∷ []) (q.num ⋆ null e ⊞ null s.cross) (search reads depth 40) tt);
      };
      den = record { positive = up; is = by_equations (den q ∷ k ∷ d ∷ []) (null e) (search reads depth 40) tt };
    }

-- so where these fit, its own do
pub ratio_num_fits : (w : ℕ) {q : ℚ} {n d : ℤ} → IsRatio q n d → Fits w n → Fits w q.num
ratio_num_fits w s h = times_fits w (ratio_times s).num h

pub ratio_den_fits : (w : ℕ) {q : ℚ} {n d : ℤ} → IsRatio q n d → Fits w d → Fits w (den q)
ratio_den_fits w s h = times_fits w (ratio_times s).den h

-- the fraction of numbers that fit
pub fraction_ratio : (w : ℕ) {q : ℚ} {n d : ℤ} → IsRatio q n d → Fits w n → Fits w d → Ok q ≡ fraction_in w q
unfolding fraction_in
fraction_ratio w {q} {n} {d} s h k =
    two_fits w q.num (den q) q (ratio_num_fits w s h) (ratio_den_fits w s k)

-- ---- products and quotients: any numbers of the value that fit
named_product : (q r : ℚ) → ((q *ℚ r).num ≡ product_num q.num (den q) r.num (den r)) × (den (q *ℚ r) ≡ product_den q.num (den q) r.num (den r))
named_product q r =
    subst (λ x. ((x *ℚ r).num ≡ product_num q.num (den q) r.num (den r)) × (den (x *ℚ r) ≡ product_den q.num (den q) r.num (den r))) (over_parts q)
    (subst (λ y. ((over q.num (den q) *ℚ y).num ≡ product_num q.num (den q) r.num (den r)) ×
    (den (over q.num (den q) *ℚ y) ≡ product_den q.num (den q) r.num (den r))) (over_parts r)
    (product_numbers q.num (den q) r.num (den r) (reduced_form q) (reduced_form r)))

pub product_ratio : (w : ℕ) (q r : ℚ) {n d : ℤ} → IsRatio (q *ℚ r) n d → Fits w n → Fits w d → Ok (q *ℚ r) ≡ product_in w q r
unfolding product_in
product_ratio w q r {n} {d} s h k =
    let numbers = named_product q r in
    let num : Fits w (product_num q.num (den q) r.num (den r)) = subst (Fits w) numbers.0 (ratio_num_fits w s h) in
    let low : Fits w (product_den q.num (den q) r.num (den r)) = subst (Fits w) numbers.1 (ratio_den_fits w s k) in
    two_fits w (product_num q.num (den q) r.num (den r)) (product_den q.num (den q) r.num (den r)) (q *ℚ r) num low

pub quotient_ratio : (w : ℕ) (q r : ℚ) {n d : ℤ} → IsRatio (q /ℚ r) n d → Fits w n → Fits w d → Ok (q /ℚ r) ≡ quotient_in w q r
quotient_ratio w q r s h k = product_ratio w q (reciprocal r) s h k

-- ---- two fractions over one denominator: each is scaled to a divisor of it
-- with g = gcd b c, b = p g and c = q g; b k = d and c l = d. Then k = q t and l = p t for one t
record Shared (b c d k l p q t : ℤ) : Type 0 where
  left : IsTimes q t k
  right : IsTimes p t l
  below : IsTimes (b *ℤ q) t d

shared : (b c d k l : ℤ) → pos 0 <ℤ b → pos 0 <ℤ c → IsTimes b k d → IsTimes c l d →
    Shared b c d k l (int_div b (gcd_ℤ b c)) (int_div c (gcd_ℤ b c)) (int_div k (int_div c (gcd_ℤ b c)))
shared b c d k l hb hc s t =
    let g : ℤ = gcd_ℤ b c in
    let p : ℤ = int_div b g in
    let q : ℤ = int_div c g in
    let up : pos 0 <ℤ g = gcd_ℤ_positive b c hc in
    let p_is : p *ℤ g ≡ b = gcd_ℤ_left_quotient b c in
    let q_is : q *ℤ g ≡ c = gcd_ℤ_right_quotient b c in
    let q_up : pos 0 <ℤ q = quotient_positive up hc (gcd_ℤ_right b c) in
    let cross : p *ℤ k ≡ l *ℤ q = *ℤ_cancel _ _ g up
    (by_equations (b ∷ c ∷ d ∷ k ∷ l ∷ p ∷ q ∷ g ∷ []) (k ⋆ null p_is ⊞ neg_ℤ l ⋆ null q_is ⊞ null s.is ⊞ negsuc 0 ⋆ null t.is) (search reads depth 40)
    tt) in
    let divides = Divides_coprime_factor {a = q} {b = p} {c = k} (coprime_swap (coprime_quotients b c up)) (Divides_from_multiple q l (p *ℤ k) (sym cross)) in
    let e : int_div k q *ℤ q ≡ k = quotient_exact divides in
    let u : ℤ = int_div k q in
    let u_up : pos 0 <ℤ u = quotient_positive q_up s.positive divides in
    record {
      left = record { positive = u_up; is = by_equations (q ∷ u ∷ k ∷ []) (null e) (search reads depth 40) tt };
      right = record {
        positive = u_up;
        is =
            *ℤ_cancel _ _ q q_up (by_equations (p ∷ q ∷ u ∷ k ∷ l ∷ []) (p ⋆ null e ⊞ null cross) (search reads depth 40) tt);
      };
      below = record { positive = u_up; is = by_equations (b ∷ q ∷ u ∷ k ∷ d ∷ []) (b ⋆ null e ⊞ null s.is) (search reads depth 40) tt };
    }

-- the numbers that are named of two fractions `n / d` and `m / d`
record Scaled (q r : ℚ) (n m d t : ℤ) : Type 0 where
  left : IsTimes (scaled_num q r) t n
  right : IsTimes (scaled_num r q) t m
  below : IsTimes (common_den q r) t d

product_times : {a b k n t : ℤ} → IsTimes a k n → IsTimes b t k → IsTimes (a *ℤ b) t n
product_times {a} {b} {k} {n} {t} s u =
    record { positive = u.positive; is = by_equations (a ∷ b ∷ k ∷ n ∷ t ∷ []) (a ⋆ null u.is ⊞ null s.is) (search reads depth 40) tt }

scaled : {q r : ℚ} {n m d : ℤ} → IsRatio q n d → IsRatio r m d → Scaled q r n m d (int_div (times_of q d) (int_div (den r) (gcd_ℤ (den q) (den r))))
scaled {q} {r} {n} {m} {d} s t =
    let k = ratio_times s in
    let l = ratio_times t in
    let is = shared (den q) (den r) d (times_of q d) (times_of r d) (den_positive q) (den_positive r) k.den l.den in
    let u : ℤ = int_div (times_of q d) (int_div (den r) (gcd_ℤ (den q) (den r))) in
    record {
      left = product_times k.num is.left;
      right = subst (λ g. IsTimes (r.num *ℤ int_div (den q) g) u m) (gcd_ℤ_comm (den q) (den r)) (product_times l.num is.right);
      below = is.below;
    }

-- a difference over one denominator: the two numerators, the denominator and the difference of the numerators
pub ratio_less : {q r : ℚ} {n m d : ℤ} → IsRatio q n d → IsRatio r m d → IsRatio (q -ℚ r) (n -ℤ m) d
ratio_less {q} {r} {n} {m} {d} s t = ratio_cross (n -ℤ m) d (ratio_difference s t) s.positive (by_ring (n ∷ m ∷ d ∷ []) (search reads depth 40) tt)

pub ratio_plus : {q r : ℚ} {n m d : ℤ} → IsRatio q n d → IsRatio r m d → IsRatio (q +ℚ r) (n +ℤ m) d
ratio_plus {q} {r} {n} {m} {d} s t = ratio_cross (n +ℤ m) d (ratio_sum s t) s.positive (by_ring (n ∷ m ∷ d ∷ []) (search reads depth 40) tt)

pub difference_ratio : (w : ℕ) {q r : ℚ} {n m d : ℤ} → IsRatio q n d → IsRatio r m d → Fits w n → Fits w m → Fits w d → Fits w (n -ℤ m) →
    Ok (q -ℚ r) ≡ difference_in w q r
unfolding difference_in
difference_ratio w {q} {r} {n} {m} {d} s t hn hm hd h =
    let k = scaled s t in
    four_fits w (scaled_num q r) (scaled_num r q) (common_den q r) (q -ℚ r).num (q -ℚ r)
    (times_fits w k.left hn) (times_fits w k.right hm) (times_fits w k.below hd) (ratio_num_fits w (ratio_less s t) h)

pub sum_ratio : (w : ℕ) {q r : ℚ} {n m d : ℤ} → IsRatio q n d → IsRatio r m d → Fits w n → Fits w m → Fits w d → Fits w (n +ℤ m) → Ok (q +ℚ r) ≡ sum_in w q r
unfolding sum_in
sum_ratio w {q} {r} {n} {m} {d} s t hn hm hd h =
    let k = scaled s t in
    four_fits w (scaled_num q r) (scaled_num r q) (common_den q r) (q +ℚ r).num (q +ℚ r)
    (times_fits w k.left hn) (times_fits w k.right hm) (times_fits w k.below hd) (ratio_num_fits w (ratio_plus s t) h)

-- ---- comparisons
int_cmp_factor : (x y k : ℤ) → pos 0 <ℤ k → int_cmp (x *ℤ k) (y *ℤ k) ≡ int_cmp x y
int_cmp_factor x y k h = sym (int_cmp_is (x *ℤ k) (y *ℤ k) (int_cmp x y) (raised (int_cmp x y) (int_ranks x y)))
  where
    raised : (o : Ordering) → MatchOrdering o (x <ℤ y) (x ≡ y) (y <ℤ x) → MatchOrdering o ((x *ℤ k) <ℤ (y *ℤ k)) (x *ℤ k ≡ y *ℤ k) ((y *ℤ k) <ℤ (x *ℤ k))
    raised Less p = <ℤ-*ℤ x y k p h
    raised Equal p = ap (λ t. t *ℤ k) p
    raised Greater p = <ℤ-*ℤ y x k p h

-- over one denominator the numerators tell
pub compare_ratio : {q r : ℚ} {n m d : ℤ} → IsRatio q n d → IsRatio r m d → compare_ℚ q r ≡ int_cmp n m
compare_ratio {q} {r} {n} {m} {d} s t = sym (compare_from_ratios s t) ∙ int_cmp_factor n m d s.positive

pub comparison_ratio : (w : ℕ) {q r : ℚ} {n m d : ℤ} → IsRatio q n d → IsRatio r m d → Fits w n → Fits w m → Ok (int_cmp n m) ≡ comparison_in w q r
unfolding comparison_in
comparison_ratio w {q} {r} {n} {m} {d} s t hn hm =
    let k = scaled s t in
    ap Ok (sym (compare_ratio s t))
    ∙ two_fits w (scaled_num q r) (scaled_num r q) (compare_ℚ q r) (times_fits w k.left hn) (times_fits w k.right hm)
