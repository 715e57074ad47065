-- The fractions are a field: `over` says when two are equal, and the laws follow from cross products.
use Rattle.std.proofs.Common.{◌≡◌, ℕ, zero, suc, [], ◌∷◌, refl, sym, ap, ◌∙◌, subst, arith}
use Rattle.std.specs.Int.RustNames.{int_div}
use Rattle.std.proofs.lemmas.Int.{ints}
use native.Mathlib.Nat.{ℕ_set}
use mathlib.Core.HLevel.{is_prop→PathP}
use lib.IntN.{ℤ, pos, negsuc, ◌+ℤ◌, ◌*ℤ◌, ◌-ℤ◌, neg_ℤ, neg_ℤ-neg_ℤ, nat_abs, ℤ_set}
use lib.Signed.{◌<ℤ◌}
use Rattle.pa_ring.specs.CommutativeRing.{CommutativeRing}
use Rattle.pa_ring.proofs.Integers.{*ℤ_cancel, positive-*ℤ, null, ◌⋆◌, ◌⊞◌}
use Rattle.pa_ring.proofs.IntegerTactics.{by_ring, by_equations, reads}
use Rattle.pa_math.specs.Divisors.{gcd_ℤ, Coprime, IsReduced}
use Rattle.pa_math.specs.LowestTerms.{quotient_low}
use Rattle.pa_math.specs.Rational.{ℚ, den, lowest, over, whole, ◌+ℚ◌, neg_ℚ, ◌-ℚ◌, ◌*ℚ◌}
use Rattle.pa_math.proofs.ReducedForms.{reduces, reduces_cross, reduced_unique, reduced_whole}

-- ---- equal cross products
coprime_prop : (a b : ℤ) → IsProp (Coprime a b)
coprime_prop a b = hlevel ℤ_set

path : {n m : ℤ} {a b : ℕ} (p : Coprime n (pos (suc a))) (q : Coprime m (pos (suc b))) → n ≡ m → a ≡ b →
    let s : ℚ = record { num = n; low = a; reduced = p } in
    let t : ℚ = record { num = m; low = b; reduced = q } in
    s ≡ t
path p q e f = λ i. record {
  num = e i;
  low = f i;
  reduced = is_prop→PathP (λ j. Coprime (e j) (pos (suc (f j)))) (λ j. coprime_prop (e j) (pos (suc (f j)))) p q i;
}

-- a denominator is positive
pub den_positive : (q : ℚ) → pos 0 <ℤ den q
den_positive q = omega (arith, ints)

-- numerator and denominator are in lowest terms
pub reduced_form : (q : ℚ) → IsReduced q.num (den q)
reduced_form q = record { positive = den_positive q; coprime = q.reduced }

-- equal cross products make equal fractions
pub same_from_cross : (q r : ℚ) → q.num *ℤ den r ≡ r.num *ℤ den q → q ≡ r
same_from_cross q r e =
    let s = reduced_unique (reduced_form q) (reduced_form r) e in
    path q.reduced r.reduced s.0 (omega (arith, ints, s.1))

-- ---- q is the value of `n / d`
pub record IsRatio (q : ℚ) (n d : ℤ) : Type 0 where
  pub positive : pos 0 <ℤ d
  pub cross : q.num *ℤ d ≡ n *ℤ den q

-- each fraction is its numerator over its denominator
pub ratio_self : (q : ℚ) → IsRatio q q.num (den q)
ratio_self q = record { positive = den_positive q; cross = refl }

ratio_lowest : (n : ℤ) (k : ℕ) → IsRatio (lowest n k) n (pos (suc k))
unfolding lowest
ratio_lowest n k =
    let r = reduces n (pos (suc k)) (omega (arith, ints)) in
    record {
      positive = omega (arith, ints);
      cross = reduces_cross r ∙ ap (λ t. n *ℤ pos t) (sym (quotient_low (nat_abs n) k));
    }

-- the value of `over`
pub ratio_over : (n d : ℤ) → pos 0 <ℤ d → IsRatio (over n d) n d
unfolding over
ratio_over n (pos zero) h = absurd (omega (arith, ints))
ratio_over n (pos (suc k)) h = ratio_lowest n k
ratio_over n (negsuc k) h = absurd (omega (arith, ints))

-- the value of a whole number
pub ratio_whole : (n : ℤ) → IsRatio (whole n) n (pos 1)
ratio_whole n = ratio_over n (pos 1) (omega (arith, ints))

-- one value at other numbers with the same cross product
pub ratio_cross : {q : ℚ} {n d : ℤ} (m e : ℤ) → IsRatio q n d → pos 0 <ℤ e → n *ℤ e ≡ m *ℤ d → IsRatio q m e
ratio_cross {q} {n} {d} m e s h c = record {
  positive = h;
  cross = *ℤ_cancel _ _ d s.positive
      (by_equations (q.num ∷ den q ∷ n ∷ d ∷ m ∷ e ∷ []) (e ⋆ null s.cross ⊞ den q ⋆ null c) (search reads depth 40) tt);
}

-- two values at any numbers of theirs with equal cross products
pub same_from_ratios : {q r : ℚ} {n d m e : ℤ} → IsRatio q n d → IsRatio r m e → n *ℤ e ≡ m *ℤ d → q ≡ r
same_from_ratios {q} {r} {n} {d} {m} {e} s t c =
    let u = ratio_cross m e s t.positive c in
    same_from_cross q r (*ℤ_cancel _ _ e t.positive
    (by_equations (q.num ∷ den q ∷ r.num ∷ den r ∷ m ∷ e ∷ []) (den r ⋆ null u.cross ⊞ negsuc 0 ⋆ (den q ⋆ null t.cross)) (search reads depth 40) tt))

-- and the other way: the cross products of equal values are equal
pub cross_from_same : {q r : ℚ} {n d m e : ℤ} → IsRatio q n d → IsRatio r m e → q ≡ r → n *ℤ e ≡ m *ℤ d
cross_from_same {q} {r} {n} {d} {m} {e} s t p =
    let u : IsRatio q m e = subst (λ x. IsRatio x m e) (sym p) t in
    *ℤ_cancel _ _ (den q) (den_positive q)
    (by_equations (q.num ∷ den q ∷ n ∷ d ∷ m ∷ e ∷ []) (negsuc 0 ⋆ (e ⋆ null s.cross) ⊞ d ⋆ null u.cross) (search reads depth 40) tt)

-- ---- the operations at any numbers of the values
add_cross : (a b c f n d m e : ℤ) → a *ℤ d ≡ n *ℤ b → c *ℤ e ≡ m *ℤ f → (a *ℤ f +ℤ c *ℤ b) *ℤ (d *ℤ e) ≡ (n *ℤ e +ℤ m *ℤ d) *ℤ (b *ℤ f)
add_cross a b c f n d m e h k =
    by_equations (a ∷ b ∷ c ∷ f ∷ n ∷ d ∷ m ∷ e ∷ []) ((f *ℤ e) ⋆ null h ⊞ (b *ℤ d) ⋆ null k) (search reads depth 40) tt

mul_cross : (a b c f n d m e : ℤ) → a *ℤ d ≡ n *ℤ b → c *ℤ e ≡ m *ℤ f → a *ℤ c *ℤ (d *ℤ e) ≡ n *ℤ m *ℤ (b *ℤ f)
mul_cross a b c f n d m e h k =
    by_equations (a ∷ b ∷ c ∷ f ∷ n ∷ d ∷ m ∷ e ∷ []) ((c *ℤ e) ⋆ null h ⊞ (n *ℤ b) ⋆ null k) (search reads depth 40) tt

-- the value of a sum
pub ratio_sum : {q r : ℚ} {n d m e : ℤ} → IsRatio q n d → IsRatio r m e → IsRatio (q +ℚ r) (n *ℤ e +ℤ m *ℤ d) (d *ℤ e)
unfolding ◌+ℚ◌
ratio_sum {q} {r} {n} {d} {m} {e} s t =
    ratio_cross _ _ (ratio_over (q.num *ℤ den r +ℤ r.num *ℤ den q) (den q *ℤ den r) (positive-*ℤ (den q) (den r) (den_positive q) (den_positive r)))
    (positive-*ℤ d e s.positive t.positive) (add_cross q.num (den q) r.num (den r) n d m e s.cross t.cross)

-- the value of a product
pub ratio_product : {q r : ℚ} {n d m e : ℤ} → IsRatio q n d → IsRatio r m e → IsRatio (q *ℚ r) (n *ℤ m) (d *ℤ e)
unfolding ◌*ℚ◌
ratio_product {q} {r} {n} {d} {m} {e} s t =
    ratio_cross _ _ (ratio_over (q.num *ℤ r.num) (den q *ℤ den r) (positive-*ℤ (den q) (den r) (den_positive q) (den_positive r)))
    (positive-*ℤ d e s.positive t.positive) (mul_cross q.num (den q) r.num (den r) n d m e s.cross t.cross)

-- the value of a negation
pub ratio_neg : {q : ℚ} {n d : ℤ} → IsRatio q n d → IsRatio (neg_ℚ q) (neg_ℤ n) d
unfolding neg_ℚ
ratio_neg {q} {n} {d} s =
    ratio_cross _ _ (ratio_over (neg_ℤ q.num) (den q) (den_positive q)) s.positive
    (by_equations (q.num ∷ den q ∷ n ∷ d ∷ []) (negsuc 0 ⋆ null s.cross) (search reads depth 40) tt)

-- the value of a difference
pub ratio_difference : {q r : ℚ} {n d m e : ℤ} → IsRatio q n d → IsRatio r m e → IsRatio (q -ℚ r) (n *ℤ e -ℤ m *ℤ d) (d *ℤ e)
ratio_difference {q} {r} {n} {d} {m} {e} s t =
    let both = ratio_sum s (ratio_neg t) in
    ratio_cross _ _ both both.positive
    (by_ring (n ∷ d ∷ m ∷ e ∷ []) (search reads depth 40) tt)

-- ---- `over` depends on the cross product alone
-- equal cross products give equal fractions
pub same_over : (n d m e : ℤ) → pos 0 <ℤ d → pos 0 <ℤ e → n *ℤ e ≡ m *ℤ d → over n d ≡ over m e
same_over n d m e h k c = same_from_ratios (ratio_over n d h) (ratio_over m e k) c

-- equal fractions have equal cross products
pub cross_from_over : (n d m e : ℤ) → pos 0 <ℤ d → pos 0 <ℤ e → over n d ≡ over m e → n *ℤ e ≡ m *ℤ d
cross_from_over n d m e h k p = cross_from_same (ratio_over n d h) (ratio_over m e k) p

-- numbers in lowest terms stay as they are
pub over_reduced : (n d : ℤ) → IsReduced n d → ((over n d).num ≡ n) × (den (over n d) ≡ d)
over_reduced n d s =
    let q : ℚ = over n d in
    reduced_unique (reduced_form q) s (ratio_over n d s.positive).cross

-- the same, each by itself, for `using`
pub over_num : (n d : ℤ) → IsReduced n d → (over n d).num ≡ n
over_num n d s = (over_reduced n d s).0

pub over_den : (n d : ℤ) → IsReduced n d → den (over n d) ≡ d
over_den n d s = (over_reduced n d s).1

-- a fraction is its numerator over its denominator
pub over_parts : (q : ℚ) → over q.num (den q) ≡ q
over_parts q = same_from_ratios (ratio_over q.num (den q) (den_positive q)) (ratio_self q) refl

-- numerator and denominator of `n / d` are its numbers divided by their greatest common divisor
pub over_numbers : (n d : ℤ) → pos 0 <ℤ d → ((over n d).num ≡ int_div n (gcd_ℤ n d)) × (den (over n d) ≡ int_div d (gcd_ℤ n d))
over_numbers n d h =
    let r = reduces n d h in
    let q : ℚ = over n d in
    reduced_unique (reduced_form q) r.reduced (through q.num (den q) n d _ _ h (ratio_over n d h).cross (reduces_cross r))
  where
    through : (a b n d m e : ℤ) → pos 0 <ℤ d → a *ℤ d ≡ n *ℤ b → m *ℤ d ≡ n *ℤ e → a *ℤ e ≡ m *ℤ b
    through a b n d m e h p q =
        *ℤ_cancel _ _ d h
        (by_equations (a ∷ b ∷ n ∷ d ∷ m ∷ e ∷ []) (e ⋆ null p ⊞ negsuc 0 ⋆ (b ⋆ null q)) (search reads depth 40) tt)

-- a positive factor of both numbers changes nothing
pub over_factor : (n d k : ℤ) → pos 0 <ℤ d → pos 0 <ℤ k → over (n *ℤ k) (d *ℤ k) ≡ over n d
over_factor n d k h up =
    same_over (n *ℤ k) (d *ℤ k) n d (positive-*ℤ d k h up) h
    (by_ring (n ∷ d ∷ k ∷ []) (search reads depth 40) tt)

-- ---- `over` at denominators that are not positive
-- a negative denominator gives its sign to the numerator
pub over_negative : (n d : ℤ) → pos 0 <ℤ d → over n (neg_ℤ d) ≡ over (neg_ℤ n) d
unfolding over
over_negative n (pos zero) h = absurd (omega (arith, ints))
over_negative n (pos (suc k)) h = refl
over_negative n (negsuc k) h = absurd (omega (arith, ints))

-- `n / 0` is taken as 0
pub over_zero : (n : ℤ) → over n (pos 0) ≡ whole (pos 0)
unfolding over
over_zero n = refl

-- so the value is that of the negated numbers
pub ratio_over_negative : (n d : ℤ) → d <ℤ pos 0 → IsRatio (over n d) (neg_ℤ n) (neg_ℤ d)
ratio_over_negative n d h =
    let up : pos 0 <ℤ neg_ℤ d = omega (arith, ints) in
    subst (λ t. IsRatio (over n t) (neg_ℤ n) (neg_ℤ d)) (neg_ℤ-neg_ℤ d)
    (subst (λ t. IsRatio t (neg_ℤ n) (neg_ℤ d)) (sym (over_negative n (neg_ℤ d) up)) (ratio_over (neg_ℤ n) (neg_ℤ d) up))

-- ---- the operations on written fractions
-- their sum
pub over_sum : (n d m e : ℤ) → pos 0 <ℤ d → pos 0 <ℤ e → over n d +ℚ over m e ≡ over (n *ℤ e +ℤ m *ℤ d) (d *ℤ e)
over_sum n d m e h k = same_from_ratios (ratio_sum (ratio_over n d h) (ratio_over m e k)) (ratio_over _ _ (positive-*ℤ d e h k)) refl

-- their difference
pub over_difference : (n d m e : ℤ) → pos 0 <ℤ d → pos 0 <ℤ e → over n d -ℚ over m e ≡ over (n *ℤ e -ℤ m *ℤ d) (d *ℤ e)
over_difference n d m e h k = same_from_ratios (ratio_difference (ratio_over n d h) (ratio_over m e k)) (ratio_over _ _ (positive-*ℤ d e h k)) refl

-- their product
pub over_product : (n d m e : ℤ) → pos 0 <ℤ d → pos 0 <ℤ e → over n d *ℚ over m e ≡ over (n *ℤ m) (d *ℤ e)
over_product n d m e h k = same_from_ratios (ratio_product (ratio_over n d h) (ratio_over m e k)) (ratio_over _ _ (positive-*ℤ d e h k)) refl

-- their negation
pub over_neg : (n d : ℤ) → pos 0 <ℤ d → neg_ℚ (over n d) ≡ over (neg_ℤ n) d
over_neg n d h = same_from_ratios (ratio_neg (ratio_over n d h)) (ratio_over (neg_ℤ n) d h) refl

-- ---- the laws of a commutative ring: both sides are one value, by a cross product
-- summands change places
pub +ℚ_comm : (q r : ℚ) → q +ℚ r ≡ r +ℚ q
+ℚ_comm q r =
    same_from_ratios (ratio_sum (ratio_self q) (ratio_self r)) (ratio_sum (ratio_self r) (ratio_self q))
    (by_ring (q.num ∷ den q ∷ r.num ∷ den r ∷ []) (search reads depth 40) tt)

-- sums regroup
pub +ℚ_assoc : (q r s : ℚ) → q +ℚ r +ℚ s ≡ q +ℚ (r +ℚ s)
+ℚ_assoc q r s =
    same_from_ratios (ratio_sum (ratio_sum (ratio_self q) (ratio_self r)) (ratio_self s)) (ratio_sum (ratio_self q) (ratio_sum (ratio_self r) (ratio_self s)))
    (by_ring (q.num ∷ den q ∷ r.num ∷ den r ∷ s.num ∷ den s ∷ []) (search reads depth 40) tt)

-- 0 is neutral for sums
pub zero-+ℚ : (q : ℚ) → whole (pos 0) +ℚ q ≡ q
zero-+ℚ q = same_from_ratios (ratio_sum (ratio_whole (pos 0)) (ratio_self q)) (ratio_self q) (by_ring (q.num ∷ den q ∷ []) (search reads depth 40) tt)

-- a fraction and its negation make 0
pub +ℚ-neg_ℚ : (q : ℚ) → q +ℚ neg_ℚ q ≡ whole (pos 0)
+ℚ-neg_ℚ q =
    same_from_ratios (ratio_sum (ratio_self q) (ratio_neg (ratio_self q))) (ratio_whole (pos 0))
    (by_ring (q.num ∷ den q ∷ []) (search reads depth 40) tt)

-- factors change places
pub *ℚ_comm : (q r : ℚ) → q *ℚ r ≡ r *ℚ q
*ℚ_comm q r =
    same_from_ratios (ratio_product (ratio_self q) (ratio_self r)) (ratio_product (ratio_self r) (ratio_self q))
    (by_ring (q.num ∷ den q ∷ r.num ∷ den r ∷ []) (search reads depth 40) tt)

-- products regroup
pub *ℚ_assoc : (q r s : ℚ) → q *ℚ r *ℚ s ≡ q *ℚ (r *ℚ s)
*ℚ_assoc q r s =
    same_from_ratios (ratio_product (ratio_product (ratio_self q) (ratio_self r)) (ratio_self s))
    (ratio_product (ratio_self q) (ratio_product (ratio_self r) (ratio_self s)))
    (by_ring (q.num ∷ den q ∷ r.num ∷ den r ∷ s.num ∷ den s ∷ []) (search reads depth 40) tt)

-- 1 is neutral for products
pub one-*ℚ : (q : ℚ) → whole (pos 1) *ℚ q ≡ q
one-*ℚ q =
    same_from_ratios (ratio_product (ratio_whole (pos 1)) (ratio_self q)) (ratio_self q)
    (by_ring (q.num ∷ den q ∷ []) (search reads depth 40) tt)

-- a factor goes over a sum
pub *ℚ-+ℚ : (q r s : ℚ) → q *ℚ (r +ℚ s) ≡ q *ℚ r +ℚ q *ℚ s
*ℚ-+ℚ q r s =
    same_from_ratios (ratio_product (ratio_self q) (ratio_sum (ratio_self r) (ratio_self s)))
    (ratio_sum (ratio_product (ratio_self q) (ratio_self r)) (ratio_product (ratio_self q) (ratio_self s)))
    (by_ring (q.num ∷ den q ∷ r.num ∷ den r ∷ s.num ∷ den s ∷ []) (search reads depth 40) tt)

-- sums of whole numbers are sums of fractions
pub whole-+ℤ : (a b : ℤ) → whole (a +ℤ b) ≡ whole a +ℚ whole b
whole-+ℤ a b =
    same_from_ratios (ratio_whole (a +ℤ b)) (ratio_sum (ratio_whole a) (ratio_whole b))
    (by_ring (a ∷ b ∷ []) (search reads depth 40) tt)

-- products of whole numbers are products of fractions
pub whole-*ℤ : (a b : ℤ) → whole (a *ℤ b) ≡ whole a *ℚ whole b
whole-*ℤ a b =
    same_from_ratios (ratio_whole (a *ℤ b)) (ratio_product (ratio_whole a) (ratio_whole b))
    (by_ring (a ∷ b ∷ []) (search reads depth 40) tt)

-- negations of whole numbers are negations of fractions
pub whole-neg_ℤ : (a : ℤ) → whole (neg_ℤ a) ≡ neg_ℚ (whole a)
whole-neg_ℤ a = sym (over_neg a (pos 1) (omega (arith, ints)))

-- whole numbers are equal where their fractions are
pub whole_injective : {a b : ℤ} → whole a ≡ whole b → a ≡ b
whole_injective {a} {b} p = *ℤ_cancel a b (pos 1) (omega (arith, ints)) (cross_from_over a (pos 1) b (pos 1) (omega (arith, ints)) (omega (arith, ints)) p)

-- a whole number has itself for its numerator, and the denominator 1
pub whole_numbers : (a : ℤ) → ((whole a).num ≡ a) × (den (whole a) ≡ pos 1)
whole_numbers a = over_reduced a (pos 1) (reduced_whole a)

-- equations between fractions have one proof
pub ℚ_set : IsSet ℚ
ℚ_set = hlevel (ℤ_set, ℕ_set)

-- the ring of the fractions
abbrev pub ℚ_ring : CommutativeRing
ℚ_ring = record {
  carrier = ℚ;
  ◌+◌ = ◌+ℚ◌;
  ◌*◌ = ◌*ℚ◌;
  neg = neg_ℚ;
  of = whole;
  add_comm = +ℚ_comm;
  add_assoc = +ℚ_assoc;
  zero-add = zero-+ℚ;
  add-neg = +ℚ-neg_ℚ;
  mul_comm = *ℚ_comm;
  mul_assoc = *ℚ_assoc;
  one-mul = one-*ℚ;
  mul-add = *ℚ-+ℚ;
  of-add = whole-+ℤ;
  of-mul = whole-*ℤ;
}
