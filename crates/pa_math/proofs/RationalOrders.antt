-- The order of the fractions: it is total, and sums and positive products keep it.
use Rattle.std.proofs.Common.{◌≡◌, ◌⊎◌, inl, inr, [], ◌∷◌, sym, ap, subst₂, arith}
use Rattle.std.specs.declared.cmp.Ordering.{Ordering}
use Rattle.std.specs.declared.cmp.Ordering.TheVariants.{Less, Equal, Greater}
use Rattle.std.specs.Cmp.{IsTotalOrder, one_rank, strict, int_ranks}
use Rattle.std.specs.Ordering.{MatchOrdering, int_cmp}
use Rattle.std.proofs.lemmas.Int.{ints, by_lt_z}
use lib.IntN.{ℤ, pos, ◌*ℤ◌}
use lib.Signed.{◌≤ℤ◌, ◌<ℤ◌}
use Rattle.pa_ring.proofs.Integers.{<ℤ-≤ℤ, ≤ℤ-*ℤ, ≤ℤ-*ℤ_cancel, <ℤ-*ℤ, <ℤ-*ℤ_cancel, positive-*ℤ, gap, ◌·◌, ◌∔◌, ◌⊙◌, null, ◌⋆◌}
use Rattle.pa_ring.proofs.IntegerTactics.{by_equations, by_le, by_lt, reads}
use Rattle.pa_ring.specs.OrderedRing.{OrderedRing}
use Rattle.pa_ring.proofs.OrderLaws.{lt-le_trans, add_lt-le, mul_lt}
use Rattle.pa_math.specs.Rational.{ℚ, den, whole, ◌+ℚ◌, ◌*ℚ◌}
use Rattle.pa_math.specs.RationalOrder.{◌≤ℚ◌, ◌<ℚ◌, compare_ℚ}
use Rattle.pa_math.proofs.Rationals.{ℚ_ring, den_positive, IsRatio, ratio_self, ratio_whole, ratio_sum, ratio_product, same_from_cross, same_from_ratios}

-- ---- at any numbers of the values
left_cross : {q r : ℚ} {n d m e : ℤ} → IsRatio q n d → IsRatio r m e → q.num *ℤ den r *ℤ (d *ℤ e) ≡ n *ℤ e *ℤ (den q *ℤ den r)
left_cross {q} {r} {n} {d} {m} {e} s t =
    by_equations (q.num ∷ den q ∷ den r ∷ n ∷ d ∷ e ∷ []) ((den r *ℤ e) ⋆ null s.cross) (search reads depth 40) tt

right_cross : {q r : ℚ} {n d m e : ℤ} → IsRatio q n d → IsRatio r m e → r.num *ℤ den q *ℤ (d *ℤ e) ≡ m *ℤ d *ℤ (den q *ℤ den r)
right_cross {q} {r} {n} {d} {m} {e} s t =
    by_equations (r.num ∷ den r ∷ den q ∷ m ∷ e ∷ d ∷ []) ((den q *ℤ d) ⋆ null t.cross) (search reads depth 40) tt

dens_positive : (q r : ℚ) → pos 0 <ℤ (den q *ℤ den r)
dens_positive q r = positive-*ℤ (den q) (den r) (den_positive q) (den_positive r)

-- an inequality, from cross products
pub le_from_ratios : {q r : ℚ} {n d m e : ℤ} → IsRatio q n d → IsRatio r m e → (n *ℤ e) ≤ℤ (m *ℤ d) → q ≤ℚ r
le_from_ratios {q} {r} {n} {d} {m} {e} s t h = record {
  le = ≤ℤ-*ℤ_cancel _ _ (d *ℤ e) (positive-*ℤ d e s.positive t.positive)
      (subst₂ ◌≤ℤ◌ (sym (left_cross s t)) (sym (right_cross s t)) (≤ℤ-*ℤ (n *ℤ e) (m *ℤ d) (den q *ℤ den r) h (<ℤ-≤ℤ (dens_positive q r))));
}

-- an inequality gives its cross products
pub le_to_ratios : {q r : ℚ} {n d m e : ℤ} → IsRatio q n d → IsRatio r m e → q ≤ℚ r → (n *ℤ e) ≤ℤ (m *ℤ d)
le_to_ratios {q} {r} {n} {d} {m} {e} s t h =
    ≤ℤ-*ℤ_cancel _ _ (den q *ℤ den r) (dens_positive q r)
    (subst₂ ◌≤ℤ◌ (left_cross s t) (right_cross s t) (≤ℤ-*ℤ (q.num *ℤ den r) (r.num *ℤ den q) (d *ℤ e) h.le (<ℤ-≤ℤ (positive-*ℤ d e s.positive t.positive))))

-- a strict inequality, from cross products
pub lt_from_ratios : {q r : ℚ} {n d m e : ℤ} → IsRatio q n d → IsRatio r m e → (n *ℤ e) <ℤ (m *ℤ d) → q <ℚ r
lt_from_ratios {q} {r} {n} {d} {m} {e} s t h = record {
  lt = <ℤ-*ℤ_cancel _ _ (d *ℤ e) (<ℤ-≤ℤ (positive-*ℤ d e s.positive t.positive))
      (subst₂ ◌<ℤ◌ (sym (left_cross s t)) (sym (right_cross s t)) (<ℤ-*ℤ (n *ℤ e) (m *ℤ d) (den q *ℤ den r) h (dens_positive q r)));
}

-- a strict inequality gives its cross products
pub lt_to_ratios : {q r : ℚ} {n d m e : ℤ} → IsRatio q n d → IsRatio r m e → q <ℚ r → (n *ℤ e) <ℤ (m *ℤ d)
lt_to_ratios {q} {r} {n} {d} {m} {e} s t h =
    <ℤ-*ℤ_cancel _ _ (den q *ℤ den r) (<ℤ-≤ℤ (dens_positive q r))
    (subst₂ ◌<ℤ◌ (left_cross s t) (right_cross s t) (<ℤ-*ℤ (q.num *ℤ den r) (r.num *ℤ den q) (d *ℤ e) h.lt (positive-*ℤ d e s.positive t.positive)))

-- ---- a total order
-- each fraction is at most itself
pub ≤ℚ_refl : (q : ℚ) → q ≤ℚ q
≤ℚ_refl q = record { le = omega (arith, ints) }

-- fractions that are at most one another are equal
pub ≤ℚ_antisym : {q r : ℚ} → q ≤ℚ r → r ≤ℚ q → q ≡ r
≤ℚ_antisym {q} {r} h k = same_from_cross q r (omega (arith, ints, h.le, k.le))

-- a strict inequality is a weak one
pub <ℚ-≤ℚ : {q r : ℚ} → q <ℚ r → q ≤ℚ r
<ℚ-≤ℚ h = record { le = <ℤ-≤ℤ h.lt }

-- no fraction is below itself
pub <ℚ_irrefl : {q : ℚ} → q <ℚ q → ⊥
<ℚ_irrefl h = omega (arith, ints, h.lt)

-- one fraction is below another, or it is not
pub lt_or_le_ℚ : (q r : ℚ) → (q <ℚ r) ⊎ (r ≤ℚ q)
lt_or_le_ℚ q r = by_lt_z (q.num *ℤ den r) (r.num *ℤ den q) (λ less. inl (record { lt = less })) (λ le. inr (record { le = le }))

-- and not both
pub lt_not_le_ℚ : {q r : ℚ} → q <ℚ r → r ≤ℚ q → ⊥
lt_not_le_ℚ h k = omega (arith, ints, h.lt, k.le)

-- what a comparison answers
pub compare_ranks : (q r : ℚ) → MatchOrdering (compare_ℚ q r) (q <ℚ r) (q ≡ r) (r <ℚ q)
compare_ranks q r = raised (compare_ℚ q r) (int_ranks (q.num *ℤ den r) (r.num *ℤ den q))
  where
    raised : (o : Ordering) → MatchOrdering o ((q.num *ℤ den r) <ℤ (r.num *ℤ den q)) (q.num *ℤ den r ≡ r.num *ℤ den q) ((r.num *ℤ den q) <ℤ (q.num *ℤ den r)) →
        MatchOrdering o (q <ℚ r) (q ≡ r) (r <ℚ q)
    raised Less h = record { lt = h }
    raised Equal h = same_from_cross q r h
    raised Greater h = record { lt = h }

-- one of two fractions is the lesser, or they are equal
pub trichotomy_ℚ : (q r : ℚ) → (q <ℚ r) ⊎ (q ≡ r) ⊎ (r <ℚ q)
trichotomy_ℚ q r = split (compare_ℚ q r) (compare_ranks q r)
  where
    split : (o : Ordering) → MatchOrdering o (q <ℚ r) (q ≡ r) (r <ℚ q) → (q <ℚ r) ⊎ (q ≡ r) ⊎ (r <ℚ q)
    split Less h = inl h
    split Equal h = inr (inl h)
    split Greater h = inr (inr h)

-- ---- chains
weak : (q : ℚ) → pos 0 ≤ℤ den q
weak q = <ℤ-≤ℤ (den_positive q)

-- two weak steps make one
pub ≤ℚ_trans : {q r s : ℚ} → q ≤ℚ r → r ≤ℚ s → q ≤ℚ s
≤ℚ_trans {q} {r} {s} h k = record {
  le = ≤ℤ-*ℤ_cancel _ _ (den r) (den_positive r)
      (by_le (q.num ∷ den q ∷ r.num ∷ den r ∷ s.num ∷ den s ∷ []) (gap h.le · weak s ∔ gap k.le · weak q) (search reads depth 40) tt);
}

-- a sum keeps the order
pub +ℚ-≤ℚ : (q r s : ℚ) → q ≤ℚ r → (q +ℚ s) ≤ℚ (r +ℚ s)
+ℚ-≤ℚ q r s h =
    le_from_ratios (ratio_sum (ratio_self q) (ratio_self s)) (ratio_sum (ratio_self r) (ratio_self s))
    (by_le (q.num ∷ den q ∷ r.num ∷ den r ∷ s.num ∷ den s ∷ []) (gap h.le · (weak s · weak s)) (search reads depth 40) tt)

-- ---- a fraction has the sign of its numerator
-- the numerator of a fraction that is not negative
pub nonneg_num : {q : ℚ} → whole (pos 0) ≤ℚ q → pos 0 ≤ℤ q.num
nonneg_num {q} h = omega (arith, ints, le_to_ratios (ratio_whole (pos 0)) (ratio_self q) h)

-- a fraction whose numerator is not negative
pub nonneg_from_num : {q : ℚ} → pos 0 ≤ℤ q.num → whole (pos 0) ≤ℚ q
nonneg_from_num {q} h = le_from_ratios (ratio_whole (pos 0)) (ratio_self q) (omega (arith, ints))

-- the numerator of a positive fraction
pub positive_num : {q : ℚ} → whole (pos 0) <ℚ q → pos 0 <ℤ q.num
positive_num {q} h = omega (arith, ints, lt_to_ratios (ratio_whole (pos 0)) (ratio_self q) h)

-- a fraction whose numerator is positive
pub positive_from_num : {q : ℚ} → pos 0 <ℤ q.num → whole (pos 0) <ℚ q
positive_from_num {q} h = lt_from_ratios (ratio_whole (pos 0)) (ratio_self q) (omega (arith, ints))

-- ---- products
-- a product of fractions that are not negative is not negative
pub nonneg-*ℚ : {q r : ℚ} → whole (pos 0) ≤ℚ q → whole (pos 0) ≤ℚ r → whole (pos 0) ≤ℚ (q *ℚ r)
nonneg-*ℚ {q} {r} h k =
    le_from_ratios (ratio_whole (pos 0)) (ratio_product (ratio_self q) (ratio_self r))
    (by_le (q.num ∷ den q ∷ r.num ∷ den r ∷ []) (nonneg_num h · nonneg_num k) (search reads depth 40) tt)

-- a product of positive fractions is positive
pub positive-*ℚ : {q r : ℚ} → whole (pos 0) <ℚ q → whole (pos 0) <ℚ r → whole (pos 0) <ℚ (q *ℚ r)
positive-*ℚ {q} {r} h k =
    lt_from_ratios (ratio_whole (pos 0)) (ratio_product (ratio_self q) (ratio_self r))
    (by_lt (q.num ∷ den q ∷ r.num ∷ den r ∷ []) (positive_num h ⊙ positive_num k) (search reads depth 40) tt)

-- ---- whole numbers
-- whole numbers keep their order
pub whole-≤ℤ : {a b : ℤ} → a ≤ℤ b → whole a ≤ℚ whole b
whole-≤ℤ {a} {b} h = le_from_ratios (ratio_whole a) (ratio_whole b) (omega (arith, ints))

-- and have it from their fractions
pub ≤ℤ-whole : {a b : ℤ} → whole a ≤ℚ whole b → a ≤ℤ b
≤ℤ-whole {a} {b} h = omega (arith, ints, le_to_ratios (ratio_whole a) (ratio_whole b) h)

-- they keep their strict order
pub whole-<ℤ : {a b : ℤ} → a <ℤ b → whole a <ℚ whole b
whole-<ℤ {a} {b} h = lt_from_ratios (ratio_whole a) (ratio_whole b) (omega (arith, ints))

-- and have it from their fractions
pub <ℤ-whole : {a b : ℤ} → whole a <ℚ whole b → a <ℤ b
<ℤ-whole {a} {b} h = omega (arith, ints, lt_to_ratios (ratio_whole a) (ratio_whole b) h)

-- ---- the ordered field's order, for the tactics and laws of every ordered ring
abbrev pub ℚ_order : OrderedRing
ℚ_order = record {
  ring = ℚ_ring;
  ◌≤◌ = ◌≤ℚ◌;
  ◌<◌ = ◌<ℚ◌;
  le_refl = ≤ℚ_refl;
  le_trans = λ q r s h k. ≤ℚ_trans h k;
  le_antisym = λ q r h k. ≤ℚ_antisym h k;
  lt_or_le = lt_or_le_ℚ;
  lt_not_le = λ q r h k. lt_not_le_ℚ h k;
  lt-le = λ q r h. <ℚ-≤ℚ h;
  add_le = +ℚ-≤ℚ;
  mul_nonneg = λ q r h k. nonneg-*ℚ h k;
  mul_positive = λ q r h k. positive-*ℚ h k;
  zero_lt_one = whole-<ℤ (omega (arith, ints));
}

<ℚ_trans : {q r s : ℚ} → q <ℚ r → r <ℚ s → q <ℚ s
<ℚ_trans {q} {r} {s} h k = lt-le_trans ℚ_order q r s h (<ℚ-≤ℚ k)

-- ---- comparisons
-- the answer from what holds
pub compare_is : (q r : ℚ) (o : Ordering) → MatchOrdering o (q <ℚ r) (q ≡ r) (r <ℚ q) → o ≡ compare_ℚ q r
compare_is q r o h = one_rank (λ (a b : ℚ). a <ℚ b) (λ a k. <ℚ_irrefl k) (λ a b c h k. <ℚ_trans h k) q r o (compare_ℚ q r) h (compare_ranks q r)

-- comparison is a total order
pub compare_total : IsTotalOrder compare_ℚ
compare_total = strict (λ (a b : ℚ). a <ℚ b) (λ a k. <ℚ_irrefl k) (λ a b c h k. <ℚ_trans h k) compare_ℚ compare_ranks

-- a comparison at any numbers of the values
pub compare_from_ratios : {q r : ℚ} {n d m e : ℤ} → IsRatio q n d → IsRatio r m e → int_cmp (n *ℤ e) (m *ℤ d) ≡ compare_ℚ q r
compare_from_ratios {q} {r} {n} {d} {m} {e} s t = compare_is q r (int_cmp (n *ℤ e) (m *ℤ d)) (raised (int_cmp (n *ℤ e) (m *ℤ d)) (int_ranks (n *ℤ e) (m *ℤ d)))
  where
    raised : (o : Ordering) → MatchOrdering o ((n *ℤ e) <ℤ (m *ℤ d)) (n *ℤ e ≡ m *ℤ d) ((m *ℤ d) <ℤ (n *ℤ e)) → MatchOrdering o (q <ℚ r) (q ≡ r) (r <ℚ q)
    raised Less h = lt_from_ratios s t h
    raised Equal h = same_from_ratios s t h
    raised Greater h = lt_from_ratios t s h

-- ---- what keeps a comparison
-- a function that keeps the strict order
kept : (f : ℚ → ℚ) → ((a b : ℚ) → a <ℚ b → f a <ℚ f b) → (q r : ℚ) → compare_ℚ (f q) (f r) ≡ compare_ℚ q r
kept f keeps q r = sym (compare_is (f q) (f r) (compare_ℚ q r) (raised (compare_ℚ q r) (compare_ranks q r)))
  where
    raised : (o : Ordering) → MatchOrdering o (q <ℚ r) (q ≡ r) (r <ℚ q) → MatchOrdering o (f q <ℚ f r) (f q ≡ f r) (f r <ℚ f q)
    raised Less h = keeps q r h
    raised Equal h = ap f h
    raised Greater h = keeps r q h

-- one summand on both sides
pub compare_sum : (q r s : ℚ) → compare_ℚ (q +ℚ s) (r +ℚ s) ≡ compare_ℚ q r
compare_sum q r s = kept (λ t. t +ℚ s) (λ a b h. add_lt-le ℚ_order a b s s h (≤ℚ_refl s)) q r

-- one positive factor on both sides
pub compare_product : (q r s : ℚ) → whole (pos 0) <ℚ s → compare_ℚ (q *ℚ s) (r *ℚ s) ≡ compare_ℚ q r
compare_product q r s up = kept (λ t. t *ℚ s) (λ a b h. mul_lt ℚ_order a b s h up) q r
