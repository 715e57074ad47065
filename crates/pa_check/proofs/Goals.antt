-- What the tests of the value of a goal tell.
use Rattle.std.proofs.Common.{◌≡◌, refl, sym, ap, ap₂, ◌∙◌, subst, ℕ, zero, suc, ◌<◌, ◌≤◌, ◌+◌, List, [], ◌∷◌, length, ℤ, pos, ◌+ℤ◌, ◌*ℤ◌, neg_ℤ}
use Rattle.std.proofs.Common.{Bool, true, false, Result, Ok, Err, All, Decides, IfOk, arith, ◌⊎◌, inl, inr}
use Rattle.std.proofs.lemmas.Int.{ints}
use Rattle.std.proofs.lemmas.Bool.Decides.{Decides-int_eq, Decides-like, Decides-at}
use Rattle.std.proofs.lemmas.List.Elements.{All-weaker}
use Rattle.std.specs.Ordering.{int_eq}
use lib.Signed.{◌<ℤ◌, ◌≤ℤ◌}
use Rattle.pa_ring.specs.Sums.{number_at, SameNumbers, dot, times}
use Rattle.pa_ring.proofs.Sums.{number_at-times}
use Rattle.pa_ring.proofs.Integers.{<ℤ-≤ℤ}
use Rattle.pa_ring.proofs.IntegerTactics.{ring_by, reads}
use Rattle.pa_math.specs.Answers.{and_then}
use Rattle.pa_frac.specs.declared.wide.Wide.{Wide}
use Rattle.pa_frac.specs.Width.{within}
use Rattle.pa_frac.proofs.Width.{within_ok}
use Rattle.pa_meaning.specs.Rows.{Row, Point}
use Rattle.pa_meaning.specs.Weights.{Weights, combined, NoneNegative, AllPlaced}
use Rattle.pa_row.specs.Width.{IsCanonical}
use Rattle.pa_row.specs.Sums.{dot_in, numerators, in_column, bounds_at}
use Rattle.pa_row.proofs.Dots.{and_then_ok, ok_same, dot_in_exact}
use Rattle.pa_row.proofs.WeightedSums.{combined_number, combined_bound, combined_past, past}
use Rattle.pa_holds.specs.Bounded.{turned, WeightsBound, PointHasValue}
use Rattle.pa_check.specs.Tests.{both, Tells}
use Rattle.pa_check.specs.Proofs.{are_below}
use Rattle.pa_check.specs.Goals.{left_in, right_in, value_in, column_in, columns_in, bound_in, weights_in, point_in}
use Rattle.pa_check.proofs.Tests.{tells_sure, tells_like, tells_both, told}
use Rattle.pa_check.proofs.Proofs.{below_decides}

-- the exact value of a step that is not `Wide`
exact : (z v : ℤ) → Ok v ≡ within 126 z → v ≡ z
exact z v e = (within_ok 126 v z e).1

-- a comparison of two numbers tells the same of what they are
equal_tells : (passed : Bool) (x y u v : ℤ) → passed ≡ int_eq x y → x ≡ u → y ≡ v → Decides passed (u ≡ v)
equal_tells passed x y u v e f g = Decides-like passed (λ h. sym f ∙ h ∙ g) (λ h. f ∙ h ∙ sym g) (Decides-at passed (int_eq x y) e (Decides-int_eq x y))

left_is : (sum b den by left : ℤ) → Ok left ≡ left_in sum b den by → left ≡ den *ℤ (sum +ℤ b *ℤ by)
left_is sum b den by left e =
    let (product, e1, k1) = and_then_ok (within 126 (b *ℤ by)) (λ product. and_then (within 126 (sum +ℤ product)) (λ bracket. within 126 (den *ℤ bracket)))
    left e in
    let (bracket, e2, k2) = and_then_ok (within 126 (sum +ℤ product)) (λ bracket. within 126 (den *ℤ bracket)) left k1 in
    exact (den *ℤ bracket) left k2 ∙ ap (λ t. den *ℤ t) (exact (sum +ℤ product) bracket e2 ∙ ap (λ t. sum +ℤ t) (exact (b *ℤ by) product e1))

right_is : (q num by right : ℤ) → Ok right ≡ right_in q num by → right ≡ num *ℤ q *ℤ by
right_is q num by right e =
    let (product, e1, k1) = and_then_ok (within 126 (num *ℤ q)) (λ product. within 126 (product *ℤ by)) right e in
    exact (product *ℤ by) right k1 ∙ ap (λ t. t *ℤ by) (exact (num *ℤ q) product e1)

pub value_tells : (sum b q num den by : ℤ) → Tells (value_in sum b q num den by) (den *ℤ (sum +ℤ b *ℤ by) ≡ num *ℤ q *ℤ by)
value_tells sum b q num den by passed e =
    let (left, e1, k1) = and_then_ok (left_in sum b den by) (λ left. and_then (right_in q num by) (λ right. Ok (int_eq left right))) passed (sym e) in
    let (right, e2, k2) = and_then_ok (right_in q num by) (λ right. Ok (int_eq left right)) passed k1 in
    equal_tells passed left right (den *ℤ (sum +ℤ b *ℤ by)) (num *ℤ q *ℤ by) (ok_same passed (int_eq left right) k2) (left_is sum b den by left e1)
    (right_is q num by right e2)

pub column_tells : (rows : List Row) (w : Weights) (least : Bool) (column : ℕ) (c : ℤ)
    → Tells (column_in rows w least column c) (dot (numerators w.parts) (in_column rows column w.parts) ≡ turned least (w.den *ℤ c))
column_tells rows w least column c passed e =
    let (sum, e1, k1) = and_then_ok (dot_in (numerators w.parts) (in_column rows column w.parts))
    (λ sum. and_then (within 126 (w.den *ℤ c)) (λ scaled. Ok (int_eq sum (turned least scaled)))) passed (sym e) in
    let (scaled, e2, k2) = and_then_ok (within 126 (w.den *ℤ c)) (λ scaled. Ok (int_eq sum (turned least scaled))) passed k1 in
    equal_tells passed sum (turned least scaled) (dot (numerators w.parts) (in_column rows column w.parts)) (turned least (w.den *ℤ c))
    (ok_same passed (int_eq sum (turned least scaled)) k2)
    (dot_in_exact (numerators w.parts) (in_column rows column w.parts) sum e1) (ap (turned least) (exact (w.den *ℤ c) scaled e2))

-- each column from this one on has its sum
abbrev pub AreColumns : List Row → Weights → Bool → ℕ → List ℤ → Type 0
AreColumns rows w least column cs = (k : ℕ) → k < length cs → dot (numerators w.parts) (in_column rows (column + k) w.parts)
    ≡ turned least (w.den *ℤ number_at cs k)

one_more : (rows : List Row) (w : Weights) (least : Bool) (column : ℕ) (c : ℤ) (cs : List ℤ)
    → (dot (numerators w.parts) (in_column rows column w.parts) ≡ turned least (w.den *ℤ c)) × AreColumns rows w least (suc column) cs
    → AreColumns rows w least column (c ∷ cs)
one_more rows w least column c cs h zero l = let e : column + 0 ≡ column = omega arith in rw e h.0
one_more rows w least column c cs h (suc k) l = let e : column + suc k ≡ suc column + k = omega arith in rw e (h.1 k (omega arith))

one_less : (rows : List Row) (w : Weights) (least : Bool) (column : ℕ) (c : ℤ) (cs : List ℤ) → AreColumns rows w least column (c ∷ cs)
    → (dot (numerators w.parts) (in_column rows column w.parts) ≡ turned least (w.den *ℤ c)) × AreColumns rows w least (suc column) cs
one_less rows w least column c cs h = (
  let e : column + 0 ≡ column = omega arith in rw (← e) (h 0 (omega arith)),
  λ k l. let e : column + suc k ≡ suc column + k = omega arith in rw (← e) (h (suc k) (omega arith)),
)

pub columns_tells : (rows : List Row) (w : Weights) (least : Bool) (column : ℕ) (cs : List ℤ)
    → Tells (columns_in rows w least column cs) (AreColumns rows w least column cs)
columns_tells rows w least column [] = tells_sure true (λ e k l. absurd (omega arith), λ h. refl)
columns_tells rows w least column (c ∷ cs) =
    tells_like (columns_in rows w least column (c ∷ cs)) (one_more rows w least column c cs) (one_less rows w least column c cs)
    (tells_both (column_in rows w least column c) (columns_in rows w least (suc column) cs) (column_tells rows w least column c)
    (λ h. columns_tells rows w least (suc column) cs))

turned_times : (least : Bool) (w c : ℤ) → turned least (w *ℤ c) ≡ turned least w *ℤ c
turned_times true w c = ring_by (w ∷ c ∷ []) (search reads) (search reads) tt
turned_times false w c = refl

turned_zero : (least : Bool) (w : ℤ) → turned least w *ℤ pos 0 ≡ pos 0
turned_zero true w = ring_by (w ∷ []) (search reads) (search reads) tt
turned_zero false w = ring_by (w ∷ []) (search reads) (search reads) tt

from_zero : (k : ℕ) → k ≡ 0 + k
from_zero k = omega arith

coefficients_from : (rows : List Row) (w : Weights) (least : Bool) (goals : List ℤ) → All (λ r. length r.c ≡ length goals) rows
    → AreColumns rows w least 0 goals → SameNumbers (combined w.parts rows).c (times (turned least w.den) goals)
coefficients_from rows w least goals columns h k = by_place (below k (length goals)) ∙ sym (number_at-times (turned least w.den) goals k)
  where
    below : (i n : ℕ) → (i < n) ⊎ (n ≤ i)
    below i n = grind arith

    by_place : (k < length goals) ⊎ (length goals ≤ k) → number_at (combined w.parts rows).c k ≡ turned least w.den *ℤ number_at goals k
    by_place (inl l) = combined_number rows w.parts k ∙ ap (λ n. dot (numerators w.parts) (in_column rows n w.parts)) (from_zero k) ∙ h k l
        ∙ turned_times least w.den (number_at goals k)
    by_place (inr m) = combined_past rows w.parts (length goals) k columns m
        ∙ sym (ap (λ t. turned least w.den *ℤ t) (past goals k m) ∙ turned_zero least w.den)

coefficients_to : (rows : List Row) (w : Weights) (least : Bool) (goals : List ℤ) → SameNumbers (combined w.parts rows).c (times (turned least w.den) goals)
    → AreColumns rows w least 0 goals
coefficients_to rows w least goals s k l =
    ap (λ n. dot (numerators w.parts) (in_column rows n w.parts)) (sym (from_zero k)) ∙ sym (combined_number rows w.parts k) ∙ s k
    ∙ number_at-times (turned least w.den) goals k ∙ sym (turned_times least w.den (number_at goals k))

pub bound_tells : (rows : List Row) (w : Weights) (b q : ℤ) (least : Bool) (num den : ℤ)
    → Tells (bound_in rows w b q least num den) (den *ℤ (turned least (combined w.parts rows).b +ℤ b *ℤ w.den) ≡ num *ℤ q *ℤ w.den)
bound_tells rows w b q least num den passed e =
    let (sum, e1, k1) = and_then_ok (dot_in (numerators w.parts) (bounds_at rows w.parts)) (λ sum. value_in (turned least sum) b q num den w.den) passed
    (sym e) in
    let is : sum ≡ (combined w.parts rows).b = dot_in_exact (numerators w.parts) (bounds_at rows w.parts) sum e1 ∙ sym (combined_bound rows w.parts) in
    rw (← is) (value_tells (turned least sum) b q num den w.den passed (sym k1))

pub weights_tells : (rows : List Row) (goals : List ℤ) (b q : ℤ) (least : Bool) (num den : ℤ) (w : Weights) → IsCanonical w
    → All (λ r. length r.c ≡ length goals) rows → Tells (weights_in rows goals b q least num den w) (WeightsBound rows goals b q least num den w)
weights_tells rows goals b q least num den w canonical columns =
    tells_like (weights_in rows goals b q least num den w)
    (λ h. record {
      positive = canonical.positive;
      weights = All-weaker (λ part. pos 0 <ℤ part.1) (λ part. pos 0 ≤ℤ part.1) (λ part l. <ℤ-≤ℤ l) w.parts canonical.numerators;
      places = h.0;
      coefficients = coefficients_from rows w least goals columns h.1.0;
      value = h.1.1;
    })
    (λ h. (h.places, (coefficients_to rows w least goals h.coefficients, h.value)))
    (tells_both (Ok (are_below (length rows) w.parts)) (both (columns_in rows w least 0 goals) (bound_in rows w b q least num den))
    (tells_sure (are_below (length rows) w.parts) (below_decides (length rows) w.parts))
    (λ placed. tells_both (columns_in rows w least 0 goals) (bound_in rows w b q least num den) (columns_tells rows w least 0 goals)
    (λ c. bound_tells rows w b q least num den)))

pub weights_told : (answer : Result Bool Wide) (rows : List Row) (goals : List ℤ) (b q : ℤ) (least : Bool) (num den : ℤ) (w : Weights) → IsCanonical w
    → All (λ r. length r.c ≡ length goals) rows → answer ≡ weights_in rows goals b q least num den w
    → IfOk answer (λ passed. Decides passed (WeightsBound rows goals b q least num den w))
weights_told answer rows goals b q least num den w canonical columns e =
    told answer (weights_in rows goals b q least num den w) e (weights_tells rows goals b q least num den w canonical columns)

pub point_tells : (goals : List ℤ) (b q num den : ℤ) (x : Point) → Tells (point_in goals b q num den x) (PointHasValue goals b q num den x)
point_tells goals b q num den x passed e =
    let (sum, e1, k1) = and_then_ok (dot_in goals x.p) (λ sum. value_in sum b q num den x.q) passed (sym e) in
    rw (← dot_in_exact goals x.p sum e1) (value_tells sum b q num den x.q passed (sym k1))

pub point_told : (answer : Result Bool Wide) (goals : List ℤ) (b q num den : ℤ) (x : Point) → answer ≡ point_in goals b q num den x
    → IfOk answer (λ passed. Decides passed (PointHasValue goals b q num den x))
point_told answer goals b q num den x e = told answer (point_in goals b q num den x) e (point_tells goals b q num den x)
