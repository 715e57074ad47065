-- The row of a vector is met exactly where the vector's value at the point is at most 0.
use Rattle.pa_grammar.specs.Met.{AreMet}
use Rattle.std.proofs.Common.{◌≡◌, ℕ, zero, suc, List, [], ◌∷◌, drop, length, map, Ok, ap, sym, ◌∙◌, subst, arith, ⊎_elim}
use Rattle.std.specs.Prelude.{ℤ, pos, neg_ℤ, ◌*ℤ◌, ◌<ℤ◌, int_div}
use Rattle.std.proofs.lemmas.Int.{ints}
use Rattle.pa_ring.specs.Sums.{number_at, dot}
use Rattle.pa_grammar.proofs.Wholes.{cross_times, cross_back, dot_from}
use Rattle.pa_math.specs.Answers.{and_then}
use Rattle.pa_math.specs.Divisors.{lcm_ℤ, Divides}
use Rattle.pa_math.proofs.Divisors.{quotient_exact, Divides_trans, Divides_refl}
use Rattle.pa_math.proofs.CommonMultiples.{lcm_ℤ_left, lcm_ℤ_right, lcm_ℤ_positive}
use Rattle.pa_math.specs.Rational.{ℚ, den, whole, over, ◌+ℚ◌, ◌-ℚ◌, ◌*ℚ◌, neg_ℚ}
use Rattle.pa_math.specs.RationalOrder.{◌≤ℚ◌, ◌<ℚ◌}
use Rattle.pa_math.proofs.Rationals.{den_positive, ratio_self, ratio_whole, ratio_product, ratio_over, same_from_ratios, whole-+ℤ, whole-*ℤ, whole-neg_ℤ}
use Rattle.pa_math.proofs.RationalOrders.{whole-≤ℤ, ≤ℤ-whole, whole-<ℤ, lt_or_le_ℚ, lt_not_le_ℚ, positive-*ℚ, <ℚ-≤ℚ}
use Rattle.pa_math.proofs.RationalTactics.{by_equations, by_le, null, ◌⋆◌, ◌⊞◌, gap, ◌·◌, reads}
use Rattle.pa_frac.specs.Width.{within}
use Rattle.pa_frac.proofs.Width.{within_ok}
use Rattle.pa_meaning.specs.Rows.{Row, Point, Meets, primitive}
use Rattle.pa_row.specs.Fractions.{common_from, over_common}
use Rattle.pa_grammar.specs.Values.{parts_of, row_with, row_of, rows_of_all}
use Rattle.pa_meaning.proofs.PrimitiveRows.{Meets-primitive}
use Rattle.pa_grammar.proofs.Bars.{zero_ℚ, value_in, and_then_ok, AreBelow}
use Rattle.pa_grammar.proofs.Sides.{columns_from}

-- each denominator divides a number
abbrev pub AllDivide : List ℚ → ℤ → Type 0
AllDivide [] r = Unit {0}
AllDivide (q ∷ qs) r = Divides (den q) r × AllDivide qs r

pub record IsCommon (q : ℤ) (v : List ℚ) (r : ℤ) : Type 0 where
  pub positive : pos 0 <ℤ r
  pub before : Divides q r
  pub all : AllDivide v r

common_is : (v : List ℚ) (q r : ℤ) → pos 0 <ℤ q → common_from q (map parts_of v) ≡ Ok r → IsCommon q v r
common_is [] q r up is =
    let e : q ≡ r = cc in
    let P : ℤ → Type 0 = λ t. IsCommon q [] t in
    subst P e (record { positive = up; before = Divides_refl q; all = tt })
common_is (f ∷ fs) q r up is =
    let one = and_then_ok (λ next. common_from next (map parts_of fs)) (within 126 (lcm_ℤ q (den f))) r is in
    let e : one.0 ≡ lcm_ℤ q (den f) = (within_ok 126 one.0 (lcm_ℤ q (den f)) (sym one.1)).1 in
    let P : ℤ → Type 0 = λ t. pos 0 <ℤ t in
    let D : ℤ → ℤ → Type 0 = λ d t. Divides d t in
    let rest = common_is fs one.0 r (subst P (sym e) (lcm_ℤ_positive q (den f) up (den_positive f))) one.2 in
    record {
      positive = rest.positive;
      before = Divides_trans (subst (D q) (sym e) (lcm_ℤ_left q (den f))) rest.before;
      all = (Divides_trans (subst (D (den f)) (sym e) (lcm_ℤ_right q (den f))) rest.before, rest.all);
    }

-- the numbers are the fractions times a number
abbrev pub AreTimes : ℤ → List ℚ → List ℤ → Type 0
AreTimes r [] [] = Unit {0}
AreTimes r [] (n ∷ ns) = ⊥
AreTimes r (q ∷ qs) [] = ⊥
AreTimes r (q ∷ qs) (n ∷ ns) = (whole n ≡ q *ℚ whole r) × AreTimes r qs ns

times_is : (q : ℚ) (r n : ℤ) → Divides (den q) r → n ≡ q.num *ℤ int_div r (den q) → whole n ≡ q *ℚ whole r
times_is q r n divides is =
    let exact : int_div r (den q) *ℤ den q ≡ r = quotient_exact divides in
    same_from_ratios (ratio_whole n) (ratio_product (ratio_self q) (ratio_whole r))
    (cross_times n q.num r (den q) (int_div r (den q)) is exact)

over_is : (v : List ℚ) (r : ℤ) (ns : List ℤ) → AllDivide v r → over_common r (map parts_of v) ≡ Ok ns → AreTimes r v ns
over_is [] r ns all is =
    let e : [] ≡ ns = cc in
    let P : List ℤ → Type 0 = λ ms. AreTimes r [] ms in subst P e tt
over_is (q ∷ qs) r ns all is =
    let one = and_then_ok (λ n. and_then (over_common r (map parts_of qs)) (λ ms. Ok (n ∷ ms))) (within 126 (q.num *ℤ int_div r (den q))) ns is in
    let two = and_then_ok (λ ms. Ok (one.0 ∷ ms)) (over_common r (map parts_of qs)) ns one.2 in
    let e : one.0 ∷ two.0 ≡ ns = cc in
    let P : List ℤ → Type 0 = λ ms. AreTimes r (q ∷ qs) ms in
    subst P e (times_is q r one.0 all.0 (within_ok 126 one.0 (q.num *ℤ int_div r (den q)) (sym one.1)).1, over_is qs r two.0 all.1 two.1)

-- ---- the row of numbers

coordinate_times : (n d : ℤ) → pos 0 <ℤ d → over n d *ℚ whole d ≡ whole n
coordinate_times n d up = same_from_ratios (ratio_product (ratio_over n d up) (ratio_whole d)) (ratio_whole n) (cross_back n d)

-- the left side of a row of numbers less its right side, over the point's denominator, is the vector's value times a number
row_value : (v : List ℚ) (ns : List ℤ) (n place : ℕ) (r : ℤ) (x : Point) → pos 0 <ℤ x.q → length v ≡ suc n → AreTimes r v ns
    → whole (dot (row_with ns).c (drop place x.p)) -ℚ whole (row_with ns).b *ℚ whole x.q ≡ value_in v (columns_from n place x) *ℚ (whole r *ℚ whole x.q)
row_value [] ns n place r x up long is = absurd (omega (arith, long))
row_value (q ∷ qs) [] n place r x up long is = absurd is
row_value (q ∷ []) (m ∷ []) zero place r x up long is =
    let e : whole m ≡ q *ℚ whole r = is.0 in
    let neg : whole (neg_ℤ m) ≡ neg_ℚ (whole m) = whole-neg_ℤ m in
    by_equations (q ∷ whole m ∷ whole (neg_ℤ m) ∷ whole r ∷ whole x.q ∷ []) (whole x.q ⋆ null e ⊞ neg_ℚ (whole x.q) ⋆ null neg) (search reads depth 40) tt
row_value (q ∷ []) (m ∷ []) (suc n) place r x up long is = absurd (omega (arith, long))
row_value (q ∷ []) (m ∷ k ∷ ks) n place r x up long is = absurd is.1
row_value (q ∷ p ∷ qs) (m ∷ []) n place r x up long is = absurd is.1
row_value (q ∷ p ∷ qs) (m ∷ k ∷ ks) zero place r x up long is = absurd (omega (arith, long))
row_value (q ∷ p ∷ qs) (m ∷ k ∷ ks) (suc n) place r x up long is =
    let row : Row = row_with (k ∷ ks) in
    let rest : whole (dot row.c (drop (suc place) x.p)) -ℚ whole row.b *ℚ whole x.q ≡ value_in (p ∷ qs) (columns_from n (suc place) x) *ℚ
    (whole r *ℚ whole x.q) =
    row_value (p ∷ qs) (k ∷ ks) n (suc place) r x up (omega (arith, long)) is.1 in
    let e : whole m ≡ q *ℚ whole r = is.0 in
    let c : ℚ = over (number_at x.p place) x.q in
    let here : c *ℚ whole x.q ≡ whole (number_at x.p place) = coordinate_times (number_at x.p place) x.q up in
    let split : whole (dot (m ∷ row.c) (drop place x.p)) ≡ whole m *ℚ whole (number_at x.p place) +ℚ whole (dot row.c (drop (suc place) x.p)) =
    ap whole (dot_from m row.c x.p place) ∙ whole-+ℤ (m *ℤ number_at x.p place) (dot row.c (drop (suc place) x.p))
    ∙ ap (λ t. t +ℚ whole (dot row.c (drop (suc place) x.p))) (whole-*ℤ m (number_at x.p place)) in
    by_equations (q ∷ whole m ∷ whole r ∷ whole x.q ∷ c ∷ whole (number_at x.p place) ∷ whole (dot (m ∷ row.c) (drop place x.p)) ∷ whole
    (dot row.c (drop (suc place) x.p)) ∷ whole row.b ∷ value_in (p ∷ qs) (columns_from n (suc place) x) ∷ [])
    (null split ⊞ whole (number_at x.p place) ⋆ null e ⊞ neg_ℚ (q *ℚ whole r) ⋆ null here ⊞ null rest) (search reads depth 40) tt

-- ---- met

positive_times : (v k : ℚ) → zero_ℚ <ℚ k → (v *ℚ k) ≤ℚ zero_ℚ → v ≤ℚ zero_ℚ
positive_times v k up below = ⊎_elim
    (λ above. absurd (lt_not_le_ℚ (positive-*ℚ above up) below))
    (λ le. le)
    (lt_or_le_ℚ zero_ℚ v)

below_times : (v k : ℚ) → zero_ℚ <ℚ k → v ≤ℚ zero_ℚ → (v *ℚ k) ≤ℚ zero_ℚ
below_times v k up below = by_le (v ∷ k ∷ []) (gap below · gap (<ℚ-≤ℚ up)) (search reads depth 40) tt

difference_below : (a b : ℚ) → a ≤ℚ b → (a -ℚ b) ≤ℚ zero_ℚ
difference_below a b h = by_le (a ∷ b ∷ []) (gap h) (search reads depth 40) tt

below_difference : (a b : ℚ) → (a -ℚ b) ≤ℚ zero_ℚ → a ≤ℚ b
below_difference a b h = by_le (a ∷ b ∷ []) (gap h) (search reads depth 40) tt

-- what `row_of` is made of
record IsRowOf (v : List ℚ) (row : Row) : Type 0 where
  r : ℤ
  ns : List ℤ
  positive : pos 0 <ℤ r
  times : AreTimes r v ns
  row_is : primitive (row_with ns) ≡ row

row_parts : (v : List ℚ) (row : Row) → row_of v ≡ Ok row → IsRowOf v row
row_parts v row is =
    let one = and_then_ok (λ q. and_then (over_common q (map parts_of v)) (λ ns. Ok (primitive (row_with ns)))) (common_from (pos 1) (map parts_of v)) row is in
    let two = and_then_ok (λ ns. Ok (primitive (row_with ns))) (over_common one.0 (map parts_of v)) row one.2 in
    let common = common_is v (pos 1) one.0 (omega (arith, ints)) one.1 in
    record { r = one.0; ns = two.0; positive = common.positive; times = over_is v one.0 two.0 common.all two.1; row_is = cc }

pub row_met : (v : List ℚ) (row : Row) (n : ℕ) (x : Point) → pos 0 <ℤ x.q → length v ≡ suc n → row_of v ≡ Ok row
    → (Meets row x → value_in v (columns_from n 0 x) ≤ℚ zero_ℚ) × (value_in v (columns_from n 0 x) ≤ℚ zero_ℚ → Meets row x)
row_met v row n x up long is =
    let s = row_parts v row is in
    let plain : Row = row_with s.ns in
    let value : whole (dot plain.c x.p) -ℚ whole plain.b *ℚ whole x.q
    ≡ value_in v (columns_from n 0 x) *ℚ (whole s.r *ℚ whole x.q) = row_value v s.ns n 0 s.r x up long s.times in
    let k : zero_ℚ <ℚ (whole s.r *ℚ whole x.q) = positive-*ℚ (whole-<ℤ s.positive) (whole-<ℤ up) in
    let same : whole (plain.b *ℤ x.q) ≡ whole plain.b *ℚ whole x.q = whole-*ℤ plain.b x.q in
    let Q : ℚ → Type 0 = λ t. t ≤ℚ zero_ℚ in
    let U : ℚ → Type 0 = λ t. whole (dot plain.c x.p) ≤ℚ t in
    let M : Row → Type 0 = λ t. Meets t x in (
      λ met.
          let plainly : Meets plain x = (Meets-primitive plain x).0 (subst M (sym s.row_is) met) in
          let le : whole (dot plain.c x.p) ≤ℚ (whole plain.b *ℚ whole x.q) = subst U same (whole-≤ℤ plainly.meets) in
          positive_times (value_in v (columns_from n 0 x)) (whole s.r *ℚ whole x.q) k (subst Q value (difference_below _ _ le)),
      λ below.
          let all : (whole (dot plain.c x.p) -ℚ whole plain.b *ℚ whole x.q) ≤ℚ zero_ℚ = subst Q (sym value)
          (below_times (value_in v (columns_from n 0 x)) (whole s.r *ℚ whole x.q) k below) in
          let plainly : Meets plain x = record { meets = ≤ℤ-whole (subst U (sym same) (below_difference _ _ all)) } in
          subst M s.row_is ((Meets-primitive plain x).1 plainly),
    )

-- ---- all rows

abbrev pub AreLong : ℕ → List (List ℚ) → Type 0
AreLong n [] = Unit {0}
AreLong n (v ∷ vs) = (length v ≡ suc n) × AreLong n vs

pub rows_to_values : (vs : List (List ℚ)) (rows : List Row) (n : ℕ) (x : Point) → pos 0 <ℤ x.q → AreLong n vs → rows_of_all vs ≡ Ok rows → AreMet rows x
    → AreBelow vs (columns_from n 0 x)
rows_to_values [] rows n x up long is met = tt
rows_to_values (v ∷ vs) rows n x up long is met =
    let one = and_then_ok (λ row. and_then (rows_of_all vs) (λ more. Ok (row ∷ more))) (row_of v) rows is in
    let two = and_then_ok (λ more. Ok (one.0 ∷ more)) (rows_of_all vs) rows one.2 in
    let e : rows ≡ one.0 ∷ two.0 = cc in
    let P : List Row → Type 0 = λ rs. AreMet rs x in
    let both = subst P e met in
    ((row_met v one.0 n x up long.0 one.1).0 both.0, rows_to_values vs two.0 n x up long.1 two.1 both.1)

pub values_to_rows : (vs : List (List ℚ)) (rows : List Row) (n : ℕ) (x : Point) → pos 0 <ℤ x.q → AreLong n vs → rows_of_all vs ≡ Ok rows
    → AreBelow vs (columns_from n 0 x) → AreMet rows x
values_to_rows [] rows n x up long is below =
    let e : rows ≡ [] = cc in
    let P : List Row → Type 0 = λ rs. AreMet rs x in
    subst P (sym e) tt
values_to_rows (v ∷ vs) rows n x up long is below =
    let one = and_then_ok (λ row. and_then (rows_of_all vs) (λ more. Ok (row ∷ more))) (row_of v) rows is in
    let two = and_then_ok (λ more. Ok (one.0 ∷ more)) (rows_of_all vs) rows one.2 in
    let e : rows ≡ one.0 ∷ two.0 = cc in
    let P : List Row → Type 0 = λ rs. AreMet rs x in
    subst P (sym e) ((row_met v one.0 n x up long.0 one.1).1 below.0, values_to_rows vs two.0 n x up long.1 two.1 below.1)
