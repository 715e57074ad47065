-- Fractions with positive denominators have a point over a common denominator; the one that is formed has them.
use Rattle.std.proofs.Common.{◌≡◌, ℤ, pos, List, [], ◌∷◌, map, Ok, sym, subst, arith}
use Rattle.std.proofs.lemmas.Int.{ints}
use Rattle.std.proofs.lemmas.List.Elements.{All-nil, All-cons, All-head, All-tail}
use native.Mathlib.Nat.{one-dvd}
use lib.IntN.{nat_abs, ◌*ℤ◌}
use lib.Signed.{◌<ℤ◌}
use Rattle.pa_ring.proofs.Integers.{positive-*ℤ, *ℤ_assoc, null, ◌⋆◌}
use Rattle.pa_ring.proofs.IntegerTactics.{by_equations, reads}
use Rattle.pa_math.specs.Answers.{and_then}
use Rattle.pa_math.specs.Divisors.{Divides, lcm_ℤ}
use Rattle.pa_math.proofs.Divisors.{Divides_refl, Divides_trans}
use Rattle.pa_math.proofs.CommonMultiples.{lcm_ℤ_positive, lcm_ℤ_left, lcm_ℤ_right, lcm_ℤ_divides}
use Rattle.pa_frac.specs.Width.{within}
use Rattle.pa_frac.proofs.Width.{within_ok}
use Rattle.pa_meaning.specs.Rows.{Point}
use Rattle.pa_row.specs.Fractions.{AreOver, HasFractions, IsCommonMultiple, common_from, over_common, point_in}
use Rattle.pa_row.proofs.CommonDenominators.{over_numerators}
use Rattle.pa_row.proofs.Dots.{and_then_ok, ok_same}

-- each denominator is positive
abbrev pub HavePositive : List (ℤ × ℤ) → Type 0
HavePositive [] = Unit {0}
HavePositive (f ∷ fs) = (pos 0 <ℤ f.1) × HavePositive fs

-- the least of the positive numbers that the number before and the denominators divide
record IsGrown (q : ℤ) (fs : List (ℤ × ℤ)) (r : ℤ) : Type 0 where
  pub positive : pos 0 <ℤ r
  pub before : Divides q r
  pub multiple : IsCommonMultiple fs r
  pub least : (n : ℤ) → Divides q n → IsCommonMultiple fs n → Divides r n

grown_more : (q m : ℤ) (f : ℤ × ℤ) (fs : List (ℤ × ℤ)) (r : ℤ) → m ≡ lcm_ℤ q f.1 → IsGrown m fs r → IsGrown q (f ∷ fs) r
grown_more q m f fs r e g = record {
  positive = g.positive;
  before = Divides_trans (subst (Divides q) (sym e) (lcm_ℤ_left q f.1)) g.before;
  multiple = All-cons (λ (f : ℤ × ℤ). Divides f.1 r) f fs (Divides_trans (subst (Divides f.1) (sym e) (lcm_ℤ_right q f.1)) g.before) g.multiple;
  least = λ n h k. g.least n (subst (λ t. Divides t n) (sym e) (lcm_ℤ_divides h (All-head (λ (f : ℤ × ℤ). Divides f.1 n) f fs k)))
      (All-tail (λ (f : ℤ × ℤ). Divides f.1 n) f fs k);
}

grown : (q : ℤ) (fs : List (ℤ × ℤ)) (r : ℤ) → pos 0 <ℤ q → HavePositive fs → Ok r ≡ common_from q fs → IsGrown q fs r
grown q [] r h a e = subst (IsGrown q []) (sym (ok_same r q e)) (record {
  positive = h;
  before = Divides_refl q;
  multiple = All-nil (λ (f : ℤ × ℤ). Divides f.1 q);
  least = λ n h k. h;
})
grown q (f ∷ fs) r h a e =
    let (m, is, rest) = and_then_ok (within 126 (lcm_ℤ q f.1)) (λ next. common_from next fs) r e in
    let same : m ≡ lcm_ℤ q f.1 = (within_ok 126 m (lcm_ℤ q f.1) is).1 in
    grown_more q m f fs r same (grown m fs r (subst (λ t. pos 0 <ℤ t) (sym same) (lcm_ℤ_positive q f.1 h a.0)) a.1 rest)

-- the point that is formed has a positive denominator and the fractions
pub point_formed : (fs : List (ℤ × ℤ)) (x : Point) → HavePositive fs → Ok x ≡ point_in fs → (pos 0 <ℤ x.q) × HasFractions fs x
point_formed fs x a e =
    let (q, is, rest) = and_then_ok (common_from (pos 1) fs) (λ q. and_then (over_common q fs) (λ ns. Ok (record { p = ns; q = q }))) x e in
    let (ns, were, last) = and_then_ok (over_common q fs) (λ ns. Ok (record { p = ns; q = q })) x rest in
    let same : x ≡ record { p = ns; q = q } = ok_same x (record { p = ns; q = q }) last in
    let g : IsGrown (pos 1) fs q = grown (pos 1) fs q (omega (arith, ints)) a is in
    subst (λ x. (pos 0 <ℤ x.q) × HasFractions fs x) (sym same) (
      g.positive,
      record {
        columns = (over_numerators q fs ns g.multiple (sym were)).over;
        multiple = g.multiple;
        least = λ n h. g.least n (record { divides = one-dvd (nat_abs n) }) h;
      },
    )

-- Some point has the fractions, be it wide or not.
scaled : (q m : ℤ) (fs : List (ℤ × ℤ)) (ns : List ℤ) → AreOver q fs ns → AreOver (q *ℤ m) fs (map (λ n. n *ℤ m) ns)
scaled q m [] [] h = tt
scaled q m [] (n ∷ ns) h = absurd h
scaled q m (f ∷ fs) [] h = absurd h
scaled q m (f ∷ fs) (n ∷ ns) h =
    (by_equations (q ∷ m ∷ f.0 ∷ f.1 ∷ n ∷ []) (m ⋆ null h.0) (search reads depth 40) tt, scaled q m fs ns h.1)

pub some_point : (fs : List (ℤ × ℤ)) → HavePositive fs → (x : Point) × (pos 0 <ℤ x.q) × AreOver x.q fs x.p
some_point [] a = (record { p = []; q = pos 1 }, omega (arith, ints), tt)
some_point (f ∷ fs) a =
    let (x, up, over) = some_point fs a.1 in
    let first : (f.0 *ℤ x.q) *ℤ f.1 ≡ f.0 *ℤ (x.q *ℤ f.1) = *ℤ_assoc f.0 x.q f.1 in
    (record { p = (f.0 *ℤ x.q) ∷ map (λ n. n *ℤ f.1) x.p; q = x.q *ℤ f.1 }, positive-*ℤ x.q f.1 up a.0, (first, scaled x.q f.1 fs x.p over))
