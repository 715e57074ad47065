-- What is read at the least end shows the least value of the problem.
use Rattle.std.proofs.Common.{◌≡◌, ℕ, ◌+◌, ℤ, pos, List, [], ◌∷◌, length, map, All, Ok, refl, sym, ap, subst, ◌∙◌}
use Rattle.std.proofs.lemmas.List.Elements.{All-from_get_or}
use Rattle.std.proofs.lemmas.List.FromFn.{length-map-range_with_len}
use Rattle.std.proofs.lemmas.List.{length-map}
use lib.IntN.{◌*ℤ◌}
use lib.Signed.{◌<ℤ◌, ◌≤ℤ◌}
use Rattle.pa_ring.specs.Sums.{SameNumbers, dot, times}
use Rattle.pa_ring.proofs.Sums.{dot_same, dot-times}
use Rattle.pa_ring.proofs.Integers.{<ℤ-≤ℤ, ≤ℤ-*ℤ_cancel, gap, null, ◌·◌, ◌⋆◌}
use Rattle.pa_ring.proofs.IntegerTactics.{by_equations, by_le, reads}
use Rattle.pa_math.specs.Rational.{ℚ, den, neg_ℚ, whole, ◌*ℚ◌}
use Rattle.pa_math.proofs.Rationals.{den_positive, ratio_product, ratio_self, ratio_whole, whole_numbers, IsRatio}
use Rattle.pa_meaning.specs.Directions.{Makes}
use Rattle.pa_meaning.specs.Rows.{Meets, MeetsAll, Point, Row}
use Rattle.pa_meaning.specs.Weights.{AllPlaced, NoneNegative, Weights, combined}
use Rattle.pa_meaning.proofs.Farkas.{Meets-combined}
use Rattle.pa_row.specs.Fractions.{AreOver, WeightPart, fraction_of, placed, point_in, weights_in}
use Rattle.pa_row.proofs.Dots.{and_then_ok, ok_same}
use Rattle.pa_tableau.specs.Tableau.{Tableau, cell}
use Rattle.pa_replay.specs.declared.«end».End.TheVariants.{Least}
use Rattle.pa_replay.specs.Problem.{Problem}
use Rattle.pa_replay.specs.Readings.{IsAscending, LeastRead, least_answer, numbers_in, point_read, signed, value_read, weights_read}
use Rattle.pa_replay.specs.Replay.{Ended}
use Rattle.pa_replay.specs.Shown.{ShowsLeast, asked}
use Rattle.pa_replay.proofs.CommonPoints.{HavePositive, point_formed, some_point}
use Rattle.pa_replay.proofs.ReadWeights.{least_ascending, none_negative, numbers_placed}
use Rattle.pa_replay.proofs.Solved.{IsSolved}
use Rattle.pa_replay.proofs.WeightSums.{ArePositive, weights_positive}
use Rattle.pa_replay.proofs.WholeEnds.{least_whole}
use Rattle.pa_replay.proofs.WholePoints.{HasSigns, point_whole}

-- the fractions of parts with positive denominators
pub have_positive : (parts : List WeightPart) → ArePositive parts → HavePositive (map fraction_of parts)
have_positive [] h = tt
have_positive (part ∷ parts) h = (h.0, have_positive parts h.1)

pub numbers_positive : (xs : List ℚ) → HavePositive (map numbers_in xs)
numbers_positive [] = tt
numbers_positive (x ∷ xs) = (den_positive x, numbers_positive xs)

-- weights that are formed are their numerators over a positive denominator
pub record AreFormed (parts : List WeightPart) (w : Weights) : Type 0 where
  pub numerators : List ℤ
  pub positive : pos 0 <ℤ w.den
  pub over : AreOver w.den (map fraction_of parts) numerators
  pub are : w.parts ≡ placed parts numerators

pub weights_formed : (parts : List WeightPart) (w : Weights) → ArePositive parts → Ok w ≡ weights_in parts → AreFormed parts w
weights_formed parts w up e =
    let (x, formed, made) = and_then_ok (point_in (map fraction_of parts)) (λ x. Ok (record { den = x.q; parts = placed parts x.p })) w e in
    let (positive, has) = point_formed (map fraction_of parts) x (have_positive parts up) formed in
    let same : w ≡ record { den = x.q; parts = placed parts x.p } = ok_same w (record { den = x.q; parts = placed parts x.p }) made in
    subst (AreFormed parts) (sym same) (record { numerators = x.p; positive = positive; over = has.columns; are = refl })

-- weights at places of the problem's rows that combine them to the target make it
pub formed_make : (p : Problem) (parts : List WeightPart) (w : Weights) (f : AreFormed parts w) → IsAscending 0 (length p.rows) parts → ArePositive parts →
    SameNumbers (combined (placed parts f.numerators) p.rows).c (times w.den p.target) → Makes w p.rows (asked p)
formed_make p parts w f up dens sums = record {
  positive = f.positive;
  weights = subst NoneNegative (sym f.are) (none_negative 0 (length p.rows) parts w.den f.numerators up dens f.positive f.over);
  places = subst (λ parts. AllPlaced parts p.rows) (sym f.are) (numbers_placed 0 (length p.rows) parts f.numerators up);
  coefficients = subst (λ (parts : List (ℕ × ℤ)). SameNumbers (combined parts p.rows).c (times w.den p.target)) (sym f.are) sums;
}

-- a whole number that is a multiple of a fraction, by the fraction's two numbers
whole_multiple : (k s : ℤ) (v : ℚ) → whole s ≡ whole k *ℚ v → den v *ℤ s ≡ k *ℤ v.num
whole_multiple k s v e =
    let r : IsRatio (whole k *ℚ v) (k *ℤ v.num) (pos 1 *ℤ den v) = ratio_product (ratio_whole k) (ratio_self v) in
    let t : IsRatio (whole s) (k *ℤ v.num) (pos 1 *ℤ den v) = subst (λ q. IsRatio q (k *ℤ v.num) (pos 1 *ℤ den v)) (sym e) r in
    let (num, one) = whole_numbers s in
    let cross : s *ℤ (pos 1 *ℤ den v) ≡ (k *ℤ v.num) *ℤ pos 1 = ap (λ n. n *ℤ (pos 1 *ℤ den v)) (sym num) ∙ t.cross ∙ ap (λ d. (k *ℤ v.num) *ℤ d) one in
    by_equations (k ∷ s ∷ v.num ∷ den v ∷ []) (pos 1 ⋆ null cross) (search reads depth 40) tt

-- Weights that make the target have at least the value that it takes at a point that meets the rows: weak duality.
duality : (rows : List Row) (t : Row) (x : Point) (num d : ℤ) (w : Weights) → pos 0 <ℤ x.q → MeetsAll rows x → d *ℤ dot t.c x.p ≡ x.q *ℤ num →
    pos 0 <ℤ d → Makes w rows t → (w.den *ℤ num) ≤ℤ (d *ℤ (combined w.parts rows).b)
duality rows t x num d w up meets takes positive m =
    let met : Meets (combined w.parts rows) x = Meets-combined w.parts rows x m.weights meets in
    let same : dot (combined w.parts rows).c x.p ≡ w.den *ℤ dot t.c x.p = dot_same (combined w.parts rows).c (times w.den t.c) x.p m.coefficients
    ∙ dot-times w.den t.c x.p in
    let low : (w.den *ℤ dot t.c x.p) ≤ℤ ((combined w.parts rows).b *ℤ x.q) = subst (λ s. s ≤ℤ ((combined w.parts rows).b *ℤ x.q)) same met.meets in
    ≤ℤ-*ℤ_cancel (w.den *ℤ num) (d *ℤ (combined w.parts rows).b) x.q up
    (scaled w.den num d (dot t.c x.p) (combined w.parts rows).b x.q positive takes low)
  where
    scaled : (m num d s b q : ℤ) → pos 0 <ℤ d → d *ℤ s ≡ q *ℤ num → (m *ℤ s) ≤ℤ (b *ℤ q) → ((m *ℤ num) *ℤ q) ≤ℤ ((d *ℤ b) *ℤ q)
    scaled m num d s b q up e low =
        let same : d *ℤ (m *ℤ s) ≡ (m *ℤ num) *ℤ q = by_equations (m ∷ num ∷ d ∷ s ∷ q ∷ []) (m ⋆ null e) (search reads depth 40) tt in
        let less : (d *ℤ (m *ℤ s)) ≤ℤ ((d *ℤ b) *ℤ q) = by_le (m ∷ d ∷ s ∷ b ∷ q ∷ []) (<ℤ-≤ℤ up · gap low) (search reads depth 40) tt in
        subst (λ a. a ≤ℤ ((d *ℤ b) *ℤ q)) same less

pub least_shown : (p : Problem) (ended : Ended) (s : IsSolved p ended) (a : LeastRead) → ended.answer ≡ Ok Least →
    All (λ (row : Row). length row.c ≡ length p.target) p.rows → HasSigns p ended.table →
    Ok a ≡ least_answer (length p.target) (length p.rows) ended.table → ShowsLeast p a
least_shown p ended s a e columns signs h =
    let (w, formed, made) = and_then_ok (weights_in parts) (λ w. Ok (answer w)) a h in
    let same : a ≡ answer w = ok_same a (answer w) made in
    subst (ShowsLeast p) (sym same) (shown w (weights_formed parts w (weights_positive n m t) formed))
  where
    n : ℕ
    n = length p.target

    m : ℕ
    m = length p.rows

    t : Tableau
    t = ended.table

    parts : List WeightPart
    parts = weights_read n m t

    v : ℚ
    v = value_read n m t

    fractions : List (ℤ × ℤ)
    fractions = map numbers_in (point_read n m t)

    answer : Weights → LeastRead
    answer w = record { weights = w; point = fractions; value = numbers_in v }

    met : (x : Point) → pos 0 <ℤ x.q → AreOver x.q fractions x.p → MeetsAll p.rows x
    met x up over = All-from_get_or (λ r. Meets r x) p.rows (record { c = []; b = pos 0 }) (point_whole p ended s x.q x.p e columns up signs over).0

    taken : (x : Point) → pos 0 <ℤ x.q → AreOver x.q fractions x.p → den v *ℤ dot p.target x.p ≡ x.q *ℤ v.num
    taken x up over = whole_multiple x.q (dot p.target x.p) v (point_whole p ended s x.q x.p e columns up signs over).1

    shown : (w : Weights) → AreFormed parts w → ShowsLeast p (answer w)
    shown w f =
        let sums = least_whole p ended s w.den f.numerators e columns f.over in
        let (x, up, over) = some_point fractions (numbers_positive (point_read n m t)) in
        record {
          makes = formed_make p parts w f (least_ascending p ended s e) (weights_positive n m t) sums.0;
          positive = den_positive v;
          sum = subst (λ (parts : List (ℕ × ℤ)). den v *ℤ (combined parts p.rows).b ≡ w.den *ℤ v.num) (sym f.are)
              (whole_multiple w.den (combined (placed parts f.numerators) p.rows).b v sums.1);
          columns = length-map (point_read n m t) numbers_in ∙ length-map-range_with_len (λ i. neg_ℚ (signed t i (cell t (n + 1) (m + i)))) 0 n;
          meets = met;
          takes = taken;
          least = λ u makes. duality p.rows (asked p) x v.num (den v) u up (met x up over) (taken x up over) (den_positive v) makes;
        }
