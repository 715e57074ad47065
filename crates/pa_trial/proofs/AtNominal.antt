-- From points that extend the nominal one in front to behaviours with the nominal values: what is left of a term is exact at these where it is exact at
-- the nominal point.
use Rattle.std.proofs.Common.{◌≡◌, refl, sym, ap, subst, ◌∙◌, ℕ, zero, suc, ◌≤◌, List, [], ◌∷◌, ◌++◌, length, map, take, drop, arith, rules}
use Rattle.std.proofs.Common.{All, Option, None, Some, Ok, get_or}
use Rattle.std.specs.Prelude.{position}
use Rattle.std.specs.List.{AllZip, IsDistinct}
use Rattle.std.specs.Str.{bytes_eq}
use Rattle.std.proofs.lemmas.List.Elements.{All-nil, All-cons, All-head, All-tail}
use lib.IntN.{ℤ, pos, ◌+ℤ◌, ◌*ℤ◌, neg_ℤ}
use lib.Signed.{◌≤ℤ◌, ◌<ℤ◌}
use Rattle.pa_ring.specs.Sums.{SameNumbers, dot, number_at, times}
use Rattle.pa_ring.proofs.Integers.{gap, gap_same, ◌·◌, ◌∔◌, <ℤ-≤ℤ, ≤ℤ-*ℤ_cancel, *ℤ_cancel, null, ◌⋆◌, ◌⊞◌}
use Rattle.pa_ring.proofs.IntegerTactics.{by_le, by_ring, by_equations, reads}
use Rattle.pa_ring.proofs.Sums.{dot_zeros, dot_nil}
use Rattle.pa_math.specs.Answers.{given, and_then}
use Rattle.pa_math.proofs.Answers.{and_then_ok, ok_same}
use Rattle.pa_math.proofs.ReducedForms.{reduced_whole}
use Rattle.pa_meaning.specs.Rows.{Row, Point, Meets, MeetsAll}
use Rattle.pa_meaning.specs.Weights.{Weights}
use Rattle.pa_meaning.specs.Contracts.{Name, Behaviour, Extends, point_over, behaviour_of}
use Rattle.pa_meaning.specs.Composition.{IsExactAtNominal}
use Rattle.pa_meaning.specs.Shifting.{less_weighted, shifted}
use Rattle.pa_meaning.proofs.PrimitiveRows.{Meets-primitive}
use Rattle.pa_meaning.proofs.Moves.{point_is}
use Rattle.pa_contract.specs.Nominal.{Nominal, IsNominal, value_of}
use Rattle.pa_row.specs.Fractions.{IsFraction, AreOver, common_from, over_common, point_in}
use Rattle.pa_row.proofs.CommonDenominators.{point_has}
use Rattle.pa_shift.specs.Meant.{ExtendsInFront, IsExactAt}
use Rattle.pa_shift.proofs.Costs.{front_sum}
use Rattle.pa_trial.specs.Meant.{IsNominalAt}

-- ---- values at names
-- the behaviour has, at each of these names, the number over the denominator
abbrev pub HasValues : ℤ → Behaviour → List Name → List ℤ → Type 0
HasValues q v ns ps = AllZip (λ n p. v.value n *ℤ q ≡ p *ℤ v.den) ns ps

-- fractions that are equal to a third are equal
same_fraction : (a q p d m k : ℤ) → pos 0 <ℤ k → a *ℤ k ≡ m *ℤ d → p *ℤ k ≡ m *ℤ q → a *ℤ q ≡ p *ℤ d
same_fraction a q p d m k up h j =
    *ℤ_cancel (a *ℤ q) (p *ℤ d) k up (by_equations (a ∷ q ∷ p ∷ d ∷ m ∷ k ∷ []) (q ⋆ null h ⊞ neg_ℤ d ⋆ null j) (search reads depth 40) tt)

-- the nominal values, as the nominal point has them
values_over : (f : Name → ℤ × ℤ) (q : ℤ) (ns : List Name) (ps : List ℤ) (v : Behaviour) → ((n : Name) → pos 0 <ℤ (f n).1)
    → AreOver q (map f ns) ps → All (λ n. v.value n *ℤ (f n).1 ≡ (f n).0 *ℤ v.den) ns → HasValues q v ns ps
values_over f q [] [] v up over h = tt
values_over f q [] (p ∷ ps) v up over h = absurd over
values_over f q (n ∷ ns) [] v up over h = absurd over
values_over f q (n ∷ ns) (p ∷ ps) v up over h = (
  same_fraction (v.value n) q p v.den (f n).0 (f n).1 (up n) (All-head (λ n. v.value n *ℤ (f n).1 ≡ (f n).0 *ℤ v.den) n ns h) over.0,
  values_over f q ns ps v up over.1 (All-tail (λ n. v.value n *ℤ (f n).1 ≡ (f n).0 *ℤ v.den) n ns h),
)

-- a behaviour with the same values extends another one, and an extension has them
values_extend : (q : ℤ) (up : pos 0 <ℤ q) (ns : List Name) (ps : List ℤ) (v w : Behaviour) → HasValues q v ns ps → HasValues q w ns ps → Extends ns v w
values_extend q up [] ps v w h k = All-nil (λ n. w.value n *ℤ v.den ≡ v.value n *ℤ w.den)
values_extend q up (n ∷ ns) [] v w h k = absurd h
values_extend q up (n ∷ ns) (p ∷ ps) v w h k =
    All-cons (λ n. w.value n *ℤ v.den ≡ v.value n *ℤ w.den) n ns
    (same_fraction (w.value n) v.den (v.value n) w.den p q up k.0 h.0) (values_extend q up ns ps v w h.1 k.1)

extended_values : (q : ℤ) (ns : List Name) (ps : List ℤ) (v w : Behaviour) → HasValues q v ns ps → Extends ns v w → HasValues q w ns ps
extended_values q [] [] v w h e = tt
extended_values q [] (p ∷ ps) v w h e = absurd h
extended_values q (n ∷ ns) [] v w h e = absurd h
extended_values q (n ∷ ns) (p ∷ ps) v w h e = (
  same_fraction (w.value n) q p w.den (v.value n) v.den v.positive (All-head (λ n. w.value n *ℤ v.den ≡ v.value n *ℤ w.den) n ns e) (sym h.0),
  extended_values q ns ps v w h.1 (All-tail (λ n. w.value n *ℤ v.den ≡ v.value n *ℤ w.den) n ns e),
)

-- ---- points of behaviours
-- a behaviour with the numbers of a point extends it in front
front_agrees : (q : ℤ) (ns others : List Name) (ps : List ℤ) (v : Behaviour) → HasValues q v ns ps
    → SameNumbers (times q (take (length ps) (map v.value (ns ++ others)))) (times v.den ps)
front_agrees q [] others [] v h i = refl
front_agrees q [] others (p ∷ ps) v h i = absurd h
front_agrees q (n ∷ ns) others [] v h i = absurd h
front_agrees q (n ∷ ns) others (p ∷ ps) v h zero = by_equations (q ∷ v.value n ∷ p ∷ v.den ∷ []) (null h.0) (search reads depth 40) tt
front_agrees q (n ∷ ns) others (p ∷ ps) v h (suc i) = front_agrees q ns others ps v h.1 i

pub in_front : (x : Point) (ns others : List Name) (v : Behaviour) → HasValues x.q v ns x.p → ExtendsInFront x (point_over (ns ++ others) v)
in_front x ns others v h = record { positive = v.positive; agrees = front_agrees x.q ns others x.p v h }

-- exactly n numbers of a list, with zeros where it is shorter
abbrev fitted : ℕ → List ℤ → List ℤ
fitted zero xs = []
fitted (suc n) [] = pos 0 ∷ fitted n []
fitted (suc n) (x ∷ xs) = x ∷ fitted n xs

length-fitted : (n : ℕ) (xs : List ℤ) → length (fitted n xs) ≡ n
length-fitted zero xs = refl
length-fitted (suc n) [] = ap suc (length-fitted n [])
length-fitted (suc n) (x ∷ xs) = ap suc (length-fitted n xs)

dot-fitted : (n : ℕ) (cs xs : List ℤ) → length cs ≤ n → dot cs (fitted n xs) ≡ dot cs xs
dot-fitted zero [] xs h = refl
dot-fitted zero (c ∷ cs) xs h = absurd (omega arith)
dot-fitted (suc n) [] xs h = refl
dot-fitted (suc n) (c ∷ cs) [] h = ap (λ t. c *ℤ pos 0 +ℤ t) (dot-fitted n cs [] (omega arith) ∙ dot_nil cs) ∙ by_ring (c ∷ []) (search reads depth 40) tt
dot-fitted (suc n) (c ∷ cs) (x ∷ xs) h = ap (λ t. c *ℤ x +ℤ t) (dot-fitted n cs xs (omega arith))

-- a behaviour with the numbers of a point that extends another one has its values
fitted_values : (q d : ℤ) (f : Name → ℤ) (ns others : List Name) (ps zs : List ℤ) → length ps ≡ length ns
    → map f (ns ++ others) ≡ fitted (length (ns ++ others)) zs → SameNumbers (times q (take (length ps) zs)) (times d ps)
    → AllZip (λ n p. f n *ℤ q ≡ p *ℤ d) ns ps
fitted_values q d f [] others [] zs long is h = tt
fitted_values q d f [] others (p ∷ ps) zs long is h = absurd (omega arith)
fitted_values q d f (n ∷ ns) others [] zs long is h = absurd (omega arith)
fitted_values q d f (n ∷ ns) others (p ∷ ps) [] long is h =
    let first : f n ≡ pos 0 = cc in
    let here : pos 0 ≡ d *ℤ p = h 0 in (
      ap (λ z. z *ℤ q) first ∙ by_equations (q ∷ d ∷ p ∷ []) (null here) (search reads depth 40) tt,
      fitted_values q d f ns others ps [] (omega arith) (cc) (λ i. take_none (length ps) i ∙ h (suc i)),
    )
  where
    take_none : (k i : ℕ) → number_at (times q (take k [])) i ≡ pos 0
    take_none zero i = refl
    take_none (suc k) i = refl
fitted_values q d f (n ∷ ns) others (p ∷ ps) (z ∷ zs) long is h =
    let first : f n ≡ z = cc in
    let here : q *ℤ z ≡ d *ℤ p = h 0 in (
      ap (λ t. t *ℤ q) first ∙ by_equations (q ∷ z ∷ d ∷ p ∷ []) (null here) (search reads depth 40) tt,
      fitted_values q d f ns others ps zs (omega arith) (cc) (λ i. h (suc i)),
    )

-- ---- rows at points
-- a row with 0 behind a point's columns reads the same at each point that extends it
front_alone : (x y : Point) (r : Row) → SameNumbers (drop (length x.p) r.c) [] → ExtendsInFront x y → x.q *ℤ dot r.c y.p ≡ y.q *ℤ dot r.c x.p
front_alone x y r h e =
    let none : dot (drop (length x.p) r.c) (drop (length x.p) y.p) ≡ pos 0 = dot_zeros (drop (length x.p) r.c) (drop (length x.p) y.p) h in
    front_sum x y r.c e ∙ ap (λ t. y.q *ℤ dot r.c x.p +ℤ x.q *ℤ t) none ∙ by_ring (x.q ∷ y.q ∷ dot r.c x.p ∷ []) (search reads depth 40) tt

met_there : (x y : Point) (r : Row) → pos 0 <ℤ x.q → SameNumbers (drop (length x.p) r.c) [] → ExtendsInFront x y → Meets r x → Meets r y
met_there x y r up h e m = record {
  meets = ≤ℤ-*ℤ_cancel (dot r.c y.p) (r.b *ℤ y.q) x.q up
      (by_le (x.q ∷ y.q ∷ dot r.c y.p ∷ dot r.c x.p ∷ r.b ∷ []) (<ℤ-≤ℤ e.positive · gap m.meets ∔ gap_same (front_alone x y r h e))
      (search reads depth 40) tt);
}

met_here : (x y : Point) (r : Row) → pos 0 <ℤ x.q → SameNumbers (drop (length x.p) r.c) [] → ExtendsInFront x y → Meets r y → Meets r x
met_here x y r up h e m = record {
  meets = ≤ℤ-*ℤ_cancel (dot r.c x.p) (r.b *ℤ x.q) y.q e.positive
      (by_le (x.q ∷ y.q ∷ dot r.c y.p ∷ dot r.c x.p ∷ r.b ∷ []) (<ℤ-≤ℤ up · gap m.meets ∔ gap_same (sym (front_alone x y r h e)))
      (search reads depth 40) tt);
}

-- a row of n columns reads the first n numbers of a point alone
abbrev pub HasColumns : ℕ → List Row → Type 0
HasColumns n rows = All (λ (r : Row). length r.c ≡ n) rows

met_fitted : (n : ℕ) (z : Point) (r : Row) → length r.c ≡ n → Meets r z → Meets r (record { p = fitted n z.p; q = z.q })
met_fitted n z r long m = record { meets = subst (λ s. s ≤ℤ (r.b *ℤ z.q)) (sym (dot-fitted n r.c z.p (omega arith))) m.meets }

met_whole : (n : ℕ) (z : Point) (r : Row) → length r.c ≡ n → Meets r (record { p = fitted n z.p; q = z.q }) → Meets r z
met_whole n z r long m = record { meets = subst (λ s. s ≤ℤ (r.b *ℤ z.q)) (dot-fitted n r.c z.p (omega arith)) m.meets }

all_fitted : (n : ℕ) (z : Point) (rows : List Row) → HasColumns n rows → MeetsAll rows z → MeetsAll rows (record { p = fitted n z.p; q = z.q })
all_fitted n z [] long m = All-nil (λ r. Meets r (record { p = fitted n z.p; q = z.q }))
all_fitted n z (r ∷ rows) long m =
    All-cons (λ r. Meets r (record { p = fitted n z.p; q = z.q })) r rows
    (met_fitted n z r (All-head (λ (r : Row). length r.c ≡ n) r rows long) (All-head (λ r. Meets r z) r rows m))
    (all_fitted n z rows (All-tail (λ (r : Row). length r.c ≡ n) r rows long) (All-tail (λ r. Meets r z) r rows m))

-- ---- exact at the nominal behaviours
module _ (external others : List Name) (distinct : IsDistinct bytes_eq (external ++ others)) (x : Point) (up : pos 0 <ℤ x.q)
    (long : length x.p ≡ length external) where
  abbrev names : List Name
  names = external ++ others

  -- a point that extends the nominal one, as a behaviour
  abbrev of_point : (z : Point) → pos 0 <ℤ z.q → Behaviour
  of_point z above = behaviour_of (external ++ others) (record { p = fitted (length (external ++ others)) z.p; q = z.q }) above

  of_point_is : (z : Point) (above : pos 0 <ℤ z.q)
      → point_over (external ++ others) (of_point z above) ≡ record { p = fitted (length (external ++ others)) z.p; q = z.q }
  of_point_is z above = point_is (external ++ others) (record { p = fitted (length (external ++ others)) z.p; q = z.q }) above distinct
      (length-fitted (length (external ++ others)) z.p)

  of_point_values : (z : Point) (e : ExtendsInFront x z) → HasValues x.q (of_point z e.positive) external x.p
  of_point_values z e = fitted_values x.q z.q (of_point z e.positive).value external others x.p z.p long
      (ap (λ (y : Point). y.p) (of_point_is z e.positive)) e.agrees

  pub exact_there : (given : List Row) (t : Row) (w : Weights) (v : Behaviour) → HasColumns (length (external ++ others)) given
      → length t.c ≡ length (external ++ others)
      → SameNumbers (drop (length x.p) (less_weighted t given w).c) [] → HasValues x.q v external x.p
      → IsExactAt (record { nominal = x; rows = given }) t (shifted t given w)
      → IsExactAtNominal external (external ++ others) given t (less_weighted t given w) v
  exact_there given t w v columns width gone values exact = record {
    exact = λ u e m.
        let there = exact (point_over (external ++ others) u) (in_front x external others u (extended_values x.q external x.p v u values e)) m in (
          λ left k f met. there.0 (to_nominal left) (point_over (external ++ others) k)
              (in_front x external others k (extended_values x.q external x.p v k values f)) met,
          λ all. from_nominal (there.1 (λ z f met. back z f (all (of_point z f.positive)
              (values_extend x.q up external x.p v (of_point z f.positive) values (of_point_values z f))
              (subst (MeetsAll given) (sym (of_point_is z f.positive)) (all_fitted (length (external ++ others)) z given columns met))))),
        );
  }
    where
      here : ExtendsInFront x (point_over (external ++ others) v)
      here = in_front x external others v values

      to_nominal : Meets (less_weighted t given w) (point_over (external ++ others) v) → Meets (shifted t given w) x
      to_nominal m = (Meets-primitive (less_weighted t given w) x).1 (met_here x (point_over (external ++ others) v) (less_weighted t given w) up gone here m)

      from_nominal : Meets (shifted t given w) x → Meets (less_weighted t given w) (point_over (external ++ others) v)
      from_nominal m = met_there x (point_over (external ++ others) v) (less_weighted t given w) up gone here
          ((Meets-primitive (less_weighted t given w) x).0 m)

      back : (z : Point) (f : ExtendsInFront x z) → Meets t (point_over (external ++ others) (of_point z f.positive)) → Meets t z
      back z f m = met_whole (length (external ++ others)) z t width (subst (Meets t) (of_point_is z f.positive) m)

-- ---- the nominal point
zero_fraction : IsFraction (pos 0, pos 1)
zero_fraction = record { reduced = reduced_whole (pos 0); numerator = search rules; denominator = search rules }

fraction_at : (values : List (ℤ × ℤ)) (i : ℕ) → All IsFraction values → IsFraction (get_or values i (pos 0, pos 1))
fraction_at [] i h = zero_fraction
fraction_at (f ∷ fs) zero h = All-head IsFraction f fs h
fraction_at (f ∷ fs) (suc i) h = fraction_at fs i (All-tail IsFraction f fs h)

-- each nominal value is a fraction
pub value_fraction : (nominal : Nominal) (n : Name) → IsNominal nominal → IsFraction (value_of nominal n)
value_fraction nominal n is = by (position (bytes_eq n) nominal.names)
  where
    by : (o : Option ℕ) → IsFraction (given (pos 0, pos 1) o (λ place. get_or nominal.values place (pos 0, pos 1)))
    by None = zero_fraction
    by (Some i) = fraction_at nominal.values i is.fractions

fractions_of : (f : Name → ℤ × ℤ) (ns : List Name) → ((n : Name) → IsFraction (f n)) → All IsFraction (map f ns)
fractions_of f [] h = All-nil IsFraction
fractions_of f (n ∷ ns) h = All-cons IsFraction (f n) (map f ns) (h n) (fractions_of f ns h)

-- the numbers of a point that is made of fractions
point_over_is : (fs : List (ℤ × ℤ)) (x : Point) → All IsFraction fs → point_in fs ≡ Ok x → AreOver x.q fs x.p
point_over_is fs x fractions is =
    let (q, e, j) = and_then_ok (common_from (pos 1) fs) (λ q. and_then (over_common q fs) (λ ns. Ok (record { p = ns; q = q }))) x (sym is) in
    let (ns, f, k) = and_then_ok (over_common q fs) (λ ns. Ok (record { p = ns; q = q })) x j in
    subst (λ (y : Point). AreOver y.q fs y.p) (sym (ok_same x (record { p = ns; q = q }) k)) (point_has fs q ns fractions (sym e) (sym f)).1.columns

-- a behaviour with the nominal values at names has there what the nominal point has
pub values_at : (nominal : Nominal) (ns : List Name) (x : Point) (v : Behaviour) → IsNominal nominal → point_in (map (value_of nominal) ns) ≡ Ok x
    → IsNominalAt nominal ns v → HasValues x.q v ns x.p
values_at nominal ns x v nom is h =
    values_over (value_of nominal) x.q ns x.p v (λ n. (value_fraction nominal n nom).reduced.positive)
    (point_over_is (map (value_of nominal) ns) x (fractions_of (value_of nominal) ns (λ n. value_fraction nominal n nom)) is) h
