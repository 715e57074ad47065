-- Two parts whose composite may assume more or less, by the weights: which rows are exact at the nominal values, and that no
-- certificate leaves what nothing meets.
use Rattle.std.proofs.Common.{◌≡◌, ◌≢◌, refl, sym, ap, ◌∙◌, subst, ℕ, zero, suc, ◌<◌, List, [], ◌∷◌, length, filter, nat_lt, All, arith}
use Rattle.std.proofs.lemmas.Int.{ints}
use Rattle.std.proofs.lemmas.List.Elements.{All-nil, All-head, All-tail, All-filter}
use Rattle.std.specs.List.{AllZip}
use lib.IntN.{ℤ, pos, negsuc, ◌+ℤ◌, ◌*ℤ◌}
use lib.Signed.{◌≤ℤ◌}
use Rattle.pa_ring.specs.Sums.{number_at, dot, times}
use Rattle.pa_ring.proofs.Integers.{gap, ◌·◌, ◌∔◌}
use Rattle.pa_ring.proofs.IntegerTactics.{by_le, reads}
use Rattle.pa_ring.proofs.Lists.{All-flat_map}
use Rattle.pa_ring.proofs.Sums.{number_at-sum_of, number_at-times, dot_comm, dot_zeros}
use Rattle.pa_math.specs.Divisors.{gcd_of}
use Rattle.pa_meaning.specs.Rows.{Row, Meets, MeetsAll, row_at}
use Rattle.pa_meaning.specs.Weights.{Weights, combined, NoneNegative, impossible}
use Rattle.pa_meaning.specs.Contracts.{Contract, Behaviour, point_over, coefficient_at}
use Rattle.pa_meaning.specs.Shifting.{less_weighted, Leaves}
use Rattle.pa_meaning.specs.Composition.{names_of, guarantees_over, IsExactAtNominal}
use Rattle.pa_meaning.proofs.Extensions.{extends_itself}
use Rattle.pa_meaning.proofs.Shifting.{drop_number}
use Rattle.pa_meaning.proofs.Nominal.{nominal_exact}
use Rattle.pa_witness.specs.Thinning.{thinned}
use Rattle.pa_witness.specs.Shifts.{ShiftsHold}
use Rattle.pa_witness.specs.Steps.{Version, One}
use Rattle.pa_witness.specs.Discharge.{Discharge, DischargedPart, discharged, DischargeHolds, discharge_rows, earlier_guarantees}
use Rattle.pa_witness.proofs.Shifts.{leaves_from_shift, shifts_read}
use Rattle.pa_witness.proofs.Projection.{thinned_met}
use Rattle.pa_cert.specs.Lists.{ComposedAnswer}
use Rattle.pa_holds.specs.Composed.{shifted_assumptions, all_guarantees, HoldsAsComposed}
use Rattle.pa_holds.proofs.Examples.{row, weights, contract, i, o, none_dropped, one_zero, two_zeros, one_of, two_of, by_one}
use Rattle.pa_holds.proofs.PartExamples.{capped, capped_steps}

-- `o <= i` and `o <= 1`, over i and o; and `o <= 2`
abbrev caps : List Row
caps = row (negsuc 0 ∷ pos 1 ∷ []) (pos 0) ∷ row (pos 0 ∷ pos 1 ∷ []) (pos 1) ∷ []

abbrev at_most_two : Row
at_most_two = row (pos 0 ∷ pos 1 ∷ []) (pos 2)

abbrev giver : Contract
giver = contract (i ∷ []) (o ∷ []) [] caps

abbrev taker : Contract
taker = contract (o ∷ []) [] (row (pos 1 ∷ []) (pos 2) ∷ []) []

-- ---- the second guarantee
abbrev second_discharges : List Discharge
second_discharges = record { round = 0; shifts = [] } ∷ record { round = 1; shifts = weights (pos 1) ((1, pos 1) ∷ []) ∷ [] } ∷ []

-- by it nothing is left to assume
capped_by_second_holds : HoldsAsComposed One 4096 capped [] (record {
  contract = contract (i ∷ []) [] [] [];
  discharges = second_discharges;
  thin = [];
  steps = capped_steps;
})
unfolding gcd_of
capped_by_second_holds = record {
  one_each = refl;
  discharges = two_of (DischargeHolds (names_of capped) 1 (discharged capped second_discharges))
      (record { part = giver; discharge = record { round = 0; shifts = [] } })
      (record { part = taker; discharge = record { round = 1; shifts = weights (pos 1) ((1, pos 1) ∷ []) ∷ [] } })
      tt (by_one 1 caps at_most_two (pos 1) 1 (pos 1) (omega (arith, ints)) (omega arith) (omega (arith, ints)) one_zero, tt);
  thin = none_dropped 1 (shifted_assumptions capped second_discharges) [];
  named = refl;
  elimination = record { first = none_dropped 2 (all_guarantees capped) []; steps = (omega arith, none_dropped 1 [] [], tt) };
  contract = refl;
}

-- ---- which of the two is exact depends on the nominal value
-- i and o have these whole numbers
abbrev at : ℤ → ℤ → Behaviour
at k l = record { value = coefficient_at (i ∷ o ∷ []) (k ∷ l ∷ []); den = pos 1; positive = omega (arith, ints) }

-- what the first guarantee leaves is `i <= 2`, and what the second one leaves is `0 <= 1`
abbrev by_first : Row
by_first = less_weighted at_most_two caps (weights (pos 1) ((0, pos 1) ∷ []))

abbrev by_second : Row
by_second = less_weighted at_most_two caps (weights (pos 1) ((1, pos 1) ∷ []))

caps_met : (v : Behaviour) → Meets (row (negsuc 0 ∷ pos 1 ∷ []) (pos 0)) (point_over (i ∷ o ∷ []) v)
    → Meets (row (pos 0 ∷ pos 1 ∷ []) (pos 1)) (point_over (i ∷ o ∷ []) v) → MeetsAll caps (point_over (i ∷ o ∷ []) v)
caps_met v h k = two_of (λ r. Meets r (point_over (i ∷ o ∷ []) v)) (row (negsuc 0 ∷ pos 1 ∷ []) (pos 0)) (row (pos 0 ∷ pos 1 ∷ []) (pos 1)) h k

-- at `i = 0` the first one is exact
first_is_exact_at_zero : IsExactAtNominal (i ∷ []) (i ∷ o ∷ []) caps at_most_two by_first (at (pos 0) (pos 0))
first_is_exact_at_zero = nominal_exact (i ∷ []) (o ∷ []) caps at_most_two (weights (pos 1) ((0, pos 1) ∷ [])) (at (pos 0) (pos 0))
    (record {
      positive = omega (arith, ints);
      weights = one_of (λ part. pos 0 ≤ℤ part.1) (0, pos 1) (omega (arith, ints));
      places = one_of (λ part. part.0 < 2) (0, pos 1) (omega arith);
      gone = one_zero;
    })
    (at (pos 0) (pos 0)) (extends_itself (i ∷ []) (at (pos 0) (pos 0)))
    (caps_met (at (pos 0) (pos 0)) (record { meets = omega (arith, ints) }) (record { meets = omega (arith, ints) })) refl

-- at `i = 5` it is not: no extension has an o above 1
first_is_not_exact_at_five : ¬ IsExactAtNominal (i ∷ []) (i ∷ o ∷ []) caps at_most_two by_first (at (pos 5) (pos 1))
first_is_not_exact_at_five h =
    let v : Behaviour = at (pos 5) (pos 1) in
    let left = (h.exact v (extends_itself (i ∷ []) v) (caps_met v (record { meets = omega (arith, ints) }) (record { meets = omega (arith, ints) }))).1
    (λ u e m.
    let one = (All-head (λ r. Meets r (point_over (i ∷ o ∷ []) u)) (row (pos 0 ∷ pos 1 ∷ []) (pos 1)) []
    (All-tail (λ r. Meets r (point_over (i ∷ o ∷ []) u)) (row (negsuc 0 ∷ pos 1 ∷ []) (pos 0)) (row (pos 0 ∷ pos 1 ∷ []) (pos 1) ∷ []) m)).meets in
    let up = u.positive in record { meets = omega (arith, ints, one, up) }) in
    let five = left.meets in absurd (omega (arith, ints, five))

-- ---- no certificate leaves what nothing meets
abbrev zeros : Behaviour
zeros = record { value = λ n. pos 0; den = pos 1; positive = omega (arith, ints) }

-- both guarantees have at most o's coefficient as their bound, and so has each sum of them with weights
abbrev IsCapped : Row → Type 0
IsCapped r = r.b ≤ℤ number_at r.c 1

capped_at : (rows : List Row) (k : ℕ) → All IsCapped rows → IsCapped (row_at rows k)
capped_at [] k h = omega (arith, ints)
capped_at (r ∷ rows) zero h = All-head IsCapped r rows h
capped_at (r ∷ rows) (suc k) h = capped_at rows k (All-tail IsCapped r rows h)

sum_is_capped : (rows : List Row) (parts : List (ℕ × ℤ)) → All IsCapped rows → NoneNegative parts → IsCapped (combined parts rows)
sum_is_capped rows [] h n = omega (arith, ints)
sum_is_capped rows (w ∷ ws) h n =
    let one : IsCapped (row_at rows w.0) = capped_at rows w.0 h in
    let rest : IsCapped (combined ws rows) = sum_is_capped rows ws h (All-tail (λ part. pos 0 ≤ℤ part.1) w ws n) in
    let weight : pos 0 ≤ℤ w.1 = All-head (λ part. pos 0 ≤ℤ part.1) w ws n in
    rw (number_at-sum_of (times w.1 (row_at rows w.0).c) (combined ws rows).c 1, number_at-times w.1 (row_at rows w.0).c 1)
    (by_le (w.1 ∷ (row_at rows w.0).b ∷ number_at (row_at rows w.0).c 1 ∷ (combined ws rows).b ∷ number_at (combined ws rows).c 1 ∷ [])
    (weight · gap one ∔ gap rest) (search reads depth 40) tt)

-- so where i and o are 0, what weights leave of `o <= 2` is met
left_is_met : (rows : List Row) (ws : List Weights) → All IsCapped rows → ShiftsHold 1 rows (at_most_two ∷ []) ws
    → AllZip (λ t w. Meets (less_weighted t rows w) (point_over (i ∷ o ∷ []) zeros)) (at_most_two ∷ []) ws
left_is_met rows [] h s = absurd s
left_is_met rows (w ∷ u ∷ ws) h s = absurd s.1
left_is_met rows (w ∷ []) h s =
    let leaves : Leaves 1 rows at_most_two w = leaves_from_shift 1 rows at_most_two w s.0 in
    let left : Row = less_weighted at_most_two rows w in
    let sum : Row = combined w.parts rows in
    let bound : IsCapped sum = sum_is_capped rows w.parts h leaves.weights in
    let up = leaves.positive in
    let gone : number_at left.c 1 ≡ pos 0 = sym (drop_number 1 0 left.c) ∙ leaves.gone 0 in
    let made : number_at left.c 1 ≡ w.den *ℤ pos 1 +ℤ negsuc 0 *ℤ number_at sum.c 1 =
    number_at-sum_of (times w.den (pos 0 ∷ pos 1 ∷ [])) (times (negsuc 0) sum.c) 1
    ∙ ap (λ t. w.den *ℤ pos 1 +ℤ t) (number_at-times (negsuc 0) sum.c 1) in
    let none : dot left.c (pos 0 ∷ pos 0 ∷ []) ≡ pos 0 = dot_comm left.c (pos 0 ∷ pos 0 ∷ []) ∙ dot_zeros (pos 0 ∷ pos 0 ∷ []) left.c two_zeros in
    let right : left.b ≡ w.den *ℤ pos 2 +ℤ negsuc 0 *ℤ sum.b = refl in
    (record { meets = omega (arith, ints, up, bound, gone, made, none, right) }, tt)

assumed_at_zeros : (ds : List Discharge) → length ds ≡ 2 → All (DischargeHolds (i ∷ o ∷ []) 1 (discharged capped ds)) (discharged capped ds)
    → MeetsAll (shifted_assumptions capped ds) (point_over (i ∷ []) zeros)
assumed_at_zeros [] one h = absurd (omega arith)
assumed_at_zeros (d ∷ []) one h = absurd (omega arith)
assumed_at_zeros (d ∷ e ∷ f ∷ ds) one h = absurd (omega arith)
assumed_at_zeros (d ∷ e ∷ []) one h =
    let first : DischargedPart = record { part = giver; discharge = d } in
    let second : DischargedPart = record { part = taker; discharge = e } in
    let both : List DischargedPart = first ∷ second ∷ [] in
    let given : List Row = earlier_guarantees (i ∷ o ∷ []) both e.round in
    let all : All IsCapped given = All-flat_map IsCapped (λ (e : DischargedPart). guarantees_over (i ∷ o ∷ []) e.part)
    (filter (λ (d : DischargedPart). nat_lt d.discharge.round e.round) both)
    (All-filter (λ (d : DischargedPart). nat_lt d.discharge.round e.round) (λ (e : DischargedPart). All IsCapped (guarantees_over (i ∷ o ∷ []) e.part)) both
    (two_of (λ (e : DischargedPart). All IsCapped (guarantees_over (i ∷ o ∷ []) e.part)) first second
    (two_of IsCapped (row (negsuc 0 ∷ pos 1 ∷ []) (pos 0)) (row (pos 0 ∷ pos 1 ∷ []) (pos 1)) (omega (arith, ints)) (omega (arith, ints)))
    (All-nil IsCapped))) in
    let holds : ShiftsHold 1 given (at_most_two ∷ []) e.shifts = All-head (DischargeHolds (i ∷ o ∷ []) 1 both) second []
    (All-tail (DischargeHolds (i ∷ o ∷ []) 1 both) first (second ∷ []) h) in
    All-flat_map (λ r. Meets r (point_over (i ∷ []) zeros)) (discharge_rows (i ∷ o ∷ []) 1 both) both
    (two_of (λ e. MeetsAll (discharge_rows (i ∷ o ∷ []) 1 both e) (point_over (i ∷ []) zeros)) first second
    (All-nil (λ r. Meets r (point_over (i ∷ []) zeros)))
    ((shifts_read (i ∷ []) (o ∷ []) zeros given (at_most_two ∷ []) e.shifts holds).1 (left_is_met given e.shifts all holds)))

-- Whatever rounds, weights, drops and steps are printed, the composite does not assume `0 <= -1`.
pub impossible_is_not_left : (v : Version) (most : ℕ) (a : ComposedAnswer) → HoldsAsComposed v most capped [] a → a.contract.assumptions ≢ impossible 1 ∷ []
impossible_is_not_left v most a h same =
    let x = point_over (i ∷ []) zeros in
    let met : MeetsAll (thinned 1 (shifted_assumptions capped a.discharges) a.thin) x =
    (thinned_met 1 (shifted_assumptions capped a.discharges) [] a.thin x zeros.positive h.thin (All-nil (λ r. Meets r x))).1
    (assumed_at_zeros a.discharges h.one_each h.discharges) in
    let there : a.contract.assumptions ≡ thinned 1 (shifted_assumptions capped a.discharges) a.thin = ap (λ (c : Contract). c.assumptions) h.contract in
    let none = (All-head (λ r. Meets r x) (impossible 1) [] (subst (λ rows. MeetsAll rows x) (sym there ∙ same) met)).meets in
    absurd (omega (arith, ints, none))

-- ---- weights that leave more than need be
-- `o <= 0` and `-o <= 9` are guaranteed, and `o <= 2` is assumed: twice the first and once the second leave `0 <= -7`, and so
-- `0 <= -1`. No definition and no test excludes such a composite, which says nothing.
abbrev bounded : Contract
bounded = contract [] (o ∷ []) [] (row (pos 1 ∷ []) (pos 0) ∷ row (negsuc 0 ∷ []) (pos 9) ∷ [])

abbrev wasteful : List Contract
wasteful = bounded ∷ taker ∷ []

abbrev needless : Weights
needless = weights (pos 1) ((0, pos 2) ∷ (1, pos 1) ∷ [])

abbrev needless_discharges : List Discharge
needless_discharges = record { round = 0; shifts = [] } ∷ record { round = 1; shifts = needless ∷ [] } ∷ []

needless_weights_hold : HoldsAsComposed One 4096 wasteful [] (record {
  contract = contract [] [] (impossible 0 ∷ []) [];
  discharges = needless_discharges;
  thin = [];
  steps = capped_steps;
})
unfolding gcd_of
needless_weights_hold = record {
  one_each = refl;
  discharges = two_of (DischargeHolds (names_of wasteful) 0 (discharged wasteful needless_discharges))
      (record { part = bounded; discharge = record { round = 0; shifts = [] } })
      (record { part = taker; discharge = record { round = 1; shifts = needless ∷ [] } })
      tt (
        record {
          positive = omega (arith, ints);
          weights = two_of (λ part. pos 0 ≤ℤ part.1) (0, pos 2) (1, pos 1) (omega (arith, ints)) (omega (arith, ints));
          places = two_of (λ part. part.0 < 2) (0, pos 2) (1, pos 1) (omega arith) (omega arith);
          gone = one_zero;
        },
        tt,
      );
  thin = none_dropped 0 (shifted_assumptions wasteful needless_discharges) [];
  named = refl;
  elimination = record { first = none_dropped 1 (all_guarantees wasteful) []; steps = (omega arith, none_dropped 0 (row [] (pos 1) ∷ []) [], tt) };
  contract = refl;
}
