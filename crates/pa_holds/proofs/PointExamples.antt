-- Small refinements, bounds and a test, worked by hand: points that break a row, a premise that nothing meets, a value and a ray,
-- a point that leaves a port out.
use Rattle.std.proofs.Common.{refl, sym, inr, ◌<◌, false, true, true≢false, [], ◌∷◌, All, arith}
use Rattle.std.proofs.lemmas.Int.{ints}
use Rattle.std.proofs.lemmas.List.Elements.{All-nil, All-cons}
use lib.IntN.{ℤ, pos, negsuc}
use lib.Signed.{◌≤ℤ◌}
use Rattle.pa_ring.specs.Sums.{dot}
use Rattle.pa_meaning.specs.Rows.{Row, Point, Meets}
use Rattle.pa_meaning.specs.Weights.{Proves}
use Rattle.pa_meaning.specs.Contracts.{Name, Contract, behaviour_of}
use Rattle.pa_meaning.specs.Bounds.{Goal, IsBestValue}
use Rattle.pa_contract.specs.Testing.{Tested}
use Rattle.pa_cert.specs.declared.answer.Answer.TheVariants.{TestedAs}
use Rattle.pa_holds.specs.Questions.{Testing}
use Rattle.pa_holds.specs.Answers.{IsTrueAnswer}
use Rattle.pa_holds.specs.Refined.{HoldsAsRefining, HoldsAsBreakingAssumption, HoldsAsBreakingGuarantee}
use Rattle.pa_holds.specs.Bounded.{HoldsAsValue, HoldsAsUnbounded}
use Rattle.pa_holds.proofs.Tested.{tested_is_true}
use Rattle.pa_holds.proofs.Examples.{row, weights, contract, i, p, y, composite, two_zeros, one_of, two_of}

-- the name x
abbrev x : Name
x = 120 ∷ []

four_of : {A : Type 0} (P : A → Type 0) (s t u v : A) → P s → P t → P u → P v → All P (s ∷ t ∷ u ∷ v ∷ [])
four_of P s t u v h k l m = All-cons P s (t ∷ u ∷ v ∷ []) h (All-cons P t (u ∷ v ∷ []) k (two_of P u v l m))

-- ---- an assumption that is broken
-- assumes `x <= 1`, and `x <= 2`
abbrev at_most_one : Contract
at_most_one = contract (x ∷ []) (y ∷ []) (row (pos 1 ∷ []) (pos 1) ∷ []) []

abbrev at_most_two : Contract
at_most_two = contract (x ∷ []) (y ∷ []) (row (pos 1 ∷ []) (pos 2) ∷ []) []

abbrev two_and_zero : Point
two_and_zero = record { p = pos 2 ∷ pos 0 ∷ []; q = pos 1 }

assumption_breaks : HoldsAsBreakingAssumption at_most_one at_most_two 0 (record { names = x ∷ y ∷ []; at = two_and_zero })
assumption_breaks = record {
  place = omega arith;
  at = record { names = refl; numbers = refl; positive = omega (arith, ints) };
  met = one_of (λ r. Meets r two_and_zero) (row (pos 1 ∷ pos 0 ∷ []) (pos 2)) (record { meets = omega (arith, ints) });
  broken = λ m. let h = m.meets in absurd (omega (arith, ints, h));
}

-- ---- a guarantee that is broken
abbrev free : Contract
free = contract [] (y ∷ []) [] []

-- guarantees `y <= 1`
abbrev bounded : Contract
bounded = contract [] (y ∷ []) [] (row (pos 1 ∷ []) (pos 1) ∷ [])

abbrev two : Point
two = record { p = pos 2 ∷ []; q = pos 1 }

guarantee_breaks : HoldsAsBreakingGuarantee free bounded 0 (record { names = y ∷ []; at = two })
guarantee_breaks = record {
  place = omega arith;
  at = record { names = refl; numbers = refl; positive = omega (arith, ints) };
  met = All-nil (λ r. Meets r two);
  broken = λ m. let h = m.meets in absurd (omega (arith, ints, h));
}

-- ---- a premise that nothing meets
-- assumes `1 <= 0` and guarantees `y <= 1`: every contract with these ports refines it
abbrev vacuous : Contract
vacuous = contract (x ∷ []) (y ∷ []) (row (pos 0 ∷ []) (negsuc 0) ∷ []) (row (pos 0 ∷ pos 1 ∷ []) (pos 1) ∷ [])

by_nothing : (r : Row) → Proves (weights (pos 1) ((0, pos 1) ∷ [])) (row (pos 0 ∷ pos 0 ∷ []) (negsuc 0) ∷ []) r
by_nothing r = record {
  positive = omega (arith, ints);
  weights = one_of (λ part. pos 0 ≤ℤ part.1) (0, pos 1) (omega (arith, ints));
  places = one_of (λ part. part.0 < 1) (0, pos 1) (omega arith);
  shown = inr (record { coefficients = two_zeros; bound = omega (arith, ints) });
}

refines_vacuous : HoldsAsRefining at_most_one vacuous (weights (pos 1) ((0, pos 1) ∷ []) ∷ []) (weights (pos 1) ((0, pos 1) ∷ []) ∷ [])
refines_vacuous = record {
  assumptions = (by_nothing (row (pos 1 ∷ pos 0 ∷ []) (pos 1)), tt);
  guarantees = (by_nothing (row (pos 0 ∷ pos 1 ∷ []) (pos 1)), tt);
}

-- ---- bounds of the chain's composite: `0 <= i`, `5 i <= 1`, `-i <= 2` and `p <= i`
abbrev goal_p : Goal
goal_p = record { names = p ∷ []; c = pos 1 ∷ []; b = pos 0; q = pos 1 }

abbrev fifths : Point
fifths = record { p = pos 1 ∷ pos 1 ∷ []; q = pos 5 }

fifths_met : All (λ r. Meets r fifths)
    (row (negsuc 0 ∷ pos 0 ∷ []) (pos 0) ∷ row (pos 5 ∷ pos 0 ∷ []) (pos 1) ∷ row (negsuc 0 ∷ pos 0 ∷ []) (pos 2) ∷ row (negsuc 0 ∷ pos 1 ∷ []) (pos 0) ∷ [])
fifths_met = four_of (λ r. Meets r fifths) (row (negsuc 0 ∷ pos 0 ∷ []) (pos 0)) (row (pos 5 ∷ pos 0 ∷ []) (pos 1)) (row (negsuc 0 ∷ pos 0 ∷ []) (pos 2))
    (row (negsuc 0 ∷ pos 1 ∷ []) (pos 0))
    (record { meets = omega (arith, ints) }) (record { meets = omega (arith, ints) }) (record { meets = omega (arith, ints) })
    (record { meets = omega (arith, ints) })

-- the greatest p is 1/5: `5 i <= 1` and five times `p <= i` give `5 p <= 1`, and p is 1/5 where i is
greatest_holds : HoldsAsValue composite goal_p false (pos 1) (pos 5) (weights (pos 5) ((1, pos 1) ∷ (3, pos 5) ∷ []))
    (record { names = i ∷ p ∷ []; at = fifths })
greatest_holds = record {
  positive = omega (arith, ints);
  weights = record {
    positive = omega (arith, ints);
    weights = two_of (λ part. pos 0 ≤ℤ part.1) (1, pos 1) (3, pos 5) (omega (arith, ints)) (omega (arith, ints));
    places = two_of (λ part. part.0 < 4) (1, pos 1) (3, pos 5) (omega arith) (omega arith);
    coefficients = λ i. refl;
    value = refl;
  };
  at = record { names = refl; numbers = refl; positive = omega (arith, ints) };
  met = fifths_met;
  value = refl;
}

-- there is no least p: from the same point it falls for ever
least_is_unbounded : HoldsAsUnbounded composite goal_p true (record { names = i ∷ p ∷ []; at = fifths }) (record { names = p ∷ []; numbers = negsuc 0 ∷ [] })
least_is_unbounded = record {
  at = record { names = refl; numbers = refl; positive = omega (arith, ints) };
  met = fifths_met;
  level = four_of (λ r. dot r.c (pos 0 ∷ negsuc 0 ∷ []) ≤ℤ pos 0) (row (negsuc 0 ∷ pos 0 ∷ []) (pos 0)) (row (pos 5 ∷ pos 0 ∷ []) (pos 1))
      (row (negsuc 0 ∷ pos 0 ∷ []) (pos 2)) (row (negsuc 0 ∷ pos 1 ∷ []) (pos 0))
      (omega (arith, ints)) (omega (arith, ints)) (omega (arith, ints)) (omega (arith, ints));
  better = omega (arith, ints);
}

-- ---- a test at a point that leaves a port out
-- assumes `x <= 1` and guarantees `y <= 1`
abbrev both_at_most_one : Contract
both_at_most_one = contract (x ∷ []) (y ∷ []) (row (pos 1 ∷ []) (pos 1) ∷ []) (row (pos 0 ∷ pos 1 ∷ []) (pos 1) ∷ [])

abbrev at_two : ℤ → Point
at_two q = record { p = pos 2 ∷ []; q = q }

-- at `x = 2` the assumption is broken, and y, which has 0, meets the guarantee: the contract is kept
abbrev words_at_two : Tested
words_at_two = record { keeps = true; assumptions = false ∷ []; guarantees = true ∷ [] }

tested_at_two : IsTrueAnswer (Testing both_at_most_one (x ∷ []) (at_two (pos 1))) (TestedAs words_at_two)
tested_at_two = (
  refl,
  (
    omega (arith, ints),
    tested_is_true both_at_most_one (behaviour_of (x ∷ []) (at_two (pos 1)) (omega (arith, ints))) words_at_two (record {
      assumptions = ((λ t. absurd (true≢false (sym t)), λ m. let h = m.meets in absurd (omega (arith, ints, h))), tt);
      guarantees = ((λ t. record { meets = omega (arith, ints) }, λ m. refl), tt);
      keeps = refl;
    }),
  ),
)

-- over a denominator that is not positive a point has no words, and a goal no value
no_words_below_zero : (t : Tested) → ¬ IsTrueAnswer (Testing both_at_most_one (x ∷ []) (at_two (negsuc 0))) (TestedAs t)
no_words_below_zero t h = let up = h.1.0 in absurd (omega (arith, ints, up))

no_value_below_zero : (c : Contract) (num den : ℤ) → ¬ IsBestValue c (record { names = p ∷ []; c = pos 1 ∷ []; b = pos 0; q = negsuc 0 }) false num den
no_value_below_zero c num den h = let up = h.denominator in absurd (omega (arith, ints, up))
