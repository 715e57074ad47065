-- More small contracts, worked by hand: an output that is kept, a guarantee that narrows the inputs, a row that is dropped,
-- and assumptions that no certificate leaves.
use Rattle.std.proofs.Common.{◌≡◌, refl, ap, inl, ◌<◌, false, true, List, [], ◌∷◌, length, Some, None, arith}
use Rattle.std.proofs.lemmas.Int.{ints}
use lib.IntN.{pos, negsuc}
use lib.Signed.{◌≤ℤ◌}
use Rattle.pa_math.specs.Divisors.{gcd_of}
use Rattle.pa_meaning.specs.Rows.{Row, row_at}
use Rattle.pa_meaning.specs.Weights.{impossible}
use Rattle.pa_meaning.specs.Contracts.{Name, Contract}
use Rattle.pa_meaning.specs.Composition.{kept_outputs, names_of}
use Rattle.pa_witness.specs.Thinning.{Dropped, cleaned, is_place_of}
use Rattle.pa_witness.specs.Steps.{One, Two}
use Rattle.pa_witness.specs.Discharge.{Discharge, discharged, DischargeHolds}
use Rattle.pa_cert.specs.Lists.{NamedStep, HiddenAnswer}
use Rattle.pa_holds.specs.Composed.{HoldsAsHidden, shifted_assumptions, all_guarantees, HoldsAsComposed}
use Rattle.pa_holds.specs.Divided.{asked_rows, HoldsAsDivided}
use Rattle.pa_holds.proofs.Examples.{row, weights, contract, a, b, i, o, w, y, none_dropped, one_zero, two_zeros, one_of, two_of, by_one}

-- ---- an output that is kept: the second part assumes nothing, so it comes first, and there is no circle
-- `a <= 1` gives `b <= 1`; and `a <= 1`
abbrev taker : Contract
taker = contract (a ∷ []) (b ∷ []) (row (pos 1 ∷ []) (pos 1) ∷ []) (row (pos 0 ∷ pos 1 ∷ []) (pos 1) ∷ [])

abbrev giver : Contract
giver = contract (b ∷ []) (a ∷ []) [] (row (pos 0 ∷ pos 1 ∷ []) (pos 1) ∷ [])

abbrev loop : List Contract
loop = taker ∷ giver ∷ []

loop_names : names_of loop ≡ b ∷ a ∷ []
loop_names = refl

loop_kept : kept_outputs loop (a ∷ []) ≡ a ∷ []
loop_kept = refl

abbrev loop_discharges : List Discharge
loop_discharges = record { round = 1; shifts = weights (pos 1) ((0, pos 1) ∷ []) ∷ [] } ∷ record { round = 0; shifts = [] } ∷ []

-- what the taker assumes is `a <= 1`, less the giver's guarantee nothing
loop_holds : HoldsAsComposed One 4096 loop (a ∷ []) (record {
  contract = contract [] (a ∷ []) [] (row (pos 1 ∷ []) (pos 1) ∷ []);
  discharges = loop_discharges;
  thin = [];
  steps = record { name = None; drops = [] } ∷ record { name = Some b; drops = [] } ∷ [];
})
unfolding gcd_of
loop_holds = record {
  one_each = refl;
  discharges = two_of (DischargeHolds (names_of loop) 0 (discharged loop loop_discharges))
      (record { part = taker; discharge = record { round = 1; shifts = weights (pos 1) ((0, pos 1) ∷ []) ∷ [] } })
      (record { part = giver; discharge = record { round = 0; shifts = [] } }) (
        by_one 0 (row (pos 0 ∷ pos 1 ∷ []) (pos 1) ∷ []) (row (pos 0 ∷ pos 1 ∷ []) (pos 1)) (pos 1) 0 (pos 1)
            (omega (arith, ints)) (omega arith) (omega (arith, ints)) two_zeros,
        tt,
      ) tt;
  thin = none_dropped 0 (shifted_assumptions loop loop_discharges) [];
  named = refl;
  elimination = record {
    first = none_dropped 2 (all_guarantees loop) [];
    steps = (omega arith, none_dropped 1 (row (pos 1 ∷ []) (pos 1) ∷ []) [], tt);
  };
  contract = refl;
}

-- ---- a guarantee that narrows the inputs
-- `w <= 8`; `y <= 10`
abbrev pub ten : Contract
ten = contract (w ∷ []) (y ∷ []) (row (pos 1 ∷ []) (pos 8) ∷ []) (row (pos 0 ∷ pos 1 ∷ []) (pos 10) ∷ [])

-- `y <= 2 w`
abbrev pub double : Contract
double = contract (w ∷ []) (y ∷ []) [] (row (negsuc 1 ∷ pos 1 ∷ []) (pos 0) ∷ [])

-- the rest has no outputs, and asks `w <= 5`, which is marked
narrowed_holds : HoldsAsDivided ten double (record {
  contract = contract (w ∷ []) [] (row (pos 1 ∷ []) (pos 8) ∷ []) (row (pos 1 ∷ []) (pos 5) ∷ []);
  narrow = true ∷ [];
  shifts = weights (pos 1) ((0, pos 1) ∷ []) ∷ [];
  thin = [];
})
unfolding gcd_of
narrowed_holds = record {
  shifts = (
    by_one 1 (row (negsuc 1 ∷ pos 1 ∷ []) (pos 0) ∷ []) (row (pos 0 ∷ pos 1 ∷ []) (pos 10)) (pos 1) 0 (pos 1)
        (omega (arith, ints)) (omega arith) (omega (arith, ints)) one_zero,
    tt,
  );
  thin = none_dropped 1 (asked_rows ten double (weights (pos 1) ((0, pos 1) ∷ []) ∷ [])) (row (pos 1 ∷ []) (pos 8) ∷ []);
  contract = refl;
  narrow = refl;
}

-- ---- a row that is dropped
-- the names x and z
abbrev pub x : Name
x = 120 ∷ []

abbrev pub z : Name
z = 122 ∷ []

-- `x <= 1`, `y <= 1` and `x + y <= 3`
abbrev given_rows : List Row
given_rows =
    row (pos 1 ∷ pos 0 ∷ pos 0 ∷ []) (pos 1) ∷ row (pos 0 ∷ pos 1 ∷ pos 0 ∷ []) (pos 1) ∷ row (pos 1 ∷ pos 1 ∷ pos 0 ∷ []) (pos 3) ∷ []

abbrev pub square : Contract
square = contract [] (x ∷ y ∷ z ∷ []) [] given_rows

-- the first two rows prove the third one
abbrev third_goes : Dropped
third_goes = record { row = 2; weights = weights (pos 1) ((0, pos 1) ∷ (1, pos 1) ∷ []) }

square_holds : HoldsAsHidden One 4096 square (z ∷ []) (record {
  contract = contract [] (x ∷ y ∷ []) [] (row (pos 1 ∷ pos 0 ∷ []) (pos 1) ∷ row (pos 0 ∷ pos 1 ∷ []) (pos 1) ∷ []);
  steps = record { name = None; drops = third_goes ∷ [] } ∷ record { name = Some z; drops = [] } ∷ [];
})
unfolding gcd_of
square_holds = record {
  named = refl;
  elimination = record {
    first = record {
      ascending = λ j k d less within. absurd (omega arith);
      placed = one_of (λ (d : Dropped). d.row < length (cleaned 3 given_rows)) third_goes (omega arith);
      shown = (
        record {
          positive = omega (arith, ints);
          weights = two_of (λ part. pos 0 ≤ℤ part.1) (0, pos 1) (1, pos 1) (omega (arith, ints)) (omega (arith, ints));
          places = two_of (λ part. part.0 < 3) (0, pos 1) (1, pos 1) (omega arith) (omega arith);
          shown = inl (record { coefficients = λ i. refl; bound = omega (arith, ints) });
        },
        two_of (λ part. is_place_of (2 ∷ []) part.0 ≡ false) (0, pos 1) (1, pos 1) refl refl,
        tt,
      );
    };
    steps = (omega arith, none_dropped 2 (row (pos 1 ∷ pos 0 ∷ []) (pos 1) ∷ row (pos 0 ∷ pos 1 ∷ []) (pos 1) ∷ []) [], tt);
  };
  contract = refl;
}

-- ---- a shift by one of two guarantees
-- `o <= i` and `o <= 1`; and a part that assumes `o <= 2`
abbrev pub capped : List Contract
capped =
    contract (i ∷ []) (o ∷ []) [] (row (negsuc 0 ∷ pos 1 ∷ []) (pos 0) ∷ row (pos 0 ∷ pos 1 ∷ []) (pos 1) ∷ [])
    ∷ contract (o ∷ []) [] (row (pos 1 ∷ []) (pos 2) ∷ []) []
    ∷ []

abbrev capped_discharges : List Discharge
capped_discharges = record { round = 0; shifts = [] } ∷ record { round = 1; shifts = weights (pos 1) ((0, pos 1) ∷ []) ∷ [] } ∷ []

abbrev pub capped_steps : List NamedStep
capped_steps = record { name = None; drops = [] } ∷ record { name = Some o; drops = [] } ∷ []

-- by the first guarantee `i <= 2` is left
capped_holds : HoldsAsComposed One 4096 capped [] (record {
  contract = contract (i ∷ []) [] (row (pos 1 ∷ []) (pos 2) ∷ []) [];
  discharges = capped_discharges;
  thin = [];
  steps = capped_steps;
})
unfolding gcd_of
capped_holds = record {
  one_each = refl;
  discharges = two_of (DischargeHolds (names_of capped) 1 (discharged capped capped_discharges))
      (record {
        part = contract (i ∷ []) (o ∷ []) [] (row (negsuc 0 ∷ pos 1 ∷ []) (pos 0) ∷ row (pos 0 ∷ pos 1 ∷ []) (pos 1) ∷ []);
        discharge = record { round = 0; shifts = [] };
      })
      (record {
        part = contract (o ∷ []) [] (row (pos 1 ∷ []) (pos 2) ∷ []) [];
        discharge = record { round = 1; shifts = weights (pos 1) ((0, pos 1) ∷ []) ∷ [] };
      })
      tt (
        by_one 1 (row (negsuc 0 ∷ pos 1 ∷ []) (pos 0) ∷ row (pos 0 ∷ pos 1 ∷ []) (pos 1) ∷ []) (row (pos 0 ∷ pos 1 ∷ []) (pos 2)) (pos 1) 0 (pos 1)
            (omega (arith, ints)) (omega arith) (omega (arith, ints)) one_zero,
        tt,
      );
  thin = none_dropped 1 (shifted_assumptions capped capped_discharges) [];
  named = refl;
  elimination = record { first = none_dropped 2 (all_guarantees capped) []; steps = (omega arith, none_dropped 1 [] [], tt) };
  contract = refl;
}

-- ---- a composite that assumes what nothing meets
-- It would be sound, and says nothing: with these certificates it does not hold.
impossible_is_not_printed : ¬ HoldsAsComposed One 4096 capped [] (record {
  contract = contract (i ∷ []) [] (impossible 1 ∷ []) [];
  discharges = capped_discharges;
  thin = [];
  steps = capped_steps;
})
unfolding gcd_of
impossible_is_not_printed h =
    let bound : negsuc 0 ≡ pos 2 = ap (λ (c : Contract). (row_at c.assumptions 0).b) h.contract in absurd (omega (arith, ints, bound))

-- a quotient that guarantees what nothing meets would meet its law too: it does not hold either
impossible_is_not_asked : ¬ HoldsAsDivided ten double (record {
  contract = contract (w ∷ []) [] (row (pos 1 ∷ []) (pos 8) ∷ []) (impossible 1 ∷ []);
  narrow = true ∷ [];
  shifts = weights (pos 1) ((0, pos 1) ∷ []) ∷ [];
  thin = [];
})
unfolding gcd_of
impossible_is_not_asked h =
    let bound : negsuc 0 ≡ pos 5 = ap (λ (c : Contract). (row_at c.guarantees 0).b) h.contract in absurd (omega (arith, ints, bound))

-- ---- an equality that is substituted
-- `x = y`, `x <= 5`, `-x <= 1` and `z <= x`
abbrev tied_rows : List Row
tied_rows =
    row (pos 1 ∷ negsuc 0 ∷ pos 0 ∷ []) (pos 0)
    ∷ row (negsuc 0 ∷ pos 1 ∷ pos 0 ∷ []) (pos 0)
    ∷ row (pos 1 ∷ pos 0 ∷ pos 0 ∷ []) (pos 5)
    ∷ row (negsuc 0 ∷ pos 0 ∷ pos 0 ∷ []) (pos 1)
    ∷ row (negsuc 0 ∷ pos 0 ∷ pos 1 ∷ []) (pos 0)
    ∷ []

abbrev pub tied : Contract
tied = contract [] (x ∷ y ∷ z ∷ []) [] tied_rows

abbrev untied_rows : List Row
untied_rows = row (pos 1 ∷ pos 0 ∷ []) (pos 5) ∷ row (negsuc 0 ∷ pos 0 ∷ []) (pos 1) ∷ row (negsuc 0 ∷ pos 1 ∷ []) (pos 0) ∷ []

abbrev pub untied : HiddenAnswer
untied = record {
  contract = contract [] (y ∷ z ∷ []) [] untied_rows;
  steps = record { name = None; drops = [] } ∷ record { name = Some x; drops = [] } ∷ [];
}

-- in version 2 the step makes three rows, so a limit of 3 is kept
tied_holds : HoldsAsHidden Two 3 tied (x ∷ []) untied
unfolding gcd_of
tied_holds = record {
  named = refl;
  elimination = record { first = none_dropped 3 tied_rows []; steps = (omega arith, none_dropped 2 untied_rows [], tt) };
  contract = refl;
}

-- in version 1 it makes six
tied_fails : ¬ HoldsAsHidden One 3 tied (x ∷ []) untied
unfolding gcd_of
tied_fails h = let made = h.elimination.steps.0 in absurd (omega arith)
