-- What the definitions give on small contracts, worked by hand: a chain, a quotient, a stuck assumption and a circle.
use Rattle.std.proofs.Common.{◌≡◌, refl, ℕ, zero, suc, ◌<◌, false, List, [], ◌∷◌, length, drop, All, AllPairs, Some, None, arith}
use Rattle.std.proofs.lemmas.Int.{ints}
use Rattle.std.proofs.lemmas.List.Elements.{All-nil, All-cons}
use lib.IntN.{ℤ, pos, negsuc}
use lib.Signed.{◌≤ℤ◌, ◌<ℤ◌}
use Rattle.pa_ring.specs.Sums.{number_at, SameNumbers, dot}
use Rattle.pa_math.specs.Divisors.{gcd_of}
use Rattle.pa_meaning.specs.Rows.{Row}
use Rattle.pa_meaning.specs.Weights.{Weights}
use Rattle.pa_meaning.specs.Contracts.{Name, Contract}
use Rattle.pa_meaning.specs.Directions.{Sticks}
use Rattle.pa_meaning.specs.Composition.{external_inputs, internal_outputs, names_of, Stuck, stuck_row, IsStuckForGood, IsCircle, IsPlaced}
use Rattle.pa_meaning.specs.Quotient.{quotient_outputs}
use Rattle.pa_meaning.specs.Shifting.{shifted}
use Rattle.pa_witness.specs.Shifts.{ShiftHolds}
use Rattle.pa_witness.specs.Thinning.{Dropped, ThinningHolds, cleaned}
use Rattle.pa_witness.specs.Discharge.{Discharge, discharged, DischargeHolds}
use Rattle.pa_witness.specs.Steps.{One}
use Rattle.pa_cert.specs.Lists.{NamedStep}
use Rattle.pa_holds.specs.Composed.{shifted_assumptions, all_guarantees, HoldsAsComposed}
use Rattle.pa_holds.specs.Divided.{asked_rows, HoldsAsDivided}
use Rattle.pa_holds.specs.Refusals.{due_compose, due_quotient}

abbrev pub row : List ℤ → ℤ → Row
row c b = record { c = c; b = b }

abbrev pub weights : ℤ → List (ℕ × ℤ) → Weights
weights den parts = record { den = den; parts = parts }

abbrev pub contract : List Name → List Name → List Row → List Row → Contract
contract inputs outputs assumptions guarantees = record { inputs = inputs; outputs = outputs; assumptions = assumptions; guarantees = guarantees }

-- the names a, b, i, o, p, u, w and y
abbrev pub a : Name
a = 97 ∷ []

abbrev pub b : Name
b = 98 ∷ []

abbrev pub i : Name
i = 105 ∷ []

abbrev pub o : Name
o = 111 ∷ []

abbrev pub p : Name
p = 112 ∷ []

abbrev pub u : Name
u = 117 ∷ []

abbrev pub w : Name
w = 119 ∷ []

abbrev pub y : Name
y = 121 ∷ []

pub none_dropped : (n : ℕ) (rows context : List Row) → ThinningHolds n rows context []
none_dropped n rows context = record {
  ascending = λ j k d less within. absurd (omega arith);
  placed =
      All-nil (λ (d : Dropped). d.row < length (cleaned n rows));
  shown = tt;
}

-- ---- a chain: what comes out of the first part goes into the second
-- `|i| <= 2`; `o <= i` and `i <= 2 o + 2`
abbrev first : Contract
first = contract (i ∷ []) (o ∷ []) (row (pos 1 ∷ []) (pos 2) ∷ row (negsuc 0 ∷ []) (pos 2) ∷ [])
    (row (negsuc 0 ∷ pos 1 ∷ []) (pos 0) ∷ row (pos 1 ∷ negsuc 1 ∷ []) (pos 2) ∷ [])

-- `-1 <= o <= 1/5`; `p <= o`
abbrev second : Contract
second = contract (o ∷ []) (p ∷ []) (row (negsuc 0 ∷ []) (pos 1) ∷ row (pos 5 ∷ []) (pos 1) ∷ []) (row (negsuc 0 ∷ pos 1 ∷ []) (pos 0) ∷ [])

abbrev pub chain : List Contract
chain = first ∷ second ∷ []

no_refusal : due_compose chain [] ≡ None
no_refusal = refl

chain_names : names_of chain ≡ i ∷ o ∷ p ∷ []
chain_names = refl

chain_internal : internal_outputs chain [] ≡ o ∷ []
chain_internal = refl

abbrev pub nothing : Weights
nothing = weights (pos 1) []

-- the first part needs nothing; of the second part's rows, half of `i - 2 o <= 2` cancels `-o <= 1`, and 5 times `o <= i` the other
abbrev pub discharges : List Discharge
discharges =
    record { round = 0; shifts = nothing ∷ nothing ∷ [] }
    ∷ record { round = 1; shifts = weights (pos 2) ((1, pos 1) ∷ []) ∷ weights (pos 1) ((0, pos 5) ∷ []) ∷ [] }
    ∷ []

chain_shifted : shifted_assumptions chain discharges ≡ row (pos 1 ∷ []) (pos 2) ∷ row (negsuc 0 ∷ []) (pos 2) ∷ row (negsuc 0 ∷ []) (pos 0) ∷ row
    (pos 5 ∷ []) (pos 1) ∷ []
unfolding gcd_of
chain_shifted = refl

abbrev no_drops : List NamedStep
no_drops = record { name = None; drops = [] } ∷ record { name = Some o; drops = [] } ∷ []

-- it assumes `0 <= i` and `5 i <= 1`, and guarantees `-i <= 2` and `p <= i`
abbrev pub composite : Contract
composite = contract (i ∷ []) (p ∷ []) (row (negsuc 0 ∷ []) (pos 0) ∷ row (pos 5 ∷ []) (pos 1) ∷ [])
    (row (negsuc 0 ∷ pos 0 ∷ []) (pos 2) ∷ row (negsuc 0 ∷ pos 1 ∷ []) (pos 0) ∷ [])

pub one_zero : (k : ℕ) → number_at (pos 0 ∷ []) k ≡ pos 0
one_zero zero = refl
one_zero (suc k) = refl

pub two_zeros : (k : ℕ) → number_at (pos 0 ∷ pos 0 ∷ []) k ≡ pos 0
two_zeros zero = refl
two_zeros (suc k) = one_zero k

pub one_of : {A : Type 0} (P : A → Type 0) (x : A) → P x → All P (x ∷ [])
one_of P x h = All-cons P x [] h (All-nil P)

pub two_of : {A : Type 0} (P : A → Type 0) (x z : A) → P x → P z → All P (x ∷ z ∷ [])
two_of P x z h k = All-cons P x (z ∷ []) h (one_of P z k)

-- no shift, and a shift by one row
pub by_none : (n : ℕ) (rows : List Row) (t : Row) → SameNumbers (drop n (shifted t rows nothing).c) [] → ShiftHolds n rows t nothing
by_none n rows t h = record {
  positive = omega (arith, ints);
  weights = All-nil (λ part. pos 0 ≤ℤ part.1);
  places =
      All-nil (λ part. part.0 < length rows);
  gone = h;
}

pub by_one : (n : ℕ) (rows : List Row) (t : Row) (den : ℤ) (place : ℕ) (k : ℤ) → pos 0 <ℤ den → place < length rows → pos 0 ≤ℤ k
    → SameNumbers (drop n (shifted t rows (weights den ((place, k) ∷ []))).c) [] → ShiftHolds n rows t (weights den ((place, k) ∷ []))
by_one n rows t den place k up within nonneg h =
    record {
      positive = up;
      weights = one_of (λ part. pos 0 ≤ℤ part.1) (place, k) nonneg;
      places = one_of (λ part. part.0 < length rows) (place, k) within;
      gone = h;
    }

-- what the first part guarantees, over i, o and p
abbrev given : List Row
given = row (negsuc 0 ∷ pos 1 ∷ pos 0 ∷ []) (pos 0) ∷ row (pos 1 ∷ negsuc 1 ∷ pos 0 ∷ []) (pos 2) ∷ []

chain_holds : HoldsAsComposed One 4096 chain [] (record { contract = composite; discharges = discharges; thin = []; steps = no_drops })
unfolding gcd_of
chain_holds = record {
  one_each = refl;
  discharges = two_of (DischargeHolds (names_of chain) (length (external_inputs chain)) (discharged chain discharges))
      (record { part = first; discharge = record { round = 0; shifts = nothing ∷ nothing ∷ [] } })
      (record { part = second; discharge = record { round = 1; shifts = weights (pos 2) ((1, pos 1) ∷ []) ∷ weights (pos 1) ((0, pos 5) ∷ []) ∷ [] } })
      (by_none 1 [] (row (pos 1 ∷ pos 0 ∷ pos 0 ∷ []) (pos 2)) two_zeros, (by_none 1 [] (row (negsuc 0 ∷ pos 0 ∷ pos 0 ∷ []) (pos 2)) two_zeros, tt)) (
        by_one 1 given (row (pos 0 ∷ negsuc 0 ∷ pos 0 ∷ []) (pos 1)) (pos 2) 1 (pos 1) (omega (arith, ints)) (omega arith) (omega (arith, ints)) two_zeros,
        (by_one 1 given (row (pos 0 ∷ pos 5 ∷ pos 0 ∷ []) (pos 1)) (pos 1) 0 (pos 5) (omega (arith, ints)) (omega arith) (omega (arith, ints)) two_zeros, tt),
      );
  thin = none_dropped 1 (shifted_assumptions chain discharges) [];
  named = refl;
  elimination = record {
    first = none_dropped 3 (all_guarantees chain) [];
    steps =
        (omega arith, none_dropped 2 (row (negsuc 0 ∷ pos 0 ∷ []) (pos 2) ∷ row (negsuc 0 ∷ pos 1 ∷ []) (pos 0) ∷ []) [], tt);
  };
  contract = refl;
}

-- ---- a quotient
-- `0 <= w <= 1`; `y <= 10`
abbrev whole : Contract
whole = contract (w ∷ []) (y ∷ []) (row (negsuc 0 ∷ []) (pos 0) ∷ row (pos 1 ∷ []) (pos 1) ∷ []) (row (pos 0 ∷ pos 1 ∷ []) (pos 10) ∷ [])

-- `u <= 8`; `y <= 2 u`
abbrev part : Contract
part = contract (u ∷ []) (y ∷ []) (row (pos 1 ∷ []) (pos 8) ∷ []) (row (negsuc 1 ∷ pos 1 ∷ []) (pos 0) ∷ [])

quotient_is_asked : due_quotient whole part ≡ None
quotient_is_asked = refl

rest_outputs : quotient_outputs whole part ≡ u ∷ []
rest_outputs = refl

-- the rest has to keep `u <= 5`
abbrev rest : Contract
rest = contract (w ∷ []) (u ∷ []) (row (negsuc 0 ∷ []) (pos 0) ∷ row (pos 1 ∷ []) (pos 1) ∷ []) (row (pos 0 ∷ pos 1 ∷ []) (pos 5) ∷ [])

rest_holds : HoldsAsDivided whole part (record { contract = rest; narrow = false ∷ []; shifts = weights (pos 1) ((0, pos 1) ∷ []) ∷ []; thin = [] })
unfolding gcd_of
rest_holds = record {
  shifts = (
    by_one 2 (row (pos 0 ∷ negsuc 1 ∷ pos 1 ∷ []) (pos 0) ∷ []) (row (pos 0 ∷ pos 0 ∷ pos 1 ∷ []) (pos 10)) (pos 1) 0 (pos 1) (omega (arith, ints))
        (omega arith) (omega (arith, ints)) one_zero,
    tt,
  );
  thin = none_dropped 2 (asked_rows whole part (weights (pos 1) ((0, pos 1) ∷ []) ∷ []))
      (row (negsuc 0 ∷ pos 0 ∷ []) (pos 0) ∷ row (pos 1 ∷ pos 0 ∷ []) (pos 1) ∷ []);
  contract = refl;
  narrow = refl;
}

-- ---- an assumption that nothing brings about
-- `o >= i`; and a part that assumes `o <= 1`
abbrev rising : List Contract
rising = contract (i ∷ []) (o ∷ []) [] (row (pos 1 ∷ negsuc 0 ∷ []) (pos 0) ∷ []) ∷ contract (o ∷ []) [] (row (pos 1 ∷ []) (pos 1) ∷ []) [] ∷ []

-- o can rise for ever
rising_is_stuck : IsStuckForGood rising (record { part = 1; row = 0; direction = pos 1 ∷ [] })
rising_is_stuck = record {
  placed = record { part = omega arith; row = omega arith };
  sticks = record { level = one_of (λ r. dot r.c (pos 1 ∷ []) ≤ℤ pos 0) (row (negsuc 0 ∷ []) (pos 0)) (omega (arith, ints)); rises = omega (arith, ints) };
}

-- ---- two parts that wait for each other
-- `a <= 1` gives `b <= 1`, and `b <= 1` gives `a <= 1`
abbrev waiting : List Contract
waiting = contract (a ∷ []) (b ∷ []) (row (pos 1 ∷ []) (pos 1) ∷ []) (row (pos 0 ∷ pos 1 ∷ []) (pos 1) ∷ []) ∷ contract (b ∷ []) (a ∷ [])
    (row (pos 1 ∷ []) (pos 1) ∷ []) (row (pos 0 ∷ pos 1 ∷ []) (pos 1) ∷ []) ∷ []

abbrev both_stuck : List Stuck
both_stuck = record { part = 0; row = 0; direction = pos 1 ∷ pos 1 ∷ [] } ∷ record { part = 1; row = 0; direction = pos 1 ∷ pos 1 ∷ [] } ∷ []

waiting_is_circle : IsCircle waiting both_stuck
waiting_is_circle = record {
  some = omega arith;
  ascending = λ j k d less within. ascends j k d less within;
  placed = two_of (IsPlaced waiting) (record { part = 0; row = 0; direction = pos 1 ∷ pos 1 ∷ [] })
      (record { part = 1; row = 0; direction = pos 1 ∷ pos 1 ∷ [] })
      (record { part = omega arith; row = omega arith }) (record { part = omega arith; row = omega arith });
  sticks = two_of (λ s. Sticks s.direction [] (stuck_row waiting s)) (record { part = 0; row = 0; direction = pos 1 ∷ pos 1 ∷ [] })
      (record { part = 1; row = 0; direction = pos 1 ∷ pos 1 ∷ [] })
      (record { level = All-nil (λ r. dot r.c (pos 1 ∷ pos 1 ∷ []) ≤ℤ pos 0); rises = omega (arith, ints) })
      (record { level = All-nil (λ r. dot r.c (pos 1 ∷ pos 1 ∷ []) ≤ℤ pos 0); rises = omega (arith, ints) });
}
  where
    ascends : AllPairs (λ (s t : Stuck). s.part < t.part) both_stuck
    ascends zero zero d less within = absurd (omega arith)
    ascends zero (suc zero) d less within = omega arith
    ascends zero (suc (suc k)) d less within = absurd (omega arith)
    ascends (suc j) zero d less within = absurd (omega arith)
    ascends (suc j) (suc zero) d less within = absurd (omega arith)
    ascends (suc j) (suc (suc k)) d less within = absurd (omega arith)
