-- Printed answers with one thing wrong: none of them holds as it is printed.
use Rattle.std.proofs.Common.{◌≡◌, refl, ap, ℕ, ◌<◌, true, false, List, [], ◌∷◌, length, Option, Some, None, arith}
use Rattle.std.proofs.lemmas.Int.{ints}
use Rattle.std.proofs.lemmas.List.Elements.{All-head}
use lib.IntN.{ℤ, pos, negsuc}
use lib.Signed.{◌≤ℤ◌}
use Rattle.pa_math.specs.Divisors.{gcd_of}
use Rattle.pa_meaning.specs.Rows.{Row, Point}
use Rattle.pa_meaning.specs.Weights.{Weights}
use Rattle.pa_meaning.specs.Contracts.{Name}
use Rattle.pa_witness.specs.Thinning.{Dropped, ThinningHolds, cleaned}
use Rattle.pa_witness.specs.Steps.{One, Two}
use Rattle.pa_witness.specs.Shifts.{ShiftHolds, ShiftsHold}
use Rattle.pa_witness.specs.Discharge.{Discharge, discharged, earlier_guarantees}
use Rattle.pa_cert.specs.Lists.{NamedStep, ComposedAnswer}
use Rattle.pa_holds.specs.Refined.{ProveEach, IsAt}
use Rattle.pa_holds.specs.Bounded.{WeightsBound}
use Rattle.pa_holds.specs.Composed.{AreNamed, HoldsAsHidden, HoldsAsComposed}
use Rattle.pa_holds.specs.Divided.{HoldsAsDivided}
use Rattle.pa_holds.proofs.Examples.{row, weights, contract, i, o, p, w, y, chain, discharges}
use Rattle.pa_holds.proofs.PartExamples.{x, ten, double, tied, untied}

-- ---- shifts
-- half of `i - 2 o <= 2` cancels `-o <= 1`: the guarantees `o <= i` and `i - 2 o <= 2`, over i, o and p
abbrev given : List Row
given = row (negsuc 0 ∷ pos 1 ∷ pos 0 ∷ []) (pos 0) ∷ row (pos 1 ∷ negsuc 1 ∷ pos 0 ∷ []) (pos 2) ∷ []

abbrev term : Row
term = row (pos 0 ∷ negsuc 0 ∷ pos 0 ∷ []) (pos 1)

-- the whole row in place of its half leaves o
whole_row_leaves_something : ¬ ShiftHolds 1 given term (weights (pos 1) ((1, pos 1) ∷ []))
unfolding gcd_of
whole_row_leaves_something h = let one : pos 1 ≡ pos 0 = h.gone 0 in absurd (omega (arith, ints, one))

-- a negative weight, over a negative denominator or not
no_negative_weight : (n : ℕ) (rows : List Row) (t : Row) (den : ℤ) (k : ℕ) → ¬ ShiftHolds n rows t (weights den ((k, negsuc 0) ∷ []))
no_negative_weight n rows t den k h =
    let up = All-head (λ part. pos 0 ≤ℤ part.1) (k, negsuc 0) [] h.weights in absurd (omega (arith, ints, up))

no_negative_denominator : (n : ℕ) (rows : List Row) (t : Row) (parts : List (ℕ × ℤ)) → ¬ ShiftHolds n rows t (weights (negsuc 0) parts)
no_negative_denominator n rows t parts h = let up = h.positive in absurd (omega (arith, ints, up))

-- a place behind the rows, whatever its weight
no_place_behind : (n : ℕ) (t : Row) (den k : ℤ) → ¬ ShiftHolds n given t (weights den ((2, k) ∷ []))
no_place_behind n t den k h = let less = All-head (λ part. part.0 < 2) (2, k) [] h.places in absurd (omega (arith, less))

-- a shift too few, and one too many
no_shift_is_missing : (n : ℕ) (rows : List Row) (t : Row) → ¬ ShiftsHold n rows (t ∷ []) []
no_shift_is_missing n rows t h = h

no_shift_is_left_over : (n : ℕ) (rows : List Row) (u : Weights) → ¬ ShiftsHold n rows [] (u ∷ [])
no_shift_is_left_over n rows u h = h

-- a part of round 1 has the guarantees of the part of round 0, and one of round 0 has none
of_round_one : earlier_guarantees (i ∷ o ∷ p ∷ []) (discharged chain discharges) 1 ≡ given
of_round_one = refl

of_round_zero : earlier_guarantees (i ∷ o ∷ p ∷ []) (discharged chain discharges) 0 ≡ []
of_round_zero = refl

-- a discharge for one of two parts
no_part_is_left_out : (a : ComposedAnswer) (d : Discharge) → a.discharges ≡ d ∷ [] → ¬ HoldsAsComposed One 4096 chain [] a
no_part_is_left_out a d same h = let one = ap length same in let two = h.one_each in absurd (omega (arith, one, two))

-- ---- drops
-- drops that do not ascend, and one behind the cleaned rows, among those of the context
drops_ascend : (n : ℕ) (rows context : List Row) (u v : Weights)
    → ¬ ThinningHolds n rows context (record { row = 1; weights = u } ∷ record { row = 0; weights = v } ∷ [])
drops_ascend n rows context u v h =
    let less : 1 < 0 = h.ascending 0 1 (record { row = 0; weights = v }) (omega arith) (omega arith) in absurd (omega (arith, less))

no_drop_twice : (n : ℕ) (rows context : List Row) (k : ℕ) (u v : Weights)
    → ¬ ThinningHolds n rows context (record { row = k; weights = u } ∷ record { row = k; weights = v } ∷ [])
no_drop_twice n rows context k u v h =
    let less : k < k = h.ascending 0 1 (record { row = k; weights = v }) (omega arith) (omega arith) in absurd (omega (arith, less))

no_drop_behind : (n : ℕ) (rows context : List Row) (u : Weights)
    → ¬ ThinningHolds n rows context (record { row = length (cleaned n rows); weights = u } ∷ [])
no_drop_behind n rows context u h =
    let less = All-head (λ (d : Dropped). d.row < length (cleaned n rows)) (record { row = length (cleaned n rows); weights = u }) [] h.placed in
    absurd (omega (arith, less))

-- ---- steps
-- the first byte of a name, by which names are told apart here
abbrev first_byte : Name → ℕ
first_byte [] = 0
first_byte (byte ∷ bytes) = byte

abbrev first_named : List (Option Name) → ℕ
first_named [] = 0
first_named (None ∷ names) = first_named names
first_named (Some n ∷ names) = first_byte n

-- a step too few, one of another name, and none for the given rows
abbrev step : NamedStep
step = record { name = None; drops = [] }

abbrev step_of : Name → NamedStep
step_of n = record { name = Some n; drops = [] }

no_step_is_missing : ¬ AreNamed (o ∷ []) (step ∷ [])
no_step_is_missing h = let n = ap length h in absurd (omega (arith, n))

no_step_of_another : ¬ AreNamed (o ∷ []) (step ∷ step_of p ∷ [])
no_step_of_another h = let byte : 112 ≡ 111 = ap first_named h in absurd (omega (arith, byte))

given_rows_are_thinned : ¬ AreNamed (o ∷ []) (step_of o ∷ [])
given_rows_are_thinned h = let n = ap length h in absurd (omega (arith, n))

-- three rows are above a limit of 2
no_step_above_the_limit : ¬ HoldsAsHidden Two 2 tied (x ∷ []) untied
unfolding gcd_of
no_step_above_the_limit h = let made = h.elimination.steps.0 in absurd (omega (arith, made))

-- ---- proofs and points
abbrev pub of_first : List Name → ℕ
of_first [] = 0
of_first (n ∷ names) = first_byte n

no_proof_is_missing : (rows : List Row) (t : Row) → ¬ ProveEach rows (t ∷ []) []
no_proof_is_missing rows t h = h

no_port_is_left_out : (at : Point) → ¬ IsAt (x ∷ y ∷ []) (record { names = x ∷ []; at = at })
no_port_is_left_out at h = let n = ap length h.names in absurd (omega (arith, n))

ports_stand_in_order : (at : Point) → ¬ IsAt (x ∷ y ∷ []) (record { names = y ∷ x ∷ []; at = at })
ports_stand_in_order at h = let byte : 121 ≡ 120 = ap of_first h.names in absurd (omega (arith, byte))

each_port_has_a_number : (k q : ℤ) → ¬ IsAt (x ∷ y ∷ []) (record { names = x ∷ y ∷ []; at = record { p = k ∷ []; q = q } })
each_port_has_a_number k q h = let n = h.numbers in absurd (omega (arith, n))

no_point_over_zero : (names : List Name) (ks : List ℤ) → ¬ IsAt names (record { names = names; at = record { p = ks; q = pos 0 } })
no_point_over_zero names ks h = let up = h.positive in absurd (omega (arith, ints, up))

-- ---- bounds
-- weights whose row is the goal bound its greatest value, and not its least
weights_have_a_sign : (b q num den : ℤ) → ¬ WeightsBound (row (pos 1 ∷ []) (pos 1) ∷ []) (pos 1 ∷ []) b q true num den (weights (pos 1) ((0, pos 1) ∷ []))
weights_have_a_sign b q num den h = let one : pos 1 ≡ negsuc 0 = h.coefficients 0 in absurd (omega (arith, ints, one))

-- ---- marks
-- `w <= 5` narrows the inputs, and is printed without its mark, or with none
no_mark_is_missing : ¬ HoldsAsDivided ten double (record {
  contract = contract (w ∷ []) [] (row (pos 1 ∷ []) (pos 8) ∷ []) (row (pos 1 ∷ []) (pos 5) ∷ []);
  narrow = false ∷ [];
  shifts = weights (pos 1) ((0, pos 1) ∷ []) ∷ [];
  thin = [];
})
no_mark_is_missing h = absurd (cc h.narrow)
