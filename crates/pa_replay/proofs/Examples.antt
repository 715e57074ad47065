-- Runs on small problems, computed by the definitions.
use Rattle.std.proofs.Common.{◌≡◌, ℕ, ℤ, pos, negsuc, List, [], ◌∷◌, map, Result, Ok, Err, refl}
use Rattle.pa_math.specs.Rational.{ℚ, den, over, lowest, ◌+ℚ◌, ◌*ℚ◌, neg_ℚ, reciprocal}
use Rattle.pa_math.specs.Divisors.{gcd_of}
use Rattle.pa_frac.specs.Operations.{fraction_in, sum_in, difference_in, product_in, comparison_in}
use Rattle.pa_tableau.specs.declared.wide_at.WideAt.{WideAt}
use Rattle.pa_tableau.specs.Arithmetic.{at_width, exact}
use Rattle.pa_replay.specs.declared.«end».End.{End}
use Rattle.pa_replay.specs.declared.«end».End.TheVariants.{Least, NoWeights, Endless}
use Rattle.pa_replay.specs.declared.«end».SolveFault.{SolveFault}
use Rattle.pa_replay.specs.declared.«end».SolveFault.TheVariants.{PivotLimit}
use Rattle.pa_replay.specs.Problem.{Problem}
use Rattle.pa_replay.specs.Replay.{Ended, replay}
use Rattle.pa_replay.specs.Readings.{point_read, value_read}

abbrev answer_of : Result Ended WideAt → List (Result End SolveFault)
answer_of (Ok ended) = ended.answer ∷ []
answer_of (Err wide) = []

abbrev basis_of : Result Ended WideAt → List ℕ
basis_of (Ok ended) = ended.table.basis
basis_of (Err wide) = []

-- with no pivot left, the limit comes
limit : answer_of (replay exact (record { rows = record { c = pos 1 ∷ []; b = pos 1 } ∷ []; target = pos 1 ∷ [] }) 0) ≡ Err PivotLimit ∷ []
unfolding over lowest gcd_of ◌+ℚ◌ ◌*ℚ◌ neg_ℚ reciprocal
limit = refl

-- one row with the target is least
least : answer_of (replay exact (record { rows = record { c = pos 1 ∷ []; b = pos 1 } ∷ []; target = pos 1 ∷ [] }) 10) ≡ Ok Least ∷ []
unfolding over lowest gcd_of ◌+ℚ◌ ◌*ℚ◌ neg_ℚ reciprocal
least = refl

-- no row: no weights
no_rows : answer_of (replay exact (record { rows = []; target = pos 1 ∷ [] }) 10) ≡ Ok NoWeights ∷ []
unfolding over lowest gcd_of ◌+ℚ◌ ◌*ℚ◌ neg_ℚ reciprocal
no_rows = refl

-- a row 0 <= -1: endless in its column
endless : answer_of (replay exact (record { rows = record { c = pos 0 ∷ []; b = negsuc 0 } ∷ []; target = pos 0 ∷ [] }) 10) ≡ Ok (Endless 0) ∷ []
unfolding over lowest gcd_of ◌+ℚ◌ ◌*ℚ◌ neg_ℚ reciprocal
endless = refl

-- ---- what is read
numbers : List ℚ → List (ℤ × ℤ)
numbers qs = map (λ q. (q.num, den q)) qs

abbrev point_of : ℕ → ℕ → Result Ended WideAt → List (ℤ × ℤ)
point_of n m (Ok ended) = map (λ (q : ℚ). (q.num, den q)) (point_read n m ended.table)
point_of n m (Err wide) = []

abbrev value_of : ℕ → ℕ → Result Ended WideAt → List (ℤ × ℤ)
value_of n m (Ok ended) = ((value_read n m ended.table).num, den (value_read n m ended.table)) ∷ []
value_of n m (Err wide) = []

least_point : point_of 1 1 (replay exact (record { rows = record { c = pos 1 ∷ []; b = pos 1 } ∷ []; target = pos 1 ∷ [] }) 10) ≡ (pos 1, pos 1) ∷ []
unfolding over lowest gcd_of ◌+ℚ◌ ◌*ℚ◌ neg_ℚ reciprocal
least_point = refl

least_value : value_of 1 1 (replay exact (record { rows = record { c = pos 1 ∷ []; b = pos 1 } ∷ []; target = pos 1 ∷ [] }) 10) ≡ (pos 1, pos 1) ∷ []
unfolding over lowest gcd_of ◌+ℚ◌ ◌*ℚ◌ neg_ℚ reciprocal
least_value = refl

-- Two pivots: rows (1, 1) <= 3 and (1, 2) <= 4, target (2, 3). Both rows have weight 1, the point is (2, 1) and the value 7.
two : Problem
two = record { rows = record { c = pos 1 ∷ pos 1 ∷ []; b = pos 3 } ∷ record { c = pos 1 ∷ pos 2 ∷ []; b = pos 4 } ∷ []; target = pos 2 ∷ pos 3 ∷ [] }

two_basis : basis_of (replay exact two 10) ≡ 0 ∷ 1 ∷ []
unfolding two over lowest gcd_of ◌+ℚ◌ ◌*ℚ◌ neg_ℚ reciprocal
two_basis = refl

two_point : point_of 2 2 (replay exact two 10) ≡ (pos 2, pos 1) ∷ (pos 1, pos 1) ∷ []
unfolding two over lowest gcd_of ◌+ℚ◌ ◌*ℚ◌ neg_ℚ reciprocal
two_point = refl

two_value : value_of 2 2 (replay exact two 10) ≡ (pos 7, pos 1) ∷ []
unfolding two over lowest gcd_of ◌+ℚ◌ ◌*ℚ◌ neg_ℚ reciprocal
two_value = refl

-- the same at a width of 126 bits
two_wide : point_of 2 2 (replay (at_width 126) two 10) ≡ (pos 2, pos 1) ∷ (pos 1, pos 1) ∷ []
unfolding two over lowest gcd_of ◌+ℚ◌ ◌*ℚ◌ neg_ℚ reciprocal fraction_in sum_in difference_in product_in comparison_in
two_wide = refl

-- at a width of 2 bits the first number that passes is told: 4, the bound of the second row, in cost row 2
two_narrow : replay (at_width 2) two 10 ≡ Err (record { pivot = 0; row = 3; column = 1 })
unfolding two over lowest gcd_of ◌+ℚ◌ ◌*ℚ◌ neg_ℚ reciprocal fraction_in sum_in difference_in product_in comparison_in
two_narrow = refl
