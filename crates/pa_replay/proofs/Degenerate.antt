-- A degenerate problem on which as many pivots may be made as it has bases, computed by the definitions.
use Rattle.std.proofs.Common.{◌≡◌, ℕ, ℤ, pos, negsuc, List, [], ◌∷◌, map, Result, Ok, Err, refl}
use Rattle.pa_math.specs.Rational.{ℚ, den, over, lowest, ◌+ℚ◌, ◌*ℚ◌, neg_ℚ, reciprocal}
use Rattle.pa_math.specs.Divisors.{gcd_of}
use Rattle.pa_meaning.specs.Rows.{Row}
use Rattle.pa_tableau.specs.declared.wide_at.WideAt.{WideAt}
use Rattle.pa_tableau.specs.Arithmetic.{exact}
use Rattle.pa_replay.specs.declared.«end».End.{End}
use Rattle.pa_replay.specs.declared.«end».End.TheVariants.{Least}
use Rattle.pa_replay.specs.declared.«end».SolveFault.{SolveFault}
use Rattle.pa_replay.specs.Problem.{Problem}
use Rattle.pa_replay.specs.Replay.{Ended, replay}
use Rattle.pa_replay.specs.Readings.{point_read, value_read}
use Rattle.pa_replay.specs.Limits.{most_bases}

bases : most_bases 7 3 ≡ 120
bases = refl

row : ℤ → ℤ → ℤ → ℤ → Row
row x y z b = record { c = x ∷ y ∷ z ∷ []; b = b }

degenerate : Problem
degenerate = record {
  rows =
      row (pos 1) (pos 0) (pos 0) (pos 0) ∷ row (pos 0) (pos 1) (pos 0) (pos 0) ∷ row (pos 0) (pos 0) (pos 1) (pos 0) ∷ row (pos 1) (pos 2) (pos 0) (negsuc 2)
      ∷ row (negsuc 7) (negsuc 11) (pos 0) (pos 20) ∷ row (negsuc 1) (negsuc 0) (pos 2) (negsuc 0) ∷ row (pos 9) (pos 3) (pos 0) (pos 6) ∷ [];
  target = pos 0 ∷ pos 0 ∷ pos 1 ∷ [];
}

numbers : List ℚ → List (ℤ × ℤ)
numbers qs = map (λ q. (q.num, den q)) qs

abbrev told : Result Ended WideAt → List (Result End SolveFault × List (ℤ × ℤ))
told (Ok ended) = (ended.answer, numbers (value_read 3 7 ended.table ∷ point_read 3 7 ended.table)) ∷ []
told (Err wide) = []

degenerate_end : told (replay exact degenerate 120) ≡ (Ok Least, (negsuc 4, pos 4) ∷ (pos 0, pos 1) ∷ (negsuc 2, pos 2) ∷ (negsuc 4, pos 4) ∷ []) ∷ []
unfolding degenerate row numbers over lowest gcd_of ◌+ℚ◌ ◌*ℚ◌ neg_ℚ reciprocal
degenerate_end = refl

-- the bases after 0 to 9 pivots, and no other pivot comes: 3 of phase 1 and 6 of phase 2
abbrev basis_of : Result Ended WideAt → List ℕ
basis_of (Ok ended) = ended.table.basis
basis_of (Err wide) = []

degenerate_bases : map (λ most. basis_of (replay exact degenerate most)) (0 ∷ 1 ∷ 2 ∷ 3 ∷ 4 ∷ 5 ∷ 6 ∷ 7 ∷ 8 ∷ 9 ∷ 10 ∷ [])
    ≡ (7 ∷ 8 ∷ 9 ∷ []) ∷ (0 ∷ 8 ∷ 9 ∷ []) ∷ (0 ∷ 1 ∷ 9 ∷ []) ∷ (0 ∷ 1 ∷ 2 ∷ []) ∷ (3 ∷ 1 ∷ 2 ∷ []) ∷ (3 ∷ 4 ∷ 2 ∷ []) ∷ (5 ∷ 4 ∷ 2 ∷ []) ∷ (5 ∷ 0 ∷ 2 ∷ [])
    ∷ (5 ∷ 0 ∷ 1 ∷ []) ∷ (5 ∷ 0 ∷ 3 ∷ []) ∷ (5 ∷ 0 ∷ 3 ∷ []) ∷ []
unfolding degenerate row over lowest gcd_of ◌+ℚ◌ ◌*ℚ◌ neg_ℚ reciprocal
degenerate_bases = refl
