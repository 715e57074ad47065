-- The rows of a step, one after another, up to the first of which a product or a sum is too wide.
use Rattle.std.specs.Prelude.{ℕ, List, [], ◌∷◌, ◌++◌, length, map, flat_map, pos, int_lt, if◌then◌else◌, Result, Ok, Err}
use Rattle.pa_ring.specs.Sums.{number_at}
use Rattle.pa_math.specs.Answers.{given, and_then}
use Rattle.pa_frac.specs.declared.wide.Wide.{Wide}
use Rattle.pa_meaning.specs.Rows.{Row, row_at, without_column}
use Rattle.pa_witness.specs.Elimination.{positives_at, negatives_at}
use Rattle.pa_witness.specs.Steps.{Version, kept_at, nonzeros_at, others_at, equality_in}
use Rattle.pa_row.specs.Sums.{cancelled_in}
use Rattle.pa_fourier.specs.declared.fault.StepFault.{StepFault}
use Rattle.pa_fourier.specs.declared.fault.StepFault.TheVariants as fault

-- the rows that are made, and then each of these; or the number of the first that is Wide, made ones counted
abbrev pub made_with : List Row → List (Result Row Wide) → Result (List Row) StepFault
made_with made [] = Ok made
made_with made (Ok row ∷ due) = made_with (made ++ row ∷ []) due
made_with made (Err wide ∷ due) = Err (fault.Wide (length made))

-- the rows cancelled, without the column
abbrev pub cancelled_without : ℕ → Row → Row → Result Row Wide
cancelled_without k p n = and_then {B = Row} (cancelled_in k p n) (λ row. Ok (without_column k row))

abbrev pub pairs_with : ℕ → List Row → Row → List (Result Row Wide)
pairs_with k rows p = map (cancelled_without k p) (negatives_at k rows)

abbrev pub pairs_due : ℕ → List Row → List (Result Row Wide)
pairs_due k rows = flat_map (pairs_with k rows) (positives_at k rows)

abbrev pub substituted_without : ℕ → Row → Row → Row → Result Row Wide
substituted_without k p n row = if int_lt (pos 0) (number_at row.c k) then cancelled_without k row n else cancelled_without k p row

abbrev pub substituted_one : ℕ → Row → Row → Row → List (Result Row Wide)
substituted_one k p n row = map (substituted_without k p n) (nonzeros_at k (row ∷ []))

abbrev pub substituted_due : ℕ → List Row → ℕ × ℕ → List (Result Row Wide)
substituted_due k rows places = map (substituted_without k (row_at rows places.0) (row_at rows places.1)) (others_at k places.0 places.1 rows)

-- the rows of a step, or the number of the first one of which a product or a sum passes 126 bits
abbrev pub step_in : Version → ℕ → List Row → Result (List Row) StepFault
step_in v k rows = made_with (kept_at k rows) (given (pairs_due k rows) (equality_in v k rows) (substituted_due k rows))
