-- The bounds of rows, as fractions that are made before any comparison. Only what private functions ensure is said with it.
use Rattle.std.specs.Prelude.{◌≡◌, ℕ, ◌<◌, List, length, pos, nat_eq, nat_lt, get_or, Bool, false, if◌then◌else◌, Result, Ok}
use Rattle.pa_math.specs.Answers.{and_then}
use Rattle.pa_math.specs.Rational.{ℚ, over, whole}
use Rattle.pa_frac.specs.declared.wide.Wide.{Wide}
use Rattle.pa_frac.specs.declared.wide126.Wide126.{Wide126}
use Rattle.pa_frac.specs.Operations.{comparison_in}
use Rattle.pa_meaning.specs.Rows.{Row, row_at}
use Rattle.pa_witness.specs.Thinning.{is_constant}
use Rattle.pa_fourier.specs.Cleaning.{bound_of, stands_in}

-- the fraction that two numbers stand for
abbrev pub fraction : Wide126 → ℚ
fraction x = over x.num x.den

abbrev pub bound_at : List ℚ → ℕ → ℚ
bound_at bounds i = get_or bounds i (whole (pos 0))

-- the bounds of the rows, place by place, where they have coefficients
pub record AreBounds (rows : List Row) (bounds : List ℚ) : Type 0 where
  pub count : length bounds ≡ length rows
  pub bound : (i : ℕ) → i < length rows → is_constant (row_at rows i) ≡ false → bound_at bounds i ≡ bound_of (row_at rows i)

-- whether a row with bound q at place j stands in for a parallel one with bound p at place i, other than itself
abbrev pub stands_by : ℕ → ℚ → ℕ → ℚ → Result Bool Wide
stands_by i p j q = if nat_eq j i then Ok false else and_then (comparison_in 126 p q) (λ order. Ok (stands_in (nat_lt j i) order))
