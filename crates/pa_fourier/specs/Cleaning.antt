-- Rows that are needless at sight, and where a comparison of their bounds is too wide.
use Rattle.std.specs.Prelude.{◌↔◌, ℕ, suc, List, [], ◌∷◌, ◌++◌, pos, ◌<ℤ◌, nat_eq, nat_lt, Bool, true, false, not, ◌&&◌, if◌then◌else◌, Result, Ok}
use Rattle.std.specs.List.{list_any}
use Rattle.std.specs.declared.cmp.Ordering.{Ordering}
use Rattle.std.specs.declared.cmp.Ordering.TheVariants.{Less, Equal, Greater}
use Rattle.pa_math.specs.Answers.{and_then, told_as}
use Rattle.pa_math.specs.Divisors.{gcd_all}
use Rattle.pa_math.specs.Rational.{ℚ, over}
use Rattle.pa_frac.specs.declared.wide.Wide.{Wide}
use Rattle.pa_frac.specs.Operations.{comparison_in}
use Rattle.pa_meaning.specs.Rows.{Row, Point, MeetsAll}
use Rattle.pa_meaning.specs.Weights.{impossible}
use Rattle.pa_witness.specs.Thinning.{is_constant, is_impossible, are_parallel}
use Rattle.pa_fourier.specs.declared.fault.CleanFault.{CleanFault}
use Rattle.pa_fourier.specs.declared.fault.CleanFault.TheVariants as fault

-- the bound over the greatest common divisor of the coefficients
abbrev pub bound_of : Row → ℚ
bound_of r = over r.b (gcd_all r.c)

-- another row stands in for one whose bound is greater, or equal where the other row has an earlier place
abbrev pub stands_in : Bool → Ordering → Bool
stands_in earlier Less = false
stands_in earlier Equal = earlier
stands_in earlier Greater = true

-- whether the row s at place j stands in for the row r at place i; the bounds of parallel rows are compared
abbrev pub replaced_by : ℕ → Row → ℕ → Row → Result Bool Wide
replaced_by i r j s =
    if not (nat_eq j i) && are_parallel r s then and_then (comparison_in 126 (bound_of r) (bound_of s)) (λ order. Ok (stands_in (nat_lt j i) order))
    else Ok false

-- Whether one of these rows, of which the first has the place j, stands in for the row r at place i: they are taken in
-- order, up to the first that does.
abbrev pub replaced_in : ℕ → Row → ℕ → List Row → Result Bool Wide
replaced_in i r j [] = Ok false
replaced_in i r j (s ∷ rows) = and_then (replaced_by i r j s) (λ replaced. if replaced then Ok true else replaced_in i r (suc j) rows)

-- the rows that stay so far, and those of these rows, of which the first has the place i, for which no other row of all
-- stands in; or the place of the first row one of whose comparisons passes 126 bits
abbrev pub staying_in : List Row → List Row → ℕ → List Row → Result (List Row) CleanFault
staying_in kept all i [] = Ok kept
staying_in kept all i (r ∷ rows) =
    if is_constant r then staying_in kept all (suc i) rows
    else and_then (told_as (λ wide. fault.Wide i) (replaced_in i r 0 all)) (λ replaced. staying_in (if replaced then kept else kept ++ r ∷ []) all (suc i) rows)

-- the clean of rows over n columns
abbrev pub clean_in : ℕ → List Row → Result (List Row) CleanFault
clean_in n rows = if list_any is_impossible rows then Ok (impossible n ∷ []) else staying_in [] rows 0 rows

-- the same points meet both lists
abbrev pub AreMetAlike : List Row → List Row → Type 0
AreMetAlike old new = (x : Point) → pos 0 <ℤ x.q → MeetsAll new x ↔ MeetsAll old x
