-- From the lines of a pivot to the tableau.
use Rattle.std.proofs.Common.{◌≡◌, ℕ, List, Result, Ok, Err, set, ap}
use Rattle.pa_math.specs.Answers.{and_then}
use Rattle.pa_math.specs.Rational.{ℚ}
use Rattle.pa_tableau.specs.declared.wide_at.WideAt.{WideAt}
use Rattle.pa_tableau.specs.Arithmetic.{Arithmetic, left_by}
use Rattle.pa_tableau.specs.Tableau.{Tableau, lines_pivoted, pivoted}

pub pivot_table : (A : Arithmetic) (number l c : ℕ) (t : Tableau) (r : Result (Unit {0}) WideAt) (lines : List (List ℚ))
    → left_by r lines ≡ lines_pivoted A number l c t.lines
    → left_by {A = Tableau} r (record { lines = lines; basis = set t.basis l c; turned = t.turned }) ≡ pivoted A number l c t
pivot_table A number l c t (Ok done) lines e =
    ap (λ (s : Result (List (List ℚ)) WideAt). and_then {B = Tableau} s (λ lines. Ok (record t { lines = lines; basis = set t.basis l c }))) e
pivot_table A number l c t (Err wide) lines e =
    ap (λ (s : Result (List (List ℚ)) WideAt). and_then {B = Tableau} s (λ lines. Ok (record t { lines = lines; basis = set t.basis l c }))) e
