-- What the tests of a point tell.
use Rattle.std.proofs.Common.{◌≡◌, refl, sym, ap, ◌∙◌, List, length, Bool, true, false, not, ◌↔◌, Result, Ok, Err, All, Decides, IfOk, IsTrue, int_le}
use Rattle.std.proofs.Common.{ℤ, ◌*ℤ◌, true≢false}
use Rattle.std.proofs.lemmas.Bool.Decides.{Decides-not}
use Rattle.pa_frac.specs.declared.wide.Wide.{Wide}
use Rattle.pa_frac.specs.Width.{within}
use Rattle.pa_math.specs.Answers.{and_then}
use Rattle.pa_meaning.specs.Rows.{Row, Point, Meets, MeetsAll, Breaks}
use Rattle.pa_row.specs.Sums.{dot_in, meets_in}
use Rattle.pa_row.proofs.Dots.{and_then_ok, ok_same, met_truly}
use Rattle.pa_check.specs.Tests.{both, each, Tells}
use Rattle.pa_check.specs.Points.{met_in, all_met_in, broken_in, breaks_in, IsBreaking}
use Rattle.pa_check.proofs.Tests.{tells_like, tells_both, tells_each, told}

pub met_tells : (x : Point) (row : Row) → Tells (met_in x row) (Meets row x)
met_tells x row passed e =
    let (sum, is, k) = and_then_ok (dot_in row.c x.p) (λ sum. and_then (within 126 (row.b *ℤ x.q)) (λ bound. Ok (int_le sum bound))) passed (sym e) in
    let (bound, was, last) = and_then_ok (within 126 (row.b *ℤ x.q)) (λ bound. Ok (int_le sum bound)) passed k in
    rw (ok_same passed (int_le sum bound) last) (met_truly row x sum bound is was)

pub broken_tells : (x : Point) (row : Row) → Tells (broken_in x row) (Breaks row x)
broken_tells x row passed e =
    let (met, is, last) = and_then_ok (meets_in row x) (λ met. Ok (not met)) passed (sym e) in
    rw (ok_same passed (not met) last) (Decides-not met (met_tells x row met (sym is)))

pub all_met_tells : (x : Point) (rows : List Row) → Tells (all_met_in x rows) (MeetsAll rows x)
all_met_tells x rows = tells_each (met_in x) (λ r. Unit {0}) (λ r. Meets r x) (λ r u. met_tells x r) rows (λ k e h. tt)

pub breaks_tells : (x : Point) (rows : List Row) (row : Row) → Tells (breaks_in x rows row) (IsBreaking rows row x)
breaks_tells x rows row = tells_like (breaks_in x rows row) (λ h. record { met = h.0; broken = h.1 }) (λ b. (b.met, b.broken))
    (tells_both (all_met_in x rows) (broken_in x row) (all_met_tells x rows) (λ m. broken_tells x row))

pub all_met_told : (answer : Result Bool Wide) (x : Point) (rows : List Row) → answer ≡ all_met_in x rows
    → IfOk answer (λ passed. Decides passed (MeetsAll rows x))
all_met_told answer x rows e = told answer (all_met_in x rows) e (all_met_tells x rows)

pub breaks_told : (answer : Result Bool Wide) (x : Point) (rows : List Row) (row : Row) → answer ≡ breaks_in x rows row
    → IfOk answer (λ passed. Decides passed (IsBreaking rows row x))
breaks_told answer x rows row e = told answer (breaks_in x rows row) e (breaks_tells x rows row)
