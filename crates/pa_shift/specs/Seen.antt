-- What private functions hold. No public clause names one of these.
use Rattle.std.specs.Prelude.{◌≡◌, ℕ, List, Result, Ok}
use Rattle.pa_math.specs.Answers.{and_then}
use Rattle.pa_frac.specs.declared.wide.Wide.{Wide}
use Rattle.pa_meaning.specs.Rows.{Row}
use Rattle.pa_shift.specs.Shifting.{Premises, costed_in, with_between}

-- costs with others from this place on, where neither passes the width
abbrev pub with_costs : ℕ → Result (List Row) Wide → Result (List Row) Wide → Result (List Row) Wide
with_costs place others costs = and_then costs (λ rows. and_then others (λ more. Ok (with_between place more rows)))

-- these rows are the given ones over the columns that go, with their costs
abbrev pub AreCosts : Premises → List Row → Type 0
AreCosts given costs = costed_in given.nominal given.rows ≡ Ok costs
