-- The answer of an operation by its two numbers.
use Rattle.std.specs.Prelude.{◌≡◌, ℕ, Result, Ok, Err}
use Rattle.pa_math.specs.Rational.{ℚ, over}
use Rattle.pa_frac.specs.declared.arithmetic.LowestTerms.{LowestTerms}
use Rattle.pa_frac.specs.declared.wide.Wide.{Wide}
use Rattle.pa_frac.specs.Narrow.{IsNarrow}

-- two numbers in lowest terms below 2 ^ w give what is due, or it is `Wide`
abbrev pub IsLowest : ℕ → Result ℚ Wide → Result LowestTerms Wide → Type 0
IsLowest w due (Ok x) = (Ok (over x.num x.den) ≡ due) × IsNarrow w x.num x.den
IsLowest w due (Err e) = Err e ≡ due
