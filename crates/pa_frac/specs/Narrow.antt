-- What a type of fractions keeps of its two numbers.
use Rattle.std.specs.Prelude.{ℕ, ℤ}
use Rattle.std.proofs.Common.{subst, sym}
use Rattle.pa_math.specs.Divisors.{IsReduced}
use Rattle.pa_math.specs.Rational.{over, den}
use Rattle.pa_math.proofs.Rationals.{over_num, over_den}
use Rattle.pa_frac.specs.Width.{Fits}

-- `n / d` is in lowest terms, with d at least 1 and both numbers below 2 ^ w in absolute value
pub record IsNarrow (w : ℕ) (n d : ℤ) : Type 0 where
  pub reduced : IsReduced n d
  pub num_fits : Fits w n
  pub den_fits : Fits w d

-- so the numbers of its value are these
pub num_fits : (w : ℕ) (n d : ℤ) → IsNarrow w n d → Fits w (over n d).num
num_fits w n d s = subst (Fits w) (sym (over_num n d s.reduced)) s.num_fits

pub den_fits : (w : ℕ) (n d : ℤ) → IsNarrow w n d → Fits w (den (over n d))
den_fits w n d s = subst (Fits w) (sym (over_den n d s.reduced)) s.den_fits
