-- The order of the fractions.
use Rattle.std.specs.Prelude.{◌*ℤ◌, ◌≤ℤ◌, ◌<ℤ◌}
use Rattle.std.specs.declared.cmp.Ordering.{Ordering}
use Rattle.std.specs.Ordering.{int_cmp}
use Rattle.pa_math.specs.Rational.{ℚ, den}

infix 50 ◌≤ℚ◌ ◌<ℚ◌
-- q is at most r, by their cross products
pub record ◌≤ℚ◌ (q r : ℚ) : Type 0 where
  pub le : (q.num *ℤ den r) ≤ℤ (r.num *ℤ den q)

-- q is below r, by their cross products
pub record ◌<ℚ◌ (q r : ℚ) : Type 0 where
  pub lt : (q.num *ℤ den r) <ℤ (r.num *ℤ den q)

-- which of the two is the lesser, by their cross products
abbrev pub compare_ℚ : ℚ → ℚ → Ordering
compare_ℚ q r = int_cmp (q.num *ℤ den r) (r.num *ℤ den q)
