use Rattle.std.proofs.Common.{◌≡◌, ◌<◌, ◌^◌, ◌∷◌, ℕ, ℤ, map, drop, pos}
use Rattle.pa_math.specs.Divisors.{gcd_all}
use Rattle.pa_row.proofs.checked.divisor_of_weights.Given as goal

-- the divisor so far and that of the rest are that of all
abbrev pub invariant-loop-n : goal.invariant-loop-n
invariant-loop-n l = record {
  value : gcd_all (pos l.divisor ∷ map (λ (part : ℕ × ℤ). part.1) (drop l.n-index l.parts)) ≡ gcd_all (l.den ∷ map (λ (part : ℕ × ℤ). part.1) l.parts);
  narrow : l.divisor < 2 ^ 126;
}
