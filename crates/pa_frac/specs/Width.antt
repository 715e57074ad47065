-- The width rule: an operation gives its exact value, or `Wide` where one of its named numbers reaches the width.
use Rattle.std.specs.Prelude.{ℕ, ℤ, ◌^◌, ◌<◌, Bool, List, [], ◌∷◌, Result, Ok, Err, nat_le, unsigned_abs, if◌then◌else◌}
use Rattle.std.specs.List.{list_any}
use Rattle.pa_frac.specs.declared.wide.Wide.{Wide}

-- the absolute value is below 2 ^ w
abbrev pub Fits : ℕ → ℤ → Type 0
Fits w z = unsigned_abs z < 2 ^ w

-- the absolute value reaches 2 ^ w
abbrev pub passes : ℕ → ℤ → Bool
passes w z = nat_le (2 ^ w) (unsigned_abs z)

-- the value, or `Wide` where one of the named numbers passes w bits
abbrev pub exact_or_wide : {A : Type 0} → ℕ → List ℤ → A → Result A Wide
exact_or_wide w named value = if list_any (passes w) named then Err (record {}) else Ok value

-- a whole number, or `Wide` where it passes w bits
abbrev pub within : ℕ → ℤ → Result ℤ Wide
within w z = exact_or_wide w (z ∷ []) z

-- the value of an answer that is not `Wide`
abbrev pub valued : {F V : Type 0} → (F → V) → Result F Wide → Result V Wide
valued value (Ok x) = Ok (value x)
valued value (Err wide) = Err wide
