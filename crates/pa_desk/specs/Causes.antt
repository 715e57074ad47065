-- When a fault may be answered.
use Rattle.std.specs.Prelude.{◌≡◌, ℕ, ◌+◌, ◌-◌, ◌^◌, ◌≤◌, ◌⊎◌, min, IsErrOf, Result}

-- a count after one more, which stops at the end of a u64
abbrev pub next_count : ℕ → ℕ
next_count count = min (count + 1) (2 ^ 64 - 1)

-- a count has gone up, or stands at its end, where it can't go up
abbrev pub Rose : ℕ → ℕ → Type 0
Rose before now = next_count before ≤ now

-- the count of faults has not fallen, and the answer `failed` comes only where it rose or `excuse` holds
pub record HasCause {T E : Type 0} (failed : E) (excuse : Type 0) (before now : ℕ) (result : Result T E) : Type 0 where
  pub later : before ≤ now
  pub cause : IsErrOf result failed → Rose before now ⊎ excuse

-- the count goes up by one at the answer `failed`, and stays at every other answer
pub record CountsEach {T E : Type 0} (failed : E) (before now : ℕ) (result : Result T E) : Type 0 where
  pub counted : IsErrOf result failed → now ≡ next_count before
  pub others : ¬ IsErrOf result failed → now ≡ before
