-- What operations record of their work, so that others can check it.
use Rattle.std.specs.Prelude.{ℕ, List}
use Rattle.pa_meaning.specs.Weights.{Weights}

-- the place of a row that is dropped, and weights that prove it over the rows that stay
pub record Dropped : Type 0 where
  pub row : ℕ
  pub weights : Weights

-- the rows that a step dropped, in order
pub record Step : Type 0 where
  pub drops : List Dropped

-- the round in which a part is discharged, and weights for each of its assumptions
pub record Discharge : Type 0 where
  pub round : ℕ
  pub shifts : List Weights
