-- What a trial leaves of rows.
use Rattle.std.specs.Prelude.{List}
use Rattle.pa_meaning.specs.Rows.{Row}
use Rattle.pa_meaning.specs.Weights.{Weights}

-- what weights leave of rows over the first columns, row by row, and the weights
pub record Lefts : Type 0 where
  pub rows : List Row
  pub weights : List Weights
