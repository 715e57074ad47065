-- The limits that operations keep, and what they record of their work.
use Rattle.std.specs.Prelude.{ℕ, ◌≤◌}
pub use Rattle.pa_witness.specs.Certificates.{Dropped, Step, Discharge}
pub use Rattle.pa_meaning.specs.Directions.{Stuck}

-- a limit is from 1 to 4,096
pub record IsLimit (most : ℕ) : Type 0 where
  pub least : 1 ≤ most
  pub greatest : most ≤ 4096
