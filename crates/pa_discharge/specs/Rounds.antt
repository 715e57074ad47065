-- What the rounds of a composition hold.
use Rattle.std.specs.Prelude.{ℕ, List, Option}
use Rattle.pa_meaning.specs.Rows.{Row}
use Rattle.pa_meaning.specs.Directions.{Stuck}
use Rattle.pa_witness.specs.Certificates.{Discharge}
use Rattle.pa_trial.specs.Lefts.{Lefts}

-- the round in which a part is discharged, and what is left of its assumptions
pub record Brought : Type 0 where
  pub round : ℕ
  pub lefts : Lefts

-- how each part stands after a round, and the rows at which parts were stuck in it
pub record AfterRound : Type 0 where
  pub brought : List (Option Brought)
  pub stuck : List Stuck

-- what the rounds leave: the discharges of the parts, and what is left of their assumptions over the external inputs, part by part
pub record Discharged : Type 0 where
  pub discharges : List Discharge
  pub assumptions : List Row
