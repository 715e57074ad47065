-- What stands within answers.
use Rattle.std.specs.Prelude.{ℕ, ℤ, List, Bool, Option}
use Rattle.pa_meaning.specs.Contracts.{Name, Contract}
use Rattle.pa_meaning.specs.Rows.{Point}
use Rattle.pa_meaning.specs.Weights.{Weights}
use Rattle.pa_row.specs.Steps.{Dropped, Discharge}

-- a printed point: it gives each of the names a number
pub record Located : Type 0 where
  pub names : List Name
  pub at : Point

-- a printed direction: the names whose number is not 0
pub record Heading : Type 0 where
  pub names : List Name
  pub numbers : List ℤ

-- a printed step: the name that goes, none for the given rows, and the drops
pub record NamedStep : Type 0 where
  pub name : Option Name
  pub drops : List Dropped

-- an assumption of a part, and the printed direction that sticks it
pub record StuckRow : Type 0 where
  pub part : ℕ
  pub row : ℕ
  pub direction : Heading

-- hidden outputs, a composite and a quotient: the contract, and what shows that it is the one
pub record HiddenAnswer : Type 0 where
  pub contract : Contract
  pub steps : List NamedStep

pub record ComposedAnswer : Type 0 where
  pub contract : Contract
  pub discharges : List Discharge
  pub thin : List Dropped
  pub steps : List NamedStep

pub record DividedAnswer : Type 0 where
  pub contract : Contract
  pub narrow : List Bool
  pub shifts : List Weights
  pub thin : List Dropped
