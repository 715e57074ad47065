-- What is printed for a quotient, and when it holds as it is printed.
use Rattle.std.specs.Prelude.{◌≡◌, List, ◌++◌, length, map}
use Rattle.pa_meaning.specs.Rows.{Row}
use Rattle.pa_meaning.specs.Weights.{Weights}
use Rattle.pa_meaning.specs.Contracts.{Contract}
use Rattle.pa_meaning.specs.Composition.{assumptions_over, guarantees_over}
use Rattle.pa_meaning.specs.Quotient.{quotient_outputs, quotient_ports, quotient_names, narrows}
use Rattle.pa_witness.specs.Shifts.{ShiftsHold, shifted_rows}
use Rattle.pa_witness.specs.Thinning.{ThinningHolds, thinned}
use Rattle.pa_cert.specs.Lists.{DividedAnswer}

-- what the part assumes, and what the shifts leave of the whole's guarantees, over the quotient's ports
abbrev pub asked_rows : Contract → Contract → List Weights → List Row
asked_rows whole part shifts =
    assumptions_over (quotient_ports whole part) part
    ++ shifted_rows (length (quotient_ports whole part)) (guarantees_over (quotient_names whole part) part)
    (guarantees_over (quotient_names whole part) whole) shifts

pub record HoldsAsDivided (whole part : Contract) (a : DividedAnswer) : Type 0 where
  pub shifts : ShiftsHold (length (quotient_ports whole part)) (guarantees_over (quotient_names whole part) part)
      (guarantees_over (quotient_names whole part) whole) a.shifts
  pub thin : ThinningHolds (length (quotient_ports whole part)) (asked_rows whole part a.shifts) (assumptions_over (quotient_ports whole part) whole) a.thin
  pub contract : a.contract ≡ record {
    inputs = whole.inputs;
    outputs = quotient_outputs whole part;
    assumptions = whole.assumptions;
    guarantees = thinned (length (quotient_ports whole part)) (asked_rows whole part a.shifts) a.thin;
  }
  pub narrow : a.narrow ≡ map (narrows a.contract) a.contract.guarantees
