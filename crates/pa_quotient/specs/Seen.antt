-- What private functions of a quotient hold. No public clause names one of these.
use Rattle.std.specs.Prelude.{◌≡◌, ◌≤◌, ◌+◌, List, length, None, All}
use Rattle.pa_meaning.specs.Rows.{Row}
use Rattle.pa_meaning.specs.Contracts.{Name, Contract}
use Rattle.pa_meaning.specs.Quotient.{quotient_outputs, quotient_ports, quotient_names}
use Rattle.pa_contract.specs.Merge.{row_count}
use Rattle.pa_contract.specs.WellFormed.{IsWellFormed}
use Rattle.pa_holds.specs.Refusals.{due_quotient}

-- the outputs of a quotient, and its ports
pub record QuotientNames : Type 0 where
  pub outputs : List Name
  pub ports : List Name

pub record AreNamesOf (whole part : Contract) (names : QuotientNames) : Type 0 where
  pub outputs_are : names.outputs ≡ quotient_outputs whole part
  pub ports_are : names.ports ≡ quotient_ports whole part

-- the two contracts are well formed and have these names, no refusal by a name or a count is due, and so names and rows are few
pub record CanDivide (whole part : Contract) (names : QuotientNames) : Type 0 where
  pub names_are : AreNamesOf whole part names
  pub whole_formed : IsWellFormed whole
  pub part_formed : IsWellFormed part
  pub none : due_quotient whole part ≡ None
  pub short : length (quotient_names whole part) ≤ 128
  pub few : row_count whole + row_count part ≤ 4096

-- rows over the quotient's ports, no more than the whole has guarantees
pub record AreLeft (whole part : Contract) (rows : List Row) : Type 0 where
  pub columns : All (λ (r : Row). length r.c ≡ length (quotient_ports whole part)) rows
  pub fewer : length rows ≤ length whole.guarantees
