-- A guarantee of the whole for which there are no weights is final.
use Rattle.std.proofs.Common.{ℕ, List}
use Rattle.std.specs.List.{IsDistinct}
use Rattle.std.specs.Str.{bytes_eq}
use lib.IntN.{ℤ}
use Rattle.pa_math.specs.Lists.{AreApart}
use Rattle.pa_math.proofs.Unions.{IsDistinct-right}
use Rattle.pa_meaning.specs.Rows.{row_at}
use Rattle.pa_meaning.specs.Contracts.{Name, Contract, ports, coefficient_at}
use Rattle.pa_meaning.specs.Quotient.{quotient_ports, quotient_names, IsStuckGuarantee, IsGuaranteeBroken}
use Rattle.pa_meaning.proofs.Directions.{level_over, rises_over, stays}
use Rattle.pa_meaning.proofs.Moves.{moved, all_met_moved, broken_moved}
use Rattle.pa_meaning.proofs.QuotientPorts.{quotient_names_distinct, ports_apart, part_outputs_among, whole_fits, part_fits}

-- A direction that sticks a guarantee leads from each behaviour that meets the part's guarantees to one that does so too and
-- breaks it.
pub guarantee_is_broken : (whole part : Contract) (row : ℕ) (d : List ℤ) → IsDistinct bytes_eq (ports whole) → IsDistinct bytes_eq (ports part)
    → AreApart bytes_eq whole.inputs part.outputs
    → IsStuckGuarantee whole part row d → IsGuaranteeBroken whole part row
guarantee_is_broken whole part row d dw dp clear h v met =
    let names : List Name = quotient_names whole part in
    let e : Name → ℤ = coefficient_at part.outputs d in
    let different = quotient_names_distinct whole part dw dp clear in
    let outputs = IsDistinct-right bytes_eq part.inputs part.outputs dp in
    let among = part_outputs_among whole part dw dp clear in
    let rises = rises_over names part.outputs d different outputs among (ports whole) dw (whole_fits whole part dw dp clear).among whole.guarantees row
    h.placed h.sticks.rises in
    let (k, up, broken) = broken_moved (ports whole) (row_at whole.guarantees row) v e rises in (
      moved v k e,
      stays part.outputs d v k (quotient_ports whole part) (ports_apart whole part dw dp clear),
      all_met_moved (ports part) part.guarantees v k e up (level_over names part.outputs d different outputs among (ports part) dp
          (part_fits whole part dw dp clear).among part.guarantees h.sticks.level) met,
      broken,
    )
