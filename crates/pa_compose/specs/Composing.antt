-- Which answer on a composition is given exactly, and where a fault stands: the parts are discharged round by round, and then the assumptions are
-- thinned and the internal outputs eliminated.
use Rattle.std.specs.Prelude.{ℕ, List, [], length, sum_by, nat_lt, Result, Ok, Err, if◌then◌else◌}
use Rattle.pa_math.specs.Answers.{and_then, told_as}
use Rattle.pa_meaning.specs.Rows.{Row}
use Rattle.pa_meaning.specs.Contracts.{Name, Contract}
use Rattle.pa_meaning.specs.Composition.{names_of}
use Rattle.pa_contract.specs.Merge.{row_count, most_rows}
use Rattle.pa_contract.specs.Nominal.{Nominal}
use Rattle.pa_row.specs.declared.place.Group.TheVariants.{Thin}
use Rattle.pa_row.specs.declared.place.Halt.{Halt}
use Rattle.pa_row.specs.declared.place.Halt.TheVariants as halt
use Rattle.pa_farkas.specs.Alternatives.{Thinning}
use Rattle.pa_farkas.specs.Answered.{thinned_of}
use Rattle.pa_elim.specs.declared.fault.ElimFault.{ElimFault}
use Rattle.pa_elim.specs.declared.fault.ElimFault.TheVariants as eliminating
use Rattle.pa_elim.specs.Projecting.{Projection, eliminated_of}
use Rattle.pa_cert.specs.Lists.{ComposedAnswer}
use Rattle.pa_holds.specs.Composed.{all_guarantees}
use Rattle.pa_parts.specs.declared.fault.PortsFault.{PortsFault}
use Rattle.pa_parts.specs.declared.fault.PortsFault.TheVariants as naming
use Rattle.pa_parts.specs.Composing.{Ports, ports_of}
use Rattle.pa_discharge.specs.declared.fault.DischargeFault.{DischargeFault}
use Rattle.pa_discharge.specs.declared.fault.DischargeFault.TheVariants as discharging
use Rattle.pa_discharge.specs.Rounds.{Discharged}
use Rattle.pa_discharge.specs.Discharging.{discharged_of}
use Rattle.pa_compose.specs.declared.compose_fault.ComposeFault.{ComposeFault}
use Rattle.pa_compose.specs.declared.compose_fault.ComposeFault.TheVariants as fault
use Rattle.pa_compose.specs.Hiding.{columns_from, named_steps}

-- ---- faults of the steps, as those of a composition
abbrev pub ports_fault : PortsFault → ComposeFault
ports_fault naming.Memory = fault.Memory
ports_fault (naming.PortClash name) = fault.PortClash name
ports_fault (naming.NotOutput name) = fault.NotOutput name
ports_fault (naming.VariableLimit count) = fault.VariableLimit count

abbrev pub discharge_fault : DischargeFault → ComposeFault
discharge_fault discharging.Memory = fault.Memory
discharge_fault (discharging.NoMultipliers s) = fault.NoMultipliers s
discharge_fault (discharging.Circle ss) = fault.Circle ss
discharge_fault (discharging.PivotLimit place) = fault.PivotLimit place
discharge_fault (discharging.Wide place) = fault.Wide place

abbrev pub halted : Halt → ComposeFault
halted halt.Memory = fault.Memory
halted (halt.PivotLimit place) = fault.PivotLimit place
halted (halt.Wide place) = fault.Wide place

abbrev pub elim_fault : ElimFault → ComposeFault
elim_fault eliminating.Memory = fault.Memory
elim_fault (eliminating.RowLimit step count) = fault.RowLimit step count
elim_fault (eliminating.PivotLimit place) = fault.PivotLimit place
elim_fault (eliminating.Wide place) = fault.Wide place

-- ---- the composite
-- rows over n columns without those that the others imply
abbrev pub thinned_rows : ℕ → ℕ → List Row → Result Thinning ComposeFault
thinned_rows n most rows = told_as halted (thinned_of n rows [] most Thin)

-- the columns of the internal outputs, behind those of the external inputs
abbrev pub columns_in : Ports → List ℕ
columns_in ports = columns_from ports.internal (length ports.external) ports.outputs

-- rows over n columns without the internal outputs, within limits of rows and of pivots
abbrev pub projected_rows : Ports → ℕ → ℕ → ℕ → List Row → Result Projection ComposeFault
projected_rows ports limit most n rows = told_as elim_fault (eliminated_of limit most n (columns_in ports) rows)

-- what the parts come to: the discharges, the thinned assumptions and the guarantees
pub record Found : Type 0 where
  pub discharged : Discharged
  pub thinned : Thinning
  pub projected : Projection

abbrev pub rows_of : List Contract → Ports → Nominal → ℕ → ℕ → Result Found ComposeFault
rows_of parts ports nominal limit most =
    and_then (told_as discharge_fault (discharged_of parts nominal most)) (λ d.
    and_then (thinned_rows (length ports.external) most d.assumptions) (λ t.
    and_then (projected_rows ports limit most (length (names_of parts)) (all_guarantees parts)) (λ p.
    Ok (record { discharged = d; thinned = t; projected = p }))))

abbrev pub contract_by : Ports → Found → Contract
contract_by ports f = record { inputs = ports.external; outputs = ports.kept; assumptions = f.thinned.rows; guarantees = f.projected.rows }

abbrev pub answer_by : Ports → Found → ComposedAnswer
answer_by ports f = record {
  contract = contract_by ports f;
  discharges = f.discharged.discharges;
  thin = f.thinned.drops;
  steps = named_steps ports.internal 0 f.projected.steps;
}

abbrev pub composed_with : List Contract → Ports → Nominal → ℕ → ℕ → Result ComposedAnswer ComposeFault
composed_with parts ports nominal limit most = and_then (rows_of parts ports nominal limit most) (λ f. Ok (answer_by ports f))

-- the composite, or the first refusal: of the ports, of more rows than an operation takes, and then of the tasks in their order
abbrev pub composed_of : List Contract → List Name → Nominal → ℕ → ℕ → Result ComposedAnswer ComposeFault
composed_of parts keep nominal limit most =
    and_then (told_as ports_fault (ports_of parts keep)) (λ ports.
    if nat_lt most_rows (sum_by row_count parts) then Err (fault.Load (sum_by row_count parts)) else composed_with parts ports nominal limit most)
