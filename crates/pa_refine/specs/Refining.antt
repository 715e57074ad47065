-- Which answer on a refinement is given exactly, and where a fault stands.
use Rattle.std.specs.Prelude.{ℕ, ◌+◌, ◌&&◌, List, ◌++◌, length, take, nat_lt, Bool, Result, Ok, Err, if◌then◌else◌}
use Rattle.pa_meaning.specs.Rows.{Row}
use Rattle.pa_meaning.specs.Weights.{Weights}
use Rattle.pa_meaning.specs.Contracts.{Contract, ports}
use Rattle.pa_meaning.specs.Composition.{assumptions_over, guarantees_over}
use Rattle.pa_row.specs.declared.place.Task.TheVariants.{Cover}
use Rattle.pa_row.specs.declared.place.Halt.{Halt}
use Rattle.pa_row.specs.declared.place.Halt.TheVariants as halt
use Rattle.pa_row.specs.declared.step.Broken.TheVariants.{Assumption, Guarantee}
use Rattle.pa_tableau.specs.Arithmetic.{each}
use Rattle.pa_contract.specs.Merge.{row_count, most_rows}
use Rattle.pa_holds.specs.Refusals.{are_same_names}
use Rattle.pa_farkas.specs.declared.implication.Verdict.{Verdict}
use Rattle.pa_farkas.specs.declared.implication.Verdict.TheVariants as verdict
use Rattle.pa_farkas.specs.Answered.{implied_of}
use Rattle.pa_refine.specs.declared.answer.Refined.{Refined}
use Rattle.pa_refine.specs.declared.answer.Refined.TheVariants.{Yes, No}
use Rattle.pa_refine.specs.declared.covering.Stop.{Stop}
use Rattle.pa_refine.specs.declared.covering.Stop.TheVariants.{Broken, Halted}
use Rattle.pa_refine.specs.declared.fault.RefineFault.{RefineFault}
use Rattle.pa_refine.specs.declared.fault.RefineFault.TheVariants as fault

-- ---- lists of rows
-- the rows of two contracts over the ports of the first: what may be used, of which so many are assumptions, and what is to be shown
pub record Lists : Type 0 where
  pub premises : List Row
  pub assumed : ℕ
  pub assumptions : List Row
  pub guarantees : List Row

-- the other's assumptions and then c's guarantees imply the other's guarantees; the first of these alone imply c's assumptions
abbrev pub lists_of : Contract → Contract → Lists
lists_of c other = record {
  premises = assumptions_over (ports c) other ++ c.guarantees;
  assumed = length other.assumptions;
  assumptions = assumptions_over (ports c) c;
  guarantees = guarantees_over (ports c) other;
}

-- ---- rows that are implied
-- a verdict on the row with this place in its list
abbrev pub by_verdict : ℕ → Result Verdict Halt → Result Weights Stop
by_verdict place (Ok (verdict.Yes w)) = Ok w
by_verdict place (Ok (verdict.Empty w)) = Ok w
by_verdict place (Ok (verdict.No x)) = Err (Broken place x)
by_verdict place (Err h) = Err (Halted h)

-- the weights of the row with this number and this place
abbrev pub proof_of : List Row → ℕ → ℕ → ℕ → Row → Result Weights Stop
proof_of premises most number place row = by_verdict place (implied_of premises row most (Cover number))

-- the weights of each row, numbered from the first on, or the first row that is broken, or a fault before it
abbrev pub proofs_of : List Row → ℕ → ℕ → List Row → Result (List Weights) Stop
proofs_of premises most first rows = each (λ place row. proof_of premises most (first + place) place row) 0 rows

-- want of memory
abbrev pub no_memory : Stop
no_memory = Halted halt.Memory

-- ---- a refinement
abbrev pub refine_fault : Halt → RefineFault
refine_fault halt.Memory = fault.Memory
refine_fault (halt.PivotLimit place) = fault.PivotLimit place
refine_fault (halt.Wide place) = fault.Wide place

abbrev pub no_assumption : Stop → Result Refined RefineFault
no_assumption (Broken row x) = Ok (No (Assumption row) x)
no_assumption (Halted h) = Err (refine_fault h)

abbrev pub no_guarantee : Stop → Result Refined RefineFault
no_guarantee (Broken row x) = Ok (No (Guarantee row) x)
no_guarantee (Halted h) = Err (refine_fault h)

-- the weights of a list and what they lead to, or what its stop does
abbrev pub settled : {A : Type 0} → (Stop → Result A RefineFault) → Result (List Weights) Stop → (List Weights → Result A RefineFault) → Result A RefineFault
settled stopped (Ok ws) next = next ws
settled stopped (Err stop) next = stopped stop

-- the assumptions over the first premises, and then the guarantees over all, the rows numbered through
abbrev pub covering_of : Lists → ℕ → Result Refined RefineFault
covering_of lists most =
    settled no_assumption (proofs_of (take lists.assumed lists.premises) most 0 lists.assumptions) (λ assumptions.
    settled no_guarantee (proofs_of lists.premises most (length lists.assumptions) lists.guarantees) (λ guarantees.
    Ok (Yes assumptions guarantees)))

-- the same inputs and the same outputs, up to their order
abbrev pub have_same_ports : Contract → Contract → Bool
have_same_ports c other = are_same_names c.inputs other.inputs && are_same_names c.outputs other.outputs

-- the answer, or the first refusal: other ports, more rows than an operation takes
abbrev pub refined_of : Contract → Contract → ℕ → Result Refined RefineFault
refined_of c other most =
    if have_same_ports c other
    then (if nat_lt most_rows (row_count c + row_count other) then Err (fault.Load (row_count c + row_count other)) else covering_of (lists_of c other) most)
    else Err fault.PortsDiffer
