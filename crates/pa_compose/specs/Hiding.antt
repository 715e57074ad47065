-- Which answer on hidden outputs is given exactly, and where a fault stands.
use Rattle.std.specs.Prelude.{ℕ, zero, suc, List, [], ◌∷◌, length, filter, get_or, nat_lt, not, Option, None, Some, Result, Ok, Err, if◌then◌else◌}
use Rattle.pa_math.specs.Answers.{and_then, given, told_as}
use Rattle.pa_meaning.specs.Rows.{Row}
use Rattle.pa_meaning.specs.Contracts.{Name, Contract, ports}
use Rattle.pa_meaning.specs.Composition.{is_among}
use Rattle.pa_witness.specs.Certificates.{Step}
use Rattle.pa_contract.specs.Merge.{row_count, most_rows}
use Rattle.pa_cert.specs.Lists.{NamedStep, HiddenAnswer}
use Rattle.pa_holds.specs.Refusals.{first_missing}
use Rattle.pa_elim.specs.declared.fault.ElimFault.{ElimFault}
use Rattle.pa_elim.specs.declared.fault.ElimFault.TheVariants as eliminating
use Rattle.pa_elim.specs.Projecting.{Projection, eliminated_of}
use Rattle.pa_compose.specs.declared.fault.HideFault.{HideFault}
use Rattle.pa_compose.specs.declared.fault.HideFault.TheVariants as fault

-- ---- the outputs that go
-- in the order in which the contract has them
abbrev pub hidden_names : Contract → List Name → List Name
hidden_names c names = filter (is_among names) c.outputs

-- the columns of those of these outputs that go, of which the first has the column i
abbrev pub columns_from : List Name → ℕ → List Name → List ℕ
columns_from names i [] = []
columns_from names i (n ∷ ns) = if is_among names n then i ∷ columns_from names (suc i) ns else columns_from names (suc i) ns

-- an output's column stands behind those of the inputs
abbrev pub hidden_columns : Contract → List Name → List ℕ
hidden_columns c names = columns_from names (length c.inputs) c.outputs

-- ---- the answer
-- the contract without these outputs, with these rows in the place of its guarantees
abbrev pub without_outputs : Contract → List Name → List Row → Contract
without_outputs c names rows = record {
  inputs = c.inputs;
  outputs = filter (λ name. not (is_among names name)) c.outputs;
  assumptions = c.assumptions;
  guarantees = rows;
}

-- the name of the step with this number: the step of the given rows has none
abbrev pub name_of : List Name → ℕ → Option Name
name_of names zero = None
name_of names (suc i) = Some (get_or names i [])

abbrev pub named_step : List Name → ℕ → Step → NamedStep
named_step names i s = record { name = name_of names i; drops = s.drops }

-- the steps, of which the first has the number i, with their names
abbrev pub named_steps : List Name → ℕ → List Step → List NamedStep
named_steps names i [] = []
named_steps names i (s ∷ steps) = named_step names i s ∷ named_steps names (suc i) steps

abbrev pub hidden_by : Contract → List Name → Projection → HiddenAnswer
hidden_by c names p = record {
  contract = without_outputs c names p.rows;
  steps = named_steps (hidden_names c names) 0 p.steps;
}

-- ---- a hiding
abbrev pub hide_fault : ElimFault → HideFault
hide_fault eliminating.Memory = fault.Memory
hide_fault (eliminating.RowLimit step count) = fault.RowLimit step count
hide_fault (eliminating.PivotLimit place) = fault.PivotLimit place
hide_fault (eliminating.Wide place) = fault.Wide place

-- what is left of the guarantees, within limits of rows and of pivots
abbrev pub guarantees_of : Contract → List Name → ℕ → ℕ → Result Projection HideFault
guarantees_of c names limit most = told_as hide_fault (eliminated_of limit most (length (ports c)) (hidden_columns c names) c.guarantees)

abbrev pub hidden_rows : Contract → List Name → ℕ → ℕ → Result HiddenAnswer HideFault
hidden_rows c names limit most = and_then (guarantees_of c names limit most) (λ p. Ok (hidden_by c names p))

-- the answer, or the first refusal: a name that is no output, more rows than an operation takes
abbrev pub hidden_of : Contract → List Name → ℕ → ℕ → Result HiddenAnswer HideFault
hidden_of c names limit most = given
    (if nat_lt most_rows (row_count c) then Err (fault.Load (row_count c)) else hidden_rows c names limit most)
    (first_missing c.outputs names) (λ name. Err (fault.NotOutput name))
