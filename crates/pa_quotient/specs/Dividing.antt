-- Which answer on a quotient is given exactly, and where a fault stands: the whole's guarantees are brought to the quotient's ports one after another,
-- and then they and the part's assumptions are thinned in the context of the whole's assumptions.
use Rattle.std.specs.Prelude.{ℕ, ◌+◌, List, ◌++◌, length, map, nat_lt, Result, Ok, Err, if◌then◌else◌}
use Rattle.pa_math.specs.Answers.{and_then, given, told_as}
use Rattle.pa_meaning.specs.Rows.{Row, Point}
use Rattle.pa_meaning.specs.Weights.{Weights}
use Rattle.pa_meaning.specs.Contracts.{Name, Contract}
use Rattle.pa_meaning.specs.Composition.{assumptions_over, guarantees_over}
use Rattle.pa_meaning.specs.Quotient.{quotient_outputs, quotient_ports, quotient_names, narrows}
use Rattle.pa_names.specs.Names.{most_ports}
use Rattle.pa_contract.specs.Merge.{row_count, most_rows}
use Rattle.pa_contract.specs.Nominal.{Nominal}
use Rattle.pa_row.specs.declared.place.Group.TheVariants.{Thin}
use Rattle.pa_row.specs.declared.place.Halt.{Halt}
use Rattle.pa_row.specs.declared.place.Halt.TheVariants as halt
use Rattle.pa_farkas.specs.Alternatives.{Thinning}
use Rattle.pa_farkas.specs.Answered.{thinned_of}
use Rattle.pa_shift.specs.Shifting.{Premises}
use Rattle.pa_trial.specs.declared.trial.Trial.{Trial}
use Rattle.pa_trial.specs.declared.trial.Trial.TheVariants.{Through, Stopped}
use Rattle.pa_trial.specs.declared.trial.Turn.TheVariants.{InRound}
use Rattle.pa_trial.specs.Lefts.{Lefts}
use Rattle.pa_trial.specs.Trying.{nominal_in, tried_of}
use Rattle.pa_cert.specs.Lists.{DividedAnswer}
use Rattle.pa_holds.specs.Refusals.{first_shared}
use Rattle.pa_quotient.specs.declared.fault.QuotientFault.{QuotientFault}
use Rattle.pa_quotient.specs.declared.fault.QuotientFault.TheVariants as fault

abbrev pub halted : Halt → QuotientFault
halted halt.Memory = fault.Memory
halted (halt.PivotLimit place) = fault.PivotLimit place
halted (halt.Wide place) = fault.Wide place

-- ---- the shifts
-- the part's guarantees over all names, and a nominal point of the quotient's ports
abbrev pub premises_of : Contract → Contract → Point → Premises
premises_of whole part x = record { nominal = x; rows = guarantees_over (quotient_names whole part) part }

-- by how the trial of the whole's guarantees ends: the first without weights refuses the quotient
abbrev pub lefts_by : Trial → Result Lefts QuotientFault
lefts_by (Through lefts) = Ok lefts
lefts_by (Stopped row d) = Err (fault.NoMultipliers row d)

-- what is left of the whole's guarantees over the quotient's ports, row by row; there is one round, and the part is the first
abbrev pub lefts_over : Contract → Contract → ℕ → Point → Result Lefts QuotientFault
lefts_over whole part most x =
    and_then (told_as halted (tried_of (premises_of whole part x) most (InRound 0) 0 (guarantees_over (quotient_names whole part) whole))) lefts_by

abbrev pub lefts_of : Contract → Contract → Nominal → ℕ → Result Lefts QuotientFault
lefts_of whole part nominal most =
    and_then (told_as halted (nominal_in nominal (quotient_ports whole part))) (λ x. lefts_over whole part most x)

-- ---- the thinning
-- the part's assumptions come first
abbrev pub asked_with : Contract → Contract → List Row → List Row
asked_with whole part left = assumptions_over (quotient_ports whole part) part ++ left

abbrev pub thinned_with : Contract → Contract → ℕ → List Row → Result Thinning QuotientFault
thinned_with whole part most left =
    told_as halted (thinned_of (length (quotient_ports whole part)) (asked_with whole part left) (assumptions_over (quotient_ports whole part) whole) most Thin)

-- ---- the quotient
abbrev pub contract_with : Contract → List Name → List Row → Contract
contract_with whole outputs rows = record { inputs = whole.inputs; outputs = outputs; assumptions = whole.assumptions; guarantees = rows }

abbrev pub answer_with : Contract → List Name → List Weights → Thinning → DividedAnswer
answer_with whole outputs shifts t = record {
  contract = contract_with whole outputs t.rows;
  narrow = map (narrows (contract_with whole outputs t.rows)) t.rows;
  shifts = shifts;
  thin = t.drops;
}

abbrev pub divided_with : Contract → Contract → Nominal → ℕ → Result DividedAnswer QuotientFault
divided_with whole part nominal most =
    and_then (lefts_of whole part nominal most) (λ l.
    and_then (thinned_with whole part most l.rows) (λ t. Ok (answer_with whole (quotient_outputs whole part) l.weights t)))

-- the quotient, or the first refusal: an output of the part that is an input of the whole, more names or more rows than an operation takes, and then of
-- the tasks in their order
abbrev pub divided_of : Contract → Contract → Nominal → ℕ → Result DividedAnswer QuotientFault
divided_of whole part nominal most = given
    (if nat_lt most_ports (length (quotient_names whole part)) then Err (fault.VariableLimit (length (quotient_names whole part)))
    else if nat_lt most_rows (row_count whole + row_count part) then Err (fault.Load (row_count whole + row_count part))
    else divided_with whole part nominal most)
    (first_shared whole.inputs part.outputs) (λ name. Err (fault.PortClash name))
