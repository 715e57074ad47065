-- The answer to each line of a script: the refusal by names, ports or counts that is due first, else what the operation gives.
use Rattle.std.specs.Prelude.{List, [], ◌∷◌, ◌++◌, ℤ, pos, ℕ, ◌≡◌, length, map, Result, Ok, Err, Bool, Option, find, is_none, All, if◌then◌else◌}
use Rattle.std.specs.Ordering.{int_eq}
use Rattle.pa_math.specs.Answers.{given}
use Rattle.pa_meaning.specs.Rows.{Point}
use Rattle.pa_meaning.specs.Contracts.{Name, Contract, ports, coefficient_at}
use Rattle.pa_meaning.specs.Composition.{all_outputs}
use Rattle.pa_meaning.specs.Directions.{Stuck}
use Rattle.pa_contract.specs.Merge.{merge_of}
use Rattle.pa_contract.specs.Testing.{Tested, tested}
use Rattle.pa_contract.specs.Named.{contract_named, contracts_named}
use Rattle.pa_contract.specs.Nominal.{IsNominal}
use Rattle.pa_contract.specs.WellFormed.{IsWellFormed}
use Rattle.pa_contract.specs.declared.fault.MergeFault.{MergeFault}
use Rattle.pa_contract.specs.declared.fault.MergeFault.TheVariants as merging
use Rattle.pa_contract.specs.declared.fault.TestFault.{TestFault}
use Rattle.pa_contract.specs.declared.fault.TestFault.TheVariants as testing
use Rattle.pa_script.specs.declared.op.ScriptLine.{ScriptLine}
use Rattle.pa_script.specs.declared.op.Op.{Op}
use Rattle.pa_script.specs.declared.op.Op.TheVariants.{Merge, Test, Refine, Bound, Hide, Compose, Quotient}
use Rattle.pa_script.specs.Ops.{operands}
use Rattle.pa_row.specs.declared.place.Place.{Place}
use Rattle.pa_row.specs.declared.step.Broken.{Broken}
use Rattle.pa_row.specs.declared.step.Broken.TheVariants.{Assumption, Guarantee}
use Rattle.pa_cert.specs.Lists.{Located, Heading, HiddenAnswer, ComposedAnswer, DividedAnswer, StuckRow}
use Rattle.pa_cert.specs.declared.refusal.NameRefusal.TheVariants.{UnknownPort, PortClash, NotOutput, PortsDiffer, Variables, Rows}
use Rattle.pa_cert.specs.declared.answer.Answer.TheVariants.{Merged, TestedAs, Yes, NoAssumption, NoGuarantee, Value, Unbounded, Nothing}
use Rattle.pa_cert.specs.declared.answer.Answer.TheVariants.{Hidden, Composed, Divided, Refused, NoMultipliers, NoMultipliersFor, Circle}
use Rattle.pa_cert.specs.declared.answer.Answer.TheVariants.{RowLimit, PivotLimit, TooWide}
use Rattle.pa_cert.specs.declared.answer.LineAnswer.{LineAnswer}
use Rattle.pa_cert.specs.declared.answer.LineAnswer.TheVariants.{Set, Unknown, Taken, Answered as AnsweredBy}
use Rattle.pa_cert.specs.Tables.{Table, Answered, advanced}
use Rattle.pa_holds.specs.Refusals.{first_missing}
use Rattle.pa_holds.specs.Tables.{unknown, taken}
use Rattle.pa_refine.specs.declared.answer.Refined.{Refined}
use Rattle.pa_refine.specs.declared.answer.Refined.TheVariants as refined
use Rattle.pa_refine.specs.declared.answer.Bounded.{Bounded}
use Rattle.pa_refine.specs.declared.answer.Bounded.TheVariants as bounded
use Rattle.pa_refine.specs.declared.fault.RefineFault.{RefineFault}
use Rattle.pa_refine.specs.declared.fault.RefineFault.TheVariants as refining
use Rattle.pa_refine.specs.declared.fault.BoundFault.{BoundFault}
use Rattle.pa_refine.specs.declared.fault.BoundFault.TheVariants as bounding
use Rattle.pa_refine.specs.Refining.{refined_of}
use Rattle.pa_refine.specs.Bounding.{bounded_of}
use Rattle.pa_refine.specs.Meant.{at_ports as located_at}
use Rattle.pa_compose.specs.declared.fault.HideFault.{HideFault}
use Rattle.pa_compose.specs.declared.fault.HideFault.TheVariants as hiding
use Rattle.pa_compose.specs.Hiding.{hidden_of}
use Rattle.pa_compose.specs.declared.compose_fault.ComposeFault.{ComposeFault}
use Rattle.pa_compose.specs.declared.compose_fault.ComposeFault.TheVariants as composing
use Rattle.pa_compose.specs.Composing.{composed_of}
use Rattle.pa_quotient.specs.declared.fault.QuotientFault.{QuotientFault}
use Rattle.pa_quotient.specs.declared.fault.QuotientFault.TheVariants as dividing
use Rattle.pa_quotient.specs.Dividing.{divided_of}

-- what a merge tells; want of memory is no answer
abbrev pub merge_answer : Result Contract MergeFault → LineAnswer
merge_answer (Ok m) = AnsweredBy (Merged m)
merge_answer (Err (merging.PortClash name)) = AnsweredBy (Refused (PortClash name))
merge_answer (Err (merging.VariableLimit count)) = AnsweredBy (Refused (Variables count))
merge_answer (Err (merging.Load count)) = AnsweredBy (Refused (Rows count))
merge_answer (Err merging.Memory) = Set

-- what a test tells
abbrev pub words_answer : Result Tested TestFault → LineAnswer
words_answer (Ok t) = AnsweredBy (TestedAs t)
words_answer (Err (testing.Wide place)) = AnsweredBy (TooWide place)
words_answer (Err testing.Memory) = Set

-- the point at the ports of a contract, in their order; a port without a value has 0
abbrev pub at_ports : Contract → List Name → Point → Point
at_ports c names at = record { p = map (coefficient_at names at.p) (ports c); q = at.q }

-- a test, where each name of the point is a port
abbrev pub test_answer : Contract → List Name → Point → LineAnswer
test_answer c names at =
    given (words_answer (tested c (at_ports c names at))) (first_missing (ports c) names) (λ name. AnsweredBy (Refused (UnknownPort name)))

-- a problem that takes more pivots than the limit
abbrev pub limited : Place → LineAnswer
limited place = AnsweredBy (PivotLimit place.task place.sub)

-- ---- refinements
-- the row that a point breaks
abbrev pub broken_answer : Broken → Located → LineAnswer
broken_answer (Assumption row) at = AnsweredBy (NoAssumption row at)
broken_answer (Guarantee row) at = AnsweredBy (NoGuarantee row at)

abbrev pub refined_answer : Contract → Refined → LineAnswer
refined_answer c (refined.Yes assumptions guarantees) = AnsweredBy (Yes assumptions guarantees)
refined_answer c (refined.No of x) = broken_answer of (located_at c x)

-- what a refinement tells
abbrev pub refine_answer : Contract → Result Refined RefineFault → LineAnswer
refine_answer c (Ok r) = refined_answer c r
refine_answer c (Err refining.PortsDiffer) = AnsweredBy (Refused PortsDiffer)
refine_answer c (Err (refining.Load count)) = AnsweredBy (Refused (Rows count))
refine_answer c (Err (refining.PivotLimit place)) = limited place
refine_answer c (Err (refining.Wide place)) = AnsweredBy (TooWide place)
refine_answer c (Err refining.Memory) = Set

-- ---- bounds
-- a heading with one more name and its number, where that is not 0
abbrev pub with_number : Heading → Name → ℤ → Heading
with_number h n d = if int_eq d (pos 0) then h else record { names = h.names ++ n ∷ []; numbers = h.numbers ++ d ∷ [] }

-- a heading with the numbers of these names
abbrev pub with_numbers : Heading → List Name → List ℤ → Heading
with_numbers h [] ds = h
with_numbers h (n ∷ ns) [] = h
with_numbers h (n ∷ ns) (d ∷ ds) = with_numbers (with_number h n d) ns ds

-- a direction over names, by those whose number is not 0
abbrev pub heading_of : List Name → List ℤ → Heading
heading_of names d = with_numbers (record { names = []; numbers = [] }) names d

-- a direction has a number for each column
abbrev pub HasColumns : ℕ → Bounded → Type 0
HasColumns columns (bounded.Unbounded x d) = length d ≡ columns
HasColumns columns b = Unit {0}

abbrev pub bounded_answer : Contract → Bounded → LineAnswer
bounded_answer c (bounded.Value num den w x) = AnsweredBy (Value num den w (located_at c x))
bounded_answer c (bounded.Unbounded x d) = AnsweredBy (Unbounded (located_at c x) (heading_of (ports c) d))
bounded_answer c (bounded.Nothing w) = AnsweredBy (Nothing w)

-- what a bound tells
abbrev pub bound_answer : Contract → Result Bounded BoundFault → LineAnswer
bound_answer c (Ok b) = bounded_answer c b
bound_answer c (Err (bounding.UnknownPort name)) = AnsweredBy (Refused (UnknownPort name))
bound_answer c (Err (bounding.Load count)) = AnsweredBy (Refused (Rows count))
bound_answer c (Err (bounding.PivotLimit place)) = limited place
bound_answer c (Err (bounding.Wide place)) = AnsweredBy (TooWide place)
bound_answer c (Err bounding.Memory) = Set

-- ---- hidings
-- what a hiding tells
abbrev pub hide_answer : Result HiddenAnswer HideFault → LineAnswer
hide_answer (Ok a) = AnsweredBy (Hidden a)
hide_answer (Err (hiding.NotOutput name)) = AnsweredBy (Refused (NotOutput name))
hide_answer (Err (hiding.Load count)) = AnsweredBy (Refused (Rows count))
hide_answer (Err (hiding.RowLimit step count)) = AnsweredBy (RowLimit step count)
hide_answer (Err (hiding.PivotLimit place)) = limited place
hide_answer (Err (hiding.Wide place)) = AnsweredBy (TooWide place)
hide_answer (Err hiding.Memory) = Set

-- ---- compositions
-- no contract has the name; the first of these names that none has
abbrev pub is_unknown : Table → Name → Bool
is_unknown table name = is_none (contract_named table.contracts name)

abbrev pub first_unknown : Table → List Name → Option Name
first_unknown table names = find (is_unknown table) names

-- a stuck assumption, with its direction by the outputs of the parts
abbrev pub stuck_row : List Contract → Stuck → StuckRow
stuck_row parts s = record { part = s.part; row = s.row; direction = heading_of (all_outputs parts) s.direction }

abbrev pub stuck_rows : List Contract → List Stuck → List StuckRow
stuck_rows parts ss = map (stuck_row parts) ss

-- what a composition tells
abbrev pub refusal_answer : List Contract → ComposeFault → LineAnswer
refusal_answer parts (composing.PortClash name) = AnsweredBy (Refused (PortClash name))
refusal_answer parts (composing.NotOutput name) = AnsweredBy (Refused (NotOutput name))
refusal_answer parts (composing.VariableLimit count) = AnsweredBy (Refused (Variables count))
refusal_answer parts (composing.Load count) = AnsweredBy (Refused (Rows count))
refusal_answer parts (composing.NoMultipliers s) = AnsweredBy (NoMultipliers (stuck_row parts s))
refusal_answer parts (composing.Circle ss) = AnsweredBy (Circle (stuck_rows parts ss))
refusal_answer parts (composing.RowLimit step count) = AnsweredBy (RowLimit step count)
refusal_answer parts (composing.PivotLimit place) = limited place
refusal_answer parts (composing.Wide place) = AnsweredBy (TooWide place)
refusal_answer parts composing.Memory = Set

abbrev pub compose_answer : List Contract → Result ComposedAnswer ComposeFault → LineAnswer
compose_answer parts (Ok a) = AnsweredBy (Composed a)
compose_answer parts (Err f) = refusal_answer parts f

-- ---- quotients
-- a direction has a number for each output of the part
abbrev pub HasOutputs : Contract → QuotientFault → Type 0
HasOutputs part (dividing.NoMultipliers row d) = length d ≡ length part.outputs
HasOutputs part other = Unit {0}

-- what a quotient by the part tells
abbrev pub undivided_answer : Contract → QuotientFault → LineAnswer
undivided_answer part (dividing.PortClash name) = AnsweredBy (Refused (PortClash name))
undivided_answer part (dividing.VariableLimit count) = AnsweredBy (Refused (Variables count))
undivided_answer part (dividing.Load count) = AnsweredBy (Refused (Rows count))
undivided_answer part (dividing.NoMultipliers row d) = AnsweredBy (NoMultipliersFor row (heading_of part.outputs d))
undivided_answer part (dividing.PivotLimit place) = limited place
undivided_answer part (dividing.Wide place) = AnsweredBy (TooWide place)
undivided_answer part dividing.Memory = Set

abbrev pub quotient_answer : Contract → Result DividedAnswer QuotientFault → LineAnswer
quotient_answer part (Ok a) = AnsweredBy (Divided a)
quotient_answer part (Err f) = undivided_answer part f

-- ---- any line
-- what an operation gives on the contracts that it names
abbrev pub answer_on : Table → Op → List Contract → LineAnswer
answer_on table (Merge result left right) (a ∷ b ∷ []) = merge_answer (merge_of a b)
answer_on table (Test of names at) (c ∷ []) = test_answer c names at
answer_on table (Refine left right) (a ∷ b ∷ []) = refine_answer a (refined_of a b table.limits.pivots)
answer_on table (Bound of least goal) (c ∷ []) = bound_answer c (bounded_of c goal least table.limits.pivots)
answer_on table (Hide result of names) (c ∷ []) = hide_answer (hidden_of c names table.limits.rows table.limits.pivots)
answer_on table (Compose result names keep) parts = compose_answer parts (composed_of parts keep table.nominal table.limits.rows table.limits.pivots)
answer_on table (Quotient result whole part) (a ∷ b ∷ []) = quotient_answer b (divided_of a b table.nominal table.limits.pivots)
answer_on table op contracts = Set

-- the answer to an operation over a table: a contract that is not there, then a result's name that is not free, then what the
-- operation gives
abbrev pub answer_of : Table → Op → LineAnswer
answer_of table op = given
    (given (given Set (contracts_named table.contracts (operands op)) (answer_on table op)) (taken table.contracts op) Taken)
    (unknown table.contracts op) Unknown

-- a line with its answer
abbrev pub answered : Table → ScriptLine → Answered
answered table line = record { line = line; answer = answer_of table line.op }

-- the table past the answer to a line
abbrev pub past : Table → ScriptLine → Table
past table line = advanced table line.op (answer_of table line.op)

-- the lines with their answers, each over the table that the earlier answers leave
abbrev pub answers_from : Table → List ScriptLine → List Answered
answers_from table [] = []
answers_from table (line ∷ lines) = answered table line ∷ answers_from (past table line) lines

-- each contract of the table is well formed, and its nominal values are fractions, one for each name
pub record AreFormed (table : Table) : Type 0 where
  pub contracts : All (λ named. IsWellFormed named.contract) table.contracts
  pub nominal : IsNominal table.nominal
