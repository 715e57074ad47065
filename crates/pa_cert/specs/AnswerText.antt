-- The texts of answers and of the report. Each definition is a line, or lines, of the report.
use Rattle.std.specs.Prelude.{ℕ, ◌+◌, ℤ, List, [], ◌∷◌, ◌++◌, codes, decimal, length}
use Rattle.std.specs.Prelude.{flat_map, Bool, false, Option, Some, None, if◌then◌else◌, slice_get, unwrap_or}
use Rattle.std.specs.Fmt.{signed_decimal}
use Rattle.pa_meaning.specs.Rows.{Row}
use Rattle.pa_meaning.specs.Weights.{Weights}
use Rattle.pa_meaning.specs.Contracts.{Name, Contract, ports}
use Rattle.pa_row.specs.Steps.{Dropped, Discharge}
use Rattle.pa_contract.specs.Testing.{Tested}
use Rattle.pa_term.specs.RowText.{row_text}
use Rattle.pa_script.specs.declared.op.Op.{Op}
use Rattle.pa_script.specs.declared.op.Op.TheVariants.{Compose}
use Rattle.pa_script.specs.LineText.{op_text, words_text, fraction_text}
use Rattle.pa_cert.specs.Lists.{Located, Heading, NamedStep, StuckRow, HiddenAnswer, ComposedAnswer, DividedAnswer}
use Rattle.pa_cert.specs.Tables.{Answered}
use Rattle.pa_cert.specs.PlaceText.{task_line, too_wide_line}
use Rattle.pa_cert.specs.declared.refusal.NameRefusal.{NameRefusal}
use Rattle.pa_cert.specs.declared.refusal.NameRefusal.TheVariants.{UnknownPort, PortClash, NotOutput, PortsDiffer, Variables, Rows}
use Rattle.pa_cert.specs.declared.answer.Answer.{Answer}
use Rattle.pa_cert.specs.declared.answer.Answer.TheVariants.{Merged, TestedAs, Yes, NoAssumption, NoGuarantee, Value, Unbounded, Nothing}
use Rattle.pa_cert.specs.declared.answer.Answer.TheVariants.{Hidden, Composed, Divided, Refused, NoMultipliers, NoMultipliersFor, Circle, RowLimit, PivotLimit, TooWide}
use Rattle.pa_cert.specs.declared.answer.LineAnswer.{LineAnswer}
use Rattle.pa_cert.specs.declared.answer.LineAnswer.TheVariants.{Set, Unknown, Taken, Answered as AnsweredBy}

-- ---- numbers and names

-- the lines of the elements, each with its place, the first of which is this one
abbrev pub numbered : {A : Type 0} → (ℕ → A → List ℕ) → ℕ → List A → List ℕ
numbered line place [] = []
numbered line place (x ∷ xs) = line place x ++ numbered line (place + 1) xs

-- a weight, as ` 3:5` for the numerator 5 at place 3
abbrev pub part_text : ℕ × ℤ → List ℕ
part_text part = codes " " ++ decimal part.0 ++ codes ":" ++ signed_decimal part.1

abbrev pub parts_text : List (ℕ × ℤ) → List ℕ
parts_text parts = flat_map part_text parts

-- the denominator, and the weights by their places
abbrev pub weights_text : Weights → List ℕ
weights_text w = signed_decimal w.den ++ parts_text w.parts

-- a name with its number
abbrev pub pair_text : Name → ℤ → List ℕ
pair_text name n = codes " " ++ name ++ codes "=" ++ signed_decimal n

-- names with their numbers, as ` x=-3 y=2`, as far as both go
abbrev pub pairs_text : List Name → List ℤ → List ℕ
pairs_text [] numbers = []
pairs_text (name ∷ names) [] = []
pairs_text (name ∷ names) (n ∷ numbers) = pair_text name n ++ pairs_text names numbers

-- the common denominator, and the numerators by their names
abbrev pub point_line : Located → List ℕ
point_line l = codes "point " ++ signed_decimal l.at.q ++ pairs_text l.names l.at.p ++ codes "\n"

abbrev pub direction_line : Heading → List ℕ
direction_line h = codes "direction" ++ pairs_text h.names h.numbers ++ codes "\n"

-- a word, and then weights
abbrev pub weights_line : List ℕ → Weights → List ℕ
weights_line word w = word ++ weights_text w ++ codes "\n"

abbrev pub shift_line : Weights → List ℕ
shift_line w = weights_line (codes "shift ") w

abbrev pub shifts_text : List Weights → List ℕ
shifts_text shifts = flat_map shift_line shifts

-- a row that is dropped, and the weights that prove it
abbrev pub drop_line : Dropped → List ℕ
drop_line d = codes "drop " ++ decimal d.row ++ codes " " ++ weights_text d.weights ++ codes "\n"

abbrev pub drops_text : List Dropped → List ℕ
drops_text drops = flat_map drop_line drops

-- the rows that are thinned, without a step
abbrev pub thin_text : List Dropped → List ℕ
thin_text drops = codes "thin\n" ++ drops_text drops

-- the name that goes, and `-` for the given rows
abbrev pub step_name : Option Name → List ℕ
step_name None = codes "-"
step_name (Some name) = name

abbrev pub step_text : NamedStep → List ℕ
step_text s = codes "step " ++ step_name s.name ++ codes "\n" ++ drops_text s.drops

abbrev pub steps_text : List NamedStep → List ℕ
steps_text steps = flat_map step_text steps

-- a word, and then a name, a number, or names with a space before each
abbrev pub name_line : List ℕ → Name → List ℕ
name_line word name = word ++ name ++ codes "\n"

abbrev pub count_line : List ℕ → ℕ → List ℕ
count_line word count = word ++ decimal count ++ codes "\n"

abbrev pub names_line : List ℕ → List Name → List ℕ
names_line word names = word ++ words_text names ++ codes "\n"

-- ---- contracts

-- a word, and then the row over the names
abbrev pub row_line : List ℕ → List Name → Row → List ℕ
row_line word names row = word ++ row_text names row ++ codes "\n"

abbrev pub rows_lines : List ℕ → List Name → List Row → List ℕ
rows_lines word names rows = flat_map (row_line word names) rows

-- the word of a guarantee; one that is marked narrows the inputs
abbrev pub guarantee_word : Bool → List ℕ
guarantee_word marked = if marked then codes "narrows " else codes "guarantee "

-- whether there is a mark at a place
abbrev pub is_marked : List Bool → ℕ → Bool
is_marked marks place = unwrap_or (slice_get marks place) false

abbrev pub guarantee_line : List Bool → List Name → ℕ → Row → List ℕ
guarantee_line marks names place row = row_line (guarantee_word (is_marked marks place)) names row

abbrev pub guarantees_text : List Bool → List Name → ℕ → List Row → List ℕ
guarantees_text marks names place rows = numbered (guarantee_line marks names) place rows

-- the ports, and then the rows over them, the guarantees by their marks
abbrev pub marked_text : List Bool → Contract → List ℕ
marked_text marks c = names_line (codes "inputs") c.inputs ++ names_line (codes "outputs") c.outputs
    ++ rows_lines (codes "assume ") c.inputs c.assumptions ++ guarantees_text marks (ports c) 0 c.guarantees

-- and without a mark
abbrev pub contract_text : Contract → List ℕ
contract_text c = marked_text [] c

-- ---- tests, refinements and bounds

-- whether a row is met
abbrev pub word_line : List ℕ → ℕ → Bool → List ℕ
word_line kind place met = kind ++ decimal place ++ (if met then codes " met\n" else codes " broken\n")

abbrev pub words_lines : List ℕ → ℕ → List Bool → List ℕ
words_lines kind place words = numbered (word_line kind) place words

-- whether the point keeps the contract, and a word for each row
abbrev pub tested_text : Tested → List ℕ
tested_text t = (if t.keeps then codes "keeps\n" else codes "breaks\n")
    ++ words_lines (codes "assume ") 0 t.assumptions ++ words_lines (codes "guarantee ") 0 t.guarantees

-- weights that prove the row at a place
abbrev pub proof_line : List ℕ → ℕ → Weights → List ℕ
proof_line kind place w = kind ++ decimal place ++ codes " " ++ weights_text w ++ codes "\n"

abbrev pub proofs_lines : List ℕ → ℕ → List Weights → List ℕ
proofs_lines kind place proofs = numbered (proof_line kind) place proofs

abbrev pub yes_text : List Weights → List Weights → List ℕ
yes_text assumptions guarantees =
    codes "yes\n" ++ proofs_lines (codes "proof assume ") 0 assumptions ++ proofs_lines (codes "proof guarantee ") 0 guarantees

abbrev pub no_text : List ℕ → ℕ → Located → List ℕ
no_text kind row at = count_line kind row ++ point_line at

-- a bound
abbrev pub bound_line : ℤ → ℤ → List ℕ
bound_line num den = codes "value " ++ fraction_text num den ++ codes "\n"

-- the weights that prove a bound, and the point that takes it
abbrev pub shown_text : Weights → Located → List ℕ
shown_text w at = weights_line (codes "weights ") w ++ point_line at

abbrev pub value_text : ℤ → ℤ → Weights → Located → List ℕ
value_text num den w at = bound_line num den ++ shown_text w at

abbrev pub unbounded_text : Located → Heading → List ℕ
unbounded_text at h = codes "unbounded\n" ++ point_line at ++ direction_line h

abbrev pub nothing_text : Weights → List ℕ
nothing_text w = codes "nothing\n" ++ weights_line (codes "weights ") w

-- ---- hidden outputs, compositions and quotients

abbrev pub hidden_text : HiddenAnswer → List ℕ
hidden_text a = contract_text a.contract ++ steps_text a.steps

-- the name that a composition's line has at a place; a place without a part has none
abbrev pub part_name : Op → ℕ → Name
part_name (Compose result parts keep) place = unwrap_or (slice_get parts place) []
part_name op place = []

-- a part by its name in the line, its round, and weights for each of its assumptions
abbrev pub discharge_text : Op → ℕ → Discharge → List ℕ
discharge_text op place d = codes "part " ++ part_name op place ++ count_line (codes " ") d.round ++ shifts_text d.shifts

abbrev pub discharges_text : Op → ℕ → List Discharge → List ℕ
discharges_text op place ds = numbered (discharge_text op) place ds

abbrev pub composed_text : Op → ComposedAnswer → List ℕ
composed_text op a = contract_text a.contract ++ discharges_text op 0 a.discharges ++ thin_text a.thin ++ steps_text a.steps

abbrev pub divided_text : DividedAnswer → List ℕ
divided_text a = marked_text a.narrow a.contract ++ shifts_text a.shifts ++ thin_text a.thin

-- ---- refusals

abbrev pub refusal_text : NameRefusal → List ℕ
refusal_text (UnknownPort name) = name_line (codes "refused unknown-port ") name
refusal_text (PortClash name) = name_line (codes "refused port-clash ") name
refusal_text (NotOutput name) = name_line (codes "refused not-output ") name
refusal_text PortsDiffer = codes "refused ports-differ\n"
refusal_text (Variables count) = count_line (codes "refused variables ") count
refusal_text (Rows count) = count_line (codes "refused rows ") count

-- a part by its name in the line, its assumption, and the direction that sticks it
abbrev pub stuck_text : List ℕ → Op → StuckRow → List ℕ
stuck_text word op s = word ++ part_name op s.part ++ codes " " ++ decimal s.row ++ codes "\n" ++ direction_line s.direction

abbrev pub stuck_row_text : ℕ → Heading → List ℕ
stuck_row_text row h = count_line (codes "refused no-multipliers ") row ++ direction_line h

abbrev pub all_stuck_text : Op → List StuckRow → List ℕ
all_stuck_text op stuck = flat_map (stuck_text (codes "stuck ") op) stuck

abbrev pub circle_text : Op → List StuckRow → List ℕ
circle_text op stuck = codes "refused circle\n" ++ all_stuck_text op stuck

-- a word, a step, and how many rows it would have
abbrev pub step_line : List ℕ → ℕ → ℕ → List ℕ
step_line word step count = word ++ decimal step ++ codes " " ++ decimal count ++ codes "\n"

-- ---- answers

-- what an answer to an operation says
abbrev pub body_text : Op → Answer → List ℕ
body_text op (Merged c) = contract_text c
body_text op (TestedAs t) = tested_text t
body_text op (Yes assumptions guarantees) = yes_text assumptions guarantees
body_text op (NoAssumption row at) = no_text (codes "no assume ") row at
body_text op (NoGuarantee row at) = no_text (codes "no guarantee ") row at
body_text op (Value num den w at) = value_text num den w at
body_text op (Unbounded at h) = unbounded_text at h
body_text op (Nothing w) = nothing_text w
body_text op (Hidden a) = hidden_text a
body_text op (Composed a) = composed_text op a
body_text op (Divided a) = divided_text a
body_text op (Refused r) = refusal_text r
body_text op (NoMultipliers s) = stuck_text (codes "refused no-multipliers ") op s
body_text op (NoMultipliersFor row h) = stuck_row_text row h
body_text op (Circle ss) = circle_text op ss
body_text op (RowLimit step count) = step_line (codes "refused row-limit ") step count
body_text op (PivotLimit task part) = task_line (codes "refused pivot-limit ") task part
body_text op (TooWide place) = too_wide_line place

abbrev pub line_body : Op → LineAnswer → List ℕ
line_body op Set = codes "ok\n"
line_body op (AnsweredBy a) = body_text op a
line_body op (Unknown name) = name_line (codes "refused unknown ") name
line_body op (Taken name) = name_line (codes "refused taken ") name

-- the line with its number, as it is in the script, and then what its answer says
abbrev pub answer_text : Answered → List ℕ
answer_text a = codes "@" ++ decimal a.line.number ++ codes " " ++ op_text a.line.op ++ codes "\n" ++ line_body a.line.op a.answer

-- ---- reports

-- the first line, and the last one with the number of answers
abbrev pub first_line : List ℕ
first_line = codes "pacti report 2\n"

abbrev pub end_line : ℕ → List ℕ
end_line count = count_line (codes "end ") count

-- the first line, the answers in the order of the script, and the number of answers
abbrev pub report_of : List Answered → List ℕ
report_of answers = first_line ++ flat_map answer_text answers ++ end_line (length answers)
