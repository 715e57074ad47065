-- Script lines over a table of contracts: the question that a line asks, and which answers to it are true.
use Rattle.std.specs.Prelude.{◌≡◌, List, [], ◌∷◌, Option, Some, None, option_map, option_and_then, find, is_none, is_some}
use Rattle.std.specs.Prelude.{if◌then◌else◌, All}
use Rattle.std.specs.List.{IsDistinct}
use Rattle.std.specs.Str.{bytes_eq}
use Rattle.pa_meaning.specs.Contracts.{Name, Named, ports}
use Rattle.pa_witness.specs.Steps.{Version}
use Rattle.pa_contract.specs.Named.{contract_named, contracts_named}
use Rattle.pa_script.specs.declared.op.Op.{Op}
use Rattle.pa_script.specs.declared.op.Op.TheVariants.{LimitRows, LimitPivots, Merge, Test, Refine, Bound, Hide, Compose, Quotient}
use Rattle.pa_script.specs.Ops.{operands, result_of}
use Rattle.pa_cert.specs.declared.answer.LineAnswer.{LineAnswer}
use Rattle.pa_cert.specs.declared.answer.LineAnswer.TheVariants.{Set, Unknown, Taken, Answered as AnsweredBy}
use Rattle.pa_cert.specs.Tables.{Table, Answered, advanced}
use Rattle.pa_holds.specs.Questions.{Question, Merging, Testing, Refining, Bounding, Hiding, Composing, Dividing}
use Rattle.pa_holds.specs.Answers.{IsTrueAnswer, HoldsAsPrinted}

-- the question that the operation asks, where its contracts are there
abbrev pub question_of : List Named → Op → Option Question
question_of contracts (LimitRows n) = None
question_of contracts (LimitPivots n) = None
question_of contracts (Merge result left right) =
    option_and_then (λ c. option_map (λ d. Merging c d) (contract_named contracts right)) (contract_named contracts left)
question_of contracts (Test of names x) = option_map (λ c. Testing c names x) (contract_named contracts of)
question_of contracts (Refine left right) =
    option_and_then (λ c. option_map (λ d. Refining c d) (contract_named contracts right)) (contract_named contracts left)
question_of contracts (Bound of least goal) = option_map (λ c. Bounding c goal least) (contract_named contracts of)
question_of contracts (Hide result of names) = option_map (λ c. Hiding c names) (contract_named contracts of)
question_of contracts (Compose result parts keep) = option_map (λ ps. Composing ps keep) (contracts_named contracts parts)
question_of contracts (Quotient result whole part) =
    option_and_then (λ c. option_map (λ d. Dividing c d) (contract_named contracts part)) (contract_named contracts whole)

-- the first contract that is not there; the result's name, where a contract has it
abbrev pub unknown : List Named → Op → Option Name
unknown contracts op = find (λ n. is_none (contract_named contracts n)) (operands op)

abbrev pub taken : List Named → Op → Option Name
taken contracts op = option_and_then (λ n. if is_some (contract_named contracts n) then Some n else None) (result_of op)

-- ---- true of the table, and as printed
abbrev pub IsTrueOf : Table → Op → LineAnswer → Type 0
IsTrueOf table (LimitRows n) Set = Unit {0}
IsTrueOf table (LimitPivots n) Set = Unit {0}
IsTrueOf table op Set = ⊥
IsTrueOf table op (Unknown n) = unknown table.contracts op ≡ Some n
IsTrueOf table op (Taken n) = (unknown table.contracts op ≡ None) × (taken table.contracts op ≡ Some n)
IsTrueOf table op (AnsweredBy a) = (taken table.contracts op ≡ None) × ((q : Question) × (question_of table.contracts op ≡ Some q) × IsTrueAnswer q a)

abbrev pub HoldsOver : Version → Table → Op → LineAnswer → Type 0
HoldsOver v table (LimitRows n) Set = Unit {0}
HoldsOver v table (LimitPivots n) Set = Unit {0}
HoldsOver v table op Set = ⊥
HoldsOver v table op (Unknown n) = unknown table.contracts op ≡ Some n
HoldsOver v table op (Taken n) = (unknown table.contracts op ≡ None) × (taken table.contracts op ≡ Some n)
HoldsOver v table op (AnsweredBy a) =
    (taken table.contracts op ≡ None)
    × ((q : Question) × (question_of table.contracts op ≡ Some q) × HoldsAsPrinted v table.limits q a)

-- ---- a report
-- each answer of a report is true of the table before it; each holds there as it is printed
abbrev pub AreTrue : Table → List Answered → Type 0
AreTrue table [] = Unit {0}
AreTrue table (l ∷ lines) = IsTrueOf table l.line.op l.answer × AreTrue (advanced table l.line.op l.answer) lines

abbrev pub HoldEach : Version → Table → List Answered → Type 0
HoldEach v table [] = Unit {0}
HoldEach v table (l ∷ lines) = HoldsOver v table l.line.op l.answer × HoldEach v (advanced table l.line.op l.answer) lines

-- in each contract no name stands twice
abbrev pub AreWellFormed : List Named → Type 0
AreWellFormed contracts = All (λ named. IsDistinct bytes_eq (ports named.contract)) contracts
