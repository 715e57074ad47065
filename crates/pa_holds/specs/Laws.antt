-- What holds as printed is true. Each law is the clause of a function of its name in `src/laws.rt`.
use Rattle.std.specs.Prelude.{◌≡◌, ◌≤◌, List, [], ◌∷◌, All, Some}
use Rattle.pa_meaning.specs.Contracts.{Contract}
use Rattle.pa_witness.specs.Steps.{Version}
use Rattle.pa_contract.specs.Merge.{most_rows}
use Rattle.pa_contract.specs.WellFormed.{IsWellFormed}
use Rattle.pa_script.specs.declared.op.Op.{Op}
use Rattle.pa_script.specs.Ops.{IsWellFormedOp}
use Rattle.pa_cert.specs.declared.answer.Answer.{Answer}
use Rattle.pa_cert.specs.declared.answer.LineAnswer.{LineAnswer}
use Rattle.pa_cert.specs.Tables.{Limits, Table, Answered, contract_of}
use Rattle.pa_holds.specs.Questions.{Question, Merging, Testing, Refining, Bounding, Hiding, Composing, Dividing}
use Rattle.pa_holds.specs.Answers.{IsWellAsked, HoldsAsPrinted, IsTrueAnswer}
use Rattle.pa_holds.specs.Tables.{AreWellFormed, HoldsOver, IsTrueOf, HoldEach, AreTrue}

-- an answer that holds as it is printed is true, in either version and under any limits
abbrev pub PrintedIsTrue : Type 0
PrintedIsTrue = (v : Version) (most : Limits) (question : Question) (answer : Answer)
    → IsWellAsked question → HoldsAsPrinted v most question answer → IsTrueAnswer question answer

-- an answer to a line that holds over a table is true of it
abbrev pub LineIsTrue : Type 0
LineIsTrue = (v : Version) (table : Table) (op : Op) (answer : LineAnswer)
    → AreWellFormed table.contracts → IsWellFormedOp op → HoldsOver v table op answer → IsTrueOf table op answer

-- a report whose answers hold, each over the table that those before it leave, has true answers alone
abbrev pub ReportIsTrue : Type 0
ReportIsTrue = (v : Version) (table : Table) (lines : List Answered)
    → AreWellFormed table.contracts → All (λ l. IsWellFormedOp l.line.op) lines → HoldEach v table lines → AreTrue table lines

-- the contracts of a question
abbrev pub contracts_of : Question → List Contract
contracts_of (Merging c other) = c ∷ other ∷ []
contracts_of (Testing c names x) = c ∷ []
contracts_of (Refining c other) = c ∷ other ∷ []
contracts_of (Bounding c goal least) = c ∷ []
contracts_of (Hiding c names) = c ∷ []
contracts_of (Composing parts keep) = parts
contracts_of (Dividing whole part) = whole ∷ part ∷ []

-- the contract of an answer that holds, of contracts that are well formed, is well formed
abbrev pub PrintedIsWellFormed : Type 0
PrintedIsWellFormed = (v : Version) (most : Limits) (question : Question) (answer : Answer) (c : Contract)
    → most.rows ≤ most_rows → All IsWellFormed (contracts_of question) → HoldsAsPrinted v most question answer
    → contract_of answer ≡ Some c → IsWellFormed c
