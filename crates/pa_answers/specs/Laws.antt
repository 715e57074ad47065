-- The answers to the lines of a script hold as they are printed, and are true. Each law is the clause of a function of its name in `src/laws.rt`.
use Rattle.std.specs.Prelude.{List, All}
use Rattle.pa_witness.specs.Steps.{Two}
use Rattle.pa_row.specs.Steps.{IsLimit}
use Rattle.pa_script.specs.declared.op.ScriptLine.{ScriptLine}
use Rattle.pa_script.specs.Ops.{IsWellFormedLine}
use Rattle.pa_cert.specs.Tables.{Table}
use Rattle.pa_holds.specs.Tables.{HoldEach, AreTrue}
use Rattle.pa_answers.specs.Answers.{answers_from, AreFormed}

-- each answer holds, as it is printed, over the table that those before it leave
abbrev pub AnswersHold : Type 0
AnswersHold = (lines : List ScriptLine) (table : Table)
    → AreFormed table → IsLimit table.limits.rows → All IsWellFormedLine lines
    → HoldEach Two table (answers_from table lines)

-- each answer is true of the table that those before it leave
abbrev pub AnswersAreTrue : Type 0
AnswersAreTrue = (lines : List ScriptLine) (table : Table)
    → AreFormed table → IsLimit table.limits.rows → All IsWellFormedLine lines
    → AreTrue table (answers_from table lines)
