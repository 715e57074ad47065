-- The answers of a script, line by line.
use Rattle.std.proofs.Common.{◌≡◌, List, [], ◌∷◌, map, refl, ap}
use Rattle.pa_script.specs.declared.op.ScriptLine.{ScriptLine}
use Rattle.pa_cert.specs.Tables.{Table}
use Rattle.pa_answers.specs.Answers.{answers_from, past}

-- each line has its answer, in order
pub lines_answered : (lines : List ScriptLine) (table : Table) → map (λ a. a.line) (answers_from table lines) ≡ lines
lines_answered [] table = refl
lines_answered (line ∷ lines) table = ap (λ rest. line ∷ rest) (lines_answered lines (past table line))
