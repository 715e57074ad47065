-- The table that a diagram gives has well-formed contracts, no two with one name, so all answers to a script hold over it, and are true of it.
use Rattle.std.proofs.Common.{List, subst, All, arith}
use Rattle.std.specs.List.{IsDistinct}
use Rattle.std.specs.Str.{bytes_eq}
use Rattle.std.proofs.lemmas.List.{map-append}
use Rattle.std.proofs.lemmas.List.Elements.{All-append}
use Rattle.std.proofs.lemmas.Cmp.{nat_list_eq_equiv}
use Rattle.pa_math.proofs.Unions.{IsDistinct-apart, AreApart-flip}
use Rattle.pa_meaning.specs.Contracts.{Named}
use Rattle.pa_contract.specs.Named.{AreNew}
use Rattle.pa_contract.specs.Nominal.{IsNominal}
use Rattle.pa_contract.specs.WellFormed.{IsWellFormed}
use Rattle.pa_script.specs.declared.op.ScriptLine.{ScriptLine}
use Rattle.pa_script.specs.Ops.{IsWellFormedLine}
use Rattle.pa_json.specs.Diagrams.{Diagram, IsDiagram, names_of}
use Rattle.pa_witness.specs.Steps.{Two}
use Rattle.pa_row.specs.Steps.{IsLimit}
use Rattle.pa_holds.specs.Tables.{AreTrue, HoldEach}
use Rattle.pa_answers.specs.Answers.{AreFormed}
use Rattle.pa_answers.proofs.Truths.{answers_hold, answers_true}
use Rattle.pa_engine.specs.Ends.{table_of, answers_of}

-- no part has the name of a contract
pub parts_new : (d : Diagram) → IsDiagram d → AreNew d.contracts d.parts
parts_new d h =
    let both = subst (IsDistinct bytes_eq) (map-append (λ (n : Named). n.name) d.contracts d.parts) h.distinct in
    AreApart-flip bytes_eq nat_list_eq_equiv (names_of d.contracts) (names_of d.parts)
    (IsDistinct-apart bytes_eq (names_of d.contracts) (names_of d.parts) both)

pub diagram_formed : (d : Diagram) → IsDiagram d → IsNominal d.nominal → AreFormed (table_of d)
diagram_formed d h values = record {
  contracts = All-append (λ (n : Named). IsWellFormed n.contract) d.contracts d.parts h.contracts_fit h.parts_fit;
  nominal = values;
}

-- the limit of rows that no line has set is in its range
first_limit : (d : Diagram) → IsLimit (table_of d).limits.rows
first_limit d = record { least = omega arith; greatest = omega arith }

-- all answers to a script over a diagram hold as they are printed, and are true
pub diagram_holds : (d : Diagram) (lines : List ScriptLine) → AreFormed (table_of d) → All IsWellFormedLine lines
    → HoldEach Two (table_of d) (answers_of d lines)
diagram_holds d lines formed well_formed = answers_hold lines (table_of d) formed (first_limit d) well_formed

pub diagram_answers : (d : Diagram) (lines : List ScriptLine) → AreFormed (table_of d) → All IsWellFormedLine lines
    → AreTrue (table_of d) (answers_of d lines)
diagram_answers d lines formed well_formed = answers_true lines (table_of d) formed (first_limit d) well_formed
