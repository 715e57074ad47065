-- The exit numbers of the statuses, and the lines of those that have one.
use Rattle.std.specs.Prelude.{ℕ, List, [], ◌++◌, codes, decimal}
use Rattle.pa_grammar.specs.declared.fault.TermFault.{TermFault}
use Rattle.pa_grammar.specs.declared.fault.TermFault.TheVariants as term
use Rattle.pa_json.specs.declared.fault.DiagramFault.{DiagramFault}
use Rattle.pa_json.specs.declared.fault.DiagramFault.TheVariants as diagram
use Rattle.pa_json.specs.declared.fault.MakeKind.{MakeKind}
use Rattle.pa_json.specs.declared.fault.MakeKind.TheVariants as make
use Rattle.pa_json.specs.declared.fault.WireKind.{WireKind}
use Rattle.pa_json.specs.declared.fault.WireKind.TheVariants as wire
use Rattle.pa_script.specs.declared.fault.ScriptFault.{ScriptFault}
use Rattle.pa_script.specs.declared.fault.ScriptFault.TheVariants as script
use Rattle.pa_script.specs.declared.fault.LineKind.{LineKind}
use Rattle.pa_script.specs.declared.fault.LineKind.TheVariants as kind
use Rattle.pa_engine.specs.declared.status.Status.{Status}
use Rattle.pa_engine.specs.declared.status.Status.TheVariants.{Done, Refused, Input, Usage, ReadFault, WriteFault, Memory}
use Rattle.pa_engine.specs.declared.status.InputFault.TheVariants.{BadDiagram, BadScript}
use Rattle.pa_engine.specs.declared.status.Which.TheVariants.{Diagram, Script}

-- ---- scripts

abbrev pub kind_text : LineKind → List ℕ
kind_text kind.Limit = codes "limit"
kind_text kind.Word = codes "word"
kind_text kind.Shape = codes "shape"
kind_text kind.Name = codes "name"
kind_text kind.Number = codes "number"
kind_text kind.Repeat = codes "repeat"

-- what is told of a script that is refused
abbrev pub script_line : ScriptFault → List ℕ
script_line script.Memory = []
script_line script.TooLong = codes "input: script too long\n"
script_line (script.Line number kind) = codes "input: script line " ++ decimal number ++ codes ": " ++ kind_text kind ++ codes "\n"

-- ---- diagrams

-- a fault of a term, at the place of its byte where it has one
abbrev pub term_text : TermFault → List ℕ
term_text term.Memory = []
term_text (term.Syntax at) = codes "syntax " ++ decimal at
term_text (term.Literal at) = codes "literal " ++ decimal at
term_text (term.UnknownName at) = codes "unknown-name " ++ decimal at
term_text (term.NotLinear at) = codes "not-linear " ++ decimal at
term_text term.Wide = codes "wide"

abbrev pub make_text : MakeKind → List ℕ
make_text make.PortTwice = codes "port-twice"
make_text make.AssumesOutput = codes "assumes-output"

abbrev pub wire_text : WireKind → List ℕ
wire_text wire.NoContract = codes "no-contract"
wire_text wire.NoPort = codes "no-port"
wire_text wire.Twice = codes "twice"

-- a word with the path of a fault, and with what the fault is
abbrev pub place_text : List ℕ → List ℕ → List ℕ
place_text word path = codes "input: diagram " ++ word ++ codes " at " ++ path

abbrev pub told_text : List ℕ → List ℕ → List ℕ → List ℕ
told_text word path what = place_text word path ++ codes ": " ++ what ++ codes "\n"

-- what is told of a diagram that is refused
abbrev pub diagram_line : DiagramFault → List ℕ
diagram_line diagram.Memory = []
diagram_line diagram.TooLong = codes "input: diagram too long\n"
diagram_line diagram.Json = codes "input: diagram json\n"
diagram_line diagram.Version = codes "input: diagram version\n"
diagram_line (diagram.Shape path) = place_text (codes "shape") path ++ codes "\n"
diagram_line (diagram.Limit path) = place_text (codes "limit") path ++ codes "\n"
diagram_line (diagram.Term path fault) = told_text (codes "term") path (term_text fault)
diagram_line (diagram.Contract path kind) = told_text (codes "contract") path (make_text kind)
diagram_line (diagram.Wire path kind) = told_text (codes "wire") path (wire_text kind)

-- ---- statuses

-- the line of a status, for those that have one
abbrev pub line_of : Status → List ℕ
line_of (Input (BadDiagram fault)) = diagram_line fault
line_of (Input (BadScript fault)) = script_line fault
line_of Usage = codes "usage: pacti DIAGRAM SCRIPT | pacti DIAGRAM --upgrade\n"
line_of (ReadFault Diagram) = codes "read fault: diagram\n"
line_of (ReadFault Script) = codes "read fault: script\n"
line_of status = []

abbrev pub number_of : Status → ℕ
number_of Done = 0
number_of Refused = 1
number_of (Input fault) = 2
number_of Usage = 3
number_of (ReadFault which) = 4
number_of WriteFault = 5
number_of Memory = 6
