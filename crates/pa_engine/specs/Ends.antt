-- How a run ends: what is due, and how it was put. Then what must be believed of a run, which names no procedure.
use Rattle.std.specs.Prelude.{◌≡◌, ◌⊎◌, List, ◌++◌, ℕ, Bool, true, map, Option, Some, None, Ok, if◌then◌else◌}
use Rattle.std.specs.List.{list_any}
use Rattle.pa_witness.specs.Steps.{Two}
use Rattle.pa_desk.specs.Files.{Files}
use Rattle.pa_desk.specs.Taken.{with_bytes, TookPrefix}
use Rattle.pa_json.specs.Diagrams.{Diagram}
use Rattle.pa_json.specs.Upgrades.{upgrade_of}
use Rattle.pa_script.specs.declared.op.ScriptLine.{ScriptLine}
use Rattle.pa_cert.specs.Tables.{Table, Answered, first_table, is_refused}
use Rattle.pa_cert.specs.AnswerText.{report_of}
use Rattle.pa_holds.specs.Tables.{AreTrue, HoldEach}
use Rattle.pa_answers.specs.Answers.{answers_from}
use Rattle.pa_engine.specs.declared.status.Status.{Status}
use Rattle.pa_engine.specs.declared.status.Status.TheVariants.{Done, Refused, Usage, WriteFault, Memory}
use Rattle.pa_engine.specs.Words.{Paths, paths_of, upgrade_path_of}
use Rattle.pa_engine.specs.Inputs.{ReadsAt, AreRead, AreGiven, IsUpgradedAt, IsNoDiagram, IsStopped}
use Rattle.pa_engine.specs.Statuses.{line_of}

-- What a run is given and what it leaves: the words, the files where the shelf tells them, whether the shelf's and the
-- output's counts of faults rose, and what the output had taken before and after, where it tells that.
pub record Seen : Type 1 where
  pub words : List (List ℕ)
  pub told : Option Files
  pub read : Type 0
  pub write : Type 0
  pub old : Option (List ℕ)
  pub new : Option (List ℕ)

-- the table that a diagram gives: its contracts, and then its parts
abbrev pub table_of : Diagram → Table
table_of diagram = first_table (diagram.contracts ++ diagram.parts) diagram.nominal

-- whether some answer is a refusal, and the status that a report has by it
abbrev pub some_refused : List Answered → Bool
some_refused answers = list_any (λ a. is_refused a.answer) answers

abbrev pub status_of : List Answered → Status
status_of answers = if some_refused answers then Refused else Done

-- the answers to the lines of a script over a diagram
abbrev pub answers_of : Diagram → List ScriptLine → List Answered
answers_of diagram lines = answers_from (table_of diagram) lines

-- ---- causes

-- the report of the answers is due, with their status; each answer holds, as it is printed, over the table that the earlier ones leave,
-- and is true of it
pub record IsReported (told : Option Files) (paths : Paths) (status : Status) (text : List ℕ) : Type 0 where
  pub diagram : Diagram
  pub lines : List ScriptLine
  pub are_read : AreRead told paths diagram lines
  pub holds : HoldEach Two (table_of diagram) (answers_of diagram lines)
  pub truth : AreTrue (table_of diagram) (answers_of diagram lines)
  pub status_is : status ≡ status_of (answers_of diagram lines)
  pub text_is : text ≡ report_of (answers_of diagram lines)

-- what two paths make due: the line of a status by which the run stops at its inputs, or the report
abbrev pub IsReportDue : Paths → Option Files → Type 0 → Status → List ℕ → Type 0
IsReportDue paths told read status text = (IsStopped told paths read status × (text ≡ line_of status)) ⊎ IsReported told paths status text

-- what an upgrade makes due: the line of a status by which the run stops at the diagram, or what the diagram is upgraded to
abbrev pub IsUpgradeDue : List ℕ → Option Files → Type 0 → Status → List ℕ → Type 0
IsUpgradeDue path told read status text = (IsNoDiagram upgrade_of told path read status × (text ≡ line_of status))
    ⊎ ((status ≡ Done) × IsUpgradedAt told path text)

-- what is due for the words: the usage line where they are not accepted
abbrev pub IsDue : Seen → Status → List ℕ → Type 0
IsDue run status text = ((paths_of run.words ≡ None) × (upgrade_path_of run.words ≡ None) × (status ≡ Usage) × (text ≡ line_of Usage))
    ⊎ ((paths : Paths) × (paths_of run.words ≡ Some paths) × IsReportDue paths run.told run.read status text)
    ⊎ ((path : List ℕ) × (upgrade_path_of run.words ≡ Some path) × IsUpgradeDue path run.told run.read status text)

-- how a text was put: whole, or a front of it, where the output refused it or memory ran out
abbrev pub IsPut : Type 0 → Option (List ℕ) → Option (List ℕ) → List ℕ → Status → Status → Type 0
IsPut write old new text status result = ((result ≡ status) × (new ≡ with_bytes old text))
    ⊎ ((result ≡ WriteFault) × write × TookPrefix old new text)
    ⊎ ((result ≡ Memory) × TookPrefix old new text)

-- The cause of a run's end: some status was due with its text, and the text was put; or memory ran out before. Want of memory
-- is free.
abbrev pub IsCaused : Seen → Status → Type 0
IsCaused run result =
    ((status : Status) × (text : List ℕ) × IsDue run status text × IsPut run.write run.old run.new text status result)
    ⊎ ((result ≡ Memory) × (run.new ≡ run.old))

-- ---- what must be believed

-- the run ends by its answers: none is a refusal, or some is one
abbrev pub IsAnswered : Status → Type 0
IsAnswered status = (status ≡ Done) ⊎ (status ≡ Refused)

-- the text is the report of one answer to each line, in order, each true of the table that the earlier ones leave; and the
-- status tells whether some answer is a refusal
pub record IsTrueReport (table : Table) (lines : List ScriptLine) (status : Status) (text : List ℕ) : Type 0 where
  pub answers : List Answered
  pub lines_are : map (λ a. a.line) answers ≡ lines
  pub truth : AreTrue table answers
  pub status_is : status ≡ status_of answers
  pub text_is : text ≡ report_of answers

-- the paths have a diagram and a script, and the output took the report of one true answer to each line of the script
pub record TookTrueReport (paths : Paths) (told : Option Files) (old new : Option (List ℕ)) (status : Status) : Type 0 where
  pub diagram : Diagram
  pub lines : List ScriptLine
  pub are_given : AreGiven told paths diagram lines
  pub text : List ℕ
  pub report : IsTrueReport (table_of diagram) lines status text
  pub taken : new ≡ with_bytes old text

-- the path has a diagram of version 1, and the output took exactly the text that it is upgraded to, which describes the same
pub record TookUpgrade (path : List ℕ) (told : Option Files) (old new : Option (List ℕ)) : Type 0 where
  pub text : List ℕ
  pub is_upgraded : IsUpgradedAt told path text
  pub taken : new ≡ with_bytes old text

-- ---- completeness

-- the words are two paths, and files at both paths that have their form
pub record IsReady (words : List (List ℕ)) (told : Option Files) : Type 0 where
  pub paths : Paths
  pub accepted : paths_of words ≡ Some paths
  pub files : Files
  pub tells : told ≡ Some files
  pub diagram : Diagram
  pub lines : List ScriptLine
  pub are_given : AreGiven told paths diagram lines

-- the run ended by its answers, and the output took the whole report
pub record IsWhole {words : List (List ℕ)} {told : Option Files} (ready : IsReady words told)
    (old new : Option (List ℕ)) (result : Status) : Type 0 where
  pub status_is : result ≡ status_of (answers_of ready.diagram ready.lines)
  pub taken : new ≡ with_bytes old (report_of (answers_of ready.diagram ready.lines))

-- a path and the word that asks for an upgrade, and a file at the path that can be upgraded
pub record IsReadyUpgrade (words : List (List ℕ)) (told : Option Files) : Type 0 where
  pub path : List ℕ
  pub accepted : upgrade_path_of words ≡ Some path
  pub files : Files
  pub tells : told ≡ Some files
  pub text : List ℕ
  pub is_read : ReadsAt upgrade_of told path (Ok text)
