-- What stands at the paths, and how a run stops at an input.
use Rattle.std.specs.Prelude.{◌≡◌, ◌⊎◌, ℕ, List, Option, Some, IfSome, Result, Ok, Err}
use Rattle.pa_desk.specs.Files.{Files, content_at, IsMissing}
use Rattle.pa_json.specs.Diagrams.{Diagram}
use Rattle.pa_json.specs.Diagram.{diagram_of}
use Rattle.pa_json.specs.Described.{IsDescribed}
use Rattle.pa_json.specs.Upgrades.{upgrade_of, IsUpgrade}
use Rattle.pa_json.specs.declared.fault.DiagramFault.{DiagramFault}
use Rattle.pa_script.specs.declared.op.ScriptLine.{ScriptLine}
use Rattle.pa_script.specs.declared.fault.ScriptFault.{ScriptFault}
use Rattle.pa_script.specs.Script.{script_of}
use Rattle.pa_engine.specs.declared.status.Status.{Status}
use Rattle.pa_engine.specs.declared.status.Status.TheVariants.{Input, ReadFault}
use Rattle.pa_engine.specs.declared.status.InputFault.TheVariants.{BadDiagram, BadScript}
use Rattle.pa_engine.specs.declared.status.Which.TheVariants as which
use Rattle.pa_engine.specs.Words.{Paths}

-- the bytes are what stands at the path; a shelf that tells no files leaves them open
abbrev pub StandsAt : Option Files → List ℕ → List ℕ → Type 0
StandsAt told path bytes = IfSome told (λ files. content_at path files ≡ Some bytes)

-- what stands at the path reads as this
pub record ReadsAt {X : Type 0} (read : List ℕ → X) (told : Option Files) (path : List ℕ) (x : X) : Type 0 where
  pub bytes : List ℕ
  pub stands : StandsAt told path bytes
  pub is : read bytes ≡ x

-- the one path reads as this diagram, and the other as a script of these lines
pub record AreRead (told : Option Files) (paths : Paths) (diagram : Diagram) (lines : List ScriptLine) : Type 0 where
  pub diagram_at : ReadsAt diagram_of told paths.diagram (Ok diagram)
  pub script_at : ReadsAt script_of told paths.script (Ok lines)

-- what stands at the path describes the diagram
pub record IsDescribedAt (told : Option Files) (path : List ℕ) (diagram : Diagram) : Type 0 where
  pub bytes : List ℕ
  pub stands : StandsAt told path bytes
  pub describes : IsDescribed bytes diagram

-- the one path has a text that describes this diagram, and the other a script of these lines
pub record AreGiven (told : Option Files) (paths : Paths) (diagram : Diagram) (lines : List ScriptLine) : Type 0 where
  pub diagram_at : IsDescribedAt told paths.diagram diagram
  pub script_at : ReadsAt script_of told paths.script (Ok lines)

-- what stands at the path is upgraded to this text, and both describe one diagram
pub record IsUpgradedAt (told : Option Files) (path text : List ℕ) : Type 0 where
  pub bytes : List ℕ
  pub stands : StandsAt told path bytes
  pub is : upgrade_of bytes ≡ Ok text
  pub same : IsUpgrade bytes text

-- the diagram's bytes are refused by what reads them, and the status tells the fault
abbrev pub IsBadDiagram : {X : Type 0} → (List ℕ → Result X DiagramFault) → List ℕ → Status → Type 0
IsBadDiagram read bytes status = (fault : DiagramFault) × (read bytes ≡ Err fault) × (status ≡ Input (BadDiagram fault))

-- the bytes are no script, and the status tells its fault
abbrev pub IsBadScript : List ℕ → Status → Type 0
IsBadScript bytes status = (fault : ScriptFault) × (script_of bytes ≡ Err fault) × (status ≡ Input (BadScript fault))

-- The run stops at the diagram by this status: what stands there is refused, or it could not be fetched. `rose` says that the
-- shelf's count of faults rose in this call.
abbrev pub IsNoDiagram : {X : Type 0} → (List ℕ → Result X DiagramFault) → Option Files → List ℕ → Type 0 → Status → Type 0
IsNoDiagram read told path rose status = ((bytes : List ℕ) × StandsAt told path bytes × IsBadDiagram read bytes status)
    ⊎ ((status ≡ ReadFault which.Diagram) × (IsMissing told path ⊎ rose))

-- the run stops at the script
abbrev pub IsNoScript : Option Files → List ℕ → Type 0 → Status → Type 0
IsNoScript told path rose status = ((bytes : List ℕ) × StandsAt told path bytes × IsBadScript bytes status)
    ⊎ ((status ≡ ReadFault which.Script) × (IsMissing told path ⊎ rose))

-- the status by which a run stops at its inputs: at the diagram, or behind a diagram at the script
abbrev pub IsStopped : Option Files → Paths → Type 0 → Status → Type 0
IsStopped told paths rose status = IsNoDiagram diagram_of told paths.diagram rose status
    ⊎ ((diagram : Diagram) × ReadsAt diagram_of told paths.diagram (Ok diagram) × IsNoScript told paths.script rose status)
