-- From what a fetch gave to what stands at the path: a front of a content that is too long is refused as the content is. So what
-- was read of a front, or refused, is so of the content; and a run that stops at an input stops.
use Rattle.std.proofs.Common.{◌≡◌, ◌≢◌, ℕ, ◌+◌, ◌<◌, ◌⊎◌, inl, inr, List, take, length, refl, ap, sym, ◌∙◌, subst}
use Rattle.std.proofs.Common.{⊎_elim, arith, Option, Some, None, Result, Ok, Err, IfOk, length-take-le, lt-ltb}
use Rattle.std.specs.Prelude.{option_map, IfErr}
use Rattle.std.proofs.lemmas.Bool.{cond-true, cases_lt}
use Rattle.std.proofs.lemmas.List.{take_all}
use Rattle.pa_desk.specs.Files.{Files, content_at, GivesFront}
use Rattle.pa_json.specs.Diagrams.{Diagram}
use Rattle.pa_json.specs.Diagram.{diagram_of}
use Rattle.pa_json.specs.Upgrades.{upgrade_of, IsUpgrade}
use Rattle.pa_json.specs.declared.limits.TheConstants.{MOST_DIAGRAM_BYTES, MOST_UPGRADE_BYTES}
use Rattle.pa_json.specs.declared.fault.DiagramFault.{DiagramFault}
use Rattle.pa_json.specs.declared.fault.DiagramFault.TheVariants as diagram
use Rattle.pa_script.specs.declared.op.ScriptLine.{ScriptLine}
use Rattle.pa_script.specs.declared.read.TheConstants.{MOST_SCRIPT}
use Rattle.pa_script.specs.declared.fault.ScriptFault.TheVariants as script
use Rattle.pa_script.specs.Script.{script_of}
use Rattle.pa_engine.specs.declared.status.Status.{Status}
use Rattle.pa_engine.specs.declared.status.Status.TheVariants.{Memory}
use Rattle.pa_engine.specs.Words.{Paths}
use Rattle.pa_engine.specs.Inputs.{StandsAt, ReadsAt, IsUpgradedAt, IsBadDiagram, IsNoDiagram, IsBadScript, IsNoScript, IsStopped}

some_same : {A : Type 0} (x y : A) → Some x ≡ Some y → x ≡ y
some_same x y h = cc

-- what was fetched reads as what stands at the path, and is that where it is not refused as too long
pub record ReadsAs {X : Type 0} (told : Option Files) (path : List ℕ) (read : List ℕ → X) (refusal : X) (bytes : List ℕ) : Type 0 where
  pub content : List ℕ
  pub stands : StandsAt told path content
  pub same : read bytes ≡ read content
  pub whole : read bytes ≢ refusal → bytes ≡ content

-- A front of a content is the content, where that is not longer than `most`; a longer one is refused, and so is the front.
module _ {X : Type 0} (path : List ℕ) (read : List ℕ → X) (most : ℕ) (refusal : X) (long : (bytes : List ℕ) → most < length bytes → read bytes ≡ refusal) where
  front_of : (content bytes : List ℕ) → take (most + 1) content ≡ bytes
      → (bytes ≡ content) ⊎ ((read bytes ≡ refusal) × (read content ≡ refusal))
  front_of content bytes is =
      ⊎_elim
      (λ more. inr (
        long bytes (subst (λ bs. most < length bs) is (omega (arith, length-take-le (most + 1) content (omega arith)))),
        long content more,
      ))
      (λ whole. inl (sym is ∙ take_all (most + 1) content (omega arith)))
      (cases_lt most (length content))

  front_reads : (content bytes : List ℕ) → (bytes ≡ content) ⊎ ((read bytes ≡ refusal) × (read content ≡ refusal)) → read bytes ≡ read content
  front_reads content bytes (inl whole) = ap read whole
  front_reads content bytes (inr both) = both.0 ∙ sym both.1

  front_whole : (content bytes : List ℕ) → (bytes ≡ content) ⊎ ((read bytes ≡ refusal) × (read content ≡ refusal))
      → read bytes ≢ refusal → bytes ≡ content
  front_whole content bytes (inl whole) other = whole
  front_whole content bytes (inr both) other = absurd (other both.0)

  fetched_in : (files : Files) (bytes : List ℕ) (found : Option (List ℕ)) → content_at path files ≡ found
      → option_map (take (most + 1)) found ≡ Some bytes → ReadsAs (Some files) path read refusal bytes
  fetched_in files bytes None at given = absurd (cc)
  fetched_in files bytes (Some content) at given =
      let front = front_of content bytes (some_same (take (most + 1) content) bytes given) in record {
        content = content;
        stands = at;
        same = front_reads content bytes front;
        whole = front_whole content bytes front;
      }

  pub fetched : (told : Option Files) (bytes : List ℕ) → GivesFront told path most bytes → ReadsAs told path read refusal bytes
  fetched None bytes given = record { content = bytes; stands = tt; same = refl; whole = λ other. refl }
  fetched (Some files) bytes given = fetched_in files bytes (content_at path files) refl given

-- so it reads as what stands there
pub reads_at : {X : Type 0} (told : Option Files) (path : List ℕ) (read : List ℕ → X) (refusal : X) (bytes : List ℕ) (x : X)
    → ReadsAs told path read refusal bytes → read bytes ≡ x → ReadsAt read told path x
reads_at told path read refusal bytes x front is = record { bytes = front.content; stands = front.stands; is = sym front.same ∙ is }

-- ---- diagrams

pub long_diagram : (bytes : List ℕ) → MOST_DIAGRAM_BYTES < length bytes → diagram_of bytes ≡ Err diagram.TooLong
long_diagram bytes more = cond-true _ _ _ (lt-ltb _ _ more)

pub long_upgrade : (bytes : List ℕ) → MOST_UPGRADE_BYTES < length bytes → upgrade_of bytes ≡ Err diagram.TooLong
long_upgrade bytes more = cond-true _ _ _ (lt-ltb _ _ more)

-- the diagram, or what it is upgraded to: `seen` is what a value says
module _ {X T : Type 0} (read : List ℕ → Result X DiagramFault) (seen : T → X) (most : ℕ)
    (long : (bytes : List ℕ) → most < length bytes → read bytes ≡ Err diagram.TooLong)
    (told : Option Files) (path bytes : List ℕ) (given : GivesFront told path most bytes) where
  diagram_front : ReadsAs told path read (Err diagram.TooLong) bytes
  diagram_front = fetched path read most (Err diagram.TooLong) long told bytes given

  pub diagram_stands : (r : Result T Status) → IfOk r (λ d. read bytes ≡ Ok (seen d)) → IfOk r (λ d. ReadsAt read told path (Ok (seen d)))
  diagram_stands (Ok d) is = reads_at told path read (Err diagram.TooLong) bytes (Ok (seen d)) diagram_front is
  diagram_stands (Err status) is = tt

  pub no_diagram : (rose : Type 0) (r : Result T Status) → IfErr r (λ status. (status ≡ Memory) ⊎ IsBadDiagram read bytes status)
      → IfErr r (λ status. (status ≡ Memory) ⊎ IsNoDiagram read told path rose status)
  no_diagram rose (Ok d) h = tt
  no_diagram rose (Err status) (inl memory) = inl memory
  no_diagram rose (Err status) (inr (fault, bad, is)) =
      inr (inl (diagram_front.content, diagram_front.stands, (fault, sym diagram_front.same ∙ bad, is)))

-- what is upgraded is not too long, so it is what stands at the path
module _ {T : Type 0} (seen : T → List ℕ) (told : Option Files) (path bytes : List ℕ) (given : GivesFront told path MOST_UPGRADE_BYTES bytes) where
  upgrade_front : ReadsAs told path upgrade_of (Err diagram.TooLong) bytes
  upgrade_front = diagram_front upgrade_of seen MOST_UPGRADE_BYTES long_upgrade told path bytes given

  pub upgrade_stands : (r : Result T Status) → IfOk r (λ text. upgrade_of bytes ≡ Ok (seen text)) → IfOk r (λ text. IsUpgrade bytes (seen text))
      → IfOk r (λ text. IsUpgradedAt told path (seen text))
  upgrade_stands (Ok text) is same = record {
    bytes = upgrade_front.content;
    stands = upgrade_front.stands;
    is = sym upgrade_front.same ∙ is;
    same = subst (λ bs. IsUpgrade bs (seen text)) (upgrade_front.whole (λ long. absurd (cc))) same;
  }
  upgrade_stands (Err status) is same = tt

-- ---- scripts

long_script : (bytes : List ℕ) → MOST_SCRIPT < length bytes → script_of bytes ≡ Err script.TooLong
long_script bytes more = cond-true _ _ _ (lt-ltb _ _ more)

module _ (told : Option Files) (path bytes : List ℕ) (given : GivesFront told path MOST_SCRIPT bytes) where
  script_front : ReadsAs told path script_of (Err script.TooLong) bytes
  script_front = fetched path script_of MOST_SCRIPT (Err script.TooLong) long_script told bytes given

  pub script_stands : (r : Result (List ScriptLine) Status) → IfOk r (λ lines. script_of bytes ≡ Ok lines)
      → IfOk r (λ lines. ReadsAt script_of told path (Ok lines))
  script_stands (Ok lines) is = reads_at told path script_of (Err script.TooLong) bytes (Ok lines) script_front is
  script_stands (Err status) is = tt

  pub no_script : (read : Type 0) (r : Result (List ScriptLine) Status)
      → IfErr r (λ status. (status ≡ Memory) ⊎ IsBadScript bytes status)
      → IfErr r (λ status. (status ≡ Memory) ⊎ IsNoScript told path read status)
  no_script read (Ok lines) h = tt
  no_script read (Err status) (inl memory) = inl memory
  no_script read (Err status) (inr (fault, bad, is)) =
      inr (inl (script_front.content, script_front.stands, (fault, sym script_front.same ∙ bad, is)))

-- ---- both

-- a run that stops at the script stops, where the count of faults that rose with the script's fetch rose in the run
pub stops_at_script : (told : Option Files) (paths : Paths) (late read : Type 0) → (late → read) → (d : Diagram) → ReadsAt diagram_of told paths.diagram (Ok d)
    → (status : Status) → (status ≡ Memory) ⊎ IsNoScript told paths.script late status → (status ≡ Memory) ⊎ IsStopped told paths read status
stops_at_script told paths late read rises d reads status (inl memory) = inl memory
stops_at_script told paths late read rises d reads status (inr (inl bad)) = inr (inr (d, reads, inl bad))
stops_at_script told paths late read rises d reads status (inr (inr (is, inl missing))) = inr (inr (d, reads, inr (is, inl missing)))
stops_at_script told paths late read rises d reads status (inr (inr (is, inr rose))) = inr (inr (d, reads, inr (is, inr (rises rose))))
