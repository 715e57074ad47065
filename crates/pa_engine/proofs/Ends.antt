-- How a run's end is caused, and what follows from the cause: where nothing went wrong the output took the whole report, and a
-- run that ends by its answers has put them.
use Rattle.std.proofs.Common.{◌≡◌, ◌⊎◌, ⊎_elim, inl, inr, ℕ, List, [], refl, ap, sym, ◌∙◌, subst, Option, Some, None, Result, Ok, Err, true, false}
use Rattle.pa_desk.specs.Files.{Files, IsMissing}
use Rattle.pa_desk.specs.Taken.{with_bytes}
use Rattle.pa_desk.proofs.Puts.{with_bytes-nothing}
use Rattle.pa_json.specs.Diagrams.{Diagram}
use Rattle.pa_json.specs.Diagram.{diagram_of}
use Rattle.pa_json.specs.Upgrades.{upgrade_of}
use Rattle.pa_json.specs.declared.fault.DiagramFault.{DiagramFault}
use Rattle.pa_json.specs.declared.fault.DiagramFault.TheVariants as because
use Rattle.pa_json.proofs.Describes.{described_clause, bytes_described}
use Rattle.pa_script.specs.declared.op.ScriptLine.{ScriptLine}
use Rattle.pa_script.specs.Script.{script_of}
use Rattle.pa_cert.specs.AnswerText.{report_of}
use Rattle.pa_witness.specs.Steps.{Two}
use Rattle.pa_holds.specs.Tables.{AreTrue, HoldEach}
use Rattle.pa_answers.proofs.Scripts.{lines_answered}
use Rattle.pa_engine.specs.declared.status.Status.{Status}
use Rattle.pa_engine.specs.declared.status.Status.TheVariants.{Done, Memory}
use Rattle.pa_engine.specs.Words.{Paths, paths_of, upgrade_path_of}
use Rattle.pa_engine.specs.Inputs.{StandsAt, ReadsAt, AreRead, AreGiven, IsUpgradedAt, IsNoDiagram, IsStopped}
use Rattle.pa_engine.specs.Statuses.{line_of}
use Rattle.pa_engine.specs.Ends.{Seen, IsCaused, IsDue, IsReportDue, IsUpgradeDue, IsPut, IsReported, IsReady, IsReadyUpgrade, IsWhole, IsAnswered}
use Rattle.pa_engine.specs.Ends.{TookTrueReport, TookUpgrade, table_of, answers_of, status_of}
use Rattle.pa_engine.proofs.Forms.{one_form}

-- ---- one content at a path
some_same : {A : Type 0} (x y : A) → Some x ≡ Some y → x ≡ y
some_same x y h = cc

ok_same : {A E : Type 0} (x y : A) → ◌≡◌ {A = Result A E} (Ok x) (Ok y) → x ≡ y
ok_same x y h = cc

not_both : {A E : Type 0} (r : Result A E) (x : A) (e : E) → r ≡ Ok x → r ≡ Err e → ⊥
not_both r x e h k = absurd (cc)

stands_same : (told : Option Files) (files : Files) → told ≡ Some files → (path a b : List ℕ) → StandsAt told path a → StandsAt told path b → a ≡ b
stands_same None files tells path a b h k = absurd (cc)
stands_same (Some f) files tells path a b h k = some_same a b (sym h ∙ k)

not_missing : (told : Option Files) (files : Files) → told ≡ Some files → (path a : List ℕ) → StandsAt told path a → IsMissing told path → ⊥
not_missing None files tells path a h k = k
not_missing (Some f) files tells path a h k = absurd (cc)

-- nothing is put where memory ran out
pub put_nothing : (write : Type 0) (old : Option (List ℕ)) → IsPut write old old [] Memory Memory
put_nothing write old = inl (refl, sym (with_bytes-nothing old))

-- ---- what is read is given, and the other way round
given : (told : Option Files) (paths : Paths) (d : Diagram) (lines : List ScriptLine) → AreRead told paths d lines → AreGiven told paths d lines
given told paths d lines r = record {
  diagram_at = record {
    bytes = r.diagram_at.bytes;
    stands = r.diagram_at.stands;
    describes = described_clause r.diagram_at.bytes because.Memory (Ok d) r.diagram_at.is;
  };
  script_at = r.script_at;
}

as_read : (told : Option Files) (paths : Paths) (d : Diagram) (lines : List ScriptLine) → AreGiven told paths d lines → AreRead told paths d lines
as_read told paths d lines r = record {
  diagram_at = record {
    bytes = r.diagram_at.bytes;
    stands = r.diagram_at.stands;
    is = bytes_described r.diagram_at.bytes d r.diagram_at.describes;
  };
  script_at = r.script_at;
}

-- ---- inputs that are read
module _ (told : Option Files) (files : Files) (tells : told ≡ Some files) (paths : Paths) (diagram : Diagram) (lines : List ScriptLine)
    (are_read : AreRead told paths diagram lines) where
  same_diagram : (other : Diagram) → ReadsAt diagram_of told paths.diagram (Ok other) → other ≡ diagram
  same_diagram other h =
      let bytes = stands_same told files tells paths.diagram h.bytes are_read.diagram_at.bytes h.stands are_read.diagram_at.stands in
      ok_same other diagram (sym h.is ∙ ap diagram_of bytes ∙ are_read.diagram_at.is)

  same_lines : (others : List ScriptLine) → ReadsAt script_of told paths.script (Ok others) → others ≡ lines
  same_lines others h =
      let bytes = stands_same told files tells paths.script h.bytes are_read.script_at.bytes h.stands are_read.script_at.stands in
      ok_same others lines (sym h.is ∙ ap script_of bytes ∙ are_read.script_at.is)

  -- a run over inputs that are read does not stop at them
  not_stopped : (read : Type 0) (status : Status) → ¬ read → IsStopped told paths read status → ⊥
  not_stopped read status no_read (inl (inl (bytes, stands, (fault, bad, is)))) =
      let same = stands_same told files tells paths.diagram bytes are_read.diagram_at.bytes stands are_read.diagram_at.stands in
      not_both (diagram_of bytes) diagram fault (ap diagram_of same ∙ are_read.diagram_at.is) bad
  not_stopped read status no_read (inl (inr (is, inl missing))) =
      not_missing told files tells paths.diagram are_read.diagram_at.bytes are_read.diagram_at.stands missing
  not_stopped read status no_read (inl (inr (is, inr rose))) = no_read rose
  not_stopped read status no_read (inr (other, reads, inl (bytes, stands, (fault, bad, is)))) =
      let same = stands_same told files tells paths.script bytes are_read.script_at.bytes stands are_read.script_at.stands in
      not_both (script_of bytes) lines fault (ap script_of same ∙ are_read.script_at.is) bad
  not_stopped read status no_read (inr (other, reads, inr (is, inl missing))) =
      not_missing told files tells paths.script are_read.script_at.bytes are_read.script_at.stands missing
  not_stopped read status no_read (inr (other, reads, inr (is, inr rose))) = no_read rose

  -- the report that is due is that of the inputs
  reported : (read : Type 0) (status : Status) (text : List ℕ) → ¬ read → IsReportDue paths told read status text
      → (status ≡ status_of (answers_of diagram lines)) × (text ≡ report_of (answers_of diagram lines))
  reported read status text no_read (inl (stopped, is)) = absurd (not_stopped read status no_read stopped)
  reported read status text no_read (inr r) =
      let answers : answers_of r.diagram r.lines ≡ answers_of diagram lines =
      ap (λ d. answers_of d r.lines) (same_diagram r.diagram r.are_read.diagram_at)
      ∙ ap (answers_of diagram) (same_lines r.lines r.are_read.script_at) in (
        r.status_is ∙ ap status_of answers,
        r.text_is ∙ ap report_of answers,
      )

-- what an upgrade of a diagram that is read makes due is its text
module _ (told : Option Files) (files : Files) (tells : told ≡ Some files) (path new_text : List ℕ) (is_read : ReadsAt upgrade_of told path (Ok new_text)) where
  not_refused : (read : Type 0) (status : Status) → ¬ read → IsNoDiagram upgrade_of told path read status → ⊥
  not_refused read status no_read (inl (bytes, stands, (fault, bad, is))) =
      let same = stands_same told files tells path bytes is_read.bytes stands is_read.stands in
      not_both (upgrade_of bytes) new_text fault (ap upgrade_of same ∙ is_read.is) bad
  not_refused read status no_read (inr (is, inl missing)) = not_missing told files tells path is_read.bytes is_read.stands missing
  not_refused read status no_read (inr (is, inr rose)) = no_read rose

  upgraded : (read : Type 0) (status : Status) (text : List ℕ) → ¬ read → IsUpgradeDue path told read status text → (status ≡ Done) × (text ≡ new_text)
  upgraded read status text no_read (inl (none, is)) = absurd (not_refused read status no_read none)
  upgraded read status text no_read (inr (done, reads)) =
      let same = stands_same told files tells path reads.bytes is_read.bytes reads.stands is_read.stands in
      (done, ok_same text new_text (sym reads.is ∙ ap upgrade_of same ∙ is_read.is))

module _ (words : List (List ℕ)) (told : Option Files) (read write : Type 0) (old new : Option (List ℕ)) (result : Status) where
  abbrev pub run : Seen
  run = record { words = words; told = told; read = read; write = write; old = old; new = new }

  -- ---- causes
  module _ (paths : Paths) (accepted : paths_of words ≡ Some paths) where
    -- the report of the inputs was put
    pub caused_by_report : (d : Diagram) (lines : List ScriptLine) → AreRead told paths d lines → HoldEach Two (table_of d) (answers_of d lines)
        → AreTrue (table_of d) (answers_of d lines)
        → IsPut write old new (report_of (answers_of d lines)) (status_of (answers_of d lines)) result → IsCaused run result
    caused_by_report d lines are_read holds truth put =
        let due : IsReported told paths (status_of (answers_of d lines)) (report_of (answers_of d lines)) = record {
          diagram = d;
          lines = lines;
          are_read = are_read;
          holds = holds;
          truth = truth;
          status_is = refl;
          text_is = refl;
        } in
        inl (status_of (answers_of d lines), report_of (answers_of d lines), inr (inl (paths, accepted, inr due)), put)

    -- the line of what stops the run was put
    pub caused_by_stop : (status : Status) → IsStopped told paths read status → IsPut write old new (line_of status) status result → IsCaused run result
    caused_by_stop status stopped put = inl (status, line_of status, inr (inl (paths, accepted, inl (stopped, refl))), put)

  -- what an upgrade makes due was put, or memory ran out
  pub caused_by_upgrade : (path : List ℕ) → upgrade_path_of words ≡ Some path
      → ((status : Status) × (text : List ℕ) × IsUpgradeDue path told read status text × IsPut write old new text status result)
      ⊎ ((result ≡ Memory) × (new ≡ old))
      → IsCaused run result
  caused_by_upgrade path accepted (inl (status, text, due, put)) = inl (status, text, inr (inr (path, accepted, due)), put)
  caused_by_upgrade path accepted (inr memory) = inr memory

  -- ---- completeness
  module _ (no_read : ¬ read) (no_write : ¬ write) where
    -- where no count of faults rose, what is due was put whole, or memory ran out
    put_whole : (status : Status) (text : List ℕ) → IsPut write old new text status result
        → ((result ≡ status) × (new ≡ with_bytes old text)) ⊎ (result ≡ Memory)
    put_whole status text (inl whole) = inl whole
    put_whole status text (inr (inl refused)) = absurd (no_write refused.1)
    put_whole status text (inr (inr memory)) = inr memory.0

    module _ (ready : IsReady words told) where
      -- what is due is the report of the inputs
      due_whole : (status : Status) (text : List ℕ) → IsDue run status text
          → (status ≡ status_of (answers_of ready.diagram ready.lines)) × (text ≡ report_of (answers_of ready.diagram ready.lines))
      due_whole status text (inl usage) =
          let none : paths_of words ≡ None = usage.0 in
          let some : paths_of words ≡ Some ready.paths = ready.accepted in
          absurd (cc)
      due_whole status text (inr (inl (paths, accepted, due))) =
          let are_read = as_read told ready.paths ready.diagram ready.lines ready.are_given in
          let same : paths ≡ ready.paths = some_same paths ready.paths (sym accepted ∙ ready.accepted) in
          reported told ready.files ready.tells ready.paths ready.diagram ready.lines are_read read status text no_read
          (subst (λ p. IsReportDue p told read status text) same due)
      due_whole status text (inr (inr (path, accepted, due))) = absurd (one_form words ready.paths path ready.accepted accepted)

      pub complete : IsCaused run result → IsWhole ready old new result ⊎ (result ≡ Memory)
      complete (inr memory) = inr memory.0
      complete (inl (status, text, due, put)) =
          ⊎_elim
          (λ whole.
          let is = due_whole status text due in
          inl (record { status_is = whole.0 ∙ is.0; taken = whole.1 ∙ ap (with_bytes old) is.1 }))
          (λ memory. inr memory)
          (put_whole status text put)

    module _ (ready : IsReadyUpgrade words told) where
      -- what is due is the text of the upgrade
      upgrade_whole : (status : Status) (text : List ℕ) → IsDue run status text → (status ≡ Done) × (text ≡ ready.text)
      upgrade_whole status text (inl usage) =
          let none : upgrade_path_of words ≡ None = usage.1 in
          let some : upgrade_path_of words ≡ Some ready.path = ready.accepted in
          absurd (cc)
      upgrade_whole status text (inr (inl (paths, accepted, due))) = absurd (one_form words paths ready.path accepted ready.accepted)
      upgrade_whole status text (inr (inr (path, accepted, due))) =
          let same : path ≡ ready.path = some_same path ready.path (sym accepted ∙ ready.accepted) in
          upgraded told ready.files ready.tells ready.path ready.text ready.is_read read status text no_read
          (subst (λ p. IsUpgradeDue p told read status text) same due)

      pub complete_upgrade : IsCaused run result → ((result ≡ Done) × (new ≡ with_bytes old ready.text)) ⊎ (result ≡ Memory)
      complete_upgrade (inr memory) = inr memory.0
      complete_upgrade (inl (status, text, due, put)) =
          ⊎_elim
          (λ whole.
          let is = upgrade_whole status text due in
          inl (whole.0 ∙ is.0, whole.1 ∙ ap (with_bytes old) is.1))
          (λ memory. inr memory)
          (put_whole status text put)

  -- ---- runs that end by their answers, or by an upgrade

  -- what is put to its end ends by its own status
  put_of : (text : List ℕ) (status : Status) → IsPut write old new text status result → IsAnswered result → (result ≡ status) × (new ≡ with_bytes old text)
  put_of text status (inl whole) answered = whole
  put_of text status (inr (inl (is, w, front))) (inl done) = absurd (cc)
  put_of text status (inr (inl (is, w, front))) (inr refused) = absurd (cc)
  put_of text status (inr (inr (is, front))) (inl done) = absurd (cc)
  put_of text status (inr (inr (is, front))) (inr refused) = absurd (cc)

  -- no run stops at its inputs with the status of answers
  no_diagram_unanswered : {X : Type 0} (reader : List ℕ → Result X DiagramFault) (path : List ℕ) (status : Status)
      → IsNoDiagram reader told path read status → IsAnswered status → ⊥
  no_diagram_unanswered reader path status (inl (bytes, stands, (fault, bad, is))) (inl done) = absurd (cc)
  no_diagram_unanswered reader path status (inl (bytes, stands, (fault, bad, is))) (inr refused) = absurd (cc)
  no_diagram_unanswered reader path status (inr (is, cause)) (inl done) = absurd (cc)
  no_diagram_unanswered reader path status (inr (is, cause)) (inr refused) = absurd (cc)

  stopped_unanswered : (paths : Paths) (status : Status) → IsStopped told paths read status → IsAnswered status → ⊥
  stopped_unanswered paths status (inl none) answered = no_diagram_unanswered diagram_of paths.diagram status none answered
  stopped_unanswered paths status (inr (other, reads, inl (bytes, stands, (fault, bad, is)))) (inl done) = absurd (cc)
  stopped_unanswered paths status (inr (other, reads, inl (bytes, stands, (fault, bad, is)))) (inr refused) = absurd (cc)
  stopped_unanswered paths status (inr (other, reads, inr (is, cause))) (inl done) = absurd (cc)
  stopped_unanswered paths status (inr (other, reads, inr (is, cause))) (inr refused) = absurd (cc)

  module _ (paths : Paths) (accepted : paths_of words ≡ Some paths) where
    -- what two paths make due with the status of answers, and is taken whole, is a true report
    report_true : (text : List ℕ) → IsReportDue paths told read result text → new ≡ with_bytes old text → IsAnswered result
        → TookTrueReport paths told old new result
    report_true text (inl stopped) taken answered = absurd (stopped_unanswered paths result stopped.0 answered)
    report_true text (inr r) taken answered = record {
      diagram = r.diagram;
      lines = r.lines;
      are_given = given told paths r.diagram r.lines r.are_read;
      text = text;
      report = record {
        answers = answers_of r.diagram r.lines;
        lines_are = lines_answered r.lines (table_of r.diagram);
        truth = r.truth;
        status_is = r.status_is;
        text_is = r.text_is;
      };
      taken = taken;
    }

    took_true : (text : List ℕ) → IsDue run result text → new ≡ with_bytes old text → IsAnswered result → TookTrueReport paths told old new result
    took_true text (inl (none, no_path, usage, line)) taken answered = absurd (cc)
    took_true text (inr (inl (others, are, due))) taken answered =
        report_true text (subst (λ p. IsReportDue p told read result text) (some_same others paths (sym are ∙ accepted)) due) taken answered
    took_true text (inr (inr (path, is, due))) taken answered = absurd (one_form words paths path accepted is)

    -- a run over two paths that ends by its answers has put a true report
    pub headline : IsCaused run result → IsAnswered result → TookTrueReport paths told old new result
    headline (inr (memory, same)) (inl done) = absurd (cc)
    headline (inr (memory, same)) (inr refused) = absurd (cc)
    headline (inl (status, text, due, put)) answered =
        let whole = put_of text status put answered in
        took_true text (subst (λ s. IsDue run s text) (sym whole.0) due) whole.1 answered

  module _ (path : List ℕ) (accepted : upgrade_path_of words ≡ Some path) where
    took_upgrade : (text : List ℕ) → IsDue run result text → new ≡ with_bytes old text → result ≡ Done → TookUpgrade path told old new
    took_upgrade text (inl (none, no_path, usage, line)) taken done = absurd (cc)
    took_upgrade text (inr (inl (paths, are, due))) taken done = absurd (one_form words paths path are accepted)
    took_upgrade text (inr (inr (other, is, inl (none, line)))) taken done = absurd (no_diagram_unanswered upgrade_of other result none (inl done))
    took_upgrade text (inr (inr (other, is, inr (finished, reads)))) taken done = record {
      text = text;
      is_upgraded = subst (λ p. IsUpgradedAt told p text) (some_same other path (sym is ∙ accepted)) reads;
      taken = taken;
    }

    -- an upgrade that is done has put the text that the diagram is upgraded to
    pub upgrade_taken : IsCaused run result → result ≡ Done → TookUpgrade path told old new
    upgrade_taken (inr (memory, same)) done = absurd (cc)
    upgrade_taken (inl (status, text, due, put)) done =
        let whole = put_of text status put (inl done) in
        took_upgrade text (subst (λ s. IsDue run s text) (sym whole.0) due) whole.1 done
