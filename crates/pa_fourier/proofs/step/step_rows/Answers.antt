-- The clauses on the rows hold of each list that is due.
use Rattle.std.proofs.Common.{◌≡◌, ◌+◌, All, length, subst, sym}
use Rattle.pa_meaning.specs.Rows.{Row}
use Rattle.pa_witness.specs.Steps.{stepped, IsElimination}
use Rattle.pa_fourier.specs.StepFaults.{step_in}
use Rattle.pa_witness.proofs.Steps.{step_means}
use Rattle.pa_fourier.proofs.Exact.{step_value, step_columns, if_ok}
use Rattle.pa_fourier.specs.Versions.{version_of}
use Rattle.pa_fourier.proofs.step.step_rows.Goals as goal

pub returns-clause-value : goal.returns-clause-value
returns-clause-value c =
    if_ok _ (step_in (version_of c.args.version) c.args.column c.args.rows.now) (λ new. new ≡ stepped (version_of c.args.version) c.args.column c.args.rows.now)
    (λ new e. step_value (version_of c.args.version) c.args.column c.args.columns c.args.rows.now new c.requires.columns e)
    c.made_rows.result c.made_rows.ensures

pub returns-clause-columns : goal.returns-clause-columns
returns-clause-columns c =
    if_ok _ (step_in (version_of c.args.version) c.args.column c.args.rows.now) (λ new. All (λ (r : Row). length r.c + 1 ≡ c.args.columns) new)
    (λ new e. subst (All (λ (r : Row). length r.c + 1 ≡ c.args.columns))
    (sym (step_value (version_of c.args.version) c.args.column c.args.columns c.args.rows.now new c.requires.columns e))
    (step_columns (version_of c.args.version) c.args.column c.args.columns c.args.rows.now c.requires.column c.requires.columns))
    c.made_rows.result c.made_rows.ensures

pub returns-clause-points : goal.returns-clause-points
returns-clause-points c =
    if_ok _ (step_in (version_of c.args.version) c.args.column c.args.rows.now) (λ new. IsElimination c.args.column c.args.rows.now new)
    (λ new e. subst (IsElimination c.args.column c.args.rows.now)
    (sym (step_value (version_of c.args.version) c.args.column c.args.columns c.args.rows.now new c.requires.columns e))
    (step_means (version_of c.args.version) c.args.column c.args.rows.now)) c.made_rows.result c.made_rows.ensures
