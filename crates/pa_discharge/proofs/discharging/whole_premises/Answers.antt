-- All parts' guarantees have all columns of the composition, and the nominal point has those of the external inputs.
use Rattle.std.proofs.Common.{◌≤◌, ◌∙◌, ap, length, sym, subst, All}
use Rattle.pa_math.proofs.Answers.{ok_same}
use Rattle.pa_meaning.specs.Rows.{Row}
use Rattle.pa_contract.proofs.Steps.{IfOk-implied}
use Rattle.pa_shift.specs.Shifting.{with_between}
use Rattle.pa_discharge.proofs.Composed.{all_reach, premises_with}
use Rattle.pa_discharge.proofs.discharging.whole_premises.Goals as goal

pub with_rows-requires-clause-columns : goal.with_rows-requires-clause-columns
with_rows-requires-clause-columns c =
    subst (All (λ (r : Row). length c.new.result.nominal.p ≤ length r.c)) (sym c.in_ok-rows.ensures)
    (all_reach (length c.new.result.nominal.p) c.args.composition.now.parts
    (ap (λ p. length p.nominal.p) c.new.ensures ∙ ap (λ x. length x.p) (sym (ok_same _ _ c.in-Ok.ensures)) ∙ c.requires.nominal))

pub returns : goal.returns
returns c =
    IfOk-implied _ _ c.with_rows.result
    (λ all e. premises_with c.in-Ok.nominal c.args.nominal.now _ c.new.result all (sym (ok_same _ _ c.in-Ok.ensures)) c.new.ensures
    (e ∙ ap (λ rows. record { nominal = c.new.result.nominal; rows = with_between 0 rows c.new.result.rows }) c.in_ok-rows.ensures)) c.with_rows.ensures
