-- The places are those in turn, so what holds of the steps is what holds of the columns that go.
use Rattle.std.proofs.Common.{◌≡◌, ◌∙◌, ◌+◌, ◌≤◌, ℕ, List, All, length, subst}
use Rattle.pa_math.specs.Answers.{IsAnswer}
use Rattle.pa_meaning.specs.Rows.{Row}
use Rattle.pa_elim.specs.declared.fault.ElimFault.TheVariants as fault
use Rattle.pa_elim.specs.Projecting.{Projection, projected_of}
use Rattle.pa_elim.specs.Meant.{IsProjection}
use Rattle.pa_elim.proofs.Gone.{gone_count, gone_few, gone_long, gone_met, of_steps, places_fit}
use Rattle.pa_elim.proofs.Unlimited.{eliminated_unlimited}
use Rattle.pa_elim.proofs.projecting.eliminate.Goals as goal

pub from_given-requires-clause-places : goal.from_given-requires-clause-places
from_given-requires-clause-places c =
    places_fit c.args.columns c.args.gone.now c.deref.result.now c.requires.gone (c.deref.ensures.value ∙ c.in-Ok.ensures)

pub returns-clause-points : goal.returns-clause-points
returns-clause-points c =
    of_steps c.args.limits.rows c.args.columns c.args.rows.now c.args.gone.now c.deref.result.now c.from_given.result (c.deref.ensures.value ∙ c.in-Ok.ensures)
    c.from_given.ensures.printed (λ (p : Projection). IsProjection c.args.gone.now c.args.rows.now p.rows)
    (gone_met c.args.limits.rows c.args.columns c.args.rows.now c.args.gone.now)

pub returns-clause-columns : goal.returns-clause-columns
returns-clause-columns c =
    of_steps c.args.limits.rows c.args.columns c.args.rows.now c.args.gone.now c.deref.result.now c.from_given.result (c.deref.ensures.value ∙ c.in-Ok.ensures)
    c.from_given.ensures.printed (λ (p : Projection). All (λ (r : Row). length r.c + length c.args.gone.now ≡ c.args.columns) p.rows)
    (gone_long c.args.limits.rows c.args.columns c.args.rows.now c.args.gone.now c.requires.columns c.requires.few c.args.limits.rows_in_range.greatest
    c.requires.gone)

pub returns-clause-few : goal.returns-clause-few
returns-clause-few c =
    of_steps c.args.limits.rows c.args.columns c.args.rows.now c.args.gone.now c.deref.result.now c.from_given.result (c.deref.ensures.value ∙ c.in-Ok.ensures)
    c.from_given.ensures.printed (λ (p : Projection). length p.rows ≤ 4096)
    (gone_few c.args.limits.rows c.args.columns c.args.rows.now c.args.gone.now c.requires.columns c.requires.few c.args.limits.rows_in_range.greatest
    c.requires.gone)

pub returns-clause-steps : goal.returns-clause-steps
returns-clause-steps c =
    of_steps c.args.limits.rows c.args.columns c.args.rows.now c.args.gone.now c.deref.result.now c.from_given.result (c.deref.ensures.value ∙ c.in-Ok.ensures)
    c.from_given.ensures.printed (λ (p : Projection). length p.steps ≡ length c.args.gone.now + 1)
    (gone_count c.args.limits.rows c.args.columns c.args.rows.now c.args.gone.now c.requires.columns c.requires.few c.args.limits.rows_in_range.greatest
    c.requires.gone)

pub returns-clause-unlimited : goal.returns-clause-unlimited
returns-clause-unlimited c bases =
    eliminated_unlimited c.args.limits.rows c.args.limits.pivots c.args.columns c.args.gone.now c.args.rows.now c.args.limits.rows_in_range.greatest
    c.requires.columns c.requires.few c.requires.short c.requires.gone bases c.from_given.result
    (subst (λ (places : List ℕ). IsAnswer fault.Memory (projected_of c.args.limits.rows c.args.limits.pivots c.args.columns places c.args.rows.now)
    c.from_given.result) (c.deref.ensures.value ∙ c.in-Ok.ensures) c.from_given.ensures.answer)
