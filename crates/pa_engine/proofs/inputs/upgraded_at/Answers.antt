use Rattle.pa_json.specs.Upgrades.{upgrade_of}
use Rattle.pa_engine.proofs.Fetched.{long_upgrade, upgrade_stands, no_diagram}
use Rattle.pa_engine.proofs.inputs.upgraded_at.Goals as goal

-- what the bytes that were fetched are upgraded to, is so of what stands at the path
pub returns-in-Ok-clause-ok : goal.returns-in-Ok-clause-ok
returns-in-Ok-clause-ok g c =
    upgrade_stands (λ text. text.items) _ _ _ c.in-Ok.ensures.content c.upgraded_in.result c.upgraded_in.ensures.ok c.upgraded_in.ensures.same

pub returns-in-Ok-clause-err : goal.returns-in-Ok-clause-err
returns-in-Ok-clause-err g c =
    no_diagram upgrade_of (λ text. text.items) _ long_upgrade _ _ _ c.in-Ok.ensures.content _ c.upgraded_in.result c.upgraded_in.ensures.err
