use Rattle.pa_check.proofs.Proofs.{proofs_told}
use Rattle.pa_check.proofs.proving.prove_each.Goals as goal

pub returns-clause-truth : goal.returns-clause-truth
returns-clause-truth c =
    proofs_told c.each_proved.result c.args.columns c.args.rows.now c.args.asked.now c.args.weights.now c.show_canonical.ensures c.requires.columns
    c.requires.asked_columns c.each_proved.ensures
