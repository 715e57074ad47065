use Rattle.std.proofs.Common.{sym, ◌∙◌, not}
use Rattle.pa_meaning.specs.Composition.{is_among}
use Rattle.pa_contract.proofs.Steps.{find_found, find_passed}
use Rattle.pa_parts.proofs.names.first_missing_name.Goals as goal

pub returns-then-lacks : goal.returns-then-lacks
returns-then-lacks c =
    find_found (λ n. not (is_among c.args.names.now n)) c.args.asked.now c.loop-place.place c.at-name.result.now c.at-name.ensures
    (sym c.lacks.ensures ∙ c.if-lacks.true) c.loop-place.invariant

pub loop-place-preserved : goal.loop-place-preserved
loop-place-preserved c =
    find_passed (λ n. not (is_among c.args.names.now n)) c.args.asked.now c.loop-place.place c.at-name.result.now c.at-name.ensures
    (sym c.lacks.ensures ∙ c.if-lacks.false) c.loop-place.invariant
