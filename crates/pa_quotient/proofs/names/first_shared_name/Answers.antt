use Rattle.std.proofs.Common.{sym, ◌∙◌}
use Rattle.pa_meaning.specs.Composition.{is_among}
use Rattle.pa_contract.proofs.Steps.{find_found, find_passed}
use Rattle.pa_quotient.proofs.names.first_shared_name.Goals as goal

pub returns-then-has : goal.returns-then-has
returns-then-has c =
    find_found (is_among c.args.names.now) c.args.asked.now c.loop-place.place c.at-name.result.now c.at-name.ensures (sym c.has.ensures ∙ c.if-has.true)
    c.loop-place.invariant

pub loop-place-preserved : goal.loop-place-preserved
loop-place-preserved c =
    find_passed (is_among c.args.names.now) c.args.asked.now c.loop-place.place c.at-name.result.now c.at-name.ensures (sym c.has.ensures ∙ c.if-has.false)
    c.loop-place.invariant
