use Rattle.std.proofs.Common.{sym, ◌∙◌, not}
use Rattle.pa_meaning.specs.Contracts.{ports}
use Rattle.pa_meaning.specs.Composition.{is_among}
use Rattle.pa_contract.proofs.Steps.{find_found, find_passed}
use Rattle.pa_refine.proofs.names.first_missing_port.Goals as goal

pub returns-then-is_missing : goal.returns-then-is_missing
returns-then-is_missing c =
    find_found (λ n. not (is_among (ports c.args.contract.now) n)) c.args.names.now c.loop-place.place c.at-name.result.now c.at-name.ensures
    (sym c.is_missing.ensures ∙ c.if-is_missing.true) c.loop-place.invariant

pub loop-place-preserved : goal.loop-place-preserved
loop-place-preserved c =
    find_passed (λ n. not (is_among (ports c.args.contract.now) n)) c.args.names.now c.loop-place.place c.at-name.result.now c.at-name.ensures
    (sym c.is_missing.ensures ∙ c.if-is_missing.false) c.loop-place.invariant
