-- A name that is lacking decides, and one that is not changes nothing for the rest.
use Rattle.std.proofs.Common.{sym, ◌∙◌}
use Rattle.pa_meaning.specs.Composition.{is_among}
use Rattle.pa_refine.proofs.Ports.{all_failed, all_passed}
use Rattle.pa_refine.proofs.names.are_among.Goals as goal

pub returns-then-lacks : goal.returns-then-lacks
returns-then-lacks c =
    all_failed (is_among c.args.others.now) c.args.names.now c.loop-place.place c.at-name.result.now c.at-name.ensures
    (sym c.lacks.ensures ∙ c.if-lacks.true) c.loop-place.invariant

pub loop-place-preserved : goal.loop-place-preserved
loop-place-preserved c =
    all_passed (is_among c.args.others.now) c.args.names.now c.loop-place.place c.at-name.result.now c.at-name.ensures
    (sym c.lacks.ensures ∙ c.if-lacks.false) c.loop-place.invariant
