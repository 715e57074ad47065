use Rattle.std.proofs.Common.{◌∙◌, ap, arith}
use Rattle.pa_meaning.specs.Composition.{assumptions_over, names_of}
use Rattle.pa_parts.proofs.Rows.{at_names}
use Rattle.pa_discharge.proofs.Composed.{seen_more, terms_more}
use Rattle.pa_discharge.proofs.composition.terms_of.Goals as goal

-- the assumptions of one part more
pub loop-place-preserved : goal.loop-place-preserved
loop-place-preserved c =
    seen_more _ _ _ c.in-Ok.rows _ _ _ c.in_ok-push.ensures.items
    (c.in-Ok.ensures ∙ ap (λ names. assumptions_over names c.at.result.now) (at_names c.args.parts.now c.args.ports.now c.requires))
    (terms_more c.args.parts.now c.loop-place.place (names_of c.args.parts.now) c.at.result.now _ _
    (omega (arith, c.loop-place-test.true, c.len-place-end.ensures)) c.at.ensures.part c.loop-place.invariant)
