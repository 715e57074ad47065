-- Each part that was discharged in this round brings its guarantees.
use Rattle.std.proofs.Common.{◌∙◌, ◌+◌, ap, sym, subst, arith, List}
use Rattle.pa_meaning.specs.Contracts.{Contract}
use Rattle.pa_meaning.specs.Composition.{names_of}
use Rattle.pa_parts.specs.Composing.{names_in}
use Rattle.pa_parts.proofs.Rows.{at_names}
use Rattle.pa_discharge.proofs.Grown.{IsGrowing, few_here, grown_more, nominal_stays}
use Rattle.pa_discharge.proofs.discharging.with_discharged.Goals as goal

pub passed-requires-clause-few : goal.passed-requires-clause-few
passed-requires-clause-few c =
    few_here (names_of c.args.composition.now.parts) c.args.composition.now.parts c.args.round c.args.standing.now c.loop-place.place
    (omega (arith, c.loop-place-test.true, c.len-place-end.ensures)) c.loop-place.grown c.part-part.result.now c.part-part.ensures
    c.loop-place.invariant.growing

pub loop-place-preserved : goal.loop-place-preserved
loop-place-preserved c =
    let parts : List Contract = c.args.composition.now.parts in
    record {
      growing = subst (IsGrowing (names_of parts) parts c.args.round c.args.standing.now (c.loop-place.place + 1)) (sym c.in-Ok.ensures)
          (grown_more (names_of parts) parts c.args.round c.args.standing.now c.loop-place.place
          (omega (arith, c.loop-place-test.true, c.len-place-end.ensures)) c.loop-place.grown c.ports.result.now
          (ap names_in c.ports.ensures ∙ at_names parts c.args.composition.now.ports c.requires.can.names) c.part-part.result.now c.part-part.ensures
          c.loop-place.invariant.growing c.at-brought.result.now c.at-brought.ensures);
      nominal = ap (λ g. g.premises.nominal) c.in-Ok.ensures
          ∙ nominal_stays c.ports.result.now c.args.round c.part-part.result.now c.at-brought.result.now c.loop-place.grown ∙ c.loop-place.invariant.nominal;
    }
