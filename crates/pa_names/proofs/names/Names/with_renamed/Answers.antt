use Rattle.std.proofs.Common.{inl, inr, ⊎_elim, ap, length, arith}
use Rattle.std.proofs.lemmas.List.{length_push}
use Rattle.pa_math.proofs.Answers.{IfErr-handed_on}
use Rattle.pa_names.proofs.Renamings.{renamed_more, renamed_twice}
use Rattle.pa_names.proofs.names.Names.with_renamed.Goals as goal

pub returns-in_err-add_copy-clause-err : goal.returns-in_err-add_copy-clause-err
returns-in_err-add_copy-clause-err c = IfErr-handed_on _ c.in_err-add_copy.field-0.0 c.from_residual.result c.from_residual.ensures.1 (⊎_elim inl
    (λ taken. inr (
      taken.0,
      renamed_twice c.args.pairs.now c.args.names.now c.loop-place.self _ c.loop-place.place c.at.result.now c.new_name.result.now c.at.ensures
          c.new_name.ensures c.loop-place.invariant.whole taken.1,
    ))
    c.in_err-add_copy.ensures.err)

pub loop-place-preserved : goal.loop-place-preserved
loop-place-preserved c = record {
  place = omega (arith, ap length c.in_ok-add_copy.ensures.ok, length_push c.loop-place.self c.new_name.result.now, c.loop-place.invariant.place);
  whole =
      renamed_more c.args.pairs.now c.args.names.now c.loop-place.self c.add_copy.new.self _ c.loop-place.place c.at.result.now c.new_name.result.now
      c.at.ensures c.new_name.ensures c.in_ok-add_copy.ensures.ok c.loop-place.invariant.whole;
}
