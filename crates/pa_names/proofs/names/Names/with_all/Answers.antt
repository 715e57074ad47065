use Rattle.std.proofs.Common.{arith, inl, inr, ap, sym, ⊎_elim, ◌∙◌, Err}
use Rattle.pa_math.proofs.Answers.{IsAnswer-handed_on}
use Rattle.pa_names.specs.declared.fault.NameFault.TheVariants.{Memory}
use Rattle.pa_names.proofs.Unions.{union_too_long, union_whole}
use Rattle.pa_names.proofs.names.Names.with_all.Goals as goal

pub returns-in_err-add_new : goal.returns-in_err-add_new
returns-in_err-add_new c = IsAnswer-handed_on Memory c.in_err-add_new.field-0.0 _ c.from_residual.result c.from_residual.ensures.1 (⊎_elim inl
    (λ full. inr (union_too_long c.args.self c.args.other.now c.loop-place.self c.loop-place.place c.at.result.now c.at.ensures c.loop-place.invariant full.1
    ∙ ap Err (sym full.0))) c.in_err-add_new.ensures.limit)

pub returns : goal.returns
returns c = union_whole c.args.self c.args.other.now c.loop-place.self c.loop-place.place (omega arith) c.loop-place.invariant (omega arith)
