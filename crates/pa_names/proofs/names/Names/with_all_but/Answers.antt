use Rattle.std.proofs.Common.{arith, inl, inr, ap, sym, ⊎_elim, ◌∙◌, drop, ◌+◌, Err}
use Rattle.pa_math.proofs.Answers.{IsAnswer-handed_on}
use Rattle.pa_names.specs.Names.{names_without}
use Rattle.pa_names.specs.declared.fault.NameFault.TheVariants.{Memory}
use Rattle.pa_names.proofs.Kept.{kept_more, kept_too_long, kept_whole}
use Rattle.pa_names.proofs.names.Names.with_all_but.Goals as goal

pub returns-in_err-add_unless : goal.returns-in_err-add_unless
returns-in_err-add_unless c = IsAnswer-handed_on Memory c.in_err-add_unless.field-0.0 _ c.from_residual.result c.from_residual.ensures.1 (⊎_elim inl
    (λ full. inr (kept_too_long c.args.self (names_without c.args.names.now c.args.other.now) _
    (names_without (drop (c.loop-place.place + 1) c.args.names.now) c.args.other.now)
    (sym (kept_more c.loop-place.self c.args.names.now c.args.other.now c.loop-place.place c.at.result.now c.at.ensures) ∙ c.loop-place.invariant) full.1
    ∙ ap Err (sym full.0))) c.in_err-add_unless.ensures.limit)

pub returns : goal.returns
returns c =
    kept_whole c.args.self (names_without c.args.names.now c.args.other.now) c.loop-place.self c.args.names.now c.args.other.now c.loop-place.place
    (omega arith) c.loop-place.invariant (omega arith)
