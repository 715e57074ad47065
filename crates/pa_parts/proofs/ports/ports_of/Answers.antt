use Rattle.std.proofs.Common.{sym, ap, ◌∙◌}
use Rattle.std.specs.Option.{option_copied}
use Rattle.pa_parts.proofs.PortsDue.{name_missing, outputs_told}
use Rattle.pa_parts.proofs.ports.ports_of.Goals as goal

pub returns-in-Err-clause-answer : goal.returns-in-Err-clause-answer
returns-in-Err-clause-answer c = outputs_told c.args.parts.now c.args.keep.now c.in-Err.fault c.in-Err.ensures

pub returns-in-Some-clause-answer : goal.returns-in-Some-clause-answer
returns-in-Some-clause-answer c =
    name_missing c.args.parts.now c.args.keep.now c.in-Ok.outputs c.in-Ok.ensures c.in-Some.name.now c.not_output.result
    (sym c.first_missing_name.ensures ∙ ap option_copied c.in-Some.is) c.not_output.ensures
