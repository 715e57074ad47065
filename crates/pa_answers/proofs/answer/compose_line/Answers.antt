use Rattle.std.proofs.Common.{◌≡◌, ◌∙◌, ap, arith, length}
use Rattle.pa_answers.proofs.Truths.{named_many}
use Rattle.pa_answers.proofs.answer.compose_line.Goals as goal

-- there are as many parts as names
pub composed-requires : goal.composed-requires
composed-requires c =
    let many : length c.in_ok-parts.parts ≡ length c.deref-2.result.now =
    named_many c.args.table.now c.deref-2.result.now c.in_ok-parts.parts c.in_ok-parts.ensures in
    let same : length c.deref-2.result.now ≡ length c.args.names.now = ap length c.deref-2.ensures.value ∙ ap length c.names.view_is in
    record { few = omega (arith, many, same, c.requires.few) }
