use Rattle.std.proofs.Common.{ap, length, arith}
use Rattle.pa_script.proofs.Turns.{words_taken}
use Rattle.pa_script.proofs.read.with_words.Goals as goal

pub returns : goal.returns
returns c =
    words_taken c.args.script c.args.number c.args.line.now c.in_ok-op.op c.with_op.result
    (omega (arith, c.len.ensures, ap length c.script.view_is, c.if-len-ge-MOST_LINES.false)) c.in_ok-op.ensures.answer c.with_op.ensures
