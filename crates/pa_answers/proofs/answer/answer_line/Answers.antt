use Rattle.pa_answers.proofs.Truths.{if_ok_holds, if_ok_true, if_ok_advances}
use Rattle.pa_answers.proofs.answer.answer_line.Goals as goal

pub returns-clause-holds : goal.returns-clause-holds
returns-clause-holds c formed =
    if_ok_holds c.args.table.now c.args.line.now.op c.show_limits.ensures c.requires.well_formed c.answer_op.result c.answer_op.ensures formed

pub returns-clause-truth : goal.returns-clause-truth
returns-clause-truth c formed =
    if_ok_true c.args.table.now c.args.line.now.op c.show_limits.ensures c.requires.well_formed c.answer_op.result c.answer_op.ensures formed

pub returns-clause-advances : goal.returns-clause-advances
returns-clause-advances c = if_ok_advances c.args.table.now c.args.line.now.op c.answer_op.result c.answer_op.ensures
