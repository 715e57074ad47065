-- The value that is read has its weights and its point, and decides the answer.
use Rattle.std.proofs.Common.{◌∙◌, ap, subst, sym}
use Rattle.pa_replay.specs.Readings.{LeastRead}
use Rattle.pa_refine.specs.Seen.{ShowsValue}
use Rattle.pa_refine.specs.Bounding.{value_checked}
use Rattle.pa_refine.proofs.Values.{least_answered, value_shown}
use Rattle.pa_refine.proofs.best.by_least.Goals as goal

pub value_answer-requires-clause-shown : goal.value_answer-requires-clause-shown
value_answer-requires-clause-shown c =
    subst (λ (a : LeastRead). ShowsValue c.args.asked.now c.in-Ok.read.0.0 c.in-Ok.read.0.1 a.weights c.in-Ok.read.1) (sym c.least.view_is)
    (value_shown c.args.asked.now c.args.least c.in-Ok.read c.requires.shown c.in-Ok.ensures.meaning)

pub returns-in-Ok-clause-exact : goal.returns-in-Ok-clause-exact
returns-in-Ok-clause-exact c =
    least_answered c.args.asked.now c.args.least c.in-Ok.read c.value_answer.result c.in-Ok.ensures.exact
    (c.value_answer.ensures.exact
    ∙ ap (λ (a : LeastRead). value_checked c.args.asked.now c.in-Ok.read.0.0 c.in-Ok.read.0.1 a.weights c.in-Ok.read.1) c.least.view_is)
