-- A part that is not stuck, or is discharged, leaves the find to the rest; a part that is stuck, or a halt, is the whole's.
use Rattle.std.proofs.Common.{◌∙◌, ◌≤◌, ap, subst, Ok}
use Rattle.pa_discharge.proofs.EachTurn.{stops, whole_found, whole_halted, whole_more, whole_past}
use Rattle.pa_discharge.proofs.rounds.first_stuck.Goals as goal

pub returns-in-Ok-Some-clause-exact : goal.returns-in-Ok-Some-clause-exact
returns-in-Ok-Some-clause-exact c =
    c.loop-part.invariant.exact ∙ whole_found c.args.premises.now c.args.most c.args.terms.now c.loop-part.part c.at-rows.result.now c.at-rows.ensures
    c.args.standing.now c.at-brought.result.now c.at-brought.ensures c.in-Ok-Some.stuck
    (c.in-Ok-Some.ensures.exact ∙ ap Ok c.in-Ok-Some.field-0-is)

pub returns-in-Err-clause-exact : goal.returns-in-Err-clause-exact
returns-in-Err-clause-exact c =
    stops _ _ _ c.in-Err.halt c.loop-part.invariant.exact
    (whole_halted c.args.premises.now c.args.most c.args.terms.now c.loop-part.part c.at-rows.result.now c.at-rows.ensures
    c.args.standing.now c.at-brought.result.now c.at-brought.ensures c.in-Err.halt) c.in-Err.ensures.exact

pub loop-part-preserved : goal.loop-part-preserved
loop-part-preserved c = record {
  exact = c.loop-part.invariant.exact
      ∙ whole_more c.args.premises.now c.args.most c.args.terms.now c.loop-part.part c.at-rows.result.now c.at-rows.ensures
      c.args.standing.now c.at-brought.result.now c.at-brought.ensures
      (c.in-Ok-None.ensures.exact ∙ ap Ok c.in-Ok-None.field-0-is);
  room = record {
    lines = c.whole_turn.ensures.room.lines ∙ c.loop-part.invariant.room.lines;
    rows = c.whole_turn.ensures.room.rows ∙ c.loop-part.invariant.room.rows;
  };
}

pub returns-clause-exact : goal.returns-clause-exact
returns-clause-exact c =
    c.loop-part.invariant.exact ∙ whole_past c.args.premises.now c.args.most c.loop-part.part c.args.terms.now c.args.standing.now
    (subst (λ n. n ≤ c.loop-part.part) c.len-part-end.ensures c.loop-part-test.false)
