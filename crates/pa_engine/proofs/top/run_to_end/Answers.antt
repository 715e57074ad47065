use Rattle.std.proofs.Common.{⊎_elim, inr, sym, map, string_bytes}
use Rattle.pa_engine.proofs.Ends.{caused_by_report, caused_by_stop, caused_by_upgrade}
use Rattle.pa_engine.proofs.top.run_to_end.Goals as goal

-- the report of the inputs is due, and was put
pub returns-in-Ok-clause-caused : goal.returns-in-Ok-clause-caused
returns-in-Ok-clause-caused g c =
    caused_by_report (map string_bytes c.args.words.now) _ _ _ _ _ _ _ (sym c.in-Some-paths_of.ensures) _ _
    c.in-Ok.ensures.ok c.answer_all.ensures.printed c.answer_all.ensures.truth c.answer_all.ensures.put

-- the line of what stops the run is due, and was put, or memory ran out
pub returns-in-Err : goal.returns-in-Err
returns-in-Err g c = record {
  caused = ⊎_elim
      (λ memory. inr (c.put_stop.ensures.memory memory))
      (λ stopped. caused_by_stop (map string_bytes c.args.words.now) _ _ _ _ _ _ _ (sym c.in-Some-paths_of.ensures) _ stopped c.put_stop.ensures.put)
      c.in-Err.ensures.err;
  holds = c.read_inputs.ensures.same;
}

-- what an upgrade makes due was put
pub returns-in-Some-clause-caused : goal.returns-in-Some-clause-caused
returns-in-Some-clause-caused g c =
    caused_by_upgrade (map string_bytes c.args.words.now) _ _ _ _ _ _ _ (sym c.in-Some.ensures) c.put_upgraded.ensures.due
