-- Each turn appends the negative of one number.
use Rattle.std.proofs.Common.{rules}
use Rattle.std.proofs.lemmas.Int.{ints, to_z-of_z}
use Rattle.pa_refine.proofs.Values.{negated_more}
use Rattle.pa_refine.proofs.goal.opposites.Goals as goal

pub loop-i-preserved : goal.loop-i-preserved
loop-i-preserved c = record {
  made = negated_more c.args.numbers.now c.loop-i.i _ c.opposite.result c.loop-i.opposites.items c.push_reserved.new.self.items
      (search rules) (search (rules, ints, to_z-of_z)) c.opposite.ensures (search rules) c.loop-i.invariant.made;
  filled = search rules;
  room = search rules;
}
