use Rattle.std.proofs.Common.{false, sym, ap, ◌∙◌, arith}
use Rattle.std.specs.List.{position_from}
use Rattle.std.proofs.lemmas.Iterator.Adapters.{position_from-zero}
use Rattle.pa_grammar.specs.Faults.{faults_in, piece_faults}
use Rattle.pa_grammar.proofs.linear.first_fault.Goals as goal

pub loop-i-init : goal.loop-i-init
loop-i-init c = record {
  rest = ap (λ r. position_from (λ b. b) 0 (faults_in r false c.args.pieces.now)) c.relation_of-relation.ensures
      ∙ sym (position_from-zero (λ b. b) (piece_faults c.args.pieces.now));
  near = omega arith;
}
