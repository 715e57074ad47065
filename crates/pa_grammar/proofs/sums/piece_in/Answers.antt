use Rattle.std.proofs.Common.{◌∙◌, ap}
use Rattle.pa_grammar.specs.declared.machine.Piece.TheVariants as P
use Rattle.pa_grammar.specs.Seen.{seen_side, seen_sum, fraction}
use Rattle.pa_grammar.proofs.Taken.{constant_in, variable_in}
use Rattle.pa_grammar.proofs.sums.piece_in.Goals as goal

pub returns-in-Constant : goal.returns-in-Constant
returns-in-Constant c =
    constant_in c.args.names c.args.piece c.in-Constant.sign c.in-Constant.factor (seen_side c.args.sum.side) (seen_sum c.args.sum).frames
    (seen_sum c.args.sum).sides
    (fraction c.factor_of.result) _ c.in-Constant.is c.factor_of.ensures c.changed.ensures

pub returns-in-Some : goal.returns-in-Some
returns-in-Some c =
    variable_in c.args.names c.args.piece c.in-Variable.sign c.in-Variable.factor c.in-Some.place
    (seen_side c.args.sum.side) (seen_sum c.args.sum).frames (seen_sum c.args.sum).sides (fraction c.scale_of.result) _
    (c.in-Variable.is ∙ ap (P.Variable c.in-Variable.sign c.in-Variable.factor) c.in-Some.is) c.scale_of.ensures c.changed-in-Some.ensures
