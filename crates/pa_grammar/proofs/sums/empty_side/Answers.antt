use Rattle.std.proofs.Common.{Ok, ap}
use Rattle.pa_grammar.proofs.Taken.{empty_is}
use Rattle.pa_grammar.proofs.sums.empty_side.Goals as goal

pub returns-in-Ok : goal.returns-in-Ok
returns-in-Ok c = ap Ok (empty_is c.args.names c.zero.result c.in-Ok.vector.items c.new.result.items
    (c.in-Ok.ensures.items_if_clones_equal (λ y e. e)) c.zero.ensures c.new.ensures.items)
