use Rattle.std.proofs.Common.{◌∙◌, ap, sym}
use Rattle.pa_meaning.specs.Rows.{primitive}
use Rattle.pa_grammar.specs.Values as spec
use Rattle.pa_grammar.proofs.Pushed.{row_with_last, last_fits, bound_is}
use Rattle.pa_grammar.proofs.rows.row_with.Goals as goal

pub returns : goal.returns
returns c =
    let bound = bound_is c.in-Some.constant (last_fits c.args.numbers.items c.pop.new.self.items c.in-Some.constant c.requires c.in-Some.ensures.items) in
    c.row.view_is ∙ c.primitive.ensures.value
    ∙ ap primitive ((λ i. record { c = c.pop.new.self.items; b = bound i }) ∙ sym (row_with_last c.pop.new.self.items c.in-Some.constant)
    ∙ ap spec.row_with (sym c.in-Some.ensures.items))
