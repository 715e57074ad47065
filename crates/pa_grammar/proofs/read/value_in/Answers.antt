use Rattle.std.proofs.Common.{sym, ◌∙◌, subst}
use Rattle.pa_row.specs.Fractions.{IsFraction}
use Rattle.pa_grammar.proofs.Pushed.{fraction_is}
use Rattle.pa_grammar.proofs.Answered.{value_within}
use Rattle.pa_grammar.proofs.read.value_in.Goals as goal

pub fraction_of-fraction-requires : goal.fraction_of-fraction-requires
fraction_of-fraction-requires c =
    value_within c.in-Ok-parse_value.value c.deref.result.now c.deref-2.result.now c.args.text.now (c.deref.ensures.value
    ∙ c.in-Ok.ensures) (c.deref-2.ensures.value ∙ c.in-Ok.ensures)
    c.in-Ok-parse_value.ensures.value.0 c.in-Ok-parse_value.ensures.value.1 (sym c.in_default-first_bad_literal.ensures.value)

pub returns-clause-within : goal.returns-clause-within
returns-clause-within c = subst IsFraction (sym c.parts_in.ensures) (fraction_is c.fraction_of-fraction.result)
