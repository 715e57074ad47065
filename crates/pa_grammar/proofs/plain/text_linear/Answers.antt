use Rattle.std.proofs.Common.{sym, subst, ◌∙◌}
use Rattle.pa_grammar.specs.Lexer.{plain_scope}
use Rattle.pa_grammar.specs.Limits.{AllHaveValues}
use Rattle.pa_grammar.specs.Parsed.{tokens_in}
use Rattle.pa_grammar.specs.Plains.{mentioned}
use Rattle.pa_grammar.specs.Sized.{AreSized}
use Rattle.pa_grammar.proofs.Sizes.{tokens_sized}
use Rattle.pa_grammar.proofs.PlainAnswers.{scoped}
use Rattle.pa_grammar.proofs.plain.text_linear.Goals as goal

pub pieces_linear-requires : goal.pieces_linear-requires
pieces_linear-requires c =
    subst AllHaveValues (sym c.deref-2.ensures.value) (c.in_ok-pieces.ensures.values
    (subst (λ placed. AreSized (tokens_in placed))
    (sym (c.deref.ensures.value ∙ c.in-Ok-tokens.ensures
    ∙ scoped c.args.text.now c.in-Ok.names c.none.result.names c.none.result.values.items c.in-Ok.ensures c.none.ensures.names c.none.ensures.values))
    (tokens_sized (plain_scope (mentioned c.args.text.now)) 0 0 c.args.text.now tt)))
