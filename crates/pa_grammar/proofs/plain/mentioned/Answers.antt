-- A text has no more tokens than bytes, so there is room for each token's name.
use Rattle.std.proofs.Common.{ap, ◌∙◌, length, arith, []}
use Rattle.pa_grammar.specs.Lexer.{plain_scope}
use Rattle.pa_grammar.proofs.Mentions.{tokens_few, few_more, next_name}
use Rattle.std.proofs.lemmas.List.{drop_more}
use Rattle.pa_grammar.proofs.plain.mentioned.Goals as goal

pub add_token-requires : goal.add_token-requires
add_token-requires c =
    omega (
      arith,
      c.loop-token.invariant.few,
      c.loop-token-test.true,
      ap length (c.deref-token-items.ensures.value ∙ c.in_ok-placed.ensures),
      tokens_few (plain_scope []) 0 0 c.args.text.now,
      c.requires,
    )

pub loop-token-preserved : goal.loop-token-preserved
loop-token-preserved c = record {
  so_far = next_name c.args.text.now c.loop-token.names c.add_token.new.names _ c.deref-token-items.result.now c.loop-token.token-index _
      c.in_ok-add_token.ensures (drop_more c.deref-token-items.result.now c.loop-token.token-index _ c.loop-token-test.true) c.loop-token.invariant.so_far;
  few = search (few_more, c.in_ok-add_token.ensures, c.loop-token.invariant.few);
}
