use Rattle.std.proofs.Common.{ap, sym, ◌∙◌, ◌++◌, arith}
use Rattle.std.proofs.lemmas.List.{length-drop}
use Rattle.pa_grammar.specs.Lexemes.{seen_lexeme}
use Rattle.pa_grammar.specs.Lexer.{scope}
use Rattle.pa_grammar.proofs.Skips.{skipped, blank_skipped, token_read, bad_read, near_next, lexeme_from}
use Rattle.pa_grammar.proofs.lexer.tokens.Goals as goal
use Rattle.pa_grammar.proofs.lexer.tokens.Goals.{then-at-next-via-then-at-next, then-at-next-via-else-at-next+then-is_blank}

pub loop-at-preserved-then-at-next : goal.loop-at-preserved-then-at-next
loop-at-preserved-then-at-next c = elim c.then-at-next.branch [
  | then-at-next-via-then-at-next w ↦ record {
    read = ap (λ xs. c.loop-at.tokens.items ++ xs) (sym (skipped (scope c.args.names.now c.args.constants.now.names c.args.constants.now.values.items)
        c.args.text.now c.loop-at.at c.loop-at.next c.loop-at-test.true w.if-at-next.true)) ∙ c.loop-at.invariant.read;
    near = omega (arith, c.loop-at.invariant.near);
  }
  | then-at-next-via-else-at-next+then-is_blank w ↦ record {
    read = ap (λ xs. c.loop-at.tokens.items ++ xs) (sym (blank_skipped (scope c.args.names.now c.args.constants.now.names
        c.args.constants.now.values.items) c.args.text.now c.loop-at.at c.loop-at.next c.loop-at-test.true w.if-at-next.false (sym w.is_blank.ensures
        ∙ w.if-is_blank.true))) ∙ c.loop-at.invariant.read;
    near = omega (arith, c.loop-at.invariant.near);
  }
]

pub returns-then-is_bad : goal.returns-then-is_bad
returns-then-is_bad c =
    bad_read (scope c.args.names.now c.args.constants.now.names c.args.constants.now.values.items) c.args.text.now c.loop-at.at c.loop-at.next (seen_lexeme
    c.in_ok-lexeme.lexeme) c.loop-at.tokens.items _ _ c.loop-at-test.true c.if-at-next.false
    (sym c.is_blank.ensures ∙ c.if-is_blank.false) (lexeme_from (scope c.args.names.now c.args.constants.now.names c.args.constants.now.values.items)
    (seen_lexeme c.in_ok-lexeme.lexeme) c.text_from.result.now c.args.text.now c.loop-at.at c.text_from.ensures c.in_ok-lexeme.ensures.value) (sym
    c.is_bad.ensures ∙ c.if-is_bad.true) c.in_ok-push.ensures.items c.loop-at.invariant.read

pub overflow_add-next : goal.overflow_add-next
overflow_add-next c = omega (arith, c.in_ok-lexeme.ensures.bound, length-drop c.loop-at.at c.args.text.now, c.requires, c.loop-at-test.true)

pub loop-at-preserved : goal.loop-at-preserved
loop-at-preserved c = record {
  read = token_read (scope c.args.names.now c.args.constants.now.names c.args.constants.now.values.items) c.args.text.now c.loop-at.at c.loop-at.next
      (seen_lexeme c.in_ok-lexeme.lexeme) c.loop-at.tokens.items _ _ c.loop-at-test.true c.if-at-next.false
      (sym c.is_blank.ensures ∙ c.if-is_blank.false) (lexeme_from (scope c.args.names.now c.args.constants.now.names c.args.constants.now.values.items)
      (seen_lexeme c.in_ok-lexeme.lexeme) c.text_from.result.now c.args.text.now c.loop-at.at c.text_from.ensures c.in_ok-lexeme.ensures.value) (sym
      c.is_bad.ensures ∙ c.if-is_bad.false) c.in_ok-push.ensures.items c.loop-at.invariant.read;
  near = near_next c.in_ok-lexeme.lexeme.len c.loop-at.at c.text_from.result.now c.args.text.now c.text_from.ensures c.in_ok-lexeme.ensures.bound c.requires;
}
