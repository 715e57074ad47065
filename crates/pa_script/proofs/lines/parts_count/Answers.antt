use Rattle.std.proofs.Common.{rules, sym, ◌∙◌}
use Rattle.std.proofs.lemmas.Iterator.{YieldsList-from_slice}
use Rattle.std.proofs.lemmas.Iterator.Search.{YieldsList-from_take_while}
use Rattle.std.proofs.lemmas.Iterator.Consumers.{count_from_yields_List}
use Rattle.std.proofs.lemmas.List.Folds.{length-prefix_len}
use Rattle.pa_script.specs.Lines.{is_before_keep}
use Rattle.pa_script.proofs.Mapped.{prefix_twice}
use Rattle.pa_script.proofs.lines.parts_count.Goals as goal

pub returns-clause-value : goal.returns-clause-value
returns-clause-value c =
    count_from_yields_List c.take_while.result _ c.count.ensures.ran
    (YieldsList-from_take_while _ (λ word. is_before_keep word.now) (YieldsList-from_slice c.args.words.now cc) c.take_while.ensures.closure
    c.take_while.ensures.done (λ x b q k. search rules))
    ∙ length-prefix_len (λ word. is_before_keep word.now) c.args.words.now
    ∙ sym (prefix_twice is_before_keep (λ word. word.now) c.args.words.now)
