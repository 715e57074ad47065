use Rattle.std.proofs.Common.{rules, subst, sym}
use Rattle.std.proofs.lemmas.Result.{IfOk-weaker}
use Rattle.std.proofs.lemmas.Iterator.Consumers.{map_from_collect, YieldsList-from_filter, YieldsList-at}
use Rattle.std.proofs.lemmas.Iterator.Splits.{YieldsList-from_slice_split}
use Rattle.pa_script.specs.Words.{is_blank, is_there, AreShort}
use Rattle.pa_script.proofs.Short.{words_short}
use Rattle.pa_script.proofs.words.words_of.Goals as goal

pub returns-clause-words : goal.returns-clause-words
returns-clause-words c =
    map_from_collect _ c.collect.ensures.ran
    (YieldsList-from_filter _ is_there
    (YieldsList-at c.filter.ensures.source (YieldsList-from_slice_split _ is_blank c.args.text.now c.split.ensures.rest c.split.ensures.done
    c.split.ensures.closure (λ x b q h. search rules)))
    c.filter.ensures.closure (λ x b q h. search rules))

pub returns-clause-short : goal.returns-clause-short
returns-clause-short c =
    IfOk-weaker c.collect.result _ _ (λ words is. subst AreShort (sym is) (words_short c.args.text.now c.requires)) (returns-clause-words c)
