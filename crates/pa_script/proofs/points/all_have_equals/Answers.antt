use Rattle.std.proofs.Common.{rules, sym, ◌∙◌}
use Rattle.std.proofs.lemmas.List.Folds.{list_all-map}
use Rattle.std.proofs.lemmas.Iterator.{YieldsList-from_slice}
use Rattle.std.proofs.lemmas.Iterator.Search.{all_from_yields_List}
use Rattle.pa_script.specs.Points.{has_equals}
use Rattle.pa_script.proofs.points.all_have_equals.Goals as goal

pub returns : goal.returns
returns c = all_from_yields_List _ _ _ _ c.all.ensures.ran (YieldsList-from_slice c.args.words.now cc) (λ x b q k. search rules)
    ∙ sym (list_all-map has_equals (λ word. word.now) c.args.words.now)
