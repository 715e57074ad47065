use Rattle.std.proofs.Common.{rules, ◌≡◌, ◌∙◌, IfOk, map, length, ap, subst, sym}
use Rattle.std.proofs.lemmas.List.{length-map}
use Rattle.std.proofs.lemmas.Result.{IfOk-weaker}
use Rattle.std.proofs.lemmas.Iterator.{YieldsList-from_slice, YieldsList-from_map_by}
use Rattle.std.proofs.lemmas.Iterator.Consumers.{map_from_collect}
use Rattle.pa_script.specs.Points.{name_part}
use Rattle.pa_script.proofs.Mapped.{map_twice}
use Rattle.pa_script.proofs.points.name_parts.Goals as goal

pub returns-clause-parts : goal.returns-clause-parts
returns-clause-parts c =
    subst (λ all. IfOk c.collect.result (λ names. map (λ name. name.now) names.items ≡ all)) (sym (map_twice name_part (λ word. word.now) c.args.words.now))
    (map_from_collect _ c.collect.ensures.ran
    (YieldsList-from_map_by _ (λ r. r.now) (λ word. name_part word.now) (YieldsList-from_slice c.args.words.now cc) c.map.ensures.closure (λ x r q k. search
    rules)))

-- a part for each word
pub returns-clause-count : goal.returns-clause-count
returns-clause-count c =
    IfOk-weaker c.collect.result _ _
    (λ names is. sym (length-map names.items (λ name. name.now)) ∙ ap length is ∙ length-map (map (λ word. word.now) c.args.words.now) name_part
    ∙ length-map c.args.words.now (λ word. word.now))
    (returns-clause-parts c)
