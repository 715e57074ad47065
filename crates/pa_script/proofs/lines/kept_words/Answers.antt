use Rattle.std.proofs.Common.{◌+◌, ◌-◌, sym, ◌∙◌, ap, map, drop, length, arith}
use Rattle.std.proofs.lemmas.List.{drop-map, take_all, length-drop}
use Rattle.pa_script.proofs.lines.kept_words.Goals as goal

pub returns : goal.returns
returns c =
    let words = c.args.words.now in
    let n = c.args.count + 1 in
    ap (map (λ word. word.now)) (take_all (length words - n) (drop n words) (omega (arith, length-drop n words))) ∙ sym (drop-map (λ word. word.now) n words)
