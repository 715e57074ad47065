-- The bound, and behind it what shows it. A number that is handed on is written and read back as a machine integer.
use Rattle.std.proofs.Common.{◌≡◌, ◌++◌, ◌∙◌, ap, to_z, of_z}
use Rattle.std.proofs.lemmas.Int.{to_z-of_z}
use Rattle.std.proofs.lemmas.Result.{IfOk-weaker}
use Rattle.pa_cert.specs.AnswerText.{bound_line, shown_text}
use Rattle.pa_cert.proofs.Texts.{two_pieces}
use Rattle.pa_cert.proofs.write.push_value.Goals as goal
use mir.Syntax.{w128}

pub returns : goal.returns
returns c =
    let before = c.args.text.now.items in
    let num = c.args.num in
    let den = c.args.den in
    let same_num : to_z w128 (of_z w128 num) ≡ num = to_z-of_z w128 num c.ranges.num in
    let same_den : to_z w128 (of_z w128 den) ≡ den = to_z-of_z w128 den c.ranges.den in
    let bound : c.push_bound.new.text.items ≡ before ++ bound_line num den =
    c.in_ok-push_bound.ensures ∙ ap (λ n. before ++ bound_line n (to_z w128 (of_z w128 den))) same_num ∙ ap (λ d. before ++ bound_line num d) same_den in
    IfOk-weaker c.push_shown.result _ _
    (λ done is. two_pieces before (bound_line num den) (shown_text c.args.weights.now c.args.at.now) _ _ bound is)
    c.push_shown.ensures
