use Rattle.std.proofs.Common.{◌≡◌, rules, sym, ap, ◌∙◌, ◌+◌, ◌&&◌, drop, true, false, arith}
use Rattle.std.specs.Cmp.Lexicographic.{pointwise}
use Rattle.std.specs.Str.{bytes_eq}
use Rattle.pa_check.proofs.Ports.{name_turn}
use Rattle.pa_check.proofs.located.are_names.Goals as goal

pub returns-then-ne : goal.returns-then-ne
returns-then-ne c =
    let other : bytes_eq c.index-names-place.result c.at.result.now ≡ false = search rules in
    sym (c.loop-place.invariant ∙ name_turn c.args.names.now c.args.list.now c.loop-place.place c.index-names-place.result c.at.result.now
    (omega arith) c.index-names-place.is c.at.ensures
    ∙ ap (λ b. b && pointwise bytes_eq (drop (c.loop-place.place + 1) c.args.names.now) (drop (c.loop-place.place + 1) c.args.list.now)) other)

pub loop-place-preserved : goal.loop-place-preserved
loop-place-preserved c =
    let same : bytes_eq c.index-names-place.result c.at.result.now ≡ true = search rules in
    c.loop-place.invariant ∙ name_turn c.args.names.now c.args.list.now c.loop-place.place c.index-names-place.result c.at.result.now
    (omega arith) c.index-names-place.is c.at.ensures
    ∙ ap (λ b. b && pointwise bytes_eq (drop (c.loop-place.place + 1) c.args.names.now) (drop (c.loop-place.place + 1) c.args.list.now)) same
