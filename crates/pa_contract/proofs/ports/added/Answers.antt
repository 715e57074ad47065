use Rattle.std.proofs.Common.{sym, ap, ◌∙◌, cond}
use Rattle.std.specs.Option.{is_some}
use Rattle.std.specs.Str.{bytes_eq}
use Rattle.pa_contract.proofs.Steps.{is_some-position}
use Rattle.pa_contract.proofs.ports.added.Goals as goal

pub returns-then-is_some : goal.returns-then-is_some
returns-then-is_some c =
    sym (ap (λ b. cond b 0 1) (sym (is_some-position (bytes_eq c.args.name.now) c.args.names.now) ∙ ap is_some (sym c.place.ensures)
    ∙ sym c.is_some.ensures ∙ c.if-is_some.true))

pub returns-else-is_some : goal.returns-else-is_some
returns-else-is_some c =
    sym (ap (λ b. cond b 0 1) (sym (is_some-position (bytes_eq c.args.name.now) c.args.names.now) ∙ ap is_some (sym c.place.ensures)
    ∙ sym c.is_some.ensures ∙ c.if-is_some.false))
