use Rattle.std.proofs.Common.{rules, subst, ◌∙◌, ap, length, ◌&&◌, nat_eq}
use Rattle.pa_row.specs.Width.{IsNarrowPoint}
use Rattle.pa_check.specs.Ports.{are_ports_in}
use Rattle.pa_check.proofs.Ports.{at_told}
use Rattle.pa_check.proofs.located.is_at.Goals as goal

pub returns : goal.returns
returns c =
    at_told c.are_counted_ports.result c.args.names.now c.args.at.now c.args.inputs.now c.args.outputs.now
    (subst IsNarrowPoint c.at.view_is c.at.invariant).positive (search rules)
