-- The ports of both lists are all ports, where they are no more than the layout allows.
use Rattle.std.proofs.Common.{arith, sym, ap}
use Rattle.serde_json.specs.View.{view}
use Rattle.pa_json.specs.Layouts.{Layout}
use Rattle.pa_json.proofs.PortLists.{all_ports_are}
use Rattle.pa_json.proofs.ports.all_ports.Goals as goal

pub returns-clause-answer : goal.returns-clause-answer
returns-clause-answer c =
    all_ports_are c.args.path.now c.args.layout.now (view c.args.tree.now) _ c.new.result c.in_ok-inputs.inputs c.in_ok-ports.ports c.len-count.result _
    (ap (λ (l : Layout). l.constants.names) (sym c.layout.view_is)) c.new.ensures c.in_ok-inputs.ensures.answer c.len-count.ensures
    c.in_ok-ports.ensures.answer (ap (λ (l : Layout). l.most_ports) (sym c.layout.view_is)) (omega arith)
