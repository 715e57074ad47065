-- One more member is one more wire, and one more port.
use Rattle.std.proofs.Common.{rules}
use Rattle.serde_json.specs.View.{members_view}
use Rattle.pa_json.specs.Members.{collected}
use Rattle.pa_json.specs.Diagram.{wire_of}
use Rattle.pa_json.proofs.Parts.{one_more, firsts_more}
use Rattle.pa_json.proofs.part.wires_of.Goals as goal

pub loop-key-preserved : goal.loop-key-preserved
loop-key-preserved c = record {
  left =
      one_more (wire_of c.args.names.now) c.loop-key.wires.items c.push.new.self.items c.in-Ok-Some.wire c.as_str.result.now
      (c.in-Some.key.now, c.in-Some.value.now) c.loop-key.key-iterator c.next.new.self
      (collected (wire_of c.args.names.now) (members_view c.args.members.now.entries))
      c.in_ok-push-in-Ok-Some.ensures.items c.as_str.ensures.value (search rules) c.in-Some.ensures.steps c.loop-key.invariant.left;
  ports =
      firsts_more c.loop-key.wires.items c.push.new.self.items c.in-Ok-Some.wire c.loop-key.ports c.in-Ok.more
      c.in_ok-push-in-Ok-Some.ensures.items c.loop-key.invariant.ports c.in-Ok.ensures;
}
