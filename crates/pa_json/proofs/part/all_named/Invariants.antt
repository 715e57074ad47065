-- Each member that was read is a name.
use Rattle.std.proofs.Common.{◌≡◌}
use Rattle.serde_json.specs.View.{members_view}
use Rattle.pa_json.specs.Diagram.{all_named}
use Rattle.pa_json.proofs.part.all_named.Given as goal

-- the members that are left tell of all
abbrev pub invariant-loop-value : goal.invariant-loop-value
invariant-loop-value l = all_named (members_view l.value-iterator) ≡ all_named (members_view l.members.entries)
