-- The pairs so far are those of the members that were read, and their values are fractions.
use Rattle.std.proofs.Common.{All}
use Rattle.serde_json.specs.View.{members_view}
use Rattle.pa_row.specs.Fractions.{IsFraction}
use Rattle.pa_json.specs.Members.{collected}
use Rattle.pa_json.specs.Values.{named_fraction}
use Rattle.pa_json.proofs.Collected.{IsLeft}
use Rattle.pa_json.proofs.values.fractions_of.Given as goal

-- the members that are left, added to those so far, make all
abbrev pub invariant-loop-key : goal.invariant-loop-key
invariant-loop-key l = record {
  whole : IsLeft named_fraction l.pairs.items (members_view l.key-iterator) (collected named_fraction (members_view l.members.entries));
  fractions : All (λ pair. IsFraction pair.1) l.pairs.items;
}
