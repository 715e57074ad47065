-- One more member is one more pair, whose value is a fraction.
use Rattle.std.proofs.Common.{rules, ℤ, All, IfSome, sym, subst}
use Rattle.std.proofs.lemmas.List.Elements.{All-push}
use Rattle.serde_json.specs.View.{members_view}
use Rattle.pa_meaning.specs.Contracts.{Name}
use Rattle.pa_row.specs.Fractions.{IsFraction}
use Rattle.pa_json.specs.Members.{collected}
use Rattle.pa_json.specs.Values.{named_fraction}
use Rattle.pa_json.proofs.Parts.{one_more}
use Rattle.pa_json.proofs.values.fractions_of.Goals as goal

pub loop-key-preserved : goal.loop-key-preserved
loop-key-preserved c = record {
  whole =
      one_more named_fraction c.loop-key.pairs.items c.push.new.self.items c.in-Ok-Some.pair c.as_str.result.now
      (c.in-Some.key.now, c.in-Some.value.now) c.loop-key.key-iterator c.next.new.self
      (collected named_fraction (members_view c.args.members.now.entries))
      c.in_ok-push-in-Ok-Some.ensures.items c.as_str.ensures.value (search rules) c.in-Some.ensures.steps c.loop-key.invariant.whole;
  fractions =
      subst (All (λ (pair : Name × (ℤ × ℤ)). IsFraction pair.1)) (sym c.in_ok-push-in-Ok-Some.ensures.items)
      (All-push (λ (pair : Name × (ℤ × ℤ)). IsFraction pair.1) c.loop-key.pairs.items c.in-Ok-Some.pair c.loop-key.invariant.fractions
      (subst (λ f. IfSome f (λ (pair : Name × (ℤ × ℤ)). IsFraction pair.1)) c.in-Ok-Some.field-0-is c.in-Ok-Some.ensures.within));
}
