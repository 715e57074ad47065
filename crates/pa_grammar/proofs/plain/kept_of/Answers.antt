-- At each place the name is kept where its number is not 0; names of a list differ.
use Rattle.std.proofs.Common.{ap, ◌∙◌, length, arith, rules}
use Rattle.std.proofs.lemmas.Int.{to_z-of_z}
use mir.Val.{SFits, to_z, of_z}
use mir.Syntax.{w128}
use Rattle.pa_grammar.specs.Plains.{with_kept, with_number}
use Rattle.pa_grammar.proofs.Mentions.{next_kept, next_number, kept_more, all_kept}
use Rattle.pa_grammar.proofs.plain.kept_of.Goals as goal

pub loop-place-preserved : goal.loop-place-preserved
loop-place-preserved c =
    let fits : SFits w128 c.number_at-number.result = search rules in
    let number = to_z-of_z w128 c.number_at-number.result fits ∙ c.number_at-number.ensures in
    record {
      names = next_kept c.args.names.now c.args.numbers.now c.loop-place.place c.at.result.now c.loop-place.kept c.keep.new.names _ c.at.ensures
          (c.in_ok-keep.ensures.names ∙ ap (with_kept c.loop-place.kept c.at.result.now) number) c.loop-place.invariant.names;
      numbers = next_number c.args.names.now c.args.numbers.now c.loop-place.place c.at.result.now c.loop-place.c.items c.keep.new.numbers.items _ c.at.ensures
          (c.in_ok-keep.ensures.numbers ∙ ap (with_number c.loop-place.c.items) number) c.loop-place.invariant.numbers;
      few = omega (
        arith,
        c.loop-place.invariant.few,
        ap length c.in_ok-keep.ensures.names,
        kept_more c.loop-place.kept c.at.result.now (to_z w128 (of_z w128 c.number_at-number.result)),
      );
    }

pub returns-clause-names : goal.returns-clause-names
returns-clause-names c =
    all_kept c.args.names.now c.loop-place.kept c.args.numbers.now c.loop-place.place c.len-place-end.ensures.distinct
    (omega (arith, c.loop-place-test.false, c.len-place-end.ensures.value)) c.loop-place.invariant.names
