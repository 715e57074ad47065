use Rattle.std.proofs.Common.{◌≡◌, arith, rules}
use Rattle.std.proofs.lemmas.Int.{to_z-of_z}
use mir.Syntax.{w128}
use mir.Val.{to_z, of_z}
use Rattle.pa_answers.specs.Answers.{with_number}
use Rattle.std.proofs.lemmas.Option.{slice_get_within}
use Rattle.pa_answers.proofs.Headings.{numbers_more}
use Rattle.pa_answers.proofs.located.with_numbers.Goals as goal

-- the number of this name goes behind those so far
pub loop-place-preserved : goal.loop-place-preserved
loop-place-preserved c =
    let own : to_z w128 (of_z w128 c.number_at-number.result) ≡ c.number_at-number.result = to_z-of_z w128 c.number_at-number.result (search rules) in
    let is : c.in_ok-heading.heading ≡ with_number c.loop-place.heading c.at.result.now c.number_at-number.result = rw own at c.in_ok-heading.ensures in
    numbers_more c.loop-place.heading c.in_ok-heading.heading c.args.names.now c.args.numbers.now c.loop-place.place c.at.result.now
    c.number_at-number.result _ is c.at.ensures
    (omega (arith, slice_get_within c.args.names.now c.loop-place.place c.at.result.now c.at.ensures, c.requires)) c.number_at-number.ensures
    c.loop-place.invariant
