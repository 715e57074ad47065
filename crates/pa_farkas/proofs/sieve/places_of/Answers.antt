use Rattle.std.proofs.Common.{◌∙◌, ◌++◌, ◌∷◌, [], ap, sym, rules}
use Rattle.pa_farkas.proofs.Placed.{numbers_more}
use Rattle.pa_farkas.proofs.sieve.places_of.Goals as goal

pub loop-place-preserved : goal.loop-place-preserved
loop-place-preserved c = record {
  made = c.push_reserved.ensures.items ∙ ap (λ xs. xs ++ c.loop-place.place ∷ []) c.loop-place.invariant.made ∙ sym (numbers_more c.loop-place.place);
  count = search rules;
  room = search rules;
}
