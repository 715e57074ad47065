-- The list, the row and the place are those of the row in hand.
use Rattle.pa_farkas.proofs.sieve.cover.Goals as goal

pub returns-clause-exact : goal.returns-clause-exact
returns-clause-exact c = rw (← c.taken.view_is, ← c.taken-inside.view_is) (rw c.deref.ensures.value at c.covered_in.ensures.answer)
