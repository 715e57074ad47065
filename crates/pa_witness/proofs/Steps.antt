-- One step, in both versions: a point meets the list that it makes exactly where some extension meets the given list.
use Rattle.std.proofs.Common.{◌≡◌, refl, ℕ, List, Option, Some, None}
use Rattle.pa_math.specs.Answers.{given}
use Rattle.pa_meaning.specs.Rows.{Row}
use Rattle.pa_witness.specs.Elimination.{eliminated}
use Rattle.pa_witness.specs.Steps.{Version, equality_in, stepped, substituted_at, IsElimination}
use Rattle.pa_witness.proofs.Elimination.{elimination_step}
use Rattle.pa_witness.proofs.Substitution.{substitution_step}
use Rattle.pa_witness.proofs.Equalities.{equality_in_is}

pub step_means : (v : Version) (k : ℕ) (rows : List Row) → IsElimination k rows (stepped v k rows)
step_means v k rows = by (equality_in v k rows) refl
  where
    by : (o : Option (ℕ × ℕ)) → equality_in v k rows ≡ o → IsElimination k rows (given (eliminated k rows) o (substituted_at k rows))
    by None none = λ x up. elimination_step k rows x up
    by (Some places) some = substitution_step k rows places.0 places.1 (equality_in_is v k rows places some)
