-- What is read at the ends of a run shows of the problem, said of its rows and of weights alone.
use Rattle.std.specs.Prelude.{◌≡◌, ◌*ℤ◌, ◌≤ℤ◌, ◌<ℤ◌, ℤ, pos, List, length}
use Rattle.pa_ring.specs.Sums.{dot}
use Rattle.pa_meaning.specs.Rows.{MeetsAll, Point, Row}
use Rattle.pa_meaning.specs.Weights.{IsContradiction, Proves, Weights, combined, impossible}
use Rattle.pa_meaning.specs.Directions.{Makes, Sticks}
use Rattle.pa_row.specs.Fractions.{AreOver, IsPrimitive}
use Rattle.pa_replay.specs.Problem.{Problem}
use Rattle.pa_replay.specs.Readings.{EndlessRead, LeastRead}

-- the target as a row, whose bound plays no part
abbrev pub asked : Problem → Row
asked p = record { c = p.target; b = pos 0 }

-- The least value: the weights make the target, and the sum of their bounds is the value. The point, over any common denominator, meets
-- each row, and the target takes the value there. So no weights that make the target have a lesser sum.
pub record ShowsLeast (p : Problem) (a : LeastRead) : Type 0 where
  pub makes : Makes a.weights p.rows (asked p)
  pub positive : pos 0 <ℤ a.value.1
  pub sum : a.value.1 *ℤ (combined a.weights.parts p.rows).b ≡ a.weights.den *ℤ a.value.0
  pub columns : length a.point ≡ length p.target
  pub meets : (x : Point) → pos 0 <ℤ x.q → AreOver x.q a.point x.p → MeetsAll p.rows x
  pub takes : (x : Point) → pos 0 <ℤ x.q → AreOver x.q a.point x.p → a.value.1 *ℤ dot p.target x.p ≡ x.q *ℤ a.value.0
  pub least : (w : Weights) → Makes w p.rows (asked p) → (w.den *ℤ a.value.0) ≤ℤ (a.value.1 *ℤ (combined w.parts p.rows).b)

-- No weights: along the direction no row rises, and the target does. So no weights make it.
pub record ShowsNoWeights (p : Problem) (d : List ℤ) : Type 0 where
  pub columns : length d ≡ length p.target
  pub primitive : IsPrimitive d
  pub sticks : Sticks d p.rows (asked p)
  pub none : (w : Weights) → Makes w p.rows (asked p) → ⊥

-- No least value: the ray combines the rows to one with coefficients 0 and a negative bound. So no point meets the rows. The last
-- weights make the target.
pub record ShowsEndless (p : Problem) (a : EndlessRead) : Type 0 where
  pub falls : IsContradiction (combined a.ray.parts p.rows)
  pub proves : Proves a.ray p.rows (impossible (length p.target))
  pub unmet : (x : Point) → pos 0 <ℤ x.q → MeetsAll p.rows x → ⊥
  pub makes : Makes a.last p.rows (asked p)
