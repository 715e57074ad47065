-- What a run ends with can be read: at each «end» the weights and the ray are weights.
use Rattle.std.proofs.Common.{◌≡◌, ℕ, length, Ok, refl}
use Rattle.pa_tableau.specs.Arithmetic.{at_width}
use Rattle.pa_tableau.specs.Tableau.{Tableau}
use Rattle.pa_replay.specs.declared.«end».End.{End}
use Rattle.pa_replay.specs.declared.«end».End.TheVariants.{Least, NoWeights, Endless}
use Rattle.pa_replay.specs.Problem.{Problem}
use Rattle.pa_replay.specs.Replay.{ended, replay}
use Rattle.pa_replay.proofs.ReadWeights.{endless_ascending, endless_inside, last_ascending, least_ascending}
use Rattle.pa_replay.proofs.Solved.{IsSolved, width_solved}
use Rattle.pa_bland.specs.Answered.{IsReadable}

by_end : (p : Problem) («end» : End) (t : Tableau) → IsSolved p (record { answer = Ok «end»; table = t }) →
    IsReadable (length p.target) (length p.rows) «end» t
by_end p Least t s = least_ascending p (record { answer = Ok Least; table = t }) s refl
by_end p NoWeights t s = tt
by_end p (Endless c) t s = (
  endless_inside p (record { answer = Ok (Endless c); table = t }) c s refl,
  endless_ascending p (record { answer = Ok (Endless c); table = t }) c s refl,
  last_ascending p (record { answer = Ok (Endless c); table = t }) c s refl,
)

pub readable : (w : ℕ) (p : Problem) (most : ℕ) («end» : End) (t : Tableau) → ended (Ok «end») t ≡ replay (at_width w) p most →
    IsReadable (length p.target) (length p.rows) «end» t
readable w p most «end» t h = by_end p «end» t (width_solved w p most (record { answer = Ok «end»; table = t }) h)
