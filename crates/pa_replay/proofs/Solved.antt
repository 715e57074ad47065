-- The replay of a problem: what is known at its end.
use Rattle.std.proofs.Common.{◌≡◌, ℕ, ◌<◌, ◌+◌, length, Ok, subst, arith}
use Rattle.pa_math.specs.Rational.{whole, neg_ℚ, ◌*ℚ◌}
use Rattle.pa_math.specs.RationalOrder.{◌≤ℚ◌, ◌<ℚ◌}
use lib.IntN.{pos}
use Rattle.pa_row.proofs.Dots.{and_then_ok}
use Rattle.pa_tableau.specs.Arithmetic.{Arithmetic, at_width}
use Rattle.pa_tableau.specs.Tableau.{Tableau, cell}
use Rattle.pa_replay.specs.declared.«end».End.TheVariants.{Least, NoWeights}
use Rattle.pa_replay.specs.Problem.{Problem, loaded}
use Rattle.pa_replay.specs.Replay.{Ended, replay, run_from}
use Rattle.pa_replay.proofs.Sums.{total}
use Rattle.pa_replay.proofs.Ends.{point, direction}
use Rattle.pa_replay.proofs.Bridges.{IsSound, at_width_sound, cells_of}
use Rattle.pa_replay.proofs.Ended.{Known, KnownAt, run_known}
use Rattle.pa_replay.proofs.LoadedFacts.{IsFaithful, at_width_faithful}
use Rattle.pa_replay.proofs.LoadedStart.{loaded_problem, loaded_start, loaded_units, row_bound, row_number, sign_of, target_number}
use Rattle.pa_replay.proofs.Loads.{start_reached}
use Rattle.pa_replay.proofs.Never.{never_falls}
use Rattle.pa_replay.proofs.Theorems.{HoldsProblem, least_end, no_weights_end, solution, solution_nonneg}
use Rattle.pa_replay.proofs.Weighted.{HasUnits, least_weights}

-- the tableau that was loaded, and what is known where the run stopped
pub record IsSolved (p : Problem) (ended : Ended) : Type 0 where
  pub start : Tableau
  pub holds : HoldsProblem (length p.target) (length p.rows) (sign_of p) (row_number p) (target_number p) (row_bound p) start
  pub units : HasUnits (length p.target) (length p.rows) (sign_of p) start
  pub known : KnownAt (length p.target) (length p.rows) start ended

pub replay_solved : (A : Arithmetic) (p : Problem) (most : ℕ) (ended : Ended) → IsSound A → IsFaithful A → Ok ended ≡ replay A p most → IsSolved p ended
replay_solved A p most ended s f h =
    let n : ℕ = length p.target in
    let m : ℕ = length p.rows in
    let (start, start_is, run_is) = and_then_ok (loaded A p) (run_from A n m most) ended h in
    let holds : HoldsProblem n m (sign_of p) (row_number p) (target_number p) (row_bound p) start = loaded_problem A p start s f start_is in
    record {
      start = start;
      holds = holds;
      units = loaded_units A p start f start_is;
      known = run_known A n m most (sign_of p) (row_number p) (target_number p) (row_bound p) start ended s holds
          (start_reached n m start (loaded_start A p start s f start_is))
          (never_falls n m (sign_of p) (row_number p) (target_number p) (row_bound p) start holds) run_is;
    }

-- at a width
pub width_solved : (w : ℕ) (p : Problem) (most : ℕ) (ended : Ended) → Ok ended ≡ replay (at_width w) p most → IsSolved p ended
width_solved w p most ended h = replay_solved (at_width w) p most ended (at_width_sound w) (at_width_faithful w) h

-- ---- the three ends in fractions
-- no weights: the direction is not positive on any row, and positive on the target
pub sticks_end : (p : Problem) (ended : Ended) (s : IsSolved p ended) → ended.answer ≡ Ok NoWeights →
    ((j : ℕ) → j < length p.rows → total (length p.target) (λ k. direction (length p.rows) (sign_of p)
    (cells_of ended.table (length p.target)) k *ℚ row_number p j k) ≤ℚ whole (pos 0))
    × (whole (pos 0) <ℚ total (length p.target) (λ k. direction (length p.rows) (sign_of p) (cells_of ended.table (length p.target)) k *ℚ target_number p k))
sticks_end p ended s e =
    let n : ℕ = length p.target in
    let m : ℕ = length p.rows in
    let k : Known n m s.start ended.table (Ok NoWeights) = subst (Known n m s.start ended.table) e s.known in
    no_weights_end n m (sign_of p) (row_number p) (target_number p) (row_bound p) s.start ended.table s.holds k.feasible k.settled k.left_over

-- the least end: the point meets the rows, the weights make the target, neither is negative, and both have one value
pub record IsLeast (p : Problem) (t : Tableau) : Type 0 where
  pub meets : (j : ℕ) → j < length p.rows → total (length p.target)
      (λ k. point (length p.rows) (sign_of p) (cells_of t (length p.target + 1)) k *ℚ row_number p j k) ≤ℚ row_bound p j
  pub value : total (length p.target) (λ k. point (length p.rows) (sign_of p) (cells_of t (length p.target + 1)) k *ℚ target_number p k) ≡ neg_ℚ
      (cell t (length p.target + 1) (length p.target + length p.rows))
  pub combined : (k : ℕ) → k < length p.target → total (length p.rows)
      (λ j. solution (length p.target) (length p.rows) t j *ℚ row_number p j k) ≡ target_number p k
  pub costs : total (length p.rows) (λ j. solution (length p.target) (length p.rows) t j *ℚ row_bound p j) ≡ neg_ℚ
      (cell t (length p.target + 1) (length p.target + length p.rows))
  pub nonneg : (j : ℕ) → j < length p.rows → whole (pos 0) ≤ℚ solution (length p.target) (length p.rows) t j

pub least_of : (p : Problem) (ended : Ended) (s : IsSolved p ended) → ended.answer ≡ Ok Least → IsLeast p ended.table
least_of p ended s e =
    let n : ℕ = length p.target in
    let m : ℕ = length p.rows in
    let k : Known n m s.start ended.table (Ok Least) = subst (Known n m s.start ended.table) e s.known in
    let points = least_end n m (sign_of p) (row_number p) (target_number p) (row_bound p) s.start ended.table s.holds k.feasible.reached k.comes in
    let weights = least_weights n m (sign_of p) (row_number p) (target_number p) (row_bound p) s.start ended.table s.holds s.units k.feasible k.clean in
    record {
      meets = points.0;
      value = points.1;
      combined = weights.0;
      costs = weights.1;
      nonneg = λ j low. solution_nonneg n m s.start ended.table k.feasible j (λ e. omega (arith, e, low));
    }
