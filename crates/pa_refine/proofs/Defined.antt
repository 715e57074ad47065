-- What the definitions answer is true of the contracts, also where no call has computed it: a refinement is decided by weights or
-- by a point, a bound has its value, its direction or weights against any behaviour, and each fault is at a task of the operation.
use Rattle.std.proofs.Common.{◌≡◌, refl, sym, ap₂, subst, ℕ, suc, ◌+◌, ◌<◌, ◌≤◌, List, [], ◌∷◌, length, take, All, arith}
use Rattle.std.proofs.Common.{Bool, true, false, cond, nat_lt, Option, Some, None, option_map, Result, Ok, Err}
use Rattle.std.proofs.lemmas.List.{length-map}
use Rattle.std.proofs.lemmas.List.Elements.{All-head, All-tail, All-take}
use lib.IntN.{ℤ, pos}
use lib.Signed.{◌<ℤ◌}
use Rattle.pa_math.specs.Answers.{and_then, given, told_as}
use Rattle.pa_math.proofs.Answers.{and_then_ok, ok_same}
use Rattle.pa_frac.specs.declared.wide.Wide.{Wide}
use Rattle.pa_meaning.specs.Rows.{Row, Point, row_at}
use Rattle.pa_meaning.specs.Weights.{Weights, Proves}
use Rattle.pa_meaning.specs.Contracts.{Contract, ports, over_names}
use Rattle.pa_meaning.specs.Bounds.{Goal}
use Rattle.pa_row.specs.declared.place.Task.TheVariants.{Cover}
use Rattle.pa_row.specs.declared.place.Task.TheVariants as task
use Rattle.pa_row.specs.declared.place.Sub.TheVariants.{Main, Base}
use Rattle.pa_row.specs.declared.place.Spot.TheVariants as spot
use Rattle.pa_row.specs.declared.place.Halt.{Halt}
use Rattle.pa_row.specs.declared.place.Halt.TheVariants as halt
use Rattle.pa_row.specs.Fractions.{point_in}
use Rattle.pa_replay.specs.Problem.{Problem}
use Rattle.pa_replay.specs.Readings.{LeastRead}
use Rattle.pa_replay.specs.Shown.{ShowsLeast, ShowsNoWeights}
use Rattle.pa_bland.specs.declared.answer.Answer.{Answer}
use Rattle.pa_bland.specs.declared.answer.Answer.TheVariants.{Least, NoWeights, Endless}
use Rattle.pa_bland.specs.Answered.{Shows}
use Rattle.pa_tableau.specs.Arithmetic.{each}
use Rattle.pa_contract.specs.WellFormed.{IsWellFormed}
use Rattle.pa_contract.specs.Merge.{row_count, most_rows}
use Rattle.pa_farkas.specs.Alternatives.{BreaksAt, IsVerdict, IsFeasibility}
use Rattle.pa_farkas.specs.Answered.{solved_for, wide_in, implied_of, feasible_of}
use Rattle.pa_farkas.specs.declared.implication.Verdict.{Verdict}
use Rattle.pa_farkas.specs.declared.implication.Verdict.TheVariants as verdict
use Rattle.pa_farkas.specs.declared.base.Feasibility.{Feasibility}
use Rattle.pa_farkas.specs.declared.base.Feasibility.TheVariants as feasible
use Rattle.pa_farkas.proofs.Defined.{Holds, IsOf, IsSolved, HasAll, HasDenominators, then, told_ok, wide_faults, problem_faults, solved_shows, solved_has}
use Rattle.pa_farkas.proofs.Defined.{implied_is, feasible_is, point_of}
use Rattle.pa_holds.specs.Refined.{ProveEach}
use Rattle.pa_holds.specs.Refusals.{or_due, first_missing, due_refine, due_bound}
use Rattle.pa_cert.specs.declared.refusal.NameRefusal.TheVariants.{UnknownPort, PortsDiffer, Rows}
use Rattle.pa_refine.specs.declared.answer.Refined.{Refined}
use Rattle.pa_refine.specs.declared.answer.Bounded.{Bounded}
use Rattle.pa_refine.specs.declared.answer.Bounded.TheVariants as best
use Rattle.pa_refine.specs.declared.covering.Stop.{Stop}
use Rattle.pa_refine.specs.declared.covering.Stop.TheVariants.{Broken, Halted}
use Rattle.pa_refine.specs.declared.fault.RefineFault.{RefineFault}
use Rattle.pa_refine.specs.declared.fault.RefineFault.TheVariants as refining
use Rattle.pa_refine.specs.declared.fault.BoundFault.{BoundFault}
use Rattle.pa_refine.specs.declared.fault.BoundFault.TheVariants as bounding
use Rattle.pa_refine.specs.Refining as refine
use Rattle.pa_refine.specs.Bounding as bound
use Rattle.pa_refine.specs.Meant.{HoldsAsRefined, HoldsAsBounded}
use Rattle.pa_refine.specs.Seen.{HaveColumns, IsBest, IsCovering, IsValueRead}
use Rattle.pa_refine.proofs.Covered.{empty_proves}
use Rattle.pa_refine.proofs.Over.{are_over, goal_columns}
use Rattle.pa_refine.proofs.Values.{numbers_meant, value_shown, target_length, direction_shown, ray_unmet}
use Rattle.pa_refine.proofs.Meant.{refined_holds, bounded_holds}

-- ---- refinements: rows that are covered one after another
-- the fault's task is to cover one of n rows
abbrev CoversOneOf : ℕ → ℕ → Halt → Type 0
CoversOneOf most n h = (row : ℕ) × (row < n) × IsOf most (Cover row) h

-- the stop is at the row with this place, which the point breaks, or a fault
abbrev StopsAt : ℕ → ℕ → List Row → Row → ℕ → Stop → Type 0
StopsAt most n premises row place (Broken j x) = (j ≡ place) × BreaksAt premises row x
StopsAt most n premises row place (Halted h) = CoversOneOf most n h

-- the stop is at one of these rows, whose places begin at i
abbrev StopsIn : ℕ → ℕ → List Row → List Row → ℕ → Stop → Type 0
StopsIn most n premises rows i (Broken j x) = (k : ℕ) × (j ≡ i + k) × (k < length rows) × BreaksAt premises (row_at rows k) x
StopsIn most n premises rows i (Halted h) = CoversOneOf most n h

module _ (most n : ℕ) (premises : List Row) where
  by_verdict : (row : Row) (number place : ℕ) → number < n → (r : Result Verdict Halt) → Holds (IsVerdict premises row) (IsOf most (Cover number)) r
      → Holds (λ w. Proves w premises row) (StopsAt most n premises row place) (refine.by_verdict place r)
  by_verdict row number place low (Ok (verdict.Yes w)) h = record { ok = h.ok.proves; err = tt }
  by_verdict row number place low (Ok (verdict.Empty w)) h = record { ok = empty_proves premises row (length row.c) w h.ok; err = tt }
  by_verdict row number place low (Ok (verdict.No x)) h = record { ok = tt; err = (refl, h.ok) }
  by_verdict row number place low (Err e) h = record { ok = tt; err = (number, low, h.err) }

  later : (row : Row) (rows : List Row) (i : ℕ) (s : Stop) → StopsIn most n premises rows (suc i) s → StopsIn most n premises (row ∷ rows) i s
  later row rows i (Broken j x) (k, is, low, broken) = (suc k, omega (arith, is), omega (arith, low), broken)
  later row rows i (Halted h) t = t

  here : (row : Row) (rows : List Row) (i : ℕ) (s : Stop) → StopsAt most n premises row i s → StopsIn most n premises (row ∷ rows) i s
  here row rows i (Broken j x) (is, broken) = (0, omega (arith, is), omega (arith), broken)
  here row rows i (Halted h) t = t

  module _ (columns : ℕ) (over : All (λ (r : Row). length r.c ≡ columns) premises) (first : ℕ) where
    step_is : (i : ℕ) (row : Row) → length row.c ≡ columns → first + i < n
        → Holds (λ w. Proves w premises row) (StopsAt most n premises row i) (refine.proof_of premises most (first + i) i row)
    step_is i row long low = by_verdict row (first + i) i low (implied_of premises row most (Cover (first + i)))
        (implied_is most (Cover (first + i)) premises row (subst (λ k. All (λ (r : Row). length r.c ≡ k) premises) (sym long) over))

    both : (i : ℕ) (row : Row) (rows : List Row) (r : Result Weights Stop) (rest : Result (List Weights) Stop)
        → Holds (λ w. Proves w premises row) (StopsAt most n premises row i) r
        → Holds (λ ws. ProveEach premises rows ws) (StopsIn most n premises rows (suc i)) rest
        → Holds (λ ws. ProveEach premises (row ∷ rows) ws) (StopsIn most n premises (row ∷ rows) i) (and_then r (λ w. and_then rest (λ ws. Ok (w ∷ ws))))
    both i row rows (Ok w) (Ok ws) h k = record { ok = (h.ok, k.ok); err = tt }
    both i row rows (Ok w) (Err s) h k = record { ok = tt; err = later row rows i s k.err }
    both i row rows (Err s) rest h k = record { ok = tt; err = here row rows i s h.err }

    each_is : (i : ℕ) (rows : List Row) → All (λ (r : Row). length r.c ≡ columns) rows → first + i + length rows ≤ n
        → Holds (λ ws. ProveEach premises rows ws) (StopsIn most n premises rows i)
        (each (λ place row. refine.proof_of premises most (first + place) place row) i rows)
    each_is i [] long low = record { ok = tt; err = tt }
    each_is i (row ∷ rows) long low =
        both i row rows (refine.proof_of premises most (first + i) i row) _
        (step_is i row (All-head (λ (r : Row). length r.c ≡ columns) row rows long) (omega (arith, low)))
        (each_is (suc i) rows (All-tail (λ (r : Row). length r.c ≡ columns) row rows long) (omega (arith, low)))

-- ---- a refinement
-- a fault of the work on n rows: it is no refusal of the ports or of the number of rows, nor want of memory
abbrev pub IsRefineFault : ℕ → ℕ → RefineFault → Type 0
IsRefineFault most n refining.Memory = ⊥
IsRefineFault most n refining.PortsDiffer = ⊥
IsRefineFault most n (refining.Load count) = ⊥
IsRefineFault most n (refining.PivotLimit p) = (row : ℕ) × (row < n) × (p.task ≡ Cover row)
IsRefineFault most n (refining.Wide p) = (row : ℕ) × (row < n) × (p.task ≡ Cover row) × IsSolved most p.spot

halted_fault : (most n : ℕ) (h : Halt) → CoversOneOf most n h → IsRefineFault most n (refine.refine_fault h)
halted_fault most n halt.Memory (row, low, h) = absurd h
halted_fault most n (halt.PivotLimit p) h = h
halted_fault most n (halt.Wide p) (row, low, at) = (row, low, at.0, at.1)

module _ (most : ℕ) (lists : refine.Lists) where
  abbrev all_rows : ℕ
  all_rows = length lists.assumptions + length lists.guarantees

  abbrev Decides : Result Refined RefineFault → Type 0
  Decides r = Holds (IsCovering lists) (IsRefineFault most all_rows) r

  no_assumption : (s : Stop) → StopsIn most all_rows (take lists.assumed lists.premises) lists.assumptions 0 s → Decides (refine.no_assumption s)
  no_assumption (Broken j x) (k, is, low, broken) =
      let same : k ≡ j = omega (arith, is) in
      subst (λ j. Decides (refine.no_assumption (Broken j x))) same (record { ok = (low, broken); err = tt })
  no_assumption (Halted h) t = record { ok = tt; err = halted_fault most all_rows h t }

  no_guarantee : (s : Stop) → StopsIn most all_rows lists.premises lists.guarantees 0 s → Decides (refine.no_guarantee s)
  no_guarantee (Broken j x) (k, is, low, broken) =
      let same : k ≡ j = omega (arith, is) in
      subst (λ j. Decides (refine.no_guarantee (Broken j x))) same (record { ok = (low, broken); err = tt })
  no_guarantee (Halted h) t = record { ok = tt; err = halted_fault most all_rows h t }

  settled_is : (P : List Weights → Type 0) (S : Stop → Type 0) (stopped : Stop → Result Refined RefineFault) (r : Result (List Weights) Stop)
      (next : List Weights → Result Refined RefineFault) → Holds P S r → ((s : Stop) → S s → Decides (stopped s))
      → ((ws : List Weights) → P ws → Decides (next ws))
      → Decides (refine.settled stopped r next)
  settled_is P S stopped (Ok ws) next h k l = l ws h.ok
  settled_is P S stopped (Err s) next h k l = k s h.err

  pub covering_is : (n : ℕ) → HaveColumns n lists → Decides (refine.covering_of lists most)
  covering_is n c =
      let first : List Row = take lists.assumed lists.premises in
      settled_is (λ ws. ProveEach first lists.assumptions ws) (StopsIn most all_rows first lists.assumptions 0) refine.no_assumption
      (refine.proofs_of first most 0 lists.assumptions) _
      (each_is most all_rows first n (All-take (λ (r : Row). length r.c ≡ n) lists.assumed lists.premises c.premises) 0 0 lists.assumptions c.assumptions
      (omega (arith)))
      no_assumption
      (λ ws shown. settled_is (λ vs. ProveEach lists.premises lists.guarantees vs) (StopsIn most all_rows lists.premises lists.guarantees 0) refine.no_guarantee
      (refine.proofs_of lists.premises most (length lists.assumptions) lists.guarantees) _
      (each_is most all_rows lists.premises n c.premises (length lists.assumptions) 0 lists.guarantees c.guarantees (omega (arith)))
      no_guarantee (λ vs all. record { ok = (shown, all); err = tt }))

-- What an answer with at most this many pivots tells: which refusal is due, and what holds of what is decided.
abbrev pub RefineTells : ℕ → Contract → Contract → Result Refined RefineFault → Type 0
RefineTells most a b (Ok r) = (due_refine a b ≡ None) × HoldsAsRefined a b r
RefineTells most a b (Err refining.Memory) = ⊥
RefineTells most a b (Err refining.PortsDiffer) = due_refine a b ≡ Some PortsDiffer
RefineTells most a b (Err (refining.Load count)) = due_refine a b ≡ Some (Rows count)
RefineTells most a b (Err (refining.PivotLimit p)) =
    (due_refine a b ≡ None) × ((row : ℕ) × (row < length a.assumptions + length b.guarantees) × (p.task ≡ Cover row))
RefineTells most a b (Err (refining.Wide p)) =
    (due_refine a b ≡ None) × ((row : ℕ) × (row < length a.assumptions + length b.guarantees) × (p.task ≡ Cover row) × IsSolved most p.spot)

not_above : (n : ℕ) → nat_lt most_rows n ≡ false → n ≤ 4096
not_above n h = grind (arith)

module _ (a b : Contract) (wa : IsWellFormed a) (most : ℕ) where
  abbrev rows : ℕ
  rows = length a.assumptions + length b.guarantees

  listed : length (refine.lists_of a b).assumptions + length (refine.lists_of a b).guarantees ≡ rows
  listed = ap₂ (λ i j. i + j) (length-map a.assumptions (over_names a.inputs (ports a))) (length-map b.guarantees (over_names (ports b) (ports a)))

  clear : (r : Result Refined RefineFault) → due_refine a b ≡ None → row_count a + row_count b ≤ 4096
      → Holds (IsCovering (refine.lists_of a b)) (IsRefineFault most rows) r → RefineTells most a b r
  clear (Ok r) none few h = (none, refined_holds a b wa few r h.ok)
  clear (Err refining.Memory) none few h = h.err
  clear (Err refining.PortsDiffer) none few h = absurd h.err
  clear (Err (refining.Load count)) none few h = absurd h.err
  clear (Err (refining.PivotLimit p)) none few h = (none, h.err)
  clear (Err (refining.Wide p)) none few h = (none, h.err)

  by_tests : (same long : Bool) → refine.have_same_ports a b ≡ same → nat_lt most_rows (row_count a + row_count b) ≡ long
      → due_refine a b ≡ cond same (cond long (Some (Rows (row_count a + row_count b))) None) (Some PortsDiffer)
      → RefineTells most a b (cond same (cond long (Err (refining.Load (row_count a + row_count b))) (refine.covering_of (refine.lists_of a b) most))
      (Err refining.PortsDiffer))
  by_tests false long is over due = due
  by_tests true true is over due = due
  by_tests true false is over due =
      let few : row_count a + row_count b ≤ 4096 = not_above (row_count a + row_count b) over in
      let columns = are_over a b wa few in
      clear (refine.covering_of (refine.lists_of a b) most) due few
      (subst (λ n. Holds (IsCovering (refine.lists_of a b)) (IsRefineFault most n) (refine.covering_of (refine.lists_of a b) most)) listed
      (covering_is most (refine.lists_of a b) (length (ports a)) columns))

  pub refine_tells : RefineTells most a b (refine.refined_of a b most)
  refine_tells = by_tests (refine.have_same_ports a b) (nat_lt most_rows (row_count a + row_count b)) refl refl refl

-- ---- bounds
abbrev pub BoundTells : ℕ → Contract → Goal → Bool → Result Bounded BoundFault → Type 0
BoundTells most c goal least (Ok r) = (due_bound c goal.names ≡ None) × HoldsAsBounded c goal least r
BoundTells most c goal least (Err bounding.Memory) = ⊥
BoundTells most c goal least (Err (bounding.UnknownPort name)) = due_bound c goal.names ≡ Some (UnknownPort name)
BoundTells most c goal least (Err (bounding.Load count)) = due_bound c goal.names ≡ Some (Rows count)
BoundTells most c goal least (Err (bounding.PivotLimit p)) = (due_bound c goal.names ≡ None) × (p.task ≡ task.Goal)
BoundTells most c goal least (Err (bounding.Wide p)) = (due_bound c goal.names ≡ None) × (p.task ≡ task.Goal) × IsSolved most p.spot

module _ (most : ℕ) (asked : bound.Asked) (columns : All (λ (r : Row). length r.c ≡ length asked.goals) asked.rows) (up : pos 0 <ℤ asked.q) where
  abbrev Finds : Result Bounded Halt → Type 0
  Finds r = Holds (IsBest asked) (IsOf most task.Goal) r

  abbrev problem : Problem
  problem = record { rows = asked.rows; target = bound.target_of asked.least asked.goals }

  checked : {A : Type 0} (sub : _) (r : Result A Wide) (b : Bounded) → IsBest asked b
      → Finds (and_then (told_as (wide_in task.Goal sub spot.Check) r) (λ shown. Ok b))
  checked sub (Ok shown) b h = record { ok = h; err = tt }
  checked sub (Err e) b h = record { ok = tt; err = (refl, tt) }

  read_is : (a : LeastRead) → ShowsLeast problem a → HasDenominators a.point → (read : (ℤ × ℤ) × Point) → bound.value_read asked a ≡ Ok read
      → IsValueRead asked a read
  read_is a s dens read is =
      let (value, numbers, rest) = and_then_ok (bound.value_numbers asked a) (λ value. and_then (point_in a.point) (λ x. Ok (value, x))) read (sym is) in
      let (x, point, last) = and_then_ok (point_in a.point) (λ x. Ok (value, x)) read rest in
      subst (IsValueRead asked a) (sym (ok_same read (value, x) last))
      (numbers_meant asked a (Ok value) up s.positive numbers, point_of a dens x (sym point))

  least_is : (a : LeastRead) → ShowsLeast problem a → HasDenominators a.point → Finds (bound.by_least asked a)
  least_is a s dens =
      then (IsOf most task.Goal) (IsBest asked) (told_as (wide_in task.Goal Main spot.Read) (bound.value_read asked a)) _
      (wide_faults most task.Goal Main spot.Read (bound.value_read asked a) tt)
      (λ read is. checked Main _ (best.Value read.0.0 read.0.1 a.weights read.1)
      (value_shown asked a read s (read_is a s dens read (told_ok (wide_in task.Goal Main spot.Read) (bound.value_read asked a) read is))))

  feasibility_is : (d : List ℤ) → ShowsNoWeights problem d → (f : Feasibility) → IsFeasibility (length asked.goals) asked.rows f
      → Finds (bound.by_feasibility asked d f)
  feasibility_is d s (feasible.Point x) h = checked Base _ (best.Unbounded x d) (direction_shown asked x d h s)
  feasibility_is d s (feasible.Empty w) h = record { ok = h; err = tt }

  answer_is : (a : Answer) → Shows problem a → HasAll a → Finds (bound.by_answer asked most a)
  answer_is (Least a) s dens = least_is a s dens
  answer_is (Endless a) s dens = checked Main _ (best.Nothing a.ray) (ray_unmet asked a s)
  answer_is (NoWeights d) s dens = by (feasible_of (length asked.goals) asked.rows most task.Goal)
      (feasible_is most task.Goal (length asked.goals) asked.rows columns)
    where
      by : (r : Result Feasibility Halt) → Holds (IsFeasibility (length asked.goals) asked.rows) (IsOf most task.Goal) r
          → Finds (and_then r (bound.by_feasibility asked d))
      by (Ok f) h = feasibility_is d s f h.ok
      by (Err e) h = record { ok = tt; err = h.err }

  pub best_is : Finds (bound.best_of asked most)
  best_is =
      let over = subst (λ n. All (λ (r : Row). length r.c ≡ n) asked.rows) (sym (target_length asked.least asked.goals)) columns in
      then (IsOf most task.Goal) (IsBest asked) (solved_for task.Goal Main asked.rows problem.target most) _
      (problem_faults most task.Goal Main asked.rows problem.target)
      (λ a is. answer_is a (solved_shows most task.Goal Main problem over a is) (solved_has most task.Goal Main problem a is))

module _ (c : Contract) (goal : Goal) (least : Bool) (formed : IsWellFormed c) (up : pos 0 <ℤ goal.q) (most : ℕ) where
  clear_bound : (r : Result Bounded Halt) → due_bound c goal.names ≡ None → Holds (IsBest (bound.asked_of c goal least)) (IsOf most task.Goal) r
      → BoundTells most c goal least (told_as bound.bound_fault r)
  clear_bound (Ok r) none h = (none, bounded_holds c goal least r h.ok)
  clear_bound (Err halt.Memory) none h = h.err
  clear_bound (Err (halt.PivotLimit p)) none h = (none, h.err)
  clear_bound (Err (halt.Wide p)) none h = (none, h.err.0, h.err.1)

  bound_by : (missing : Option _) (long : Bool)
      → due_bound c goal.names ≡ or_due (option_map UnknownPort missing) (cond long (Some (Rows (row_count c))) None)
      → BoundTells most c goal least
      (given (cond long (Err (bounding.Load (row_count c))) (bound.bounded_rows c goal least most)) missing (λ name. Err (bounding.UnknownPort name)))
  bound_by (Some name) long due = due
  bound_by None true due = due
  bound_by None false due =
      clear_bound (bound.best_of (bound.asked_of c goal least) most) due (best_is most (bound.asked_of c goal least) (goal_columns c goal formed) up)

  pub bound_tells : BoundTells most c goal least (bound.bounded_of c goal least most)
  bound_tells = bound_by (first_missing (ports c) goal.names) (nat_lt most_rows (row_count c)) refl
