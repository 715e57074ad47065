-- What the definition of an elimination answers is true of the rows, also where no call has computed it: its steps hold as they are printed, and each
-- fault is at a task of the elimination.
use Rattle.std.proofs.Common.{◌≡◌, ◌⊎◌, inl, inr, refl, sym, ap, ◌∙◌, subst, ℕ, zero, suc, pred, ◌+◌, ◌<◌, ◌≤◌, List, [], ◌∷◌, length, All, arith}
use Rattle.std.proofs.Common.{Bool, true, false, cond, nat_lt, Result, Ok, Err, IfErr}
use Rattle.std.proofs.lemmas.List.Elements.{All-nil}
use Rattle.pa_math.specs.Answers.{and_then, told_as}
use Rattle.pa_meaning.specs.Rows.{Row}
use Rattle.pa_witness.specs.Thinning.{thinned, ThinningHolds}
use Rattle.pa_witness.specs.Steps.{Two, stepped, step_count}
use Rattle.pa_witness.proofs.Fewer.{thinned_fewer}
use Rattle.pa_witness.proofs.Widths.{stepped_columns, thinned_columns}
use Rattle.pa_row.specs.declared.place.Place.{Place}
use Rattle.pa_row.specs.declared.place.Task.TheVariants.{Filter, Pairs}
use Rattle.pa_row.specs.declared.place.Group.TheVariants as group
use Rattle.pa_row.specs.declared.place.Sub.TheVariants.{Main}
use Rattle.pa_row.specs.declared.place.Spot.TheVariants.{Check}
use Rattle.pa_row.specs.declared.place.Halt.{Halt}
use Rattle.pa_row.specs.declared.place.Halt.TheVariants as halt
use Rattle.pa_fourier.specs.StepFaults.{step_in}
use Rattle.pa_fourier.specs.declared.fault.StepFault.{StepFault}
use Rattle.pa_fourier.specs.declared.fault.StepFault.TheVariants as stepping
use Rattle.pa_fourier.proofs.Exact.{step_value, step_stops}
use Rattle.pa_fourier.proofs.Faults.{StopsStep}
use Rattle.pa_farkas.specs.Alternatives.{IsThinning, Thinning}
use Rattle.pa_farkas.specs.Answered.{thinned_of}
use Rattle.pa_farkas.proofs.Defined.{Holds}
use Rattle.pa_farkas.proofs.Thinnings.{IsThinFault, IsCleanPlace, IsFilterPlace, thinned_is}
use Rattle.pa_elim.specs.declared.fault.ElimFault.{ElimFault}
use Rattle.pa_elim.specs.declared.fault.ElimFault.TheVariants as fault
use Rattle.pa_elim.specs.Projecting.{Projection, after_step, after_steps, elim_fault, made_in, pairs_fault, projected_of, start_of, thinned_in, with_step}
use Rattle.pa_elim.specs.Meant.{HoldsAsProjected}
use Rattle.pa_elim.specs.Seen.{AreFollowed, AreInTurn, CanStep, IsNext, IsStart}
use Rattle.pa_elim.proofs.Steps.{followed_none, followed_next, next_can, shown_all}

-- ---- where a fault stands
-- a row of a step: of the given rows in step 0, else within the limit in a step of a column that goes
abbrev pub IsStepRow : ℕ → ℕ → ℕ → ℕ → ℕ → Type 0
IsStepRow limit given gone zero row = row < given
IsStepRow limit given gone (suc step) row = (suc step ≤ gone) × (row < limit)

-- a sum of a row that a step makes
abbrev pub IsPairsPlace : ℕ → ℕ → Place → Type 0
IsPairsPlace zero row p = ⊥
IsPairsPlace (suc step) row p = p ≡ record { task = Pairs (suc step) row; sub = Main; spot = Check }

abbrev pub IsElimFault : ℕ → ℕ → ℕ → ℕ → ElimFault → Type 0
IsElimFault limit most given gone fault.Memory = ⊥
IsElimFault limit most given gone (fault.RowLimit step count) = (1 ≤ step) × (step ≤ gone) × (limit < count)
IsElimFault limit most given gone (fault.PivotLimit p) =
    (step : ℕ) × (row : ℕ) × IsStepRow limit given gone step row × (p.task ≡ Filter (group.Step step) row) × (p.sub ≡ Main)
IsElimFault limit most given gone (fault.Wide p) =
    (step : ℕ) × (row : ℕ) × IsStepRow limit given gone step row
    × (IsCleanPlace (group.Step step) row p ⊎ IsFilterPlace most (group.Step step) row p ⊎ IsPairsPlace step row p)

module _ (limit most given gone : ℕ) where
  thin_fault : (step n : ℕ) → ((row : ℕ) → row < n → IsStepRow limit given gone step row) → (h : Halt) → IsThinFault most (group.Step step) n h
      → IsElimFault limit most given gone (elim_fault h)
  thin_fault step n fits halt.Memory f = f
  thin_fault step n fits (halt.PivotLimit p) (row, low, task, sub) = (step, row, fits row low, task, sub)
  thin_fault step n fits (halt.Wide p) (row, low, inl at) = (step, row, fits row low, inl at)
  thin_fault step n fits (halt.Wide p) (row, low, inr at) = (step, row, fits row low, inr (inl at))

  -- ---- a step
  -- the rows that are made where column k goes in the step with this number
  abbrev pub IsMade : ℕ → List Row → List Row → Type 0
  IsMade k rows new = (new ≡ stepped Two k rows) × (step_count Two k rows ≤ limit)

  pub made_is : (n step k : ℕ) (rows : List Row) → All (λ (r : Row). length r.c ≡ n) rows → suc step ≤ gone
      → Holds (IsMade k rows) (IsElimFault limit most given gone) (made_in limit (suc step) k rows)
  made_is n step k rows columns last = by (nat_lt limit (step_count Two k rows)) refl
    where
      made : step_count Two k rows ≤ limit → (r : Result (List Row) StepFault) → step_in Two k rows ≡ r → IfErr r (StopsStep (step_count Two k rows))
          → Holds (IsMade k rows) (IsElimFault limit most given gone) (told_as (pairs_fault (suc step)) r)
      made within (Ok new) is stops = record { ok = (step_value Two k n rows new columns is, within); err = tt }
      made within (Err stepping.Memory) is stops = absurd stops
      made within (Err (stepping.Wide row)) is stops =
          let low : row < limit = omega (arith, within, stops) in
          record { ok = tt; err = (suc step, row, (last, low), inr (inr refl)) }

      by : (b : Bool) → nat_lt limit (step_count Two k rows) ≡ b
          → Holds (IsMade k rows) (IsElimFault limit most given gone)
          (cond b (Err (fault.RowLimit (suc step) (step_count Two k rows))) (told_as (pairs_fault (suc step)) (step_in Two k rows)))
      by true above = record { ok = tt; err = (omega (arith), last, grind (arith)) }
      by false within = made (grind (arith)) (step_in Two k rows) refl (step_stops Two k n rows columns)

  thin_is : (n step : ℕ) (rows : List Row) → All (λ (r : Row). length r.c ≡ n) rows → length rows ≤ 4096 → n ≤ 128
      → ((row : ℕ) → row < length rows → IsStepRow limit given gone step row)
      → Holds (IsThinning n rows []) (IsElimFault limit most given gone) (thinned_in n most step rows)
  thin_is n step rows columns few short fits =
      by (thinned_of n rows [] most (group.Step step))
      (thinned_is n rows [] columns (All-nil (λ (r : Row). length r.c ≡ n)) (omega (arith, few)) short most (group.Step step))
    where
      by : (r : Result Thinning Halt) → Holds (IsThinning n rows []) (IsThinFault most (group.Step step) (length rows)) r
          → Holds (IsThinning n rows []) (IsElimFault limit most given gone) (told_as elim_fault r)
      by (Ok t) h = record { ok = h.ok; err = tt }
      by (Err e) h = record { ok = tt; err = thin_fault step (length rows) fits e h.err }

  pub step_is : limit ≤ 4096 → (n step k : ℕ) (p : Projection) → CanStep n p → k < n → suc step ≤ gone
      → Holds (IsNext limit n k p) (IsElimFault limit most given gone) (after_step limit most n (suc step) k p)
  step_is small n step k p can low last = by (made_in limit (suc step) k p.rows) (made_is n step k p.rows can.columns last)
    where
      thin : (new : List Row) → IsMade k p.rows new → (r : Result Thinning ElimFault)
          → Holds (IsThinning (pred n) new []) (IsElimFault limit most given gone) r
          → Holds (IsNext limit n k p) (IsElimFault limit most given gone) (and_then r (λ t. Ok (with_step p.steps t)))
      thin new is (Ok t) h = record {
        ok = record {
          drops = t.drops;
          steps = refl;
          within = is.1;
          holds = subst (λ rows. ThinningHolds (pred n) rows [] t.drops) is.0 h.ok.holds;
          left = h.ok.rows_are ∙ ap (λ rows. thinned (pred n) rows t.drops) is.0;
        };
        err = tt;
      }
      thin new is (Err e) h = record { ok = tt; err = h.err }

      by : (r : Result (List Row) ElimFault) → Holds (IsMade k p.rows) (IsElimFault limit most given gone) r
          → Holds (IsNext limit n k p) (IsElimFault limit most given gone)
          (and_then r (λ made. and_then (thinned_in (pred n) most (suc step) made) (λ t. Ok (with_step p.steps t))))
      by (Ok new) h =
          let count : length new ≤ limit = subst (λ (rows : List Row). length rows ≤ limit) (sym h.ok.0) h.ok.1 in
          thin new h.ok (thinned_in (pred n) most (suc step) new)
          (thin_is (pred n) (suc step) new
          (subst (All (λ (r : Row). length r.c ≡ pred n)) (sym h.ok.0) (stepped_columns Two n k p.rows low can.columns))
          (omega (arith, count, small)) (omega (arith, can.short)) (λ row here. (last, omega (arith, here, count))))
      by (Err e) h = record { ok = tt; err = h.err }

  -- ---- steps one after another
  steps_are : limit ≤ 4096 → (n step : ℕ) (ks : List ℕ) (p : Projection) → CanStep n p → AreInTurn n ks → step + length ks ≤ gone
      → Holds (AreFollowed limit n ks p) (IsElimFault limit most given gone) (after_steps limit most n (suc step) ks p)
  steps_are small n step [] p can turns last = record { ok = followed_none limit n p; err = tt }
  steps_are small n step (k ∷ ks) p can turns last =
      by (after_step limit most n (suc step) k p) (step_is small n step k p can turns.0 (omega (arith, last)))
      (λ next is. steps_are small (pred n) (suc step) ks next (next_can limit n k p next is turns.0 small can) turns.1 (omega (arith, last)))
    where
      more : (next : Projection) → IsNext limit n k p next → (r : Result Projection ElimFault)
          → Holds (AreFollowed limit (pred n) ks next) (IsElimFault limit most given gone) r
          → Holds (AreFollowed limit n (k ∷ ks) p) (IsElimFault limit most given gone) r
      more next is (Ok new) h = record { ok = followed_next limit n k ks p next new is h.ok; err = tt }
      more next is (Err e) h = record { ok = tt; err = h.err }

      by : (r : Result Projection ElimFault) → Holds (IsNext limit n k p) (IsElimFault limit most given gone) r
          → ((next : Projection) → IsNext limit n k p next
          → Holds (AreFollowed limit (pred n) ks next) (IsElimFault limit most given gone) (after_steps limit most (pred n) (suc (suc step)) ks next))
          → Holds (AreFollowed limit n (k ∷ ks) p) (IsElimFault limit most given gone)
          (and_then r (λ next. after_steps limit most (pred n) (suc (suc step)) ks next))
      by (Ok next) h rest = more next h.ok (after_steps limit most (pred n) (suc (suc step)) ks next) (rest next h.ok)
      by (Err e) h rest = record { ok = tt; err = h.err }

-- ---- an elimination
module _ (limit most n : ℕ) (rows : List Row) (ks : List ℕ) (small : limit ≤ 4096) (columns : All (λ (r : Row). length r.c ≡ n) rows)
    (few : length rows ≤ 4096) (short : n ≤ 128) (turns : AreInTurn n ks) where
  abbrev pub Projects : Result Projection ElimFault → Type 0
  Projects r = Holds (HoldsAsProjected limit n rows ks) (IsElimFault limit most (length rows) (length ks)) r

  pub start_is : Holds (λ p. IsStart n rows p × CanStep n p) (IsElimFault limit most (length rows) (length ks)) (start_of n most rows)
  start_is = by (thinned_in n most 0 rows) (thin_is limit most (length rows) (length ks) n 0 rows columns few short (λ row low. low))
    where
      by : (r : Result Thinning ElimFault) → Holds (IsThinning n rows []) (IsElimFault limit most (length rows) (length ks)) r
          → Holds (λ p. IsStart n rows p × CanStep n p) (IsElimFault limit most (length rows) (length ks)) (and_then r (λ t. Ok (with_step [] t)))
      by (Ok t) h = record { ok = (is_start t h.ok, can_step t h.ok); err = tt }
        where
          is_start : (t : Thinning) → IsThinning n rows [] t → IsStart n rows (with_step [] t)
          is_start t h = record { drops = t.drops; steps = refl; holds = h.holds; left = h.rows_are }

          can_step : (t : Thinning) → IsThinning n rows [] t → CanStep n (with_step [] t)
          can_step t h = record {
            columns = subst (All (λ (r : Row). length r.c ≡ n)) (sym h.rows_are) (thinned_columns n rows t.drops columns);
            few = subst (λ (new : List Row). length new ≤ 4096) (sym h.rows_are)
                (let fewer = thinned_fewer n rows t.drops in omega (arith, few, fewer));
            short = short;
          }
      by (Err e) h = record { ok = tt; err = h.err }

  pub projected_is : Projects (projected_of limit most n ks rows)
  projected_is = by (start_of n most rows) start_is
    where
      all : (start : Projection) → IsStart n rows start → (r : Result Projection ElimFault)
          → Holds (AreFollowed limit n ks start) (IsElimFault limit most (length rows) (length ks)) r → Projects r
      all start is (Ok new) h = record { ok = shown_all limit n rows ks start new is h.ok; err = tt }
      all start is (Err e) h = record { ok = tt; err = h.err }

      by : (r : Result Projection ElimFault) → Holds (λ p. IsStart n rows p × CanStep n p) (IsElimFault limit most (length rows) (length ks)) r
          → Projects (and_then r (after_steps limit most n 1 ks))
      by (Ok start) h = all start h.ok.0 (after_steps limit most n 1 ks start)
          (steps_are limit most (length rows) (length ks) small n 0 ks start h.ok.1 turns (omega (arith)))
      by (Err e) h = record { ok = tt; err = h.err }
