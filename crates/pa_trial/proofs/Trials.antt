-- What the definition of a trial answers is one: its weights leave what is printed of each term, or it ends at the first term for which none exist. Its
-- faults are at its own rows, and never want of memory.
use Rattle.std.proofs.Common.{◌≡◌, refl, sym, ap, ◌∙◌, subst, subst₂, ℕ, suc, ◌<◌, List, [], ◌∷◌, ◌++◌, length, take, All}
use Rattle.std.proofs.Common.{Result, Ok, Err, arith, append_assoc, append-nil, length-append}
use Rattle.std.proofs.lemmas.List.Elements.{All-nil, All-cons, All-head, All-tail}
use Rattle.std.specs.List.{AllZip}
use lib.IntN.{ℤ}
use Rattle.pa_math.specs.Answers.{and_then}
use Rattle.pa_meaning.specs.Rows.{Row, row_at, front_row}
use Rattle.pa_meaning.specs.Weights.{Weights}
use Rattle.pa_meaning.specs.Shifting.{Leaves, shifted}
use Rattle.pa_meaning.proofs.Directions.{at_row}
use Rattle.pa_witness.specs.Shifts.{ShiftHolds, ShiftsHold, shifted_rows}
use Rattle.pa_witness.proofs.Shifts.{leaves_from_shift}
use Rattle.pa_row.specs.declared.place.Sub.TheVariants.{Main}
use Rattle.pa_row.specs.declared.place.Halt.{Halt}
use Rattle.pa_row.specs.declared.place.Halt.TheVariants as halt
use Rattle.pa_farkas.proofs.Defined.{Holds}
use Rattle.pa_shift.specs.declared.shifting.Shifted.{Shifted}
use Rattle.pa_shift.specs.declared.shifting.Shifted.TheVariants.{Term, Ray}
use Rattle.pa_shift.specs.Shifting.{Premises, shifted_of}
use Rattle.pa_shift.specs.Meant.{CanShift, IsExactAt, IsShifting, ShowsLeft, ShowsStuck}
use Rattle.pa_shift.proofs.Defined.{IsShiftFault, IsShiftSpot, shifted_is}
use Rattle.pa_trial.specs.declared.trial.Trial.{Trial}
use Rattle.pa_trial.specs.declared.trial.Trial.TheVariants.{Through, Stopped}
use Rattle.pa_trial.specs.declared.trial.Turn.{Turn}
use Rattle.pa_trial.specs.Lefts.{Lefts}
use Rattle.pa_trial.specs.Trying.{after_shift, task_of, tried_from, tried_of, with_left}
use Rattle.pa_trial.specs.Meant.{AreServed, IsTrial}

-- ---- faults
-- the fault is at the trial of an assumption with such a part and row
abbrev pub IsTrialFault : ℕ → Turn → (ℕ → ℕ → Type 0) → Halt → Type 0
IsTrialFault most turn IsAt halt.Memory = ⊥
IsTrialFault most turn IsAt (halt.PivotLimit p) = (part : ℕ) × (row : ℕ) × IsAt part row × (p.task ≡ task_of turn part row) × (p.sub ≡ Main)
IsTrialFault most turn IsAt (halt.Wide p) =
    (part : ℕ) × (row : ℕ) × IsAt part row × (p.task ≡ task_of turn part row) × (p.sub ≡ Main) × IsShiftSpot most p.spot

module _ (most : ℕ) (turn : Turn) where
  fault_at : (IsAt : ℕ → ℕ → Type 0) (part row : ℕ) → IsAt part row → (h : Halt) → IsShiftFault most (task_of turn part row) h
      → IsTrialFault most turn IsAt h
  fault_at IsAt part row at halt.Memory f = f
  fault_at IsAt part row at (halt.PivotLimit p) f = (part, row, at, f.0, f.1)
  fault_at IsAt part row at (halt.Wide p) f = (part, row, at, f.0, f.1, f.2)

  pub fault_wider : (IsAt IsAlso : ℕ → ℕ → Type 0) → ((part row : ℕ) → IsAt part row → IsAlso part row) → (h : Halt) → IsTrialFault most turn IsAt h
      → IsTrialFault most turn IsAlso h
  fault_wider IsAt IsAlso wider halt.Memory f = f
  fault_wider IsAt IsAlso wider (halt.PivotLimit p) (part, row, at, task, sub) = (part, row, wider part row at, task, sub)
  fault_wider IsAt IsAlso wider (halt.Wide p) (part, row, at, task, sub, spot) = (part, row, wider part row at, task, sub, spot)

-- a row of the part, of which it has this many
abbrev pub IsRowOf : ℕ → ℕ → ℕ → ℕ → Type 0
IsRowOf here count part row = (part ≡ here) × (row < count)

-- ---- one term more
holds_more : (n : ℕ) (rows ts : List Row) (ws : List Weights) (t : Row) (w : Weights) → ShiftsHold n rows ts ws → ShiftHolds n rows t w
    → ShiftsHold n rows (ts ++ t ∷ []) (ws ++ w ∷ [])
holds_more n rows [] [] t w h k = (k, tt)
holds_more n rows [] (v ∷ ws) t w h k = absurd h
holds_more n rows (s ∷ ts) [] t w h k = absurd h
holds_more n rows (s ∷ ts) (v ∷ ws) t w h k = (h.0, holds_more n rows ts ws t w h.1 k)

rows_more : (n : ℕ) (rows ts : List Row) (ws : List Weights) (t : Row) (w : Weights) → ShiftsHold n rows ts ws
    → shifted_rows n rows (ts ++ t ∷ []) (ws ++ w ∷ []) ≡ shifted_rows n rows ts ws ++ front_row n (shifted t rows w) ∷ []
rows_more n rows [] [] t w h = refl
rows_more n rows [] (v ∷ ws) t w h = absurd h
rows_more n rows (s ∷ ts) [] t w h = absurd h
rows_more n rows (s ∷ ts) (v ∷ ws) t w h = ap (λ rs. front_row n (shifted s rows v) ∷ rs) (rows_more n rows ts ws t w h.1)

zip_more : (R : Row → Weights → Type 0) (ts : List Row) (ws : List Weights) (t : Row) (w : Weights) → AllZip R ts ws → R t w
    → AllZip R (ts ++ t ∷ []) (ws ++ w ∷ [])
zip_more R [] [] t w h k = (k, tt)
zip_more R [] (v ∷ ws) t w h k = absurd h
zip_more R (s ∷ ts) [] t w h k = absurd h
zip_more R (s ∷ ts) (v ∷ ws) t w h k = (h.0, zip_more R ts ws t w h.1 k)

left_more : (premises : Premises) (done : List Row) (lefts : Lefts) (t row : Row) (w : Weights) → IsTrial premises done (Through lefts)
    → ShowsLeft premises t row w → IsTrial premises (done ++ t ∷ []) (Through (with_left (length premises.nominal.p) lefts row w))
left_more premises done lefts t row w h left =
    let n : ℕ = length premises.nominal.p in (
      holds_more n premises.rows done lefts.weights t w h.0 left.holds,
      subst₂ (λ (rs : List Row) (r : Row). rs ++ front_row n r ∷ [] ≡ shifted_rows n premises.rows (done ++ t ∷ []) (lefts.weights ++ w ∷ []))
          (sym h.1) (sym left.left) (sym (rows_more n premises.rows done lefts.weights t w h.0)),
      zip_more (λ t w. IsExactAt premises t (shifted t premises.rows w)) done lefts.weights t w h.2
          (subst (IsExactAt premises t) left.left left.exact),
    )

-- ---- where a trial ends
row_behind : (done : List Row) (t : Row) (ts : List Row) → row_at (done ++ t ∷ ts) (length done) ≡ t
row_behind [] t ts = refl
row_behind (s ∷ done) t ts = row_behind done t ts

take_before : (done ts : List Row) → take (length done) (done ++ ts) ≡ done
take_before [] ts = refl
take_before (s ∷ done) ts = ap (λ rs. s ∷ rs) (take_before done ts)

served_by : (n : ℕ) (rows ts : List Row) (ws : List Weights) → ShiftsHold n rows ts ws → All (λ t. (w : Weights) × Leaves n rows t w) ts
served_by n rows [] ws h = All-nil (λ t. (w : Weights) × Leaves n rows t w)
served_by n rows (t ∷ ts) [] h = absurd h
served_by n rows (t ∷ ts) (w ∷ ws) h =
    All-cons (λ t. (w : Weights) × Leaves n rows t w) t ts (w, leaves_from_shift n rows t w h.0) (served_by n rows ts ws h.1)

-- a trial that goes through shows weights for each term
pub trial_served : (premises : Premises) (terms : List Row) (lefts : Lefts) → IsTrial premises terms (Through lefts) → AreServed premises terms
trial_served premises terms lefts h = served_by (length premises.nominal.p) premises.rows terms lefts.weights h.0

-- and one that ends at a term that there are none for it
pub trial_unserved : (premises : Premises) (terms : List Row) (i : ℕ) (d : List ℤ) → IsTrial premises terms (Stopped i d) → ¬ AreServed premises terms
trial_unserved premises terms i d h served =
    let (w, leaves) = at_row (λ t. (w : Weights) × Leaves (length premises.nominal.p) premises.rows t w) terms i h.0 served in
    h.1.none w leaves

module _ (premises : Premises) (most : ℕ) (turn : Turn) (part : ℕ) where
  abbrev IsTried : List Row → Result Trial Halt → Type 0
  IsTried terms r = Holds (IsTrial premises terms) (IsTrialFault most turn (IsRowOf part (length terms))) r

  stopped_is : (done : List Row) (lefts : Lefts) (t : Row) (ts : List Row) (d : List ℤ) → IsTrial premises done (Through lefts) → ShowsStuck premises t d
      → IsTrial premises (done ++ t ∷ ts) (Stopped (length done) d)
  stopped_is done lefts t ts d so stuck = (
    subst (λ n. length done < n) (sym (length-append done (t ∷ ts))) (omega (arith)),
    subst (λ u. ShowsStuck premises u d) (sym (row_behind done t ts)) stuck,
    subst (AreServed premises) (sym (take_before done (t ∷ ts))) (trial_served premises done lefts so),
  )

  -- the rest of a trial, by what became of its first term
  tried_step : (done : List Row) (lefts : Lefts) (t : Row) (ts : List Row) → IsTrial premises done (Through lefts)
      → (next : Lefts → Result Trial Halt)
      → ((more : Lefts) → IsTrial premises (done ++ t ∷ []) (Through more) → IsTried (done ++ t ∷ ts) (next more))
      → (r : Result Shifted Halt) → Holds (IsShifting premises t) (IsShiftFault most (task_of turn part (length done))) r
      → IsTried (done ++ t ∷ ts) (and_then r (after_shift (length premises.nominal.p) (length done) lefts next))
  tried_step done lefts t ts so next rest (Ok (Term row w)) h =
      rest (with_left (length premises.nominal.p) lefts row w) (left_more premises done lefts t row w so h.ok)
  tried_step done lefts t ts so next rest (Ok (Ray d)) h = record { ok = stopped_is done lefts t ts d so h.ok; err = tt }
  tried_step done lefts t ts so next rest (Err e) h = record {
    ok = tt;
    err = fault_at most turn (IsRowOf part (length (done ++ t ∷ ts))) part (length done)
        (refl, subst (λ n. length done < n) (sym (length-append done (t ∷ ts))) (omega (arith))) e h.err;
  }

  tried_on : (done : List Row) (lefts : Lefts) (rest : List Row) → All (CanShift premises) rest → IsTrial premises done (Through lefts)
      → IsTried (done ++ rest) (tried_from premises most turn part (length done) lefts rest)
  tried_on done lefts [] can so = record { ok = subst (λ ts. IsTrial premises ts (Through lefts)) (sym (append-nil done)) so; err = tt }
  tried_on done lefts (t ∷ ts) can so =
      tried_step done lefts t ts so (λ more. tried_from premises most turn part (suc (length done)) more ts)
      (λ more is. subst₂ (λ (k : ℕ) (all : List Row). IsTried all (tried_from premises most turn part k more ts))
      (length-append done (t ∷ []) ∙ omega (arith)) (append_assoc done (t ∷ []) ts)
      (tried_on (done ++ t ∷ []) more ts (All-tail (CanShift premises) t ts can) is))
      (shifted_of premises t most (task_of turn part (length done)))
      (shifted_is most (task_of turn part (length done)) premises t (All-head (CanShift premises) t ts can))

  pub tried_is : (terms : List Row) → All (CanShift premises) terms → IsTried terms (tried_of premises most turn part terms)
  tried_is terms can = tried_on [] (record { rows = []; weights = [] }) terms can (tt, refl, tt)
