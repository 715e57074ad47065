-- What a trial says of the premises and the rows, and which behaviours have the nominal values.
use Rattle.std.specs.Prelude.{◌≡◌, ℕ, ◌<◌, ◌≤◌, List, length, take, ◌*ℤ◌, All}
use Rattle.std.specs.List.{AllZip}
use Rattle.pa_meaning.specs.Rows.{Row, row_at}
use Rattle.pa_meaning.specs.Weights.{Weights}
use Rattle.pa_meaning.specs.Shifting.{Leaves, shifted}
use Rattle.pa_meaning.specs.Contracts.{Name, Behaviour}
use Rattle.pa_witness.specs.Shifts.{ShiftsHold, shifted_rows}
use Rattle.pa_contract.specs.Nominal.{Nominal, value_of}
use Rattle.pa_shift.specs.Shifting.{Premises}
use Rattle.pa_shift.specs.Meant.{IsExactAt, ShowsStuck}
use Rattle.pa_trial.specs.declared.trial.Trial.{Trial}
use Rattle.pa_trial.specs.declared.trial.Trial.TheVariants.{Through, Stopped}

-- premises and terms have n columns, at most 128, of which the nominal point has the first; there are at most 4,096 of each
pub record CanTry (n : ℕ) (premises : Premises) (terms : List Row) : Type 0 where
  pub premise_columns : All (λ (r : Row). length r.c ≡ n) premises.rows
  pub term_columns : All (λ (r : Row). length r.c ≡ n) terms
  pub nominal_fits : length premises.nominal.p ≤ n
  pub few : length premises.rows ≤ 4096
  pub few_terms : length terms ≤ 4096
  pub short : n ≤ 128

-- some weights over the premises equal each of these terms in the columns that go
abbrev pub AreServed : Premises → List Row → Type 0
AreServed premises terms = All (λ t. (w : Weights) × Leaves (length premises.nominal.p) premises.rows t w) terms

-- Weights for each term leave these rows of it, exact at the nominal point; or this one is the first for which none exist.
abbrev pub IsTrial : Premises → List Row → Trial → Type 0
IsTrial premises terms (Through lefts) =
    ShiftsHold (length premises.nominal.p) premises.rows terms lefts.weights
    × (lefts.rows ≡ shifted_rows (length premises.nominal.p) premises.rows terms lefts.weights)
    × AllZip (λ t w. IsExactAt premises t (shifted t premises.rows w)) terms lefts.weights
IsTrial premises terms (Stopped i d) =
    (i < length terms) × ShowsStuck premises (row_at terms i) d
    × AreServed premises (take i terms)

-- the behaviour has the nominal value at each of these names
abbrev pub IsNominalAt : Nominal → List Name → Behaviour → Type 0
IsNominalAt nominal names v = All (λ n. v.value n *ℤ (value_of nominal n).1 ≡ (value_of nominal n).0 *ℤ v.den) names
