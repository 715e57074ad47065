-- What the shifts of a quotient leave is true of the whole and the part: the weights hold and are exact at the nominal values, and the first guarantee
-- without weights is so by the meaning.
use Rattle.std.proofs.Common.{◌≡◌, ◌∙◌, refl, sym, ap, subst, ℕ, zero, suc, ◌+◌, ◌<◌, ◌≤◌, List, [], ◌∷◌, length, map, take, drop, All}
use Rattle.std.proofs.Common.{Result, Ok, Err, arith, length-append}
use Rattle.std.specs.List.{AllZip}
use Rattle.std.specs.List.{IsDistinct}
use Rattle.std.specs.Str.{bytes_eq}
use Rattle.std.proofs.lemmas.List.Elements.{All-head, All-tail, All-weaker}
use lib.IntN.{ℤ, pos}
use lib.Signed.{◌<ℤ◌}
use Rattle.pa_ring.specs.Sums.{SameNumbers}
use Rattle.pa_math.specs.Answers.{and_then, told_as}
use Rattle.pa_math.specs.Lists.{AreApart}
use Rattle.pa_frac.specs.declared.wide.Wide.{Wide}
use Rattle.pa_meaning.specs.Rows.{Row, Point, row_at}
use Rattle.pa_meaning.specs.Weights.{Weights}
use Rattle.pa_meaning.specs.Contracts.{Name, Contract, ports, Behaviour}
use Rattle.pa_meaning.specs.Directions.{Sticks, Makes}
use Rattle.pa_meaning.specs.Shifting.{Leaves, less_weighted, shifted}
use Rattle.pa_meaning.specs.Composition.{guarantees_over, IsExactAtNominal}
use Rattle.pa_meaning.specs.Quotient.{quotient_ports, quotient_names, IsStuckGuarantee}
use Rattle.pa_meaning.proofs.Directions.{at_row}
use Rattle.pa_meaning.proofs.QuotientPorts.{quotient_names_distinct}
use Rattle.pa_meaning.proofs.StuckGuarantee.{guarantee_is_broken}
use Rattle.pa_witness.specs.Shifts.{ShiftsHold, shifted_rows}
use Rattle.pa_witness.proofs.Shifts.{leaves_from_shift}
use Rattle.pa_row.specs.declared.place.Task.TheVariants as task
use Rattle.pa_row.specs.declared.place.Sub.TheVariants.{Main}
use Rattle.pa_row.specs.declared.place.Spot.TheVariants.{Check}
use Rattle.pa_row.specs.declared.place.Halt.{Halt}
use Rattle.pa_row.specs.Fractions.{point_in}
use Rattle.pa_farkas.specs.Answered.{wide_in}
use Rattle.pa_farkas.proofs.Defined.{Holds}
use Rattle.pa_contract.specs.Merge.{row_count}
use Rattle.pa_contract.specs.Nominal.{Nominal, IsNominal, value_of}
use Rattle.pa_contract.specs.WellFormed.{IsWellFormed}
use Rattle.pa_cert.specs.Tables.{Limits}
use Rattle.pa_parts.proofs.Rows.{guarantees_long, guarantees_count}
use Rattle.pa_shift.specs.Meant.{back_row, CanShift, IsExactAt}
use Rattle.pa_shift.specs.Shifting.{Premises}
use Rattle.pa_trial.specs.declared.trial.Trial.{Trial}
use Rattle.pa_trial.specs.declared.trial.Trial.TheVariants.{Through, Stopped}
use Rattle.pa_trial.specs.declared.trial.Turn.TheVariants.{InRound}
use Rattle.pa_trial.specs.Lefts.{Lefts}
use Rattle.pa_trial.specs.Trying.{tried_of}
use Rattle.pa_trial.specs.Meant.{IsTrial}
use Rattle.pa_trial.proofs.AtNominal.{HasColumns, HasValues, exact_there, values_at}
use Rattle.pa_trial.proofs.Behind.{leaves_makes, over_back, row_at-back}
use Rattle.pa_trial.proofs.NominalPoints.{nominal_formed}
use Rattle.pa_trial.proofs.Trials.{IsRowOf, IsTrialFault, tried_is}
use Rattle.pa_quotient.specs.declared.fault.QuotientFault.{QuotientFault}
use Rattle.pa_quotient.specs.Dividing.{halted, lefts_by, lefts_of, lefts_over, premises_of}
use Rattle.pa_quotient.specs.Meant.{AreExactAtNominal, HasMultipliers, IsFirstStuck}
use Rattle.pa_quotient.proofs.TaskPlaces.{IsTaskFault, nominal_fits, trial_faults}

-- what holds of the first rows holds of each of them
at_taken : (P : Row → Type 0) (rows : List Row) (k i : ℕ) → i < k → i < length rows → All P (take k rows) → P (row_at rows i)
at_taken P rows zero i below less h = absurd (omega arith)
at_taken P [] (suc k) i below less h = absurd (omega arith)
at_taken P (r ∷ rows) (suc k) zero below less h = All-head P r (take k rows) h
at_taken P (r ∷ rows) (suc k) (suc i) below less h = at_taken P rows k i (omega arith) (omega arith) (All-tail P r (take k rows) h)

-- what is left of the whole's guarantees
pub record IsLeft (whole part : Contract) (nominal : Nominal) (l : Lefts) : Type 0 where
  pub shifts : ShiftsHold (length (quotient_ports whole part)) (guarantees_over (quotient_names whole part) part)
      (guarantees_over (quotient_names whole part) whole) l.weights
  pub rows_are : l.rows ≡ shifted_rows (length (quotient_ports whole part)) (guarantees_over (quotient_names whole part) part)
      (guarantees_over (quotient_names whole part) whole) l.weights
  pub exact : AreExactAtNominal whole part nominal l.weights

module _ (most : Limits) (whole part : Contract) (nominal : Nominal) (whole_formed : IsWellFormed whole) (part_formed : IsWellFormed part)
    (clear : AreApart bytes_eq whole.inputs part.outputs) (short : length (quotient_names whole part) ≤ 128)
    (few : row_count whole + row_count part ≤ 4096) (is : IsNominal nominal) where
  abbrev at_ports : List Name
  at_ports = quotient_ports whole part

  abbrev at_names : List Name
  at_names = quotient_names whole part

  abbrev given : List Row
  given = guarantees_over (quotient_names whole part) part

  abbrev terms : List Row
  terms = guarantees_over (quotient_names whole part) whole

  abbrev IsFault : QuotientFault → Type 0
  IsFault = IsTaskFault most whole part

  distinct : IsDistinct bytes_eq (quotient_names whole part)
  distinct = quotient_names_distinct whole part whole_formed.distinct part_formed.distinct clear

  -- ---- at a nominal point
  module _ (x : Point) (made : point_in (map (value_of nominal) (quotient_ports whole part)) ≡ Ok x) where
    abbrev premises : Premises
    premises = premises_of whole part x

    up : pos 0 <ℤ x.q
    up = (nominal_formed nominal at_ports x is made).0

    long : length x.p ≡ length (quotient_ports whole part)
    long = (nominal_formed nominal at_ports x is made).1

    can_shift : All (CanShift premises) terms
    can_shift =
        let both = length-append (quotient_ports whole part) part.outputs in
        let count = guarantees_count at_names part in
        let fits = long in
        All-weaker (λ (r : Row). length r.c ≡ length at_names) (CanShift premises) (λ t wide. record {
          columns = subst (λ n. All (λ (r : Row). length r.c ≡ n) given) (sym wide) (guarantees_long at_names part);
          nominal = omega (arith, both, fits, wide);
          positive = up;
          few = omega (arith, count, few);
          short = omega (arith, wide, short);
        }) terms (guarantees_long at_names whole)

    -- ---- all guarantees are brought to the ports
    exact_rows : (v : Behaviour) → HasValues x.q v at_ports x.p → (ts : List Row) (ws : List Weights) → HasColumns (length at_names) ts
        → ShiftsHold (length at_ports) given ts ws → AllZip (λ t w. IsExactAt premises t (shifted t given w)) ts ws
        → AllZip (λ t w. IsExactAtNominal at_ports at_names given t (less_weighted t given w) v) ts ws
    exact_rows v values [] [] wide holds exact = tt
    exact_rows v values [] (w ∷ ws) wide holds exact = absurd exact
    exact_rows v values (t ∷ ts) [] wide holds exact = absurd exact
    exact_rows v values (t ∷ ts) (w ∷ ws) wide holds exact = (
      exact_there at_ports part.outputs distinct x up long given t w v (guarantees_long at_names part)
          (All-head (λ (r : Row). length r.c ≡ length at_names) t ts wide)
          (subst (λ n. SameNumbers (drop n (less_weighted t given w).c) []) (sym long) (leaves_from_shift (length at_ports) given t w holds.0).gone) values
          exact.0,
      exact_rows v values ts ws (All-tail (λ (r : Row). length r.c ≡ length at_names) t ts wide) holds.1 exact.1,
    )

    left_is : (l : Lefts) → IsTrial premises terms (Through l) → IsLeft whole part nominal l
    left_is l h =
        let holds : ShiftsHold (length at_ports) given terms l.weights = subst (λ n. ShiftsHold n given terms l.weights) long h.0 in
        record {
          shifts = holds;
          rows_are = subst (λ n. l.rows ≡ shifted_rows n given terms l.weights) long h.1;
          exact = λ v there. exact_rows v (values_at nominal at_ports x v is made there) terms l.weights (guarantees_long at_names whole) holds h.2;
        }

    -- ---- one is not
    -- rows over all names are, behind the ports, rows over the part's outputs
    part_back : map (back_row (length at_ports)) given ≡ guarantees_over part.outputs part
    part_back = over_back (ports part) at_ports part.outputs part.guarantees

    whole_back : (i : ℕ) → back_row (length at_ports) (row_at terms i) ≡ row_at (guarantees_over part.outputs whole) i
    whole_back i = sym (row_at-back (length at_ports) terms i) ∙ ap (λ rows. row_at rows i) (over_back (ports whole) at_ports part.outputs whole.guarantees)

    multipliers : (i : ℕ) (w : Weights) → Leaves (length x.p) given (row_at terms i) w → HasMultipliers whole part i
    multipliers i w leaves = (
      w,
      subst (Makes w (guarantees_over part.outputs part)) (whole_back i)
          (subst (λ rows. Makes w rows (back_row (length at_ports) (row_at terms i))) part_back
          (leaves_makes (length at_ports) given (row_at terms i) w (subst (λ n. Leaves n given (row_at terms i) w) long leaves))),
    )

    stuck_is : (row : ℕ) (d : List ℤ) → IsTrial premises terms (Stopped row d) → IsFirstStuck whole part row d
    stuck_is row d (less, shows, served) =
        let count = guarantees_count at_names whole in
        let wide : length (row_at terms row).c ≡ length at_names =
        at_row (λ (r : Row). length r.c ≡ length at_names) terms row less (guarantees_long at_names whole) in
        let both = length-append (quotient_ports whole part) part.outputs in
        let columns : length x.p + length d ≡ length (row_at terms row).c = shows.columns in
        let fits = long in
        let stuck : IsStuckGuarantee whole part row d = record {
          placed = omega (arith, less, count);
          sticks = subst (Sticks d (guarantees_over part.outputs part)) (whole_back row)
              (subst (λ rows. Sticks d rows (back_row (length at_ports) (row_at terms row))) part_back
              (subst (λ n. Sticks d (map (back_row n) given) (back_row n (row_at terms row))) long shows.sticks));
        } in
        record {
          numbers = omega (arith, wide, both, columns, fits);
          stuck = stuck;
          first = λ i below.
              let (w, leaves) = at_taken (λ t. (w : Weights) × Leaves (length x.p) given t w) terms row i below (omega (arith, below, less)) served in
              multipliers i w leaves;
          broken = guarantee_is_broken whole part row d whole_formed.distinct part_formed.distinct clear stuck;
        }

    -- ---- by the trial
    abbrev LeftsHold : Result Lefts QuotientFault → Type 0
    LeftsHold r = Holds (IsLeft whole part nominal) IsFault r

    by_trial : (r : Result Trial Halt) → Holds (IsTrial premises terms) (IsTrialFault most.pivots (InRound 0) (IsRowOf 0 (length terms))) r
        → LeftsHold (and_then (told_as halted r) lefts_by)
    by_trial (Ok (Through l)) h = record { ok = left_is l h.ok; err = tt }
    by_trial (Ok (Stopped row d)) h = record { ok = tt; err = stuck_is row d h.ok }
    by_trial (Err e) h =
        let count = guarantees_count at_names whole in
        record { ok = tt; err = trial_faults most whole part (length terms) e (omega (arith, count)) h.err }

    lefts_over_hold : LeftsHold (lefts_over whole part most.pivots x)
    lefts_over_hold = by_trial (tried_of premises most.pivots (InRound 0) 0 terms) (tried_is premises most.pivots (InRound 0) 0 terms can_shift)

  -- what the definition leaves is true, and its faults are at the tasks of the quotient
  pub lefts_hold : Holds (IsLeft whole part nominal) (IsTaskFault most whole part) (lefts_of whole part nominal most.pivots)
  lefts_hold = by (point_in (map (value_of nominal) (quotient_ports whole part))) refl
    where
      by : (r : Result Point Wide) → point_in (map (value_of nominal) (quotient_ports whole part)) ≡ r
          → Holds (IsLeft whole part nominal) (IsTaskFault most whole part)
          (and_then (told_as halted (told_as (wide_in task.Nominal Main Check) r)) (λ x. lefts_over whole part most.pivots x))
      by (Ok x) made = lefts_over_hold x made
      by (Err wide) made = record { ok = tt; err = nominal_fits most whole part }
