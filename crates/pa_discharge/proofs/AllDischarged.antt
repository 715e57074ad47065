-- Where all parts are discharged, what the rounds leave is true of the parts: the weights hold over the guarantees of the parts of smaller rounds, the
-- rounds are those of the meaning, and what is left is exact at the nominal values.
use Rattle.std.proofs.Common.{◌≡◌, refl, sym, ap, ap₂, subst, ◌∙◌, ℕ, zero, suc, ◌<◌, List, [], ◌∷◌, ◌++◌, length, map, filter, flat_map, drop, arith}
use Rattle.std.proofs.Common.{All, Option, None, Some, Ok, Bool, true, false, cond, nat_lt}
use Rattle.std.specs.Prelude.{slice_get}
use Rattle.std.specs.List.{AllZip}
use Rattle.std.proofs.lemmas.List.{length-map}
use Rattle.std.proofs.lemmas.List.Elements.{All-nil, All-cons, All-head, All-tail}
use Rattle.pa_ring.specs.Sums.{SameNumbers}
use Rattle.pa_ring.proofs.Lists.{All-from_contains, All-flat_map}
use Rattle.pa_math.specs.Answers.{given}
use Rattle.pa_math.proofs.Answers.{told_as_ok}
use Rattle.pa_meaning.specs.Rows.{Row}
use Rattle.pa_meaning.specs.Weights.{Weights}
use Rattle.pa_meaning.specs.Contracts.{Name, Contract, ports, Behaviour, over_names, coefficient_at}
use Rattle.pa_meaning.specs.Shifting.{less_weighted, shifted}
use Rattle.pa_meaning.specs.Composition.{all_outputs, external_inputs, names_of, assumptions_over, guarantees_over, IsExactAtNominal}
use Rattle.pa_meaning.proofs.CompositionPorts.{names_distinct}
use Rattle.pa_witness.specs.Shifts.{ShiftsHold, shifted_rows}
use Rattle.pa_witness.specs.Discharge.{Discharge, DischargedPart, DischargeHolds, discharged, earlier_guarantees, discharge_rows}
use Rattle.pa_witness.proofs.Shifts.{leaves_from_shift}
use Rattle.pa_row.specs.declared.place.Task.TheVariants as task
use Rattle.pa_row.specs.declared.place.Sub.TheVariants.{Main}
use Rattle.pa_row.specs.declared.place.Spot.TheVariants.{Check}
use Rattle.pa_row.specs.Fractions.{point_in}
use Rattle.pa_farkas.specs.Answered.{wide_in}
use Rattle.pa_contract.specs.Nominal.{Nominal, IsNominal, value_of}
use Rattle.pa_shift.specs.Meant.{IsExactAt}
use Rattle.pa_shift.specs.Shifting.{Premises}
use Rattle.pa_discharge.specs.Rounds.{Brought}
use Rattle.pa_trial.specs.Trying.{nominal_in}
use Rattle.pa_discharge.specs.Discharging.{Asked, discharged_rows, are_discharged, left_rows, discharges_of, discharged_by}
use Rattle.pa_discharge.specs.Meant.{IsDischargedIn, AreRounds, IsExactPart, AreDischargedAt}
use Rattle.pa_discharge.proofs.States.{IsHeld, IsState, CanAsk, before_round, premises_before, AreTimely}
use Rattle.pa_trial.proofs.AtNominal.{HasValues, HasColumns, exact_there, values_at}

-- ---- what all parts bring
all_some : (bs : List (Option Brought)) → are_discharged bs ≡ true → (cs : List Brought) × (bs ≡ map Some cs)
all_some [] h = ([], refl)
all_some (None ∷ bs) h = absurd (cc)
all_some (Some b ∷ bs) h =
    let (cs, is) = all_some bs h in
    (b ∷ cs, ap (λ xs. Some b ∷ xs) is)

abbrev discharge_of : Brought → Discharge
discharge_of b = record { round = b.round; shifts = b.lefts.weights }

discharges_are : (cs : List Brought) → discharges_of (map Some cs) ≡ map discharge_of cs
discharges_are [] = refl
discharges_are (c ∷ cs) = ap (λ ds. discharge_of c ∷ ds) (discharges_are cs)

-- the guarantees of the parts that were discharged before a round are those of the parts of smaller rounds
kept_first : (t : Bool) (names : List Name) (p : Contract) (c : Brought) (rows : List Row) (others : List DischargedPart)
    → rows ≡ flat_map (λ e. guarantees_over names e.part) others
    → given [] (cond t (Some c) None) (λ b. guarantees_over names p) ++ rows
    ≡ flat_map (λ e. guarantees_over names e.part) (cond t (record { part = p; discharge = discharge_of c } ∷ others) others)
kept_first true names p c rows others same = ap (λ rs. guarantees_over names p ++ rs) same
kept_first false names p c rows others same = same

earlier_is : (names : List Name) (ps : List Contract) (cs : List Brought) (r : ℕ)
    → discharged_rows names ps (map (before_round r) (map Some cs)) ≡ earlier_guarantees names (discharged ps (map discharge_of cs)) r
earlier_is names [] cs r = refl
earlier_is names (p ∷ ps) [] r = refl
earlier_is names (p ∷ ps) (c ∷ cs) r =
    kept_first (nat_lt c.round r) names p c (discharged_rows names ps (map (before_round r) (map Some cs)))
    (filter (λ e. nat_lt e.discharge.round r) (discharged ps (map discharge_of cs))) (earlier_is names ps cs r)

-- ---- columns
pub over_columns : (ns names : List Name) (rows : List Row) → HasColumns (length names) (map (over_names ns names) rows)
over_columns ns names [] = All-nil (λ (r : Row). length r.c ≡ length names)
over_columns ns names (r ∷ rows) =
    All-cons (λ (r : Row). length r.c ≡ length names) (over_names ns names r) (map (over_names ns names) rows)
    (length-map names (coefficient_at ns r.c)) (over_columns ns names rows)

earlier_columns : (names : List Name) (all : List DischargedPart) (r : ℕ) → HasColumns (length names) (earlier_guarantees names all r)
earlier_columns names all r =
    All-flat_map (λ (row : Row). length row.c ≡ length names) (λ (e : DischargedPart). guarantees_over names e.part)
    (filter (λ e. nat_lt e.discharge.round r) all)
    (All-from_contains (λ (e : DischargedPart). HasColumns (length names) (guarantees_over names e.part))
    (filter (λ e. nat_lt e.discharge.round r) all) (λ e i. over_columns (ports e.part) names e.part.guarantees))

-- ---- part by part
module _ (asked : Asked) (round : ℕ) (cs : List Brought) (can : CanAsk asked) where
  abbrev names : List Name
  names = names_of asked.parts

  abbrev first : ℕ
  first = length (external_inputs asked.parts)

  abbrev all : List DischargedPart
  all = discharged asked.parts (map discharge_of cs)

  abbrev rows_before : ℕ → List Row
  rows_before r = earlier_guarantees (names_of asked.parts) (discharged asked.parts (map discharge_of cs)) r

  -- what is left of a part's assumptions, over the guarantees of the parts of smaller rounds
  record IsLeft (c : Brought) (p : Contract) : Type 0 where
    holds : ShiftsHold first (rows_before c.round) (assumptions_over names p) c.lefts.weights
    left : c.lefts.rows ≡ shifted_rows first (rows_before c.round) (assumptions_over names p) c.lefts.weights
    exact : AllZip (λ t w. IsExactAt (record { nominal = asked.nominal; rows = rows_before c.round }) t (shifted t (rows_before c.round) w))
        (assumptions_over names p) c.lefts.weights

  left_is : (c : Brought) (p : Contract) → IsHeld asked round (map Some cs) (Some c) (assumptions_over names p) → IsLeft c p
  left_is c p h =
      let premises : Premises = premises_before asked c.round (map Some cs) in
      let terms : List Row = assumptions_over names p in
      let rows_are : premises.rows ≡ rows_before c.round = earlier_is names asked.parts cs c.round in
      record {
        holds = subst (λ rows. ShiftsHold first rows terms c.lefts.weights) rows_are
            (subst (λ n. ShiftsHold n premises.rows terms c.lefts.weights) can.fits h.1.0);
        left = subst (λ rows. c.lefts.rows ≡ shifted_rows first rows terms c.lefts.weights) rows_are
            (subst (λ n. c.lefts.rows ≡ shifted_rows n premises.rows terms c.lefts.weights) can.fits h.1.1);
        exact = subst (λ rows. AllZip (λ t w. IsExactAt (record { nominal = asked.nominal; rows = rows }) t (shifted t rows w)) terms c.lefts.weights)
            rows_are h.1.2;
      }

  each_left : (ds : List Brought) (ps : List Contract) → AllZip (IsHeld asked round (map Some cs)) (map Some ds) (map (assumptions_over names) ps)
      → AllZip IsLeft ds ps
  each_left [] [] h = tt
  each_left [] (p ∷ ps) h = absurd h
  each_left (d ∷ ds) [] h = absurd h
  each_left (d ∷ ds) (p ∷ ps) h = (left_is d p h.0, each_left ds ps h.1)

  -- the weights hold
  all_hold : (ds : List Brought) (ps : List Contract) → AllZip IsLeft ds ps → All (DischargeHolds names first all) (discharged ps (map discharge_of ds))
  all_hold [] [] h = All-nil (DischargeHolds names first all)
  all_hold [] (p ∷ ps) h = absurd h
  all_hold (d ∷ ds) [] h = absurd h
  all_hold (d ∷ ds) (p ∷ ps) h =
      All-cons (DischargeHolds names first all) (record { part = p; discharge = discharge_of d }) (discharged ps (map discharge_of ds)) h.0.holds
      (all_hold ds ps h.1)

  -- these rows are left
  all_left : (ds : List Brought) (ps : List Contract) → AllZip IsLeft ds ps
      → left_rows (map Some ds) ≡ flat_map (discharge_rows names first all) (discharged ps (map discharge_of ds))
  all_left [] [] h = refl
  all_left [] (p ∷ ps) h = absurd h
  all_left (d ∷ ds) [] h = absurd h
  all_left (d ∷ ds) (p ∷ ps) h = ap₂ ◌++◌ h.0.left (all_left ds ps h.1)

  -- ---- at the nominal values
  module _ (v : Behaviour) (values : HasValues asked.nominal.q v (external_inputs asked.parts) asked.nominal.p) where
    exact_rows : (rows ts : List Row) (ws : List Weights) → HasColumns (length names) rows → HasColumns (length names) ts → ShiftsHold first rows ts ws
        → AllZip (λ t w. IsExactAt (record { nominal = asked.nominal; rows = rows }) t (shifted t rows w)) ts ws
        → AllZip (λ t w. IsExactAtNominal (external_inputs asked.parts) names rows t (less_weighted t rows w) v) ts ws
    exact_rows rows [] [] columns width holds exact = tt
    exact_rows rows [] (w ∷ ws) columns width holds exact = absurd exact
    exact_rows rows (t ∷ ts) [] columns width holds exact = absurd exact
    exact_rows rows (t ∷ ts) (w ∷ ws) columns width holds exact = (
      exact_there (external_inputs asked.parts) (all_outputs asked.parts) (names_distinct asked.parts can.apart) asked.nominal can.positive can.fits rows t w v
          columns (All-head (λ (r : Row). length r.c ≡ length names) t ts width)
          (subst (λ n. SameNumbers (drop n (less_weighted t rows w).c) []) (sym can.fits) (leaves_from_shift first rows t w holds.0).gone) values exact.0,
      exact_rows rows ts ws columns (All-tail (λ (r : Row). length r.c ≡ length names) t ts width) holds.1 exact.1,
    )

    all_exact : (ds : List Brought) (ps : List Contract) → AllZip IsLeft ds ps → All (IsExactPart asked.parts all v) (discharged ps (map discharge_of ds))
    all_exact [] [] h = All-nil (IsExactPart asked.parts all v)
    all_exact [] (p ∷ ps) h = absurd h
    all_exact (d ∷ ds) [] h = absurd h
    all_exact (d ∷ ds) (p ∷ ps) h =
        All-cons (IsExactPart asked.parts all v) (record { part = p; discharge = discharge_of d }) (discharged ps (map discharge_of ds))
        (exact_rows (rows_before d.round) (assumptions_over names p) d.lefts.weights (earlier_columns names all d.round)
        (over_columns p.inputs names p.assumptions) h.0.holds h.0.exact) (all_exact ds ps h.1)

-- ---- rounds
found_brought : (cs : List Brought) (i : ℕ) (d : Discharge) → slice_get (map discharge_of cs) i ≡ Some d
    → (c : Brought) × (slice_get (map Some cs) i ≡ Some (Some c)) × (discharge_of c ≡ d)
found_brought [] i d h = absurd (cc)
found_brought (c ∷ cs) zero d h = (c, refl, cc)
found_brought (c ∷ cs) (suc i) d h = found_brought cs i d h

rounds_are : (asked : Asked) (cs : List Brought) → AreTimely asked (map Some cs) → AreRounds asked.parts (map discharge_of cs)
rounds_are asked cs timely = λ i d at.
    let (c, there, is) = found_brought cs i d at in
    subst (λ (d : Discharge). IsDischargedIn asked.parts d.round i) is (record {
      before = (timely i c there (suc c.round)).1 (omega arith);
      not_earlier = λ h. let less : c.round < c.round = (timely i c there c.round).0 h in absurd (omega (arith, less));
    })

-- ---- all of it
some_discharged : (asked : Asked) (round : ℕ) (cs : List Brought) (nominal : Nominal) → CanAsk asked → IsNominal nominal
    → nominal_in nominal (external_inputs asked.parts) ≡ Ok asked.nominal → IsState asked round (map Some cs) → AreTimely asked (map Some cs)
    → AreDischargedAt asked.parts nominal (record { discharges = map discharge_of cs; assumptions = left_rows (map Some cs) })
some_discharged asked round cs nominal can nom is state timely =
    let each = each_left asked round cs can cs asked.parts state.held in
    let point = told_as_ok (wide_in task.Nominal Main Check) (point_in (map (value_of nominal) (external_inputs asked.parts))) asked.nominal is in
    record {
      one_each = length-map cs discharge_of ∙ sym (length-map cs Some) ∙ state.parts;
      holds = all_hold asked round cs can cs asked.parts each;
      left = all_left asked round cs can cs asked.parts each;
      rounds = rounds_are asked cs timely;
      exact = λ v at. all_exact asked round cs can v (values_at nominal (external_inputs asked.parts) asked.nominal v nom point at) cs asked.parts each;
    }

-- Where the state is one between rounds in which all parts are discharged, what it leaves is true of the parts.
pub all_discharged_is : (asked : Asked) (round : ℕ) (bs : List (Option Brought)) (nominal : Nominal) → CanAsk asked → IsNominal nominal
    → nominal_in nominal (external_inputs asked.parts) ≡ Ok asked.nominal → IsState asked round bs → are_discharged bs ≡ true → AreTimely asked bs
    → AreDischargedAt asked.parts nominal (discharged_by bs)
all_discharged_is asked round bs nominal can nom is state whole timely =
    let (cs, are) = all_some bs whole in
    let some = some_discharged asked round cs nominal can nom is (subst (IsState asked round) are state) (subst (AreTimely asked) are timely) in
    let same : record { discharges = map discharge_of cs; assumptions = left_rows (map Some cs) } ≡ discharged_by (map Some cs) =
    λ i. record { discharges = sym (discharges_are cs) i; assumptions = left_rows (map Some cs) } in
    subst (λ bs. AreDischargedAt asked.parts nominal (discharged_by bs)) (sym are) (subst (AreDischargedAt asked.parts nominal) same some)
