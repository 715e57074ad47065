-- The rows of a composition's parts fit a trial and the room of its work.
use Rattle.std.proofs.Common.{◌≡◌, ◌∙◌, ap, sym, subst, ℕ, ◌≤◌, List, [], ◌∷◌, length, map, All, arith, length-append, Option, Some, None}
use Rattle.std.specs.Prelude.{flat_map, sum_by}
use Rattle.std.proofs.lemmas.List.{length-map}
use Rattle.std.proofs.lemmas.List.Elements.{All-nil, All-cons}
use Rattle.std.proofs.lemmas.List.Sums.{sum_by-cons}
use Rattle.pa_meaning.specs.Rows.{Row}
use Rattle.pa_meaning.specs.Contracts.{Name, Contract}
use Rattle.pa_meaning.specs.Composition.{all_outputs, assumptions_over, external_inputs, guarantees_over, names_of, part_at}
use Rattle.pa_contract.specs.Merge.{row_count}
use Rattle.pa_tableau.specs.Work.{HasRoom, Work}
use Rattle.pa_shift.specs.Shifting.{Premises}
use Rattle.pa_holds.specs.Composed.{all_guarantees}
use Rattle.pa_parts.proofs.Rows.{all_guarantees_few, all_guarantees_long, assumptions_count, assumptions_long, at_names, guarantees_long}
use Rattle.pa_discharge.specs.Rounds.{Brought}
use Rattle.pa_discharge.specs.Discharging.{discharged_rows}
use Rattle.pa_trial.specs.Meant.{CanTry}
use Rattle.pa_discharge.specs.Seen.{CanDischarge, CanTryEach, Composition}
use Rattle.pa_discharge.proofs.Outputs.{discharged_all}

-- ---- the guarantees of the parts that are discharged
pub discharged_long : (names : List Name) (ps : List Contract) (bs : List (Option Brought)) → All (λ r. length r.c ≡ length names) (discharged_rows names ps bs)
discharged_long names ps bs = discharged_all (λ r. length r.c ≡ length names) names ps bs (λ j b less at. guarantees_long names (part_at ps j))

pub discharged_fewer : (names : List Name) (ps : List Contract) (bs : List (Option Brought))
    → length (discharged_rows names ps bs) ≤ length (flat_map (guarantees_over names) ps)
discharged_fewer names [] bs = omega arith
discharged_fewer names (p ∷ ps) [] = omega arith
discharged_fewer names (p ∷ ps) (None ∷ bs) =
    let rest = discharged_fewer names ps bs in
    let all = length-append (guarantees_over names p) (flat_map (guarantees_over names) ps) in
    omega (arith, rest, all)
discharged_fewer names (p ∷ ps) (Some b ∷ bs) =
    let rest = discharged_fewer names ps bs in
    let some = length-append (guarantees_over names p) (discharged_rows names ps bs) in
    let all = length-append (guarantees_over names p) (flat_map (guarantees_over names) ps) in
    omega (arith, rest, some, all)

-- ---- room
-- a work that has room for some rows has room for fewer
pub room_for_fewer : (n m k : ℕ) (work : Work) → k ≤ m → HasRoom n m work → HasRoom n k work
room_for_fewer n m k work fewer room = (let rows = room.rows in record { lines = room.lines; rows = omega (arith, fewer, rows) })

-- ---- trials
module _ (c : Composition) (premises : Premises) (can : CanDischarge c) (nominal : length premises.nominal.p ≡ length (external_inputs c.parts))
    (columns : All (λ (r : Row). length r.c ≡ length (names_of c.parts)) premises.rows) (few : length premises.rows ≤ 4096) where
  wide : c.columns ≡ length (names_of c.parts)
  wide = can.wide ∙ ap length (at_names c.parts c.ports can.names)

  fits : length premises.nominal.p ≤ c.columns
  fits =
      let both = length-append (external_inputs c.parts) (all_outputs c.parts) in
      let all = wide in omega (arith, both, all, nominal)

  can_each : (ps : List Contract) → sum_by row_count ps ≤ 4096 → CanTryEach c.columns premises (map (assumptions_over (names_of c.parts)) ps)
  can_each [] few_rows = All-nil (CanTry c.columns premises)
  can_each (p ∷ ps) few_rows =
      let sum = sum_by-cons row_count p ps in
      let count = assumptions_count (names_of c.parts) p in
      All-cons (CanTry c.columns premises) (assumptions_over (names_of c.parts) p) (map (assumptions_over (names_of c.parts)) ps)
      (record {
        premise_columns = subst (λ n. All (λ (r : Row). length r.c ≡ n) premises.rows) (sym wide) columns;
        term_columns = subst (λ n. All (λ (r : Row). length r.c ≡ n) (assumptions_over (names_of c.parts) p)) (sym wide)
            (assumptions_long (names_of c.parts) p);
        nominal_fits = fits;
        few = few;
        few_terms = omega (arith, sum, count, few_rows);
        short = can.short;
      })
      (can_each ps (omega (arith, sum, few_rows)))

  can_try : CanTryEach c.columns premises c.terms
  can_try = subst (CanTryEach c.columns premises) (sym can.rows) (can_each c.parts can.few)

-- over the guarantees of all parts
pub can_try_whole : (c : Composition) (premises : Premises) → CanDischarge c → length premises.nominal.p ≡ length (external_inputs c.parts)
    → premises.rows ≡ all_guarantees c.parts → CanTryEach c.columns premises c.terms
can_try_whole c premises can nominal rows =
    let count = all_guarantees_few c.parts in
    let same = ap length rows in
    let few = can.few in
    can_try c premises can nominal (subst (All (λ (r : Row). length r.c ≡ length (names_of c.parts))) (sym rows) (all_guarantees_long c.parts))
    (omega (arith, count, same, few))

-- over those of the parts that are discharged
pub can_try_discharged : (c : Composition) (premises : Premises) (bs : List (Option Brought)) → CanDischarge c
    → length premises.nominal.p ≡ length (external_inputs c.parts) → premises.rows ≡ discharged_rows (names_of c.parts) c.parts bs
    → CanTryEach c.columns premises c.terms
can_try_discharged c premises bs can nominal rows =
    let count = all_guarantees_few c.parts in
    let fewer = discharged_fewer (names_of c.parts) c.parts bs in
    let same = ap length rows in
    let few = can.few in
    can_try c premises can nominal
    (subst (All (λ (r : Row). length r.c ≡ length (names_of c.parts))) (sym rows) (discharged_long (names_of c.parts) c.parts bs))
    (omega (arith, count, fewer, same, few))

-- each part has its terms
pub terms_count : (c : Composition) (terms : List (List Row)) (bs : List (Option Brought)) → CanDischarge c → terms ≡ c.terms
    → length bs ≡ length c.parts → length bs ≤ length terms
terms_count c terms bs can is parts =
    let count : length terms ≡ length c.parts = ap length (is ∙ can.rows) ∙ length-map c.parts (assumptions_over (names_of c.parts)) in
    omega (arith, count, parts)
