-- The refusals are true of the parts: the first assumption that is found without weights over all parts' guarantees is so by the meaning, and where none is
-- found, the rows of the last round are those of a circle.
use Rattle.std.proofs.Common.{◌≡◌, ◌⊎◌, inl, inr, refl, sym, subst, ℕ, zero, suc, ◌+◌, ◌<◌, ◌≤◌, List, [], ◌∷◌, length, map, take, flat_map}
use Rattle.std.proofs.Common.{All, Contains, Option, None, Some, not, arith}
use Rattle.std.specs.Prelude.{slice_get}
use Rattle.std.specs.List.{IsDistinct}
use Rattle.std.specs.Str.{bytes_eq}
use Rattle.std.proofs.lemmas.List.{length-map, length-append}
use Rattle.std.proofs.lemmas.List.Elements.{All-head, All-tail, All-weaker, All-contains}
use lib.IntN.{ℤ, pos}
use lib.Signed.{◌≤ℤ◌}
use Rattle.pa_ring.specs.Sums.{dot}
use Rattle.pa_meaning.specs.Rows.{Row, row_at}
use Rattle.pa_meaning.specs.Weights.{Weights}
use Rattle.pa_meaning.specs.Contracts.{Name, Contract, ports, over_names}
use Rattle.pa_meaning.specs.Directions.{Stuck, Sticks, Makes}
use Rattle.pa_meaning.specs.Shifting.{Leaves}
use Rattle.pa_meaning.specs.Composition.{all_outputs, external_inputs, names_of, assumptions_over, guarantees_over, part_at, stuck_row, IsPlaced}
use Rattle.pa_meaning.specs.Composition.{IsDischargedBefore, IsStuckForGood, is_listed, guarantees_where, IsCircle, AreNeverDischarged}
use Rattle.pa_meaning.proofs.Directions.{at_row, stuck_is_broken, stuck_without_weights, circle_is_final}
use Rattle.pa_contract.specs.WellFormed.{IsWellFormed}
use Rattle.pa_holds.specs.Composed.{all_guarantees}
use Rattle.pa_shift.specs.Meant.{back_row}
use Rattle.pa_shift.specs.Shifting.{Premises}
use Rattle.pa_trial.specs.declared.trial.Trial.TheVariants.{Stopped}
use Rattle.pa_discharge.specs.Rounds.{Brought}
use Rattle.pa_discharge.specs.Discharging.{Asked, discharged_count, discharged_rows, premises_of, refused_by, terms_of, whole_of}
use Rattle.pa_discharge.specs.Meant.{HasMultipliers, HasNumbers, IsEarlier, IsFirstStuck, IsFirstUnserved, IsTermOf, IsTrueRefusal}
use Rattle.pa_discharge.specs.Meant.{IsWholeCircle, term_at}
use Rattle.pa_trial.specs.Meant.{AreServed, IsTrial}
use Rattle.pa_discharge.proofs.States.{AreInTime, AreStuck, CanAsk, IsFirstFound, IsLastRound, IsState, before_round, premises_before}
use Rattle.pa_trial.proofs.Trials.{trial_served}
use Rattle.pa_discharge.proofs.Outputs.{all_back, discharged_among, discharged_are, discharged_back, from_discharged, made_over, makes_over_more, term_back}
use Rattle.pa_discharge.proofs.AllDischarged.{over_columns}
use Rattle.pa_discharge.proofs.Timing.{held_at}
use Rattle.pa_discharge.proofs.Found.{IsKnown, Stops, brought_or_stuck, found_at, none_found, none_stuck, others_are, stuck_ascend, stuck_each}

-- what holds of the first rows holds of each of them
at_taken : (P : Row → Type 0) (rows : List Row) (k i : ℕ) → i < k → i < length rows → All P (take k rows) → P (row_at rows i)
at_taken P rows zero i below less h = absurd (omega arith)
at_taken P [] (suc k) i below less h = absurd (omega arith)
at_taken P (r ∷ rows) (suc k) zero below less h = All-head P r (take k rows) h
at_taken P (r ∷ rows) (suc k) (suc i) below less h = at_taken P rows k i (omega arith) (omega arith) (All-tail P r (take k rows) h)

-- what is discharged before a round is discharged before each later one
later : (parts : List Contract) (i r s : ℕ) → r ≤ s → IsDischargedBefore parts r i → IsDischargedBefore parts s i
later parts i r zero le h = let is : r ≡ 0 = omega arith in subst (λ k. IsDischargedBefore parts k i) is h
later parts i r (suc s) le h = by (either r s le) (later parts i r s)
  where
    either : (r s : ℕ) → r ≤ suc s → (r ≤ s) ⊎ (r ≡ suc s)
    either r s le = grind arith

    by : (r ≤ s) ⊎ (r ≡ suc s) → (r ≤ s → IsDischargedBefore parts r i → IsDischargedBefore parts s i) → IsDischargedBefore parts (suc s) i
    by (inl le) rest = inl (rest le h)
    by (inr is) rest = subst (λ k. IsDischargedBefore parts k i) is h

module _ (asked : Asked) (can : CanAsk asked) where
  abbrev parts : List Contract
  parts = asked.parts

  abbrev names : List Name
  names = names_of asked.parts

  abbrev outputs : List Name
  outputs = all_outputs asked.parts

  abbrev terms_over : Contract → List Row
  terms_over = assumptions_over (names_of asked.parts)

  abbrev over_rows : List Row → Premises
  over_rows rows = record { nominal = asked.nominal; rows = rows }

  distinct : All (λ p. IsDistinct bytes_eq (ports p)) parts
  distinct = All-weaker IsWellFormed (λ p. IsDistinct bytes_eq (ports p)) (λ p is. is.distinct) parts can.formed

  term_count : (p : Contract) → length (terms_over p) ≡ length p.assumptions
  term_count p = length-map p.assumptions (over_names p.inputs names)

  -- ---- an assumption, with weights over the names or over the outputs
  served_at : (rows over : List Row) (i row : ℕ) → map (back_row (length (external_inputs parts))) rows ≡ over → row < length (part_at parts i).assumptions
      → AreServed (over_rows rows) (terms_over (part_at parts i)) → (w : Weights) × Makes w over (term_at parts i row)
  served_at rows over i row is less served =
      let (w, leaves) = at_row (λ t. (w : Weights) × Leaves (length asked.nominal.p) rows t w) (terms_over (part_at parts i)) row
      (let count = term_count (part_at parts i) in omega (arith, less, count)) served in (
        w,
        made_over parts rows over i row w is (subst (λ n. Leaves n rows (row_at (terms_over (part_at parts i)) row) w) can.fits leaves),
      )

  -- ---- a trial that ended at a row
  -- over these rows, in the columns of the outputs
  record EndsAt (over : List Row) (s : Stuck) : Type 0 where
    placed : IsPlaced parts s
    numbers : HasNumbers parts s
    sticks : Sticks s.direction over (stuck_row parts s)
    earlier : (row : ℕ) → row < s.row → (w : Weights) × Makes w over (term_at parts s.part row)

  ends_at : (rows over : List Row) (s : Stuck) → map (back_row (length (external_inputs parts))) rows ≡ over → s.part < length parts
      → IsTrial (over_rows rows) (terms_over (part_at parts s.part)) (Stopped s.row s.direction) → EndsAt over s
  ends_at rows over s is there (less, shows, served) =
      let p : Contract = part_at parts s.part in
      let n : ℕ = length (external_inputs parts) in
      let count : length (terms_over p) ≡ length p.assumptions = term_count p in
      let wide : length (row_at (terms_over p) s.row).c ≡ length names =
      at_row (λ (r : Row). length r.c ≡ length names) (terms_over p) s.row less (over_columns p.inputs names p.assumptions) in
      let all : length names ≡ length (external_inputs parts) + length outputs = length-append (external_inputs parts) outputs in
      let columns : length asked.nominal.p + length s.direction ≡ length (row_at (terms_over p) s.row).c = shows.columns in
      let fits : length asked.nominal.p ≡ length (external_inputs parts) = can.fits in
      record {
        placed = record { part = there; row = omega (arith, less, count) };
        numbers = omega (arith, wide, all, columns, fits);
        sticks = subst (λ t. Sticks s.direction over t) (term_back parts p s.row)
            (subst (λ rs. Sticks s.direction rs (back_row n (row_at (terms_over p) s.row))) is
            (subst (λ k. Sticks s.direction (map (back_row k) rows) (back_row k (row_at (terms_over p) s.row))) fits shows.sticks));
        earlier = λ row below.
            let (w, leaves) = at_taken (λ t. (w : Weights) × Leaves (length asked.nominal.p) rows t w) (terms_over p) s.row row below
            (omega (arith, below, less)) served in
            (w, made_over parts rows over s.part row w is (subst (λ k. Leaves k rows (row_at (terms_over p) row) w) fits leaves));
      }

  stops_ends : (rows over : List Row) (s : Stuck) (j : ℕ) → map (back_row (length (external_inputs parts))) rows ≡ over
      → Stops (over_rows rows) terms_over parts 0 s j → EndsAt over s
  stops_ends rows over s j is (less, at, trial) =
      let here : j ≡ s.part = omega (arith, at) in
      ends_at rows over s is (omega (arith, at, less))
      (subst (λ k. IsTrial (over_rows rows) (terms_over (part_at parts k)) (Stopped s.row s.direction)) here trial)

  -- ---- in the state of a round
  module _ (round : ℕ) (bs : List (Option Brought)) (state : IsState asked round bs) where
    abbrev every : List Row
    every = flat_map (guarantees_over outputs) parts

    -- a part that is discharged, or has weights over all guarantees, has multipliers
    multipliers_of : (i row : ℕ) → IsTermOf parts i row → IsKnown (whole_of asked) terms_over parts bs i → HasMultipliers parts i row
    multipliers_of i row (there, less) (inr served) = served_at (all_guarantees parts) every i row (all_back parts) less served
    multipliers_of i row (there, less) (inl (b, at)) =
        let (within, held) = held_at asked can round bs state i b at in
        let us : List (Option Brought) = map (before_round b.round) bs in
        let (w, makes) = served_at (discharged_rows names parts us) (discharged_rows outputs parts us) i row (discharged_back parts parts us) less
        (trial_served (premises_before asked b.round bs) (terms_over (part_at parts i)) b.lefts held.1) in
        makes_over_more (discharged_rows outputs parts us) every (term_at parts i row) w (discharged_among outputs parts us) makes

    -- ---- no multipliers
    first_is : (s : Stuck) → IsFirstFound (whole_of asked) 0 (terms_of parts) bs (Some s) → IsFirstStuck parts s
    first_is s h =
        let (j, stops, known) = found_at (whole_of asked) terms_over parts bs 0 s h in
        let ends : EndsAt every s = stops_ends (all_guarantees parts) every s j (all_back parts) stops in
        let here : s.part ≡ j = omega (arith, stops.1) in
        let good : IsStuckForGood parts s = record { placed = ends.placed; sticks = ends.sticks } in
        record {
          numbers = ends.numbers;
          stuck = good;
          first = λ i row term. earlier_has s j here ends known i row term;
          broken = stuck_is_broken parts distinct can.apart s good;
        }
      where
        earlier_has : (s : Stuck) (j : ℕ) → s.part ≡ j → EndsAt every s → ((k : ℕ) → k < j → IsKnown (whole_of asked) terms_over parts bs k)
            → (i row : ℕ) → IsTermOf parts i row → IsEarlier i row s → HasMultipliers parts i row
        earlier_has s j here ends known i row term (inl before) = multipliers_of i row term (known i (omega (arith, here, before)))
        earlier_has s j here ends known i row term (inr (is, below)) = subst (λ k. HasMultipliers parts k row) (sym is) (ends.earlier row below)

    -- ---- a circle
    module _ (ss : List Stuck) (stuck : AreStuck (premises_of asked bs) 0 (terms_of parts) bs ss) (some : discharged_count bs < length parts)
        (timely : AreInTime asked bs) where
      abbrev served_rows : List Row
      served_rows = discharged_rows outputs parts bs

      -- each row of the last round, over the guarantees of the parts that are discharged
      ends_each : All (EndsAt served_rows) ss
      ends_each = All-weaker (λ s. (j : ℕ) × Stops (premises_of asked bs) terms_over parts 0 s j) (EndsAt served_rows)
          (λ s (j, stops). stops_ends (discharged_rows names parts bs) served_rows s j (discharged_back parts parts bs) stops) ss
          (stuck_each (premises_of asked bs) terms_over parts bs 0 ss stuck)

      others_there : guarantees_where outputs (λ i. not (is_listed ss i)) 0 parts ≡ served_rows
      others_there = others_are (premises_of asked bs) terms_over outputs ss parts bs 0 ss state.parts stuck (λ i le. refl)

      not_empty : 0 < length ss
      not_empty = by ss stuck
        where
          by : (ts : List Stuck) → AreStuck (premises_of asked bs) 0 (terms_of parts) bs ts → 0 < length ts
          by [] h = let all = none_stuck (premises_of asked bs) terms_over parts bs 0 state.parts h in absurd (omega (arith, all, some))
          by (s ∷ ts) h = omega arith

      circle_is : IsCircle parts ss
      circle_is = record {
        some = not_empty;
        ascending = stuck_ascend (premises_of asked bs) terms_over parts bs 0 ss stuck;
        placed = All-weaker (EndsAt served_rows) (IsPlaced parts) (λ s e. e.placed) ss ends_each;
        sticks = All-weaker (EndsAt served_rows)
            (λ s. Sticks s.direction (guarantees_where outputs (λ i. not (is_listed ss i)) 0 parts) (stuck_row parts s))
            (λ s e. subst (λ rows. Sticks s.direction rows (stuck_row parts s)) (sym others_there) e.sticks) ss ends_each;
      }

      never : AreNeverDischarged parts ss
      never = circle_is_final parts ss circle_is

      -- a discharged part is so before this round
      before_now : (i : ℕ) (b : Brought) → slice_get bs i ≡ Some (Some b) → IsDischargedBefore parts round i
      before_now i b at =
          let (within, held) = held_at asked can round bs state i b at in
          later parts i (suc b.round) round held.0 (timely i b at)

      -- the parts that have no row are discharged
      others_discharged : (i : ℕ) → i < length parts → All (λ (s : Stuck). ¬ (i ≡ s.part)) ss → (r : ℕ) × IsDischargedBefore parts r i
      others_discharged i less none = by (brought_or_stuck (premises_of asked bs) terms_over parts bs 0 ss state.parts stuck i less)
        where
          by : ((b : Brought) × (slice_get bs i ≡ Some (Some b))) ⊎ ((s : Stuck) × Contains ss s × (s.part ≡ 0 + i)) → (r : ℕ) × IsDischargedBefore parts r i
          by (inl (b, at)) = (suc b.round, timely i b at)
          by (inr (s, within, is)) = absurd (All-contains (λ (s : Stuck). ¬ (i ≡ s.part)) ss s none within (omega (arith, is)))

      -- the guarantees of parts that are discharged in some round do not rise along a direction that sticks over those of the discharged ones
      abbrev IsFrom : ℕ → Row → Type 0
      IsFrom r g = (j : ℕ) × IsDischargedBefore parts r j × (j < length parts) × Contains (guarantees_over outputs (part_at parts j)) g

      level_from : (d : List ℤ) → All (λ g. dot g.c d ≤ℤ pos 0) served_rows → (r : ℕ) (g : Row) → IsFrom r g → dot g.c d ≤ℤ pos 0
      level_from d level r g (j, before, there, within) = by (brought_or_stuck (premises_of asked bs) terms_over parts bs 0 ss state.parts stuck j there)
        where
          by : ((b : Brought) × (slice_get bs j ≡ Some (Some b))) ⊎ ((s : Stuck) × Contains ss s × (s.part ≡ 0 + j)) → dot g.c d ≤ℤ pos 0
          by (inl (b, at)) = All-contains (λ g. dot g.c d ≤ℤ pos 0) (guarantees_over outputs (part_at parts j)) g
              (from_discharged (λ g. dot g.c d ≤ℤ pos 0) outputs parts bs level j b there at) within
          by (inr (s, listed, is)) = absurd (All-contains (λ s. (r : ℕ) → ¬ IsDischargedBefore parts r s.part) ss s never listed r
              (let here : j ≡ s.part = omega (arith, is) in subst (λ k. IsDischargedBefore parts r k) here before))

      -- each row is the first one of its part that these can't serve
      unserved_is : (s : Stuck) → EndsAt served_rows s → IsFirstUnserved parts s
      unserved_is s e = record {
        unserved = λ (rows, w, r, from, makes). stuck_without_weights s.direction rows (term_at parts s.part s.row) w (record {
          level = All-weaker (IsFrom r) (λ g. dot g.c s.direction ≤ℤ pos 0) (level_from s.direction e.sticks.level r) rows from;
          rises = e.sticks.rises;
        }) makes;
        first = λ row below.
            let (w, makes) = e.earlier row below in
            (served_rows, w, round, discharged_are parts bs (IsDischargedBefore parts round) before_now, makes);
      }

      whole_is : IsFirstFound (whole_of asked) 0 (terms_of parts) bs None → IsWholeCircle parts ss
      whole_is h = record {
        numbers = All-weaker (EndsAt served_rows) (HasNumbers parts) (λ s e. e.numbers) ss ends_each;
        circle = circle_is;
        multipliers = λ i row term. multipliers_of i row term (none_found (whole_of asked) terms_over parts bs 0 state.parts h i term.0);
        never = never;
        others = others_discharged;
        rows = All-weaker (EndsAt served_rows) (IsFirstUnserved parts) unserved_is ss ends_each;
      }

-- What a round that discharges none refuses is true of the parts.
pub refusal_is_true : (asked : Asked) (round : ℕ) (bs : List (Option Brought)) (ss : List Stuck) (found : Option Stuck) → CanAsk asked
    → IsLastRound asked round bs ss → IsFirstFound (whole_of asked) 0 (terms_of asked.parts) bs found → AreInTime asked bs
    → IsTrueRefusal asked.parts (refused_by ss found)
refusal_is_true asked round bs ss (Some s) can last found timely = first_is asked can round bs last.state s found
refusal_is_true asked round bs ss None can last found timely = whole_is asked can round bs last.state ss last.ends last.some timely found
