-- What the definition of a thinning answers is true of the rows, also where no call has computed it, and its faults are at a row of the list, in the
-- clean or in the filter.
use Rattle.std.proofs.Common.{◌≡◌, ◌⊎◌, inl, inr, refl, sym, subst, ℕ, zero, suc, ◌+◌, ◌<◌, ◌≤◌, List, [], ◌++◌, length, length-append, All, arith}
use Rattle.std.proofs.Common.{Option, Some, None, Result, Ok, Err, IfErr}
use Rattle.pa_math.specs.Answers.{and_then, given, told_as}
use Rattle.pa_meaning.specs.Rows.{Row}
use Rattle.pa_meaning.specs.Weights.{Weights}
use Rattle.pa_witness.specs.Thinning.{Dropped, ThinningHolds, cleaned, places_of, without_places}
use Rattle.pa_witness.proofs.Projection.{thinned_met}
use Rattle.pa_row.specs.declared.place.Place.{Place}
use Rattle.pa_row.specs.declared.place.Task.TheVariants.{Clean, Filter}
use Rattle.pa_row.specs.declared.place.Group.{Group}
use Rattle.pa_row.specs.declared.place.Sub.TheVariants.{Main}
use Rattle.pa_row.specs.declared.place.Spot.TheVariants.{Check}
use Rattle.pa_row.specs.declared.place.Halt.{Halt}
use Rattle.pa_row.specs.declared.place.Halt.TheVariants as halt
use Rattle.pa_fourier.specs.Cleaning.{clean_in}
use Rattle.pa_fourier.specs.declared.fault.CleanFault.{CleanFault}
use Rattle.pa_fourier.specs.declared.fault.CleanFault.TheVariants as cleaning
use Rattle.pa_fourier.proofs.Cleaned.{clean_value}
use Rattle.pa_fourier.proofs.Faults.{StopsBelow, clean_stops}
use Rattle.pa_farkas.specs.Alternatives.{IsCover, IsThinning, Thinning}
use Rattle.pa_farkas.specs.Answered.{clean_halt, covered_of, filtered, thinned_of}
use Rattle.pa_farkas.specs.Seen.{CanStart, Filtering, IsFiltered, asked_about, dropped, put_back, start_of, taken}
use Rattle.pa_farkas.proofs.Defined.{Holds, IsMainOf, IsSolved, covered_is}
use Rattle.pa_farkas.proofs.FilterTurns.{can_start, cleaned_fewer, place_is, ready, started, stepped, told}

-- a comparison of the clean of this row
abbrev pub IsCleanPlace : Group → ℕ → Place → Type 0
IsCleanPlace group row p = p ≡ record { task = Clean group row; sub = Main; spot = Check }

-- a spot of the problem of this row
abbrev pub IsFilterPlace : ℕ → Group → ℕ → Place → Type 0
IsFilterPlace most group row p = (p.task ≡ Filter group row) × (p.sub ≡ Main) × IsSolved most p.spot

-- the fault is at a row below n
abbrev pub IsThinFault : ℕ → Group → ℕ → Halt → Type 0
IsThinFault most group n halt.Memory = ⊥
IsThinFault most group n (halt.PivotLimit p) = (row : ℕ) × (row < n) × (p.task ≡ Filter group row) × (p.sub ≡ Main)
IsThinFault most group n (halt.Wide p) = (row : ℕ) × (row < n) × (IsCleanPlace group row p ⊎ IsFilterPlace most group row p)

further : (most : ℕ) (group : Group) (m n : ℕ) (h : Halt) → m ≤ n → IsThinFault most group m h → IsThinFault most group n h
further most group m n halt.Memory less f = f
further most group m n (halt.PivotLimit p) less (row, low, task, sub) = (row, omega (arith, less, low), task, sub)
further most group m n (halt.Wide p) less (row, low, at) = (row, omega (arith, less, low), at)

filter_fault : (most : ℕ) (group : Group) (row n : ℕ) (h : Halt) → row < n → IsMainOf most (Filter group row) h → IsThinFault most group n h
filter_fault most group row n halt.Memory low f = f
filter_fault most group row n (halt.PivotLimit p) low f = (row, low, f.0, f.1)
filter_fault most group row n (halt.Wide p) low f = (row, low, inr f)

clean_fault : (most : ℕ) (group : Group) (n : ℕ) (e : CleanFault) → StopsBelow n e → IsThinFault most group n (clean_halt group e)
clean_fault most group n cleaning.Memory h = h
clean_fault most group n (cleaning.Wide row) h = (row, h, inl refl)

-- ---- the filter
module _ (group : Group) (most n : ℕ) (all : List Row) (can : CanStart n all) where
  -- a row is asked about: it stays, or the others imply it
  turned : (i : ℕ) (f : Filtering) (is : IsFiltered all i f) (low : i < length all)
      → Holds (IsFiltered all (suc i)) (IsThinFault most group (suc i)) (asked_about group most (taken f))
  turned i f is low =
      by (covered_of (taken f).others.rows (taken f).row most (Filter group (taken f).place))
      (covered_is most (Filter group (taken f).place) (taken f).others.rows (taken f).row (ready all i f is low n can).columns)
    where
      by : (r : Result (Option Weights) Halt) → Holds (IsCover (taken f).others.rows (taken f).row) (IsMainOf most (Filter group (taken f).place)) r
          → Holds (IsFiltered all (suc i)) (IsThinFault most group (suc i)) (and_then r (λ found. Ok (given (put_back (taken f)) found (dropped (taken f)))))
      by (Ok None) h = record { ok = stepped all i f is low (put_back (taken f)) (inl refl); err = tt }
      by (Ok (Some w)) h = record { ok = stepped all i f is low (dropped (taken f) w) (inr (w, refl, h.ok.0.proves)); err = tt }
      by (Err e) h = record {
        ok = tt;
        err = filter_fault most group i (suc i) e (omega (arith)) (subst (λ p. IsMainOf most (Filter group p) e) (place_is all i f is low) h.err);
      }

  -- the state after all turns, by its drops
  abbrev IsLeft : ℕ → List Dropped → Type 0
  IsLeft i drops = (g : Filtering) × (g.drops ≡ drops) × IsFiltered all i g

  filtered_is : (k i : ℕ) (f : Filtering) → IsFiltered all i f → i + k ≤ length all
      → Holds (IsLeft (i + k)) (IsThinFault most group (i + k)) (filtered group all most f.drops i k)
  filtered_is zero i f is low =
      let same : i ≡ i + 0 = omega (arith) in
      record { ok = (f, refl, subst (λ j. IsFiltered all j f) same is); err = tt }
  filtered_is (suc k) i f is low =
      let here : i < length all = omega (arith, low) in
      let more : suc i + k ≤ length all = omega (arith, low) in
      subst (λ r. Holds (IsLeft (i + suc k)) (IsThinFault most group (i + suc k)) (and_then r (λ drops. filtered group all most drops (suc i) k)))
      (sym (told all i f is here group most))
      (by (asked_about group most (taken f)) (turned i f is here) (λ g next. filtered_is k (suc i) g next more))
    where
      by : (r : Result Filtering Halt) → Holds (IsFiltered all (suc i)) (IsThinFault most group (suc i)) r
          → ((g : Filtering) → IsFiltered all (suc i) g
          → Holds (IsLeft (suc i + k)) (IsThinFault most group (suc i + k)) (filtered group all most g.drops (suc i) k))
          → Holds (IsLeft (i + suc k)) (IsThinFault most group (i + suc k))
          (and_then (and_then r (λ g. Ok g.drops)) (λ drops. filtered group all most drops (suc i) k))
      by (Ok g) h rest =
          let one : suc i + k ≡ i + suc k = omega (arith) in
          subst (λ j. Holds (IsLeft j) (IsThinFault most group j) (filtered group all most g.drops (suc i) k)) one (rest g h.ok)
      by (Err e) h rest = record { ok = tt; err = further most group (suc i) (i + suc k) e (omega (arith)) h.err }

-- ---- a thinning
module _ (n : ℕ) (rows context : List Row) (columns : All (λ (r : Row). length r.c ≡ n) rows) (context_columns : All (λ (r : Row). length r.c ≡ n) context)
    (few : length rows + length context ≤ 4096) (short : n ≤ 128) (most : ℕ) (group : Group) where
  abbrev pub Thins : Result Thinning Halt → Type 0
  Thins r = Holds (IsThinning n rows context) (IsThinFault most group (length rows)) r

  dropped_is : (drops : List Dropped) (g : Filtering) → g.drops ≡ drops → IsFiltered (cleaned n rows ++ context) (length (cleaned n rows)) g
      → IsThinning n rows context (record { rows = without_places (places_of drops) 0 (cleaned n rows); drops = drops })
  dropped_is drops g same is = record { rows_are = refl; holds = holds; points = λ x up met. thinned_met n rows context drops x up holds met }
    where
      holds : ThinningHolds n rows context drops
      holds = subst (ThinningHolds n rows context) same (record { ascending = is.below.0; placed = is.below.1; shown = is.shown })

  abbrev IsDone : ℕ → Result (List Dropped) Halt → Type 0
  IsDone i r =
      Holds (IsLeft group most n (cleaned n rows ++ context) (can_start n rows context columns context_columns few short) i) (IsThinFault most group i) r

  filter_is : (r : Result (List Dropped) Halt) → IsDone (length (cleaned n rows)) r
      → Thins (and_then r (λ drops. Ok (record { rows = without_places (places_of drops) 0 (cleaned n rows); drops = drops })))
  filter_is (Ok drops) h = let (g, same, is) = h.ok in record { ok = dropped_is drops g same is; err = tt }
  filter_is (Err e) h = record { ok = tt; err = further most group (length (cleaned n rows)) (length rows) e (cleaned_fewer n rows) h.err }

  clean_is : (r : Result (List Row) CleanFault) → clean_in n rows ≡ r → IfErr r (StopsBelow (length rows))
      → Thins (and_then (told_as (clean_halt group) r) (λ kept.
      and_then (filtered group (kept ++ context) most [] 0 (length kept)) (λ drops.
      Ok (record { rows = without_places (places_of drops) 0 kept; drops = drops }))))
  clean_is (Err e) is stops = record { ok = tt; err = clean_fault most group (length rows) e stops }
  clean_is (Ok kept) is stops =
      let can = can_start n rows context columns context_columns few short in
      let enough : 0 + length (cleaned n rows) ≤ length (cleaned n rows ++ context) =
      (let long = length-append (cleaned n rows) context in omega (arith, long)) in
      let none_before : 0 + length (cleaned n rows) ≡ length (cleaned n rows) = omega (arith) in
      subst (λ (kept : List Row). Thins (and_then (filtered group (kept ++ context) most [] 0 (length kept)) (λ drops.
      Ok (record { rows = without_places (places_of drops) 0 kept; drops = drops })))) (sym (clean_value n rows kept is))
      (filter_is (filtered group (cleaned n rows ++ context) most [] 0 (length (cleaned n rows)))
      (subst (λ i. IsDone i (filtered group (cleaned n rows ++ context) most [] 0 (length (cleaned n rows)))) none_before
      (filtered_is group most n (cleaned n rows ++ context) can (length (cleaned n rows)) 0 (start_of (cleaned n rows ++ context))
      (started (cleaned n rows ++ context)) enough)))

  pub thinned_is : Thins (thinned_of n rows context most group)
  thinned_is = clean_is (clean_in n rows) refl (clean_stops n rows)
