-- Where a clean and a step stop by their definitions: at a row of their lists, and never for want of memory.
use Rattle.std.proofs.Common.{◌≡◌, subst, ℕ, suc, ◌+◌, ◌<◌, Bool, true, false, cond, List, [], ◌∷◌, ◌++◌, length, length-append, Result, Ok, Err}
use Rattle.std.proofs.Common.{IfErr, arith}
use Rattle.std.specs.List.{list_any}
use Rattle.pa_math.specs.Answers.{and_then, told_as}
use Rattle.pa_frac.specs.declared.wide.Wide.{Wide}
use Rattle.pa_meaning.specs.Rows.{Row}
use Rattle.pa_meaning.specs.Weights.{impossible}
use Rattle.pa_witness.specs.Thinning.{is_constant, is_impossible}
use Rattle.pa_fourier.specs.Cleaning.{clean_in, replaced_in, staying_in}
use Rattle.pa_fourier.specs.StepFaults.{made_with}
use Rattle.pa_fourier.specs.declared.fault.CleanFault.{CleanFault}
use Rattle.pa_fourier.specs.declared.fault.CleanFault.TheVariants as cleaning
use Rattle.pa_fourier.specs.declared.fault.StepFault.{StepFault}
use Rattle.pa_fourier.specs.declared.fault.StepFault.TheVariants as stepping

if_err : {A E : Type 0} (P Q : E → Type 0) → ((e : E) → P e → Q e) → (r : Result A E) → IfErr r P → IfErr r Q
if_err P Q f (Ok a) h = tt
if_err P Q f (Err e) h = f e h

-- ---- the clean
abbrev pub StopsBelow : ℕ → CleanFault → Type 0
StopsBelow n cleaning.Memory = ⊥
StopsBelow n (cleaning.Wide row) = row < n

-- the comparisons of these rows stop at one of them
abbrev Stops : List Row → ℕ → List Row → Type 0
Stops all i rows = (now : List Row) → IfErr (staying_in now all i rows) (StopsBelow (i + length rows))

staying_stops : (kept all : List Row) (i : ℕ) (rows : List Row) → IfErr (staying_in kept all i rows) (StopsBelow (i + length rows))
staying_stops kept all i [] = tt
staying_stops kept all i (r ∷ rows) = by (is_constant r) (λ now. staying_stops now all (suc i) rows)
  where
    further : (e : CleanFault) → StopsBelow (suc i + length rows) e → StopsBelow (i + suc (length rows)) e
    further cleaning.Memory h = h
    further (cleaning.Wide row) h = omega (arith, h)

    next : Stops all (suc i) rows → (now : List Row) → IfErr (staying_in now all (suc i) rows) (StopsBelow (i + suc (length rows)))
    next rest now = if_err (StopsBelow (suc i + length rows)) (StopsBelow (i + suc (length rows))) further (staying_in now all (suc i) rows) (rest now)

    compared : Stops all (suc i) rows → (b : Result Bool Wide) → IfErr (and_then (told_as (λ wide. cleaning.Wide i) b)
        (λ replaced. staying_in (cond replaced kept (kept ++ r ∷ [])) all (suc i) rows)) (StopsBelow (i + suc (length rows)))
    compared rest (Ok replaced) = next rest (cond replaced kept (kept ++ r ∷ []))
    compared rest (Err wide) = let low : i < i + suc (length rows) = omega arith in low

    by : (b : Bool) → Stops all (suc i) rows
        → IfErr (cond b (staying_in kept all (suc i) rows) (and_then (told_as (λ wide. cleaning.Wide i) (replaced_in i r 0 all))
        (λ replaced. staying_in (cond replaced kept (kept ++ r ∷ [])) all (suc i) rows))) (StopsBelow (i + suc (length rows)))
    by true rest = next rest kept
    by false rest = compared rest (replaced_in i r 0 all)

pub clean_stops : (n : ℕ) (rows : List Row) → IfErr (clean_in n rows) (StopsBelow (length rows))
clean_stops n rows = by (list_any is_impossible rows)
  where
    by : (b : Bool) → IfErr (cond b (Ok (impossible n ∷ [])) (staying_in [] rows 0 rows)) (StopsBelow (length rows))
    by true = tt
    by false =
        let same : 0 + length rows ≡ length rows = omega arith in
        subst (λ k. IfErr (staying_in [] rows 0 rows) (StopsBelow k)) same (staying_stops [] rows 0 rows)

-- ---- a step
abbrev pub StopsStep : ℕ → StepFault → Type 0
StopsStep n stepping.Memory = ⊥
StopsStep n (stepping.Wide row) = row < n

-- the rows that are made and those that are due count through
pub made_stops : (made : List Row) (due : List (Result Row Wide)) → IfErr (made_with made due) (StopsStep (length made + length due))
made_stops made [] = tt
made_stops made (Ok row ∷ due) =
    let one : length (made ++ row ∷ []) + length due ≡ length made + suc (length due) = (let both = length-append made (row ∷ []) in omega (arith, both)) in
    subst (λ n. IfErr (made_with (made ++ row ∷ []) due) (StopsStep n)) one (made_stops (made ++ row ∷ []) due)
made_stops made (Err wide ∷ due) = let low : length made < length made + suc (length due) = omega arith in low
