-- What a discharge that is told is: a call's answer is the one of the definition, or want of memory, and so true of the parts. And its nominal point
-- has a column for each external input.
use Rattle.std.proofs.Common.{◌≡◌, ◌∙◌, ap, inl, inr, sym, subst, ℕ, suc, List, [], ◌∷◌, length, map, Result, Ok, Err, IfOk, IfErr}
use Rattle.std.specs.Prelude.{ℤ, pos, ◌*ℤ◌, int_div}
use Rattle.std.proofs.lemmas.List.{length-map}
use Rattle.pa_math.specs.Answers.{IsAnswer, and_then}
use Rattle.pa_math.proofs.Answers.{and_then_ok, ok_same, told_as_ok}
use Rattle.pa_frac.specs.Width.{within}
use Rattle.pa_meaning.specs.Rows.{Point}
use Rattle.pa_meaning.specs.Contracts.{Name, Contract}
use Rattle.pa_row.specs.declared.place.Task.TheVariants as task
use Rattle.pa_row.specs.declared.place.Sub.TheVariants.{Main}
use Rattle.pa_row.specs.declared.place.Spot.TheVariants.{Check}
use Rattle.pa_row.specs.Fractions.{common_from, over_common, point_in}
use Rattle.pa_farkas.specs.Answered.{wide_in}
use Rattle.pa_contract.specs.Nominal.{Nominal, value_of}
use Rattle.pa_discharge.specs.declared.fault.DischargeFault.{DischargeFault}
use Rattle.pa_discharge.specs.declared.fault.DischargeFault.TheVariants as fault
use Rattle.pa_discharge.specs.Rounds.{Discharged}
use Rattle.pa_trial.specs.Trying.{nominal_in}
use Rattle.pa_discharge.specs.Meant.{AreDischargedAt, IsTrueRefusal}
use Rattle.pa_discharge.proofs.Defined.{DischargeTells}

-- ---- the nominal point
numerator_each : (q : ℤ) (fs : List (ℤ × ℤ)) (ns : List ℤ) → Ok ns ≡ over_common q fs → length ns ≡ length fs
numerator_each q [] ns e = ap length (ok_same ns [] e)
numerator_each q (f ∷ fs) ns e =
    let (n, here, rest) = and_then_ok (within 126 (f.0 *ℤ int_div q f.1)) (λ n. and_then (over_common q fs) (λ ns. Ok (n ∷ ns))) ns e in
    let (more, were, last) = and_then_ok (over_common q fs) (λ ns. Ok (n ∷ ns)) ns rest in
    ap length (ok_same ns (n ∷ more) last) ∙ ap suc (numerator_each q fs more were)

column_each : (fs : List (ℤ × ℤ)) (x : Point) → Ok x ≡ point_in fs → length x.p ≡ length fs
column_each fs x e =
    let (q, is, rest) = and_then_ok (common_from (pos 1) fs) (λ q. and_then (over_common q fs) (λ ns. Ok (record { p = ns; q = q }))) x e in
    let (ns, were, last) = and_then_ok (over_common q fs) (λ ns. Ok (record { p = ns; q = q })) x rest in
    ap (λ (x : Point). length x.p) (ok_same x (record { p = ns; q = q }) last) ∙ numerator_each q fs ns were

-- the nominal point has a column for each of the names
pub nominal_columns : (nominal : Nominal) (names : List Name) (x : Point) → nominal_in nominal names ≡ Ok x → length x.p ≡ length names
nominal_columns nominal names x is =
    column_each (map (value_of nominal) names) x
    (sym (told_as_ok (wide_in task.Nominal Main Check) (point_in (map (value_of nominal) names)) x is))
    ∙ length-map names (value_of nominal)

-- ---- what is told
-- a refusal that is told is true
refusal_is : (most : ℕ) (parts : List Contract) (nominal : Nominal) (f : DischargeFault) → DischargeTells most parts nominal (Err f)
    → IsTrueRefusal parts f
refusal_is most parts nominal fault.Memory h = absurd h
refusal_is most parts nominal (fault.NoMultipliers s) h = h
refusal_is most parts nominal (fault.Circle ss) h = h
refusal_is most parts nominal (fault.PivotLimit p) h = tt
refusal_is most parts nominal (fault.Wide p) h = tt

pub truth_told : (most : ℕ) (parts : List Contract) (nominal : Nominal) (due result : Result Discharged DischargeFault)
    → DischargeTells most parts nominal due → IsAnswer fault.Memory due result → IfOk result (AreDischargedAt parts nominal)
truth_told most parts nominal due (Ok d) tells is = subst (DischargeTells most parts nominal) is tells
truth_told most parts nominal due (Err f) tells is = tt

pub refusal_told : (most : ℕ) (parts : List Contract) (nominal : Nominal) (due result : Result Discharged DischargeFault)
    → DischargeTells most parts nominal due → IsAnswer fault.Memory due result → IfErr result (IsTrueRefusal parts)
refusal_told most parts nominal due (Ok d) tells is = tt
refusal_told most parts nominal due (Err f) tells (inl free) = subst (IsTrueRefusal parts) (sym free) tt
refusal_told most parts nominal due (Err f) tells (inr is) = refusal_is most parts nominal f (subst (DischargeTells most parts nominal) is tells)
