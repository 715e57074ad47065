-- The nominal point: it has a positive denominator and a number for each of its names.
use Rattle.std.proofs.Common.{◌≡◌, sym, ◌∙◌, List, [], ◌∷◌, length, map, All, Ok}
use Rattle.std.proofs.lemmas.List.{length-map}
use Rattle.std.proofs.lemmas.List.Elements.{All-nil, All-cons}
use lib.IntN.{ℤ, pos}
use lib.Signed.{◌<ℤ◌}
use Rattle.pa_math.proofs.Answers.{told_as_ok}
use Rattle.pa_meaning.specs.Rows.{Point}
use Rattle.pa_meaning.specs.Contracts.{Name}
use Rattle.pa_row.specs.declared.place.Task.TheVariants as task
use Rattle.pa_row.specs.declared.place.Sub.TheVariants.{Main}
use Rattle.pa_row.specs.declared.place.Spot.TheVariants.{Check}
use Rattle.pa_row.specs.Fractions.{IsFraction, point_in}
use Rattle.pa_row.proofs.CommonDenominators.{over_length}
use Rattle.pa_replay.proofs.CommonPoints.{HavePositive, point_formed}
use Rattle.pa_farkas.specs.Answered.{wide_in}
use Rattle.pa_contract.specs.Nominal.{IsNominal, Nominal, value_of}
use Rattle.pa_trial.specs.Trying.{nominal_in}
use Rattle.pa_trial.proofs.AtNominal.{value_fraction}

-- the nominal value of each name is a fraction
pub values_are : (nominal : Nominal) (names : List Name) → IsNominal nominal → All IsFraction (map (value_of nominal) names)
values_are nominal [] is = All-nil IsFraction
values_are nominal (n ∷ names) is =
    All-cons IsFraction (value_of nominal n) (map (value_of nominal) names) (value_fraction nominal n is) (values_are nominal names is)

have_positive : (nominal : Nominal) (names : List Name) → IsNominal nominal → HavePositive (map (value_of nominal) names)
have_positive nominal [] is = tt
have_positive nominal (n ∷ names) is = ((value_fraction nominal n is).reduced.positive, have_positive nominal names is)

-- the point that nominal values make
pub nominal_formed : (nominal : Nominal) (names : List Name) (x : Point) → IsNominal nominal → point_in (map (value_of nominal) names) ≡ Ok x
    → (pos 0 <ℤ x.q) × (length x.p ≡ length names)
nominal_formed nominal names x is made =
    let fs : List (ℤ × ℤ) = map (value_of nominal) names in
    let (up, has) = point_formed fs x (have_positive nominal names is) (sym made) in
    (up, over_length x.q fs x.p has.columns ∙ length-map names (value_of nominal))

-- and where it is told with its place
pub nominal_made : (nominal : Nominal) (names : List Name) (x : Point) → nominal_in nominal names ≡ Ok x → point_in (map (value_of nominal) names) ≡ Ok x
nominal_made nominal names x is = told_as_ok (wide_in task.Nominal Main Check) (point_in (map (value_of nominal) names)) x is
