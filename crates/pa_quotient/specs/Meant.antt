-- What the shifts of a quotient come to at the nominal values, and what a refusal says of the whole and the part.
use Rattle.std.specs.Prelude.{◌≡◌, ℕ, ◌<◌, List, length, ℤ}
use Rattle.std.specs.List.{AllZip}
use Rattle.pa_meaning.specs.Rows.{row_at}
use Rattle.pa_meaning.specs.Weights.{Weights}
use Rattle.pa_meaning.specs.Directions.{Makes}
use Rattle.pa_meaning.specs.Shifting.{less_weighted}
use Rattle.pa_meaning.specs.Contracts.{Contract, Behaviour}
use Rattle.pa_meaning.specs.Composition.{guarantees_over, IsExactAtNominal}
use Rattle.pa_meaning.specs.Quotient.{quotient_ports, quotient_names, IsStuckGuarantee, IsGuaranteeBroken}
use Rattle.pa_contract.specs.Nominal.{Nominal}
use Rattle.pa_trial.specs.Meant.{IsNominalAt}
use Rattle.pa_quotient.specs.declared.fault.QuotientFault.{QuotientFault}
use Rattle.pa_quotient.specs.declared.fault.QuotientFault.TheVariants.{NoMultipliers}

-- At each behaviour with the nominal values of the quotient's ports, what the weights leave of each guarantee of the whole is exact: where some behaviour
-- with the same ports meets the part's guarantees, it is met exactly where every such behaviour meets the whole's guarantee.
abbrev pub AreExactAtNominal : Contract → Contract → Nominal → List Weights → Type 0
AreExactAtNominal whole part nominal ws = (v : Behaviour) → IsNominalAt nominal (quotient_ports whole part) v → AllZip
    (λ t w. IsExactAtNominal (quotient_ports whole part) (quotient_names whole part) (guarantees_over (quotient_names whole part) part) t
    (less_weighted t (guarantees_over (quotient_names whole part) part) w) v)
    (guarantees_over (quotient_names whole part) whole) ws

-- some weights over the part's guarantees make the whole's guarantee in the columns of the part's outputs
abbrev pub HasMultipliers : Contract → Contract → ℕ → Type 0
HasMultipliers whole part row = (w : Weights) × Makes w (guarantees_over part.outputs part) (row_at (guarantees_over part.outputs whole) row)

-- The direction sticks the guarantee of the whole, which is the first one without weights over the part's guarantees. From each behaviour that meets the
-- part's guarantees one reaches another one, with the same ports of the quotient, that meets them and breaks it.
pub record IsFirstStuck (whole part : Contract) (row : ℕ) (d : List ℤ) : Type 0 where
  pub numbers : length d ≡ length part.outputs
  pub stuck : IsStuckGuarantee whole part row d
  pub first : (i : ℕ) → i < row → HasMultipliers whole part i
  pub broken : IsGuaranteeBroken whole part row

abbrev pub IsTrueRefusal : Contract → Contract → QuotientFault → Type 0
IsTrueRefusal whole part (NoMultipliers row d) = IsFirstStuck whole part row d
IsTrueRefusal whole part other = Unit {0}
