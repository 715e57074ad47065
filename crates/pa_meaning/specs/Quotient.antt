-- The quotient of a contract by a part of it: what is left for the other parts to do.
use Rattle.std.specs.Prelude.{◌≡◌, ◌↔◌, ℕ, ◌<◌, List, ◌++◌, length, map, filter, drop, ℤ, pos, Bool, not}
use Rattle.std.specs.List.{list_all, AllZip}
use Rattle.std.specs.Ordering.{int_eq}
use Rattle.pa_meaning.specs.Rows.{Row, Meets, Breaks, row_at}
use Rattle.pa_meaning.specs.Weights.{Weights}
use Rattle.pa_meaning.specs.Contracts.{Name, Contract, ports, Behaviour, Extends, point_over, MeetsAssumptions, MeetsGuarantees, Keeps}
use Rattle.pa_meaning.specs.Composition.{is_among, guarantees_over}
use Rattle.pa_meaning.specs.Directions.{Sticks}
use Rattle.pa_meaning.specs.Shifting.{less_weighted, Leaves}

-- the whole's outputs that the part does not make, then the part's inputs that are no ports yet
abbrev pub other_outputs : Contract → Contract → List Name
other_outputs whole part = filter (λ name. not (is_among part.outputs name)) whole.outputs

abbrev pub quotient_outputs : Contract → Contract → List Name
quotient_outputs whole part = other_outputs whole part ++ filter (λ name. not (is_among (whole.inputs ++ other_outputs whole part) name)) part.inputs

-- the ports of the quotient, and all names with the part's outputs, which go
abbrev pub quotient_ports : Contract → Contract → List Name
quotient_ports whole part = whole.inputs ++ quotient_outputs whole part

abbrev pub quotient_names : Contract → Contract → List Name
quotient_names whole part = quotient_ports whole part ++ part.outputs

-- A behaviour that meets the whole's assumptions and keeps the part and the quotient meets the part's assumptions and the
-- whole's guarantees.
abbrev pub QuotientLaw : Contract → Contract → Contract → Type 0
QuotientLaw whole part q = (v : Behaviour) → MeetsAssumptions whole v → Keeps part v → Keeps q v → MeetsAssumptions part v × MeetsGuarantees whole v

-- With these weights over the part's guarantees, one for each guarantee of the whole: where the whole's assumptions are met,
-- the quotient's guarantees are what the part assumes, and what the weights leave of the whole's guarantees.
pub record AsksBy (whole part q : Contract) (ws : List Weights) : Type 0 where
  pub leaves : AllZip (λ t w. Leaves (length (quotient_ports whole part)) (guarantees_over (quotient_names whole part) part) t w)
      (guarantees_over (quotient_names whole part) whole) ws
  pub asks : (v : Behaviour) → MeetsAssumptions whole v → MeetsGuarantees q v ↔ (MeetsAssumptions part v
      × AllZip (λ t w. Meets (less_weighted t (guarantees_over (quotient_names whole part) part) w)
      (point_over (quotient_names whole part) v)) (guarantees_over (quotient_names whole part) whole) ws)

-- the row has 0 in every output column: it asks something of the inputs that no output can bring about
abbrev pub narrows : Contract → Row → Bool
narrows c row = list_all (λ z. int_eq z (pos 0)) (drop (length c.inputs) row.c)

pub record IsQuotient (whole part q : Contract) (marks : List Bool) : Type 0 where
  pub inputs : q.inputs ≡ whole.inputs
  pub outputs : q.outputs ≡ quotient_outputs whole part
  pub assumptions : q.assumptions ≡ whole.assumptions
  pub asks : (ws : List Weights) × AsksBy whole part q ws
  pub law : QuotientLaw whole part q
  pub narrow : marks ≡ map (narrows q) q.guarantees

-- ---- a guarantee for which there are no weights
-- the direction over the part's outputs sticks the whole's guarantee over the part's guarantees
pub record IsStuckGuarantee (whole part : Contract) (row : ℕ) (d : List ℤ) : Type 0 where
  pub placed : row < length whole.guarantees
  pub sticks : Sticks d (guarantees_over part.outputs part) (row_at (guarantees_over part.outputs whole) row)

-- From a behaviour that meets the part's guarantees one reaches another with the same quotient's ports that does so too and
-- breaks the whole's guarantee.
abbrev pub IsGuaranteeBroken : Contract → Contract → ℕ → Type 0
IsGuaranteeBroken whole part row = (v : Behaviour) → MeetsGuarantees part v
    → (w : Behaviour) × Extends (quotient_ports whole part) v w × MeetsGuarantees part w × Breaks (row_at whole.guarantees row) (point_over (ports whole) w)
