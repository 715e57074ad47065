-- Diagrams as values, and what is true of each.
use Rattle.std.specs.Prelude.{◌++◌, List, map, All}
use Rattle.std.specs.List.{IsDistinct}
use Rattle.std.specs.Str.{bytes_eq}
use Rattle.pa_meaning.specs.Contracts.{Name, Named}
use Rattle.pa_contract.specs.Nominal.{Nominal}
use Rattle.pa_contract.specs.WellFormed.{IsWellFormed}

-- the contracts by their names, the parts, which are contracts with other ports, and nominal values of names
pub record Diagram : Type 0 where
  pub contracts : List Named
  pub parts : List Named
  pub nominal : Nominal

-- the names of a list of contracts
abbrev pub names_of : List Named → List Name
names_of contracts = map (λ named. named.name) contracts

-- each contract of a list is well-formed
abbrev pub AreContracts : List Named → Type 0
AreContracts contracts = All (λ named. IsWellFormed named.contract) contracts

-- no two contracts and parts have one name, and each is well-formed
pub record IsDiagram (d : Diagram) : Type 0 where
  pub distinct : IsDistinct bytes_eq (names_of (d.contracts ++ d.parts))
  pub contracts_fit : AreContracts d.contracts
  pub parts_fit : AreContracts d.parts
