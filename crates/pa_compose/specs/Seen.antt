-- What private functions of a composition hold. No public clause names one of these.
use Rattle.std.specs.Prelude.{◌≡◌, ◌≤◌, ◌+◌, List, length, sum_by, All}
use Rattle.std.specs.List.{IsDistinct}
use Rattle.std.specs.Str.{bytes_eq}
use Rattle.pa_meaning.specs.Contracts.{Name, Contract}
use Rattle.pa_meaning.specs.Composition.{all_outputs, names_of}
use Rattle.pa_contract.specs.Merge.{row_count}
use Rattle.pa_contract.specs.WellFormed.{IsWellFormed}
use Rattle.pa_parts.specs.Composing.{Ports, composite_ports}
use Rattle.pa_compose.specs.Composing.{Found, contract_by}

-- the parts have these ports, of which no output stands twice, and few names and rows
pub record CanCompose (parts : List Contract) (keep : List Name) (names : Ports) : Type 0 where
  pub ports : names ≡ composite_ports parts keep
  pub apart : IsDistinct bytes_eq (all_outputs parts)
  pub short : length (names_of parts) ≤ 128
  pub few_parts : length parts ≤ 32
  pub few : sum_by row_count parts ≤ 4096
  pub formed : All IsWellFormed parts

-- what is found makes a contract, with a step for the given rows and for each internal output
pub record IsFound (names : Ports) (f : Found) : Type 0 where
  pub formed : IsWellFormed (contract_by names f)
  pub steps : length f.projected.steps ≡ length names.internal + 1
