-- A name is no port where it has no place among the ports.
use Rattle.std.proofs.Common.{◌≡◌, ◌∙◌, ap, ℕ, not, List, Option, Some, None, refl}
use Rattle.std.specs.Prelude.{position}
use Rattle.std.specs.Option.{is_none, is_some}
use Rattle.std.specs.Str.{bytes_eq}
use Rattle.pa_meaning.specs.Contracts.{Name}
use Rattle.pa_meaning.specs.Composition.{is_among}
use Rattle.pa_contract.proofs.Steps.{is_some-position}

none_not_some : (place : Option ℕ) → is_none place ≡ not (is_some place)
none_not_some None = refl
none_not_some (Some i) = refl

pub no_place : (ports : List Name) (name : Name) → is_none (position (bytes_eq name) ports) ≡ not (is_among ports name)
no_place ports name = none_not_some (position (bytes_eq name) ports) ∙ ap not (is_some-position (bytes_eq name) ports)
