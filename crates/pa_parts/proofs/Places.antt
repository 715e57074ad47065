-- A list has a name where it has a place for it.
use Rattle.std.proofs.Common.{◌≡◌, List}
use Rattle.std.specs.Prelude.{position}
use Rattle.std.specs.Option.{is_some}
use Rattle.std.specs.Str.{bytes_eq}
use Rattle.pa_meaning.specs.Contracts.{Name}
use Rattle.pa_meaning.specs.Composition.{is_among}
use Rattle.pa_contract.proofs.Steps.{is_some-position}

pub some_place : (names : List Name) (name : Name) → is_some (position (bytes_eq name) names) ≡ is_among names name
some_place names name = is_some-position (bytes_eq name) names
