-- What a refusal of a composition says of the parts.
use Rattle.std.specs.Prelude.{List}
use Rattle.pa_meaning.specs.Contracts.{Contract}
use Rattle.pa_discharge.specs.Meant.{IsFirstStuck, IsWholeCircle}
use Rattle.pa_compose.specs.declared.compose_fault.ComposeFault.{ComposeFault}
use Rattle.pa_compose.specs.declared.compose_fault.ComposeFault.TheVariants.{NoMultipliers, Circle}

-- the first assumption that nothing serves, with its direction, or all parts that wait for one another
abbrev pub IsTrueRefusal : List Contract → ComposeFault → Type 0
IsTrueRefusal parts (NoMultipliers s) = IsFirstStuck parts s
IsTrueRefusal parts (Circle stuck) = IsWholeCircle parts stuck
IsTrueRefusal parts other = Unit {0}
