-- The version of a step, as the certificates' definitions see it.
use Rattle.pa_witness.specs.Steps.{Version, One, Two}
use Rattle.pa_fourier.specs.declared.version.Version.{Version as VersionInCode}
use Rattle.pa_fourier.specs.declared.version.Version.TheVariants as code

abbrev pub version_of : VersionInCode → Version
version_of code.One = One
version_of code.Two = Two
