pub mod Hiding
pub mod Composing
pub mod Composite
pub mod Limited
pub mod Seen
pub use Rattle.pa_meaning.specs.Composition
pub use Rattle.pa_holds.specs.Composed
pub use Rattle.pa_holds.specs.Refusals
pub use Rattle.pa_elim.specs.Projecting
pub use Rattle.pa_elim.specs.Meant
pub use Rattle.pa_elim.specs.FewBases
pub use Rattle.pa_parts.specs.Composing as Names
pub use Rattle.pa_discharge.specs.Discharging
pub use Rattle.pa_discharge.specs.Meant as Rounds
