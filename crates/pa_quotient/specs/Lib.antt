pub mod Dividing
pub mod Meant
pub mod Limited
pub mod Seen
pub use Rattle.pa_meaning.specs.Quotient
pub use Rattle.pa_meaning.specs.Composition
pub use Rattle.pa_holds.specs.Divided
pub use Rattle.pa_holds.specs.Refusals
pub use Rattle.pa_farkas.specs.FewBases
pub use Rattle.pa_trial.specs.Trying
pub use Rattle.pa_trial.specs.Meant as Trials
