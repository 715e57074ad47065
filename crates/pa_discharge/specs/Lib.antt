pub mod Rounds
pub mod Discharging
pub mod Meant
pub mod Seen
pub use Rattle.pa_meaning.specs.Composition
pub use Rattle.pa_witness.specs.Discharge
pub use Rattle.pa_shift.specs.Shifting
pub use Rattle.pa_parts.specs.Composing as Names
pub use Rattle.pa_trial.specs.Trying
pub use Rattle.pa_trial.specs.Meant as Trial
