pub mod Problem
pub mod Replay
pub mod Readings
pub mod Limits
pub mod Shown
pub use Rattle.pa_tableau.specs.Arithmetic
pub use Rattle.pa_tableau.specs.Tableau
