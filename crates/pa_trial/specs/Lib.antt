pub mod Lefts
pub mod Trying
pub mod Meant
pub use Rattle.pa_shift.specs.Shifting as Shifts
pub use Rattle.pa_shift.specs.Meant as Shown
