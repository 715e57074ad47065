pub mod Shifting
pub mod Meant
pub mod Seen
pub use Rattle.pa_meaning.specs.Shifting as Meaning
pub use Rattle.pa_meaning.specs.Directions
pub use Rattle.pa_witness.specs.Shifts
pub use Rattle.pa_bland.specs.Answered as Solved
pub use Rattle.pa_farkas.specs.FewBases
