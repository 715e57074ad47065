pub mod Alternatives
pub mod Answered
pub mod FewBases
pub mod Seen
pub use Rattle.pa_meaning.specs.Rows
pub use Rattle.pa_meaning.specs.Weights
pub use Rattle.pa_witness.specs.Thinning
pub use Rattle.pa_bland.specs.Answered as Solved
