pub mod Composing
pub mod Seen
pub use Rattle.pa_meaning.specs.Composition
pub use Rattle.pa_holds.specs.Composed
pub use Rattle.pa_holds.specs.Refusals
