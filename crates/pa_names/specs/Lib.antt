pub mod Names
pub use Rattle.pa_math.specs.Answers
pub use Rattle.pa_math.specs.Lists
