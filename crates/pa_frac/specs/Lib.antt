pub mod Width
pub mod Operations
pub mod Narrow
pub mod Lowest
pub use Rattle.pa_math.specs.Divisors
pub use Rattle.pa_math.specs.Rational
pub use Rattle.pa_math.specs.RationalOrder
