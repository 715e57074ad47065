pub mod Width
pub mod Halving
pub mod Lowest
pub mod Products
pub mod Sums
pub mod Comparisons
pub mod Quotients
pub mod Ratios
mod WidthExamples
pub mod Signs
pub mod Zeros
