pub mod CommutativeRing
pub mod OrderedRing
pub mod Sums
pub mod RingSums
pub mod Choices
