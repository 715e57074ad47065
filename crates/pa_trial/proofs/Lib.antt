pub mod AtNominal
pub mod Behind
pub mod NominalPoints
pub mod Trials
pub mod Unlimited
