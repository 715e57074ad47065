mod NamesOf
mod RowsFit
mod DueTests
pub mod TaskPlaces
pub mod Lefts
pub mod Defined
mod Told
mod Unlimited
