mod Places
mod Turns
pub mod NameTurns
mod PortsDue
pub mod Passing
pub mod Rows
