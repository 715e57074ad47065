pub mod Puts
pub mod Turns
mod Forms
pub mod Ends
pub mod Diagrams
pub mod Fetched
