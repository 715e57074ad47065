mod Ports
mod Questions
mod Compositions
mod Quotients
mod Headings
pub mod Truths
pub mod Scripts
