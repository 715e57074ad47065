mod Ports
mod Over
mod Covered
mod Values
pub mod Meant
pub mod Defined
mod Unlimited
