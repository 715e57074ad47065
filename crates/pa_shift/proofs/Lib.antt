pub mod Costs
pub mod Nominal
pub mod Shown
pub mod Turns
pub mod More
pub mod Defined
pub mod Unlimited
