mod Goes
mod Unlimited
pub mod Columns
pub mod Meant
pub mod Defined
pub mod ComposePorts
pub mod ComposeRows
pub mod ComposePlaces
pub mod ComposeShown
pub mod ComposeDefined
pub mod ComposeCalls
mod ComposeUnlimited
pub mod ComposeTold
