pub mod InTurn
pub mod Steps
pub mod Meant
pub mod OneMore
pub mod Gone
pub mod Defined
pub mod Pairs
pub mod Unlimited
