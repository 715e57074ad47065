-- What the program does: its words, its inputs, the answers, and how a run ends.
pub mod Words
pub mod Inputs
pub mod Statuses
pub mod Ends
