-- What a source of files and an output promise.
pub mod Causes
pub mod Files
pub mod Taken
pub mod Memory
pub mod System
