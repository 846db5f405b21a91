pub mod Appending
pub mod Appends
pub mod Members
pub mod Writing
