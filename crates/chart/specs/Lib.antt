pub mod Tables
pub mod Kinds
pub mod Held
pub mod Limits
pub mod Accepted
pub mod Turns
