pub mod Tables
pub mod Files
pub mod Held
pub mod Turns
pub mod Limits
pub mod Accepted
