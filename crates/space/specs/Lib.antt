pub mod Space
pub mod Enough
pub mod Examples
