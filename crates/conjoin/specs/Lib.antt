pub mod Loads
pub mod Joins
