pub mod Estimates
pub mod Work
pub mod Views
