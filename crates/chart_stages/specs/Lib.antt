pub mod FirstSteps
pub mod HeldGraph
pub mod Estimates
pub mod Leaving
