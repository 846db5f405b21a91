pub mod Estimates
pub mod Prices
