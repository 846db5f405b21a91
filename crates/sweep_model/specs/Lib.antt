pub mod Totals
pub mod Model
pub mod Rows
pub mod Offers
pub mod Sweeps
pub mod Result
pub mod Paths
