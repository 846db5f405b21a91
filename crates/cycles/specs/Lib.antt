pub mod Cycles
pub mod Listing
