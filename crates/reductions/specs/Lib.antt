pub mod Reduced
pub mod Reductions
pub mod Written
pub mod Reduces
