pub mod Reductions
pub mod Reduces
pub mod Converse
pub mod Searches
pub mod Counts
