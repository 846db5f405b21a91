pub mod Walks
pub mod Falling
pub mod Descending
pub mod Advancing
