pub mod Fills
pub mod Seen
