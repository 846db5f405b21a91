pub mod Tails
pub mod Heads
pub mod Entries
