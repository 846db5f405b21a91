pub mod Kinds
pub mod Bodies
pub mod Ends
pub mod Stored
