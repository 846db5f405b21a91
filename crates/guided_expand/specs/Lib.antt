pub mod Progress
pub mod Guides
pub mod Kinds
pub mod Opening
