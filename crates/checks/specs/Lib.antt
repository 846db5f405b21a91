pub mod Refusing
pub mod Tables
pub mod Outcome
pub mod Ready
pub mod Heads
