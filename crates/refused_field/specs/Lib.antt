pub mod Refused
pub mod Lies
