pub mod Positions
pub mod First
pub mod Remarks
pub mod Scans
pub mod Turns
