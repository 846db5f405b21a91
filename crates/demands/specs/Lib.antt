pub mod Demands
pub mod Numbers
pub mod Checked
pub mod Reached
pub mod Counted
pub mod Results
pub mod Concluded
