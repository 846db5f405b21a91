pub mod Firsts
pub mod Estimating
