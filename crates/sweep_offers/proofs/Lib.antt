mod Offering
mod Stepping
