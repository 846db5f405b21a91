mod Stepping
mod Walking
