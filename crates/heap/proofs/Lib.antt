-- The laws of the heap: what a caller may cite, and what each call asks of the loops and leaves.
pub mod Facts
mod Pushing
mod Decreasing
mod Popping
