-- The laws of the queue: what a caller may cite, the order of recent pairs, and what each call leaves.
pub mod Facts
mod Recent
mod Inserting
mod Decreasing
mod Taking
