-- The laws of the heap's places, of its order, and of the loops that move a pair to its place.
pub mod Places
pub mod Order
pub mod Loops
