-- The definitions of the queue, and what a queue shows.
pub mod Queue
pub mod Views
