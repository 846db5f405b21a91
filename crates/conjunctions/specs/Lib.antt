pub mod Conjunctions
pub mod Loads
pub mod Conjoined
pub mod Converse
pub mod Searches
