-- What a heap shows, and what its calls ask and leave.
pub mod Views
pub mod Calls
