pub mod Begin
pub mod Goals
