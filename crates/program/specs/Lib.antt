pub mod Written
pub mod Size
pub mod Laws
