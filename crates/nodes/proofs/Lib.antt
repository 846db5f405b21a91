pub mod Children
mod Lowering
mod Finished
