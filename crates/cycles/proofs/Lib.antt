mod Preparing
mod Answering
