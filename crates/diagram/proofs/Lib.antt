mod Nodes
mod Whole
