-- The definitions of the heap and of the steps inside its calls.
pub mod Heap
pub mod Sift
