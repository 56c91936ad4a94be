pub mod Fields
pub mod Shots
pub mod Answers
pub mod Index
pub mod Writing
pub mod Unchanged
