pub mod Pairs
pub mod Markers
pub mod Corners
pub mod Ties
pub mod Answers
