pub mod Answers
pub mod Chained
pub mod Enough
pub mod Passing
pub mod Writing
