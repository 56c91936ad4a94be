pub mod Ids
pub mod Choices
pub mod Writing
pub mod Answered
pub mod Greatest
pub mod Laws
