pub mod Front
pub mod Loops
pub mod Moves
pub mod Parts
pub mod Scattered
pub mod Uniform
