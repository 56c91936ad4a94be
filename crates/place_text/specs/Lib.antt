pub mod Numerals
pub mod Place
pub mod ReadBack
pub mod Room
pub mod Text
pub mod Writing
