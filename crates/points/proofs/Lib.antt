pub mod Twice
pub mod Words
