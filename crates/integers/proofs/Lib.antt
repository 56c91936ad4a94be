pub mod Parts
pub mod Distances
pub mod Least
pub mod Words
pub mod Sums
pub mod Tests
