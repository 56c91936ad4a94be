pub mod Distance
pub mod Least
pub mod Tests
