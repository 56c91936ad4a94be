pub mod QuarterTurns
pub mod Least
pub mod Laws
