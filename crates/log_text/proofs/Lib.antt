pub mod Feeding
pub mod Laws
pub mod Lengths
