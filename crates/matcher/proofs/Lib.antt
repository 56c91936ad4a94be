pub mod Bits
pub mod Turns
pub mod Differing
