pub mod Rearranging
pub mod Sifting
pub mod Comparing
pub mod Front
