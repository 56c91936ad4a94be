mod Giving
pub mod Laws
