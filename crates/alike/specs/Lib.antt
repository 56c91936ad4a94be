pub mod Alike
pub mod Quarters
