pub mod Values
pub mod Finite
mod Grid
pub mod Close
pub mod Sums
pub mod Products
pub mod Compare
pub mod Order
pub mod Ranges
pub mod Signs
pub mod Ties
pub mod Folds
mod Examples
