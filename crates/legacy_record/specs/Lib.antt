pub mod Restated
pub mod Restating
pub mod Inner
pub mod Rules
pub mod Examples
