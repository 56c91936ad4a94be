pub mod Corners
pub mod Entry
pub mod Inner
pub mod Rules
