pub mod Cells
pub mod Entry
pub mod Keys
pub mod Rules
