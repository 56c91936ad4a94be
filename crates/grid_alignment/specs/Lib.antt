pub mod Alignment
pub mod Rules
