pub mod Numbering
pub mod Layout
pub mod Questions
