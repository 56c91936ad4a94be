pub mod Answers
pub mod Records
pub mod Entries
pub mod Rules
