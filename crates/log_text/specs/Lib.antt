pub mod Lines
pub mod Log
pub mod Rules
