pub mod Codes
pub mod Bytes
pub mod Again
pub mod Laws
pub mod Written
pub mod Answered
pub mod Examples
