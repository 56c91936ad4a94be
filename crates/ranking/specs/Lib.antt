pub mod Greatest
pub mod Margin
pub mod Ranking
pub mod Rules
