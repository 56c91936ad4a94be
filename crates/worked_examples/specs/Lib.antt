pub mod Table
pub mod Requests
pub mod Uses
pub mod LeastWeights
pub mod Logs
pub mod Scores
