pub mod Table
pub mod Scores
pub mod Likelihoods
pub mod Weights
pub mod Accuracy
pub mod Locality
pub mod Rows
