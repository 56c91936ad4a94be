pub mod Markers
pub mod Candidates
