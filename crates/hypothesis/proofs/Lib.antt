pub mod Contributing
mod Terms
mod Partial
pub mod Accuracy
pub mod Margins
pub mod Extremes
pub mod Frames
pub mod Places
pub mod Placements
pub mod IndexedCells
mod Sides
mod Capacities
pub mod Moves
pub mod Contributions
pub mod Filled
pub mod ScoreLists
pub mod CountedCells
pub mod Turned
pub mod Summed
pub mod Best
mod Results
pub mod OwnBytes
