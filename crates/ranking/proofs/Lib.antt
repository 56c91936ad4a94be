pub mod Order
pub mod OnePass
pub mod RankedTo
pub mod Unchanged
pub mod Greatest
pub mod Margins
pub mod Members
