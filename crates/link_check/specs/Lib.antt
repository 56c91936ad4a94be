pub mod Links
pub mod Violations
pub mod Entry
pub mod Missing
pub mod Chains
