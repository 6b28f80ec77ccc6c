pub mod Costs
pub mod Merged
pub mod Pairs
pub mod Longest
pub mod Counts
pub mod Examples
