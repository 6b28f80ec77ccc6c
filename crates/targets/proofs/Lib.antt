pub mod Grouping
pub mod Searching
pub mod Fitted
pub mod Within
pub mod Dividing
pub mod Multiplied
pub mod Proportions
pub mod Partition
