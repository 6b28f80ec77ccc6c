pub mod Comparisons
pub mod Calls
