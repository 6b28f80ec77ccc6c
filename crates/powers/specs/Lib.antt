pub mod Whole
pub mod Powers
pub mod Calls
