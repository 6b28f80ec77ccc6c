pub mod Whole
pub mod Keeping
pub mod Exactly
pub mod Written
pub mod Files
pub mod Examples
