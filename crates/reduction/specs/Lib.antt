pub mod Reduction
pub mod Multiple
pub mod Held
