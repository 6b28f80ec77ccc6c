pub mod Single
pub mod Groups
pub mod Held
